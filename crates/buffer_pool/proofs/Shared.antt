-- A `&` to the nodes holds a `&` to each of them. Assumes `Logic`.
use Rattle.std.proofs.Common.{List, [], ◌∷◌}
use seplogic.Ra.Ura.{Ura}
use base.Fraction.{full_share}
use base.Fml.{Lft, ftrue}
use types.Logic.{Logic}
use contract.BorrowLft.{⊑_static}
use denote.RawPtr.{Ptr, lies_at}
use denote.Shares.{Shares-less}
use denote.Sharing.{ShrLaws}
use denote.SharingLaws.{beside_shr_laws, nothing_shr_laws}
use denote.Struct.Lending.{lent_at, lent_at_shr_laws, Lends-lies, Lends-first, Lends, Lends-both, Lends-nothing}
use Rattle.buffer_pool.specs.declared.node.Node.{Node}
use Rattle.buffer_pool.specs.contracts.node.Node.{the_row as Nr}
use Rattle.buffer_pool.proofs.node.Node.TheLaws as N-laws
use Rattle.buffer_pool.proofs.NodeSteps.{token}
use Rattle.buffer_pool.specs.Links.{Cell, first_or, node_at, links, links_lent}

pub links_lent_laws : (cs : List Cell) (p : Ptr) → ShrLaws (links_lent cs p)
links_lent_laws [] p = nothing_shr_laws
links_lent_laws (c ∷ cs) p = beside_shr_laws _ _ (lent_at_shr_laws Nr N-laws.the_row_laws.shr_laws c.0 (record c.1 { next = first_or cs p })) (links_lent_laws cs p)

module _ {M : Type 1} {𝓤 : Ura M} (𝓛 : Logic 𝓤) (l : Lft) where
  pub Lends-links : (cs : List Cell) (p : Ptr) → Lends 𝓛 (links cs p) (links_lent cs p) l
  Lends-links [] p = Lends-nothing 𝓛 ftrue l
  Lends-links (c ∷ cs) p =
      let n : Node = record c.1 { next = first_or cs p } in
      Lends-both 𝓛 (node_at c (first_or cs p)) (links cs p) (lent_at Nr c.0 n) (links_lent cs p) l
      (Lends-first 𝓛 (lies_at Nr full_share c.0 n) (token n c.0) (lent_at Nr c.0 n) l (Lends-lies 𝓛 Nr l c.0 n (Shares-less 𝓛 Nr [] l (⊑_static l) (N-laws.the_row_laws.shares 𝓛) n)))
      (Lends-links cs p)
