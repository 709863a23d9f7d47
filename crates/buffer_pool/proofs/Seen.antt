-- What a `&` to the nodes shows. Assumes `Logic`.
use Rattle.std.proofs.Common.{ℕ, zero, suc, ◌+◌, ◌<◌, List, [], ◌∷◌, length, refl, arith}
use seplogic.Ra.Ura.{Ura}
use mir.Syntax.{ty_ptr}
use mir.Val.{Val}
use base.Logic.{ent, via, fst∗, snd∗}
use base.Fml.{Lft, Share, fat, flft}
use types.Logic.{Logic, sem}
use types.Kit.{Item, Goal, Seq, Step, Soaks, step, ‵, ◌$◌, move, drop, rewrite, fsplit, feq_l, feq_i}
use denote.Memory.{cell_at, part_at, hidden_shr}
use denote.Copied.{plain_Copied}
use denote.RawPtr.{Ptr, RawPtr, coded_ptr, ptr_own, rawptr_pure, ptr_val}
use denote.Struct.Laws.{RawPtr-laws}
use denote.Struct.Lending.{lent_at}
use denote.Opens.{Shut, unhide, hide}
use denote.Steps.{looks, shuts}
use Rattle.buffer_pool.specs.declared.nodes.Nodes.{Nodes}
use Rattle.buffer_pool.proofs.NodeSteps.{Nr, Lr}
use Rattle.buffer_pool.proofs.Cells.{less, node_of}
use Rattle.buffer_pool.specs.Links.{Cell, first_or, links_lent, place_or}

module _ {M : Type 1} {𝓤 : Ura M} {𝓛 : Logic 𝓤} {K : Type 0} {Γ : List (Item 𝓤)} {G : Goal 𝓤 𝓛.H} where
  pub nodes_Seen : K → {κ : Lft} (d : Nodes) (b o : ℕ)
      → Step K 𝓛 (‵ (hidden_shr RawPtr κ d.head b (o + 0)) ∷ ‵ (hidden_shr RawPtr κ d.tail b (o + 8)) ∷ ‵ (links_lent d.cells d.end κ) ∷ Γ) G (‵ (hidden_shr Lr κ d b o) ∷ Γ) G
  nodes_Seen t d b o = step (λ s.
      unhide t $ fsplit t $ fsplit t $ move t (1 ∷ []) $ drop t $ fsplit t $ move t (1 ∷ []) $ fsplit t $ move t (1 ∷ []) $ drop t $
      hide t $ move t (1 ∷ []) $ hide t $ s)

  pub pointer_in : K → Soaks G → {κ : Lft} {q : Share} (p : Ptr) (b at : ℕ)
      → ((part : Share) → Seq K 𝓛 (‵ (fat part ty_ptr b at (ptr_val p)) ∷ Shut 𝓛 κ q (part_at RawPtr part p b at) ∷ Γ) G) → Seq K 𝓛 (‵ (hidden_shr RawPtr κ p b at) ∷ ‵ (flft κ q) ∷ Γ) G
  pointer_in t z p b at k =
      looks t z RawPtr (plain_Copied 𝓛 Ptr coded_ptr (ty_ptr ∷ []) ptr_own rawptr_pure ptr_val RawPtr-laws.tells).opens p b at (λ part vs. move t (1 ∷ []) $ feq_l t (λ e.
      rewrite t 0 (λ (us : List Val). ‵ (cell_at part RawPtr.mir us b at)) e refl $ move t (2 ∷ []) $ drop t $ k part))

  pub pointer_out : K → Soaks G → {κ : Lft} {q part : Share} (p : Ptr) (b at : ℕ)
      → Step K 𝓛 (‵ (flft κ q) ∷ Γ) G (‵ (fat part ty_ptr b at (ptr_val p)) ∷ Shut 𝓛 κ q (part_at RawPtr part p b at) ∷ Γ) G
  pointer_out t z {part = part} p b at = step (λ s.
      feq_i t (List Val) (ptr_val p ∷ []) (ptr_val p ∷ []) refl $ move t (1 ∷ 0 ∷ []) $ shuts t z RawPtr part p (ptr_val p ∷ []) b at $ s)

-- of what a `&` to the chain holds, the part for the node at index i
module _ {M : Type 1} {𝓤 : Ura M} (𝓛 : Logic 𝓤) (κ : Lft) where
  pub node_lent : (cs : List Cell) (p q : Ptr) (i : ℕ) (h : i < length cs) → ent 𝓤 (sem 𝓛 (links_lent cs p κ)) (sem 𝓛 (lent_at Nr (place_or cs i q) (node_of cs p i h) κ))
  unfolding node_of
  node_lent [] p q i h = absurd (omega (arith, h))
  node_lent (c ∷ cs) p q zero h = fst∗ 𝓤 _ (sem 𝓛 (links_lent cs p κ))
  node_lent (c ∷ cs) p q (suc i) h = via 𝓤 _ (snd∗ 𝓤 (sem 𝓛 (lent_at Nr c.0 (record c.1 { next = first_or cs p }) κ)) _) (node_lent cs p q i (less c cs i h))
