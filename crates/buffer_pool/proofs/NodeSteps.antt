-- The machine values of a `Node` and of `Nodes`, and what they own, taken apart and made. Assumes `Logic`.
use Rattle.std.proofs.Common.{◌≡◌, ℕ, List, [], ◌∷◌, ◌++◌, refl, ap, ◌∙◌}
use seplogic.Ra.Ura.{Ura}
use base.Fraction.{full_share}
use base.Stored.{Gv}
use mir.Syntax.{Ty, ty_ptr}
use mir.Raw.{raw as bare}
use mir.Val.{Val, vstruct, vcons, vnil, of_list}
use base.Logic.{ent, sep, never, fst∗}
use base.Fml.{Fml, Lft, GName, Share, fat, flft, fobs, fauth, fbor, fobor}
use types.Logic.{Logic, sem}
use types.Kit.{Item, Goal, Seq, Step, Soaks, step, ‵, some, ◌⊛◌, ◌$◌, ◌∵◌, !, qed, move, keep, drop, use1, use2, pick, split, fsplit, fsplit3, fjoin, fjoin3, fpick, fpack, feq_i, feq_l, rewrite, done}
use types.SemTy.{Body as Borrowed}
use denote.RattleType.{RattleType, Valss}
use denote.Laws.{Is, shows}
use denote.Memory.{cell_at, part_at, mem, lone}
use denote.RawPtr.{Ptr, RawPtr, block_ptr, null_ptr, ptr_val, in_a_block}
use denote.Param.{layout}
use denote.Steps.{nothing, only, opens, closes, peeks}
use denote.Struct.Struct.{within, as_fields}
use denote.Struct.Owning.{shape}
use borrow.Table.OneValue.{part_in, part_out}
use Rattle.core.proofs.cell.Inside.{Good, one}
use Rattle.core.proofs.atomic.Steps.{Ptr-Good}
use Rattle.std_heap.specs.contracts.Global as heap
use Rattle.std_heap.proofs.Global.TheLaws as heap_laws
use Rattle.std_heap.specs.contracts.GlobalAllocator.TheImpl.{ghosts}
use Rattle.buffer_pool.specs.declared.node.Node.{Node}
use Rattle.buffer_pool.specs.declared.nodes.Nodes.{Nodes}
use Rattle.buffer_pool.specs.contracts.buffer.Buffer as B
use Rattle.buffer_pool.proofs.buffer.Buffer.TheLaws as B-laws
use Rattle.buffer_pool.specs.contracts.node.Node as N
use Rattle.buffer_pool.specs.contracts.nodes.Nodes as Ns
use Rattle.buffer_pool.specs.Links.{Cell, owned_at, links}

abbrev pub Z : RattleType
Z = heap.the_row

abbrev pub Br : RattleType
Br = B.the_row

abbrev pub Nr : RattleType
Nr = N.the_row

abbrev pub Lr : RattleType
Lr = Ns.the_row

abbrev pub words : Ptr → Ptr → Val
words h t = vstruct (vcons (ptr_val h) (vcons (ptr_val t) vnil))

abbrev pub node_val : Ptr → Val → Val → Val
node_val p hv bv = vstruct (vcons (ptr_val p) (vcons hv (vcons bv vnil)))

-- the type of a node in memory
abbrev pub block : Ty
block = lone Nr.mir

abbrev pub token : Node → Ptr → Fml
token n p = ghosts.dealloc_token n.heap (bare (lone Nr.mir)) p

module _ {M : Type 1} {𝓤 : Ura M} {𝓛 : Logic 𝓤} {K : Type 0} {Γ : List (Item 𝓤)} {G : Goal 𝓤 𝓛.H} where
  pub nodes_had : K → (d : Nodes) (vs : List Val) → (vs ≡ words d.head d.tail ∷ [] → Seq K 𝓛 (‵ (links d.cells d.end) ∷ Γ) G) → Seq K 𝓛 (‵ (Lr.own_val d vs) ∷ Γ) G
  nodes_had t d vs k =
      fsplit t $ fpick t (λ vss. fsplit t $ feq_l t (λ all. fsplit t $ feq_l t (λ e₀. fsplit t $ feq_l t (λ e₁. drop t $
      k (all ∙ (λ i. vstruct (of_list (e₀ i ++ (e₁ i ++ []))) ∷ []))))))

  pub nodes_made : K → (d : Nodes) → Step K 𝓛 (‵ (Lr.own_val d (words d.head d.tail ∷ [])) ∷ Γ) G (‵ (links d.cells d.end) ∷ Γ) G
  nodes_made t d = step (λ s.
      let v = words d.head d.tail in
      nothing t $ feq_i t (List Val) (ptr_val d.tail ∷ []) (ptr_val d.tail ∷ []) refl $ fjoin t $ feq_i t (List Val) (ptr_val d.head ∷ []) (ptr_val d.head ∷ []) refl $ fjoin t $
      feq_i t (List Val) (v ∷ []) (v ∷ []) refl $ fjoin t $
      fpack t (Valss (shape Ns.the_type).fields) (within (shape Ns.the_type) (d.head, (d.tail, tt)) (v ∷ [])) (ptr_val d.head ∷ [], (ptr_val d.tail ∷ [], tt)) $ fjoin t $ s)

module _ {M : Type 1} {𝓤 : Ura M} {𝓛 : Logic 𝓤} {K : Type 0} {Γ : List (Item 𝓤)} {G : Goal 𝓤 𝓛.H} where
  -- [the nodes; the words; the open borrow; obs; auth]
  pub nodes_opens : K → Soaks G → {κ : Lft} {q : Share} {γ : GName} (d : Nodes) (rb ro : ℕ)
      → Step K 𝓛 (‵ (links d.cells d.end) ∷ ‵ (cell_at full_share Lr.mir (words d.head d.tail ∷ []) rb ro) ∷ ‵ (fobor κ q (Borrowed (mem Lr) rb ro γ)) ∷ ‵ (fobs γ (Lr.coded.code d)) ∷ ‵ (fauth γ (Lr.coded.code d)) ∷ Γ) G
      (‵ (fobs γ (Lr.coded.code d)) ∷ ‵ (fbor κ (Borrowed (mem Lr) rb ro γ)) ∷ ‵ (flft κ q) ∷ Γ) G
  nodes_opens t z d rb ro = step (λ s.
      opens t z Lr {h = d} rb ro (λ vs. move t (1 ∷ []) $ nodes_had t d vs (λ is. rewrite t 1 (λ (ws : List Val). ‵ (cell_at full_share Lr.mir ws rb ro)) is refl $ s)))

  pub nodes_closes : K → Soaks G → {κ : Lft} {q : Share} {u v : Gv} {γ : GName} (d : Nodes) (rb ro : ℕ)
      → Step K 𝓛 (‵ (fobs γ (Lr.coded.code d)) ∷ ‵ (fbor κ (Borrowed (mem Lr) rb ro γ)) ∷ ‵ (flft κ q) ∷ Γ) G
      (‵ (links d.cells d.end) ∷ ‵ (cell_at full_share Lr.mir (words d.head d.tail ∷ []) rb ro) ∷ ‵ (fobor κ q (Borrowed (mem Lr) rb ro γ)) ∷ ‵ (fobs γ u) ∷ ‵ (fauth γ v) ∷ Γ) G
  nodes_closes t z d rb ro = step (λ s. nodes_made t d $ move t (1 ∷ 0 ∷ []) $ closes t z Lr d (words d.head d.tail ∷ []) rb ro $ s)

  node_had : K → (n : Node) (v : Val) → ((hv bv : Val) → Good (layout Z) hv → Good (layout Br) bv → v ≡ node_val n.next hv bv → Seq K 𝓛 (‵ (Z.own_val n.heap (hv ∷ [])) ∷ ‵ (Br.own_val n.buffer (bv ∷ [])) ∷ Γ) G) → Seq K 𝓛 (‵ (Nr.own_val n (v ∷ [])) ∷ Γ) G
  node_had t n v k = fpick t (λ vss. fsplit t $ feq_l t (λ e. fsplit t $ feq_l t (λ ep. fsplit3 t $
      peeks t Z (Is Z) (shows 𝓛 Z) n.heap vss.1.0 (λ i. move t (1 ∷ []) $ peeks t Br (Is Br) (shows 𝓛 Br) n.buffer vss.1.1.0 (λ j.
      let g₁ = one (layout Z) vss.1.0 ((heap_laws.the_row_laws.lawful 𝓛).typed n.heap vss.1.0 i) in let g₂ = one (layout Br) vss.1.1.0 ((B-laws.the_row_laws.lawful 𝓛).typed n.buffer vss.1.1.0 j) in
      rewrite t 0 (λ (ws : List Val). ‵ (Br.own_val n.buffer ws)) g₂.1 refl $ rewrite t 1 (λ (ws : List Val). ‵ (Z.own_val n.heap ws)) g₁.1 refl $ move t (2 ∷ []) $ drop t $ move t (1 ∷ 0 ∷ []) $
      k g₁.0 g₂.0 g₁.2 g₂.2 (ap only e ∙ (λ i'. vstruct (of_list (ep i' ++ (g₁.1 i' ++ (g₂.1 i' ++ [])))))))))))

  node_makes : K → (p : Ptr) (hv bv : Val) (h : Z.Denot) (x : Br.Denot)
      → Step K 𝓛 (‵ (Nr.own_val (record { next = p; heap = h; buffer = x }) (node_val p hv bv ∷ [])) ∷ Γ) G (‵ (Z.own_val h (hv ∷ [])) ∷ ‵ (Br.own_val x (bv ∷ [])) ∷ Γ) G
  node_makes t p hv bv h x = step (λ s. let v : Val = node_val p hv bv in
      nothing t $ move t (1 ∷ 2 ∷ 0 ∷ []) $ fjoin3 t $ feq_i t (List Val) (ptr_val p ∷ []) (ptr_val p ∷ []) refl $ fjoin t $ feq_i t (List Val) (v ∷ []) (v ∷ []) refl $ fjoin t $
      fpack t (Valss (RawPtr ∷ Z ∷ Br ∷ [])) (within (record { name = []; args = []; types = []; fields = RawPtr ∷ Z ∷ Br ∷ [] }) (p, (h, (x, tt))) (v ∷ [])) (ptr_val p ∷ [], (hv ∷ [], (bv ∷ [], tt))) $ s)

module _ {M : Type 1} {𝓤 : Ura M} {𝓛 : Logic 𝓤} {K : Type 0} {Γ : List (Item 𝓤)} {G : Goal 𝓤 𝓛.H} where
  -- [the node's cell; what the handle owns; what the body owns; the right to free the block]
  pub node_opens : K → (p : Ptr) (n : Node)
      → ((b o : ℕ) (hv bv : Val) → Good (layout Z) hv → Good (layout Br) bv → p ≡ block_ptr b o
      → Seq K 𝓛 (‵ (fat full_share block b o (node_val n.next hv bv)) ∷ ‵ (Z.own_val n.heap (hv ∷ [])) ∷ ‵ (Br.own_val n.buffer (bv ∷ [])) ∷ ‵ (token n (block_ptr b o)) ∷ Γ) G)
      → Seq K 𝓛 (‵ (owned_at p n) ∷ Γ) G
  node_opens t p n k =
      in_a_block t p (λ p'. owned_at p' n) (fst∗ 𝓤 (never 𝓤) (sem 𝓛 (token n null_ptr))) (λ b o e. fsplit t $
      use1 𝓛 (some (λ (v : Val). ‵ (fat full_share block b o v) ⊛ ‵ (Nr.own_val n (v ∷ [])))) (part_out 𝓛 Nr refl full_share n b o) $ pick t (λ v. split t $ move t (1 ∷ []) $
      node_had t n v (λ hv bv gh gb is. move t (2 ∷ []) $ rewrite t 0 (λ (w : Val). ‵ (fat full_share block b o w)) is refl $ k b o hv bv gh gb e)))

  pub node_closes : K → (b o : ℕ) (p : Ptr) (hv bv : Val) (n : Node)
      → Step K 𝓛 (‵ (owned_at (block_ptr b o) (record n { next = p })) ∷ Γ) G
      (‵ (fat full_share block b o (node_val p hv bv)) ∷ ‵ (Z.own_val n.heap (hv ∷ [])) ∷ ‵ (Br.own_val n.buffer (bv ∷ [])) ∷ ‵ (token n (block_ptr b o)) ∷ Γ) G
  node_closes t b o p hv bv n = step (λ s. let m : Node = record n { next = p } in
      move t (1 ∷ 2 ∷ []) $ node_makes t p hv bv n.heap n.buffer $ move t (1 ∷ 0 ∷ []) $
      use2 𝓛 (‵ (part_at Nr full_share m b o)) (part_in 𝓛 Nr refl full_share m b o (node_val p hv bv)) $ fjoin t $ s)

module _ {M : Type 1} {𝓤 : Ura M} (𝓛 : Logic 𝓤) where
  pub links_append : (cs : List Cell) (c : Cell) (ds : List Cell) (p : Ptr) → ent 𝓤 (sep 𝓤 (sem 𝓛 (links cs c.0)) (sem 𝓛 (links (c ∷ ds) p))) (sem 𝓛 (links (cs ++ c ∷ ds) p))
  links_append [] c ds p = qed 𝓛 (‵ (links [] c.0) ∷ ‵ (links (c ∷ ds) p) ∷ []) ∵ drop ! $ done !
  links_append (x ∷ []) c ds p = qed 𝓛 (‵ (links (x ∷ []) c.0) ∷ ‵ (links (c ∷ ds) p) ∷ []) ∵ fsplit ! $ keep ! (0 ∷ 2 ∷ []) $ done !
  links_append (x ∷ y ∷ cs) c ds p =
      qed 𝓛 (‵ (links (x ∷ y ∷ cs) c.0) ∷ ‵ (links (c ∷ ds) p) ∷ []) ∵ fsplit ! $ move ! (1 ∷ 2 ∷ []) $
      use2 𝓛 (‵ (links (y ∷ cs ++ c ∷ ds) p)) (links_append (y ∷ cs) c ds p) $ move ! (1 ∷ 0 ∷ []) $ done !

  pub links_split : (cs : List Cell) (c : Cell) (ds : List Cell) (p : Ptr) → ent 𝓤 (sem 𝓛 (links (cs ++ c ∷ ds) p)) (sep 𝓤 (sem 𝓛 (links cs c.0)) (sem 𝓛 (links (c ∷ ds) p)))
  links_split [] c ds p = qed 𝓛 (‵ (links (c ∷ ds) p) ∷ []) ∵ nothing ! $ done !
  links_split (x ∷ []) c ds p = qed 𝓛 (‵ (links (x ∷ c ∷ ds) p) ∷ []) ∵ fsplit ! $ nothing ! $ move ! (1 ∷ 0 ∷ []) $ fjoin ! $ done !
  links_split (x ∷ y ∷ cs) c ds p =
      qed 𝓛 (‵ (links (x ∷ y ∷ cs ++ c ∷ ds) p) ∷ []) ∵ fsplit ! $ move ! (1 ∷ []) $
      use1 𝓛 (‵ (links (y ∷ cs) c.0) ⊛ ‵ (links (c ∷ ds) p)) (links_split (y ∷ cs) c ds p) $ split ! $ move ! (2 ∷ 0 ∷ []) $ fjoin ! $ done !

-- two pointers are a machine value of `Nodes`
pub two_good : (p q : Ptr) → Good (layout Lr) (words p q)
two_good p q = as_fields (ty_ptr ∷ ty_ptr ∷ []) (ptr_val p ∷ ptr_val q ∷ []) (Ptr-Good p, (Ptr-Good q, tt))
