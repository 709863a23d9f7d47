-- `last_mut` lends the last node, and the nodes follow it. Assumes `Logic`.
use Rattle.buffer_pool.proofs.Steps.{◌≡◌, ℕ, ◌<◌, List, [], ◌∷◌, ◌++◌, length, refl, sym, ap, ◌∙◌, full_share, Fn, named, Val, vptr, SProp, ent, sep, never, fst∗, Fml, GName, ftrue, fsep, flft, Env, WpFn, Ura, Logic, sem, fact, tables, ‵, raw, ◌⊛◌, some, later, prop, at_ret, ◌$◌, ◌∵◌, !, qed, by, move, keep, drop, use1, use2, split, join, await, pick, group, rewrite, regoal, fsplit, fsplit3, fjoin, fjoin3, fpack, feq_l, suffices, frame, done, whole, sub, look_in, stop, fld, load, of_opd, addr, first, blocks, exec, returns, enter, alloc_all, pass_all, free_all, look_at, get, through, sets, sets_last, is, env, no, owns, cell_at, part_at, mem, Ptr, block_ptr, null_ptr, ptr_val, in_a_block, MutRef, follows, Part, lends_Part, plain, mut_ref_to, nothing, heard, says, Stays, stay_dropped, walk_of, ends_at, Goes-spent_ref, after, proved_at}
use denote.Memory.{part_of}
use Rattle.buffer_pool.proofs.NodeSteps.{Nr, Lr, words, token, links_append, links_split, nodes_opens, nodes_made}
use Rattle.buffer_pool.proofs.Last.{set_last-snoc, last_state}
use Rattle.buffer_pool.proofs.Cells.{has, unsnoc, last_or-snoc}
use Rattle.buffer_pool.specs.declared.node.Node.{Node}
use Rattle.buffer_pool.specs.declared.nodes.Nodes.{Nodes}
use Rattle.buffer_pool.specs.Lending.{ending_with}
use Rattle.buffer_pool.specs.Edits.{last_of}
use Rattle.buffer_pool.specs.Links.{Cell, states_of, owned_at, last_or, links}
use Rattle.buffer_pool.specs.contracts.nodes.Nodes.last_mut.{ended, clauses}
use Rattle.buffer_pool.specs.contracts.nodes.Nodes.last_mut.Key.{name as #self}
use Rattle.buffer_pool.proofs.nodes.Nodes.last_mut.Statement.{statement}
use Rattle.buffer_pool.proofs.nodes.Nodes.last_mut.Code as code

module _ {M : Type 1} {𝓤 : Ura M} (𝓛 : Logic 𝓤) (rb ro : ℕ) (d : Nodes) (ns : List Cell) (m : Cell) (b o : ℕ) where
  -- all but the node
  abbrev pub Rest : Fml
  Rest = fsep (token m.1 (block_ptr b o)) (fsep (links ns m.0) (cell_at full_share Lr.mir (words d.head d.tail ∷ []) rb ro))

  back : d.cells ≡ ns ++ m ∷ [] → m.0 ≡ block_ptr b o → (w : Node) → ent 𝓤 (sep 𝓤 (sem 𝓛 ((mem Nr).own_at w b o)) (sem 𝓛 Rest)) (sem 𝓛 ((mem Lr).own_at (ending_with d w) rb ro))
  unfolding part_of
  back is e w =
      qed 𝓛 (‵ (part_at Nr full_share w b o) ∷ ‵ Rest ∷ []) ∵ move ! (1 ∷ []) $ fsplit3 ! $ move ! (3 ∷ 0 ∷ []) $ fjoin ! $
      rewrite ! 0 (λ (p : Ptr). ‵ (owned_at p w)) (sym e) refl $ nothing ! $ move ! (1 ∷ 0 ∷ []) $ fjoin ! $ move ! (1 ∷ 0 ∷ []) $
      use2 𝓛 (‵ (links (ns ++ (m.0, w) ∷ []) w.next)) (links_append 𝓛 ns (m.0, w) [] w.next) $
      rewrite ! 0 (λ (cs : List Cell). ‵ (links cs w.next)) (sym (set_last-snoc d.cells ns m w is)) refl $
      nodes_made ! (ending_with d w) $ move ! (1 ∷ 0 ∷ []) $ fjoin ! $
      fpack ! (List Val) (λ vs. fsep (cell_at full_share Lr.mir vs rb ro) (Lr.own_val (ending_with d w) vs)) (words d.head d.tail ∷ []) $ done !

pub last_mut_spec : {M : Type 1} → statement M
last_mut_spec 𝓤 𝓛 𝓜 𝓡 wired =
    let H = 𝓛.H in let A = 𝓛.A in let 𝓣 = tables 𝓤 H 𝓜 𝓡 𝓡.env in let fn : Fn = code.function in let c = clauses 𝓛 𝓜.mem 𝓡.returns in
    let hs : Stays ended.signature.params ended.kept = (stay_dropped (mut_ref_to (0 ∷ []) tt (plain (λ _. Lr))) no, tt) in
    proved_at 𝓛 ended hs c 𝓜 𝓡 (Goes-spent_ref 𝓛 1 (0 ∷ []) tt (plain (λ _. Lr)), tt) #self fn (code.unfolded 𝓤 H 𝓜 𝓡 wired) (λ z are.
    let Post : Val → SProp 𝓤 = (walk_of 𝓛 ended hs c).post z in
    let κ = z.0.0.0 in let q = z.0.1.0 in let self = z.0.3.0 in let d : Nodes = self.now in
    let rb = self.ref_ptr.0 in let ro = self.ref_ptr.1 in let γ = self.ghost_name in let new : Node → Nodes = ending_with d in
    let Asks : Type 0 = 0 < length (states_of d.cells) in
    let exits : (b o : ℕ) (x : Node) → x.buffer ≡ last_of (states_of d.cells) → (δ : GName)
    → ent 𝓤 (sep 𝓤 (sem 𝓛 ((MutRef (named 0) κ Nr).own_val (record { ref_ptr = (b, o); ghost_name = δ; now = x }) (vptr b o ∷ []))) (sep 𝓤 (A.lft κ q) (sem 𝓛 (follows Lr Nr γ δ new)))) (Post (vptr b o))
    = λ b o x e δ.
    qed 𝓛 (‵ ((MutRef (named 0) κ Nr).own_val (record { ref_ptr = (b, o); ghost_name = δ; now = x }) (vptr b o ∷ [])) ∷ ‵ (flft κ q) ∷ ‵ (follows Lr Nr γ δ new) ∷ []) ∵
    suffices ! _ (ends_at 𝓛 ended hs c z (vptr b o) (record { ref_ptr = (b, o); ghost_name = δ; now = x }) (tt, tt) (tt, tt)) $
    nothing ! $ nothing ! $ fjoin ! $ join ! $ nothing ! $ move ! (2 ∷ 0 ∷ []) $ join ! $ join ! $ frame ! $ says ! e $ done ! in
    qed 𝓛 (((‵ (flft κ q) ⊛ ‵ ftrue) ⊛ ‵ (owns (MutRef (named 0) κ Lr ∷ []) z.0.3 z.0.4)) ∷ raw (fact 𝓤 Asks) ∷ []) ∵
    move ! (1 ∷ []) $ heard ! Asks (λ ask. let asked = has d.cells ask in split ! $ split ! $ move ! (2 ∷ []) $ fsplit ! $ fsplit3 ! $ feq_l ! (λ at_self.
    keep ! (0 ∷ 1 ∷ 3 ∷ []) $
    let ns = unsnoc d.cells asked in
    let m : Cell = ns.1 in
    let tail_is : d.tail ≡ m.0 = d.placed.1 ∙ ap (λ cs. last_or cs d.tail) ns.2 ∙ last_or-snoc ns.0 m d.tail in
    let x : Node = record m.1 { next = d.end } in
    regoal ! (λ (us : List Val). prop (WpFn 𝓤 H 𝓣.C 𝓣.Λ fn us Post)) (λ i. at_self i ++ []) refl $
    enter ! 𝓣.C 𝓣.Λ fn (vptr rb ro ∷ []) Post $ alloc_all ! (λ l. pass_all ! refl ((tt, tt), tt) $
    let Ev : Env 𝓤 H = env fn.locals l in
    nodes_opens ! tt d rb ro $
    rewrite ! 0 (λ (cs : List Cell). ‵ (links cs d.end)) ns.2 refl $
    use1 𝓛 (‵ (links ns.0 m.0) ⊛ ‵ (links (m ∷ []) d.end)) (links_split 𝓛 ns.0 m [] d.end) $ split ! $ move ! (1 ∷ []) $ fsplit ! $
    in_a_block ! m.0 (λ p. owned_at p x) (fst∗ 𝓤 (never 𝓤) (sem 𝓛 (token x null_ptr))) (λ b o e. fsplit ! $ move ! (2 ∷ []) $ drop ! $
    -- [the node; its token; the others; the words; the open borrow; obs; auth]
    sets ! (is ! (of_opd ! (load ! (through ! refl (fld ! refl (stop !))) (look_in ! 3 (sub ! 1 refl (whole !))))) (ap ptr_val (tail_is ∙ e))) refl (tt, tt) $
    first ! $ blocks ! $ sets_last ! (addr ! (through ! refl (stop !))) refl (tt, tt) $ exec ! 𝓣.C 𝓣.Λ Ev (after 2 fn.body) (at_ret Ev Post) $
    sets ! (of_opd ! (get ! refl)) refl (tt, tt) $
    let code_of = Lr.coded.code d in
    move ! (1 ∷ 2 ∷ 3 ∷ []) $ fjoin3 ! $ move ! (2 ∷ 3 ∷ 4 ∷ 1 ∷ 0 ∷ []) $ group ! 5 $
    use1 𝓛 (later (some (λ (δ : GName). raw (Part 𝓛 Lr Nr new (named 0) κ q rb ro b o γ (sem 𝓛 (Rest 𝓛 rb ro d ns.0 m b o)) (back 𝓛 rb ro d ns.0 m b o ns.2 e) x δ))))
    (lends_Part 𝓛 Lr Nr new (named 0) κ q rb ro b o γ (sem 𝓛 (Rest 𝓛 rb ro d ns.0 m b o)) (back 𝓛 rb ro d ns.0 m b o ns.2 e) code_of code_of x) $ await ! tt $ pick ! (λ δ.
    returns ! (look_at ! 0 refl) $ free_all ! refl $ keep ! (0 ∷ []) $ by ! (exits b o x (last_state d.cells ns.0 m ns.2) δ)))))))
