-- `node` lends a node. Assumes `Logic`.
use Rattle.buffer_pool.proofs.Steps.{◌≡◌, ℕ, suc, ◌<◌, List, [], ◌∷◌, ◌++◌, length, refl, sym, ap, subst, ◌∙◌, w64, Fn, named, Val, vint, vptr, SProp, never, fst∗, ftrue, flft, Env, WpFn, sem, fact, tables, ‵, raw, ◌⊛◌, prop, at_ret, ◌$◌, ◌∵◌, !, qed, move, keep, drop, use1, split, join, rewrite, regoal, fsplit, fsplit3, fjoin, feq_i, feq_l, flt_l, suffices, done, stop, of_opd, addr, first, blocks, exec, returns, enter, alloc_all, pass_all, free_all, look_at, get, through, sets, sets_last, env, yes, RefOf, RawPtr, u64, owns, shared_of, Ptr, ptr_val, in_a_block, ShrRef, plain, nothing, heard, hide, lent_at, says, Stays, stay_dropped, walk_of, ends_at, Goes-dropped, after, proved_at}
use Rattle.buffer_pool.proofs.NodeSteps.{Nr, Lr}
use Rattle.buffer_pool.proofs.Seen.{nodes_Seen, node_lent}
use Rattle.buffer_pool.proofs.Cells.{has_at, one_more, node_of, node_of-state, node_of-next}
use Rattle.buffer_pool.specs.declared.node.Node.{Node}
use Rattle.buffer_pool.specs.declared.nodes.Nodes.{Nodes}
use Rattle.buffer_pool.specs.Links.{states_of, place_or}
use Rattle.buffer_pool.specs.contracts.nodes.Nodes.node.{ended, clauses}
use Rattle.buffer_pool.specs.contracts.nodes.Nodes.node.Key.{name as #self}
use Rattle.buffer_pool.proofs.nodes.Nodes.node.Statement.{statement}
use Rattle.buffer_pool.proofs.nodes.Nodes.node.Code as code

pub node_spec : {M : Type 1} → statement M
node_spec 𝓤 𝓛 𝓜 𝓡 wired =
    let H = 𝓛.H in let 𝓣 = tables 𝓤 H 𝓜 𝓡 𝓡.env in let fn : Fn = code.function in let c = clauses 𝓛 𝓜.mem 𝓡.returns in
    let hs : Stays ended.signature.params ended.kept = (stay_dropped (RefOf (0 ∷ []) tt (plain (λ _. Lr)) (λ _. tt)) yes, (stay_dropped (plain (λ _. RawPtr)) yes, (stay_dropped (plain (λ _. u64)) yes, tt))) in
    proved_at 𝓛 ended hs c 𝓜 𝓡 (Goes-dropped 𝓛 1 (RefOf (0 ∷ []) tt (plain (λ _. Lr)) (λ _. tt)) yes (λ κs x f. refl), (Goes-dropped 𝓛 1 (plain (λ _. RawPtr)) yes (λ κs x f. refl), (Goes-dropped 𝓛 1 (plain (λ _. u64)) yes (λ κs x f. refl), tt))) #self fn (code.unfolded 𝓤 H 𝓜 𝓡 wired) (λ z are.
    let Post : Val → SProp 𝓤 = (walk_of 𝓛 ended hs c).post z in
    let κ = z.0.0.0 in let q = z.0.1.0 in let self = z.0.3.0 in let at : Ptr = z.0.3.1.0 in let i : ℕ = z.0.3.1.1.0 in let d : Nodes = self.now in let b = self.ref_ptr.0 in let o = self.ref_ptr.1 in
    let Asks : Type 0 = (i < length (states_of d.cells)) × (at ≡ place_or d.cells i at) in
    qed 𝓛 (((‵ (flft κ q) ⊛ ‵ ftrue) ⊛ ‵ (owns (ShrRef (named 0) κ Lr ∷ RawPtr ∷ u64 ∷ []) z.0.3 z.0.4)) ∷ raw (fact 𝓤 Asks) ∷ []) ∵
    move ! (1 ∷ []) $ heard ! Asks (λ ask. let h = has_at d.cells i ask.0 in let n : Node = node_of d.cells d.end i h in
    split ! $ split ! $ move ! (2 ∷ []) $ fsplit3 ! $ fsplit ! $ feq_l ! (λ at_self. move ! (1 ∷ []) $ feq_l ! (λ at_at. move ! (1 ∷ []) $ fsplit ! $ fsplit ! $ feq_l ! (λ at_i. flt_l ! (λ fits.
    -- [nothing; self; the token; nothing]
    keep ! (1 ∷ 2 ∷ []) $ nodes_Seen ! d b o $ move ! (2 ∷ []) $
    use1 𝓛 (‵ (lent_at Nr (place_or d.cells i at) n κ)) (node_lent 𝓛 κ d.cells d.end at i h) $ rewrite ! 0 (λ (p : Ptr). ‵ (lent_at Nr p n κ)) (sym ask.1) refl $
    in_a_block ! at (λ p. lent_at Nr p n κ) (fst∗ 𝓤 (never 𝓤) (sem 𝓛 (shared_of Nr n 0 0 κ))) (λ nb no e. fsplit ! $ drop ! $ hide ! $
    -- [the node, lent; head; tail; the token]
    regoal ! (λ (us : List Val). prop (WpFn 𝓤 H 𝓣.C 𝓣.Λ fn us Post)) (λ j. at_self j ++ ((at_at ∙ ap (λ (p : Ptr). ptr_val p ∷ []) e) j ++ (at_i j ++ []))) refl $
    enter ! 𝓣.C 𝓣.Λ fn (vptr b o ∷ vptr nb no ∷ vint w64 i ∷ []) Post $ alloc_all ! (λ l. pass_all ! refl ((tt, tt), ((tt, tt), ((tt, record { fits = fits }), tt))) $
    let Ev : Env 𝓤 H = env fn.locals l in
    first ! $ blocks ! $ sets_last ! (addr ! (through ! refl (stop !))) refl (tt, tt) $ exec ! 𝓣.C 𝓣.Λ Ev (after 1 fn.body) (at_ret Ev Post) $
    sets ! (of_opd ! (get ! refl)) refl (tt, tt) $
    feq_i ! (List Val) (vptr nb no ∷ []) (vptr nb no ∷ []) refl $ fjoin ! $ returns ! (look_at ! 0 refl) $ free_all ! refl $ keep ! (0 ∷ 3 ∷ []) $
    suffices ! _ (ends_at 𝓛 ended hs c z (vptr nb no) (record { ref_ptr = (nb, no); now = n }) (tt, (tt, (tt, tt))) (tt, (tt, (tt, tt)))) $
    says ! (node_of-state d.cells d.end i h, λ m. subst (λ k. n.next ≡ place_or d.cells k n.next) (one_more i) (node_of-next d.cells d.end n.next i h (has_at d.cells (suc i) (subst (λ k. k < length (states_of d.cells)) (sym (one_more i)) m)))) $
    nothing ! $ nothing ! $ fjoin ! $ nothing ! $ fjoin ! $ nothing ! $ fjoin ! $ join ! $ nothing ! $ move ! (2 ∷ 0 ∷ []) $ join ! $ join ! $ done !))))))))
