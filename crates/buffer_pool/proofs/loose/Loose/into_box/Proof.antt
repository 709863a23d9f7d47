-- `into_box` makes the box again. Assumes `Logic`.
use Rattle.buffer_pool.proofs.Steps.{◌≡◌, List, [], ◌∷◌, ◌++◌, refl, sym, ap, subst, full_share, SProp, emp, id⊢, ftrue, flft, Fn, Val, vptr, Env, WpFn, ◌⊑◌, ⊑_static, fact, fact_i, tables, ‵, raw, ◌⊛◌, some, later, prop, at_ret, ◌$◌, ◌∵◌, !, qed, move, keep, drop, use0, use1, split, split3, join, await, pick, regoal, fsplit, fjoin, feq_i, fjoin3, suffices, done, whole, sub, stop, fld, load, look_in, of_opd, and_then, no_more, first, blocks, exec, returns, enter, alloc_all, pass_all, free_all, look_at, get, get_in, through, sets, lands_last, is, env, lft_new, yes, owns, Ptr, block_ptr, ptr_val, plain, nothing, only, calls_at_last, Lasts, lasts, triple_of, heard, says, Stays, stay_dropped, walk_of, ends_at, Goes-blank, after, fm, proved_at}
use contract.Lifetimes.{Lfts}
use denote.Struct.Laws as SL
use denote.Param.{layout}
use Rattle.core.proofs.cell.Inside.{Good}
use Rattle.core.proofs.alloc.Calls.{token}
use Rattle.std_heap.specs.contracts.Global as heap
use Rattle.std_heap.proofs.Global.TheLaws as heap_laws
use Rattle.std_alloc.specs.Box.Ownership.{box_owns}
use Rattle.std_alloc.proofs.BoxSteps.Form as box
use Rattle.std_alloc.proofs.BoxSteps.Steps.{box_out, box_in}
use Rattle.std_alloc.specs.contracts.boxed.Box.from_raw as callee
use Rattle.std_alloc.proofs.boxed.Box.from_raw.Met.{met}
use Rattle.std_heap.proofs.GlobalAllocator.TheImpl.Met.{passed}
use Rattle.buffer_pool.proofs.«Destruct++none».drop.Symbol.{glues}
use Rattle.buffer_pool.proofs.NodeBox.{E, Np, Zp, Boxed}
use Rattle.buffer_pool.proofs.NodeSteps.{Z, node_opens, node_closes}
use Rattle.buffer_pool.proofs.LooseSteps.{Or, lone_word, lone_good, loose_had}
use Rattle.buffer_pool.specs.declared.node.Node.{Node}
use Rattle.buffer_pool.specs.contracts.loose.Loose.into_box.{ended, clauses}
use Rattle.buffer_pool.specs.contracts.loose.Loose.into_box.Key.{name as #self}
use Rattle.buffer_pool.proofs.loose.Loose.into_box.Statement.{statement}
use Rattle.buffer_pool.proofs.loose.Loose.into_box.Code as code

pub into_box_spec : {M : Type 1} → statement M
into_box_spec {M} 𝓤 𝓛 𝓜 𝓡 wired =
    let H = 𝓛.H in let 𝓣 = tables 𝓤 H 𝓜 𝓡 𝓡.env in let fn : Fn = code.function in let c = clauses 𝓛 𝓜.mem 𝓡.returns in
    let hs : Stays ended.signature.params ended.kept = (stay_dropped (plain (λ _. Or)) yes, tt) in
    let A = E.al in
    let k = triple_of 𝓛 (callee.signature Np Zp A.g A.d A.drops) (callee.spec Np Zp A.g A.d A.drops 𝓛 𝓜.mem 𝓡.returns) in
    let allocator = passed 𝓡.env (code.calls-std_heap::GlobalAllocator::allocate 𝓡.env wired) (code.calls-std_heap::GlobalAllocator::deallocate 𝓡.env wired)
    (code.calls-std_heap::GlobalAllocator::grow 𝓡.env wired) (code.calls-std_heap::GlobalAllocator::shrink 𝓡.env wired) M 𝓤 𝓛 𝓜 𝓡 in
    let glue = glues 𝓡.env (code.calls-buffer_pool::Destruct++none::drop 𝓡.env wired) in
    let known = met 𝓤 𝓛 𝓜 𝓡 (code.calls-std_alloc::boxed::Box::from_raw 𝓡.env wired) Np Zp E.laws A.laws A.g A.d A.drops allocator (glue Zp A.laws M 𝓤 𝓛 𝓜 𝓡) in
    proved_at 𝓛 ended hs c 𝓜 𝓡 (Goes-blank 𝓛 0 (plain (λ _. Or)) yes (λ κs x f. tt), tt) #self fn (code.unfolded 𝓤 H 𝓜 𝓡 wired) (λ z are.
    let Post : Val → SProp 𝓤 = (walk_of 𝓛 ended hs c).post z in
    let loose = z.0.3.0 in let n : Node = loose.node in
    qed 𝓛 ((‵ ftrue ⊛ ‵ (owns (Or ∷ []) z.0.3 z.0.4)) ∷ ‵ ftrue ∷ []) ∵
    split ! $ move ! (1 ∷ []) $ fsplit ! $ loose_had ! loose z.0.4.0 (λ b o at vs. keep ! (0 ∷ []) $
    let p : Ptr = block_ptr b o in
    regoal ! (λ (us : List Val). prop (WpFn 𝓤 H 𝓣.C 𝓣.Λ fn us Post)) (λ i. vs i ++ []) refl $
    enter ! 𝓣.C 𝓣.Λ fn (lone_word p ∷ []) Post $ alloc_all ! (λ l. pass_all ! refl (lone_good p, tt) $
    let Ev : Env 𝓤 H = env fn.locals l in
    node_opens ! p n (λ nb no hv bv gh gb e.
    -- [the node, in four]
    sets ! (is ! (of_opd ! (get_in ! (fld ! refl (stop !)) (sub ! 0 refl (whole !)))) (ap ptr_val e)) refl (tt, tt) $
    first ! $ blocks ! $ sets ! (of_opd ! (load ! (through ! refl (fld ! refl (stop !))) (look_in ! 0 (sub ! 1 refl (whole !))))) refl gh $
    let q : Ptr = block_ptr nb no in let a = n.heap in
    move ! (1 ∷ []) $ use1 𝓛 (‵ (Z.own_val a (hv ∷ [])) ⊛ ‵ (Z.own_val a (hv ∷ []))) ((SL.copy heap.the_type heap_laws.the_copy 𝓛).twice a (hv ∷ [])) $ split ! $
    move ! (2 ∷ 1 ∷ 3 ∷ 4 ∷ []) $ node_closes ! nb no n.next hv bv n $ use1 𝓛 (‵ (box_owns (token A a) (box.R E) q n)) (id⊢ 𝓤 _) $
    -- [the node; its handle], lent two lifetimes that end within the static one
    lft_new ! tt (λ β. lft_new ! tt (λ α.
    let in_node = (α ∷ []) ⊑ Np.lives in let in_heap = (β ∷ []) ⊑ Zp.lives in let κs : Lfts 2 = (α ∷ [], (β ∷ [], tt)) in
    let y : k.Ghost = ((κs, (full_share, (full_share, tt)), tt, (a, (q, tt)), (hv ∷ [], (vptr nb no ∷ [], tt))), n) in
    let toks = ‵ (flft (α ∷ []) full_share) ⊛ ‵ (flft (β ∷ []) full_share) ⊛ ‵ ftrue in
    nothing ! $ move ! (2 ∷ 0 ∷ []) $ join ! $ move ! (1 ∷ 0 ∷ []) $ join ! $ move ! (1 ∷ []) $
    use0 𝓛 (raw (fact 𝓤 in_heap)) (fact_i 𝓤 in_heap (emp 𝓤) (⊑_static _)) $ join ! $ use0 𝓛 (raw (fact 𝓤 in_node)) (fact_i 𝓤 in_node (emp 𝓤) (⊑_static _)) $ join ! $
    -- [what is asked; the tokens; the handle]
    nothing ! $ feq_i ! (List Val) (vptr nb no ∷ []) (ptr_val q ∷ []) refl $ move ! (4 ∷ 0 ∷ 1 ∷ []) $ fjoin3 ! $ move ! (2 ∷ 0 ∷ []) $ join ! $ join ! $
    use1 𝓛 (raw (k.pre y)) (id⊢ 𝓤 _) $
    calls_at_last ! (fm 𝓛 𝓜 𝓡) k known y (and_then ! (get ! refl) (and_then ! (get ! refl) (no_more !))) (λ u.
    use1 𝓛 (later (some (λ (r : Boxed.Denot). (toks ⊛ ‵ ((box.B E).own_val r (u ∷ []))) ⊛
    some (λ (ls : Lasts (callee.ended Np Zp A.g A.d A.drops) κs (a, (q, tt))). ‵ (lasts (callee.ended Np Zp A.g A.d A.drops) κs (a, (q, tt)) ls) ⊛ (raw (fact 𝓤 (r.value ≡ n)) ⊛ raw (fact 𝓤 (r.alloc ≡ a))))))) (id⊢ 𝓤 _) $
    await ! tt $ pick ! (λ r. split ! $ move ! (1 ∷ []) $ pick ! (λ _. split3 ! $ drop ! $ heard ! (r.value ≡ n) (λ same. drop ! $ split ! $ drop ! $
    box_out E ! r (u ∷ []) (λ b' o' h' e' us fits'. box_in E ! r b' o' r.value e' refl $
    let w : Val = box.word E h' b' o' in let typed = box.box_typed E h' b' o' fits' in let is_word : u ≡ w = ap only us in
    lands_last ! refl (subst (Good (layout (box.B E))) (sym is_word) typed) $ exec ! 𝓣.C 𝓣.Λ Ev (after 2 fn.body) (at_ret Ev Post) $
    sets ! (is ! (of_opd ! (get ! refl)) is_word) refl typed $ returns ! (look_at ! 0 refl) $ free_all ! refl $ keep ! (0 ∷ []) $
    use1 𝓛 (‵ (Boxed.own_val r (w ∷ []))) (id⊢ 𝓤 _) $
    suffices ! _ (ends_at 𝓛 ended hs c z w r (tt, tt) (tt, tt)) $ says ! same $
    nothing ! $ nothing ! $ fjoin ! $ join ! $ nothing ! $ join ! $ done !)))))))))))
