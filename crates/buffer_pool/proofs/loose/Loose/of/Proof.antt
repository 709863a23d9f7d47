-- `of` takes the box apart. Assumes `Logic`.
use Rattle.buffer_pool.proofs.Steps.{◌≡◌, List, [], ◌∷◌, ◌++◌, refl, ap, ◌∙◌, full_share, SProp, emp, never, fst∗, id⊢, ftrue, fsep, flft, Fn, Val, vstruct, of_list, WpFn, ◌⊑◌, ⊑_static, fact, fact_i, tables, sem, ‵, raw, ◌⊛◌, some, later, prop, ◌$◌, ◌∵◌, !, qed, move, keep, drop, use0, use1, split, split3, join, await, pick, regoal, fsplit, fjoin, fpick, feq_l, suffices, done, whole, sub, agg, stop, fld, of_opd, and_then, no_more, returns, enter, alloc_all, pass_all, free_all, look_at, get, get_in, sets, lands_as, lft_new, yes, RawPtr, owns, Ptr, block_ptr, null_ptr, ptr_val, in_a_block, plain, nothing, only, calls_at, triple_of, says, Stays, stay_dropped, walk_of, ends_at, Goes-blank, fm, proved_at}
use mir.Raw.{raw as bare}
use denote.Param.{layout}
use denote.Struct.Tuple.{Tuple}
use Rattle.core.proofs.alloc.Calls.{token, handle_tells}
use Rattle.std_alloc.specs.Box.Ownership.{box_owns}
use Rattle.std_alloc.proofs.BoxSteps.Form as box
use Rattle.std_alloc.proofs.BoxSteps.Steps.{box_out, box_in}
use Rattle.std_alloc.specs.contracts.boxed.Box.into_raw_with_allocator as callee
use Rattle.std_alloc.proofs.boxed.Box.into_raw_with_allocator.Met.{met}
use Rattle.std_heap.proofs.GlobalAllocator.TheImpl.Met.{passed}
use Rattle.buffer_pool.proofs.«Destruct++none».drop.Symbol.{glues}
use Rattle.buffer_pool.proofs.NodeBox.{E, Np, Zp, Boxed, drop_of}
use Rattle.buffer_pool.proofs.LooseSteps.{lone_word, lone_good, loose_made}
use Rattle.buffer_pool.specs.Links.{owned_at}
use Rattle.buffer_pool.specs.contracts.loose.Loose.of.{ended, clauses}
use Rattle.buffer_pool.specs.contracts.loose.Loose.of.Key.{name as #self}
use Rattle.buffer_pool.proofs.loose.Loose.of.Statement.{statement}
use Rattle.buffer_pool.proofs.loose.Loose.of.Code as code

pub of_spec : {M : Type 1} → statement M
of_spec {M} 𝓤 𝓛 𝓜 𝓡 wired =
    let H = 𝓛.H in let 𝓣 = tables 𝓤 H 𝓜 𝓡 𝓡.env in let fn : Fn = code.function in let c = clauses 𝓛 𝓜.mem 𝓡.returns in
    let hs : Stays ended.signature.params ended.kept = (stay_dropped (plain (λ _. Boxed)) yes, tt) in
    let A = E.al in let dx = drop_of Np in
    let k = triple_of 𝓛 (callee.signature Np Zp A.g A.d A.drops dx) (callee.spec Np Zp A.g A.d A.drops dx 𝓛 𝓜.mem 𝓡.returns) in
    let allocator = passed 𝓡.env (code.calls-std_heap::GlobalAllocator::allocate 𝓡.env wired) (code.calls-std_heap::GlobalAllocator::deallocate 𝓡.env wired)
    (code.calls-std_heap::GlobalAllocator::grow 𝓡.env wired) (code.calls-std_heap::GlobalAllocator::shrink 𝓡.env wired) M 𝓤 𝓛 𝓜 𝓡 in
    let glue = glues 𝓡.env (code.calls-buffer_pool::Destruct++none::drop 𝓡.env wired) in
    let known = met 𝓤 𝓛 𝓜 𝓡 (code.calls-std_alloc::boxed::Box::into_raw_with_allocator 𝓡.env wired) Np Zp E.laws A.laws A.g A.d A.drops dx allocator (glue Zp A.laws M 𝓤 𝓛 𝓜 𝓡) (glue Np E.laws M 𝓤 𝓛 𝓜 𝓡) in
    proved_at 𝓛 ended hs c 𝓜 𝓡 (Goes-blank 𝓛 0 (plain (λ _. Boxed)) yes (λ κs x f. tt), tt) #self fn (code.unfolded 𝓤 H 𝓜 𝓡 wired) (λ z are.
    let Post : Val → SProp 𝓤 = (walk_of 𝓛 ended hs c).post z in
    let v = z.0.3.0 in let a = v.alloc in let Pair = Tuple (RawPtr ∷ box.P E ∷ []) in
    qed 𝓛 ((‵ ftrue ⊛ ‵ (owns (Boxed ∷ []) z.0.3 z.0.4)) ∷ ‵ ftrue ∷ []) ∵
    split ! $ move ! (1 ∷ []) $ fsplit ! $ box_out E ! v z.0.4.0 (λ b o h e vs fits. box_in E ! v b o v.value e refl $ keep ! (0 ∷ []) $
    let w : Val = box.word E h b o in let typed = box.box_typed E h b o fits in
    regoal ! (λ (us : List Val). prop (WpFn 𝓤 H 𝓣.C 𝓣.Λ fn us Post)) (λ i. vs i ++ []) refl $
    enter ! 𝓣.C 𝓣.Λ fn (w ∷ []) Post $ alloc_all ! (λ l. pass_all ! refl (typed, tt) $
    sets ! (of_opd ! (get ! refl)) refl typed $
    -- [the box], lent two lifetimes that end within the static one
    nothing ! $ move ! (1 ∷ 0 ∷ []) $ fjoin ! $ nothing ! $ lft_new ! tt (λ β. join ! $ lft_new ! tt (λ α. join ! $ join ! $
    let y : k.Ghost = (((α ∷ [], (β ∷ [], tt)), (full_share, (full_share, tt)), tt, (v, tt), (w ∷ [], tt)), tt) in
    let in_node = (α ∷ []) ⊑ Np.lives in let in_heap = (β ∷ []) ⊑ Zp.lives in
    nothing ! $ use0 𝓛 (raw (fact 𝓤 in_heap)) (fact_i 𝓤 in_heap (emp 𝓤) (⊑_static _)) $ join ! $ use0 𝓛 (raw (fact 𝓤 in_node)) (fact_i 𝓤 in_node (emp 𝓤) (⊑_static _)) $ join ! $
    move ! (1 ∷ 0 ∷ []) $ join ! $ use1 𝓛 (raw (k.pre y)) (id⊢ 𝓤 _) $
    calls_at ! (fm 𝓛 𝓜 𝓡) k known y (and_then ! (get ! refl) (no_more !)) (λ u.
    use1 𝓛 (later (some (λ (r : Ptr × Zp.Denot). ((‵ (flft (α ∷ []) full_share) ⊛ ‵ (flft (β ∷ []) full_share) ⊛ ‵ ftrue) ⊛ ‵ (Pair.own_val r (u ∷ []))) ⊛
    some (λ (_ : (Unit {0} × (Unit {0} × Unit {0})) × Unit {0}). ‵ (fsep (fsep ftrue (fsep ftrue ftrue)) ftrue) ⊛ (raw (fact 𝓤 (r.1 ≡ a)) ⊛ ‵ (box_owns (token A a) (box.R E) r.0 v.value)))))) (id⊢ 𝓤 _) $
    await ! tt $ pick ! (λ r. split ! $ move ! (1 ∷ []) $ pick ! (λ _. split3 ! $ drop ! $ drop ! $
    in_a_block ! r.0 (λ p. box_owns (token A a) (box.R E) p v.value) (fst∗ 𝓤 (never 𝓤) (sem 𝓛 (token A a (bare (layout Np)) null_ptr))) (λ b' o' e'.
    -- [the node; the tokens with the pair]
    move ! (1 ∷ []) $ split ! $ drop ! $ fpick ! (λ vss. fsplit ! $ feq_l ! (λ is_pair. fsplit ! $ feq_l ! (λ is_at. fsplit ! $ handle_tells A ! r.1 vss.1.0 (λ h' is_heap fits'.
    drop ! $ drop ! $
    let p : Ptr = block_ptr b' o' in let made = box.box_typed E h' b' o' fits' in
    lands_as ! (ap only (is_pair ∙ (λ j. vstruct (of_list ((is_at ∙ ap (λ (q : Ptr). ptr_val q ∷ []) e') j ++ (is_heap j ++ []))) ∷ []))) refl made $
    sets ! (of_opd ! (get_in ! (fld ! refl (stop !)) (sub ! 0 refl (whole !)))) refl (tt, tt) $
    sets ! (agg ! (and_then ! (get ! refl) (no_more !))) refl (lone_good p) $
    use1 𝓛 (‵ (owned_at p v.value)) (id⊢ 𝓤 _) $ loose_made ! (record { at = p; node = v.value }) $
    returns ! (look_at ! 0 refl) $ free_all ! refl $ keep ! (0 ∷ []) $
    suffices ! _ (ends_at 𝓛 ended hs c z (lone_word p) (record { at = p; node = v.value }) (tt, tt) (tt, tt)) $ says ! refl $
    nothing ! $ nothing ! $ fjoin ! $ join ! $ nothing ! $ join ! $ done !)))))))))))))
