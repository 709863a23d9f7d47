-- `tail` reads the pointer to the last node. Assumes `Logic`.
use Rattle.buffer_pool.proofs.Steps.{◌+◌, List, [], ◌∷◌, ◌++◌, refl, Fn, named, Val, vptr, SProp, ftrue, flft, WpFn, tables, ‵, ◌⊛◌, prop, ◌$◌, ◌∵◌, !, qed, move, keep, split, join, regoal, fsplit, fjoin, feq_i, feq_l, suffices, done, look, stop, fld, load, of_opd, returns, enter, alloc_all, pass_all, free_all, look_at, through, sets, yes, RefOf, owns, ptr_val, ShrRef, plain, nothing, says, Stays, stay_dropped, walk_of, ends_at, Goes-dropped, Ptr-Good, proved_at}
use Rattle.buffer_pool.proofs.NodeSteps.{Lr}
use Rattle.buffer_pool.proofs.Seen.{nodes_Seen, pointer_in, pointer_out}
use Rattle.buffer_pool.proofs.Cells.{tail_place}
use Rattle.buffer_pool.specs.declared.nodes.Nodes.{Nodes}
use Rattle.buffer_pool.specs.contracts.nodes.Nodes.tail.{ended, clauses}
use Rattle.buffer_pool.specs.contracts.nodes.Nodes.tail.Key.{name as #self}
use Rattle.buffer_pool.proofs.nodes.Nodes.tail.Statement.{statement}
use Rattle.buffer_pool.proofs.nodes.Nodes.tail.Code as code

pub tail_spec : {M : Type 1} → statement M
tail_spec 𝓤 𝓛 𝓜 𝓡 wired =
    let H = 𝓛.H in let 𝓣 = tables 𝓤 H 𝓜 𝓡 𝓡.env in let fn : Fn = code.function in let c = clauses 𝓛 𝓜.mem 𝓡.returns in
    let hs : Stays ended.signature.params ended.kept = (stay_dropped (RefOf (0 ∷ []) tt (plain (λ _. Lr)) (λ _. tt)) yes, tt) in
    proved_at 𝓛 ended hs c 𝓜 𝓡 (Goes-dropped 𝓛 1 (RefOf (0 ∷ []) tt (plain (λ _. Lr)) (λ _. tt)) yes (λ κs x f. refl), tt) #self fn (code.unfolded 𝓤 H 𝓜 𝓡 wired) (λ z are.
    let Post : Val → SProp 𝓤 = (walk_of 𝓛 ended hs c).post z in
    let κ = z.0.0.0 in let q = z.0.1.0 in let self = z.0.3.0 in let d : Nodes = self.now in let b = self.ref_ptr.0 in let o = self.ref_ptr.1 in
    qed 𝓛 (((‵ (flft κ q) ⊛ ‵ ftrue) ⊛ ‵ (owns (ShrRef (named 0) κ Lr ∷ []) z.0.3 z.0.4)) ∷ ‵ ftrue ∷ []) ∵
    split ! $ split ! $ move ! (2 ∷ []) $ fsplit ! $ fsplit ! $ feq_l ! (λ at_self. keep ! (0 ∷ 2 ∷ []) $
    regoal ! (λ (us : List Val). prop (WpFn 𝓤 H 𝓣.C 𝓣.Λ fn us Post)) (λ i. at_self i ++ []) refl $
    enter ! 𝓣.C 𝓣.Λ fn (vptr b o ∷ []) Post $ alloc_all ! (λ l. pass_all ! refl ((tt, tt), tt) $
    nodes_Seen ! d b o $ move ! (1 ∷ 3 ∷ []) $ pointer_in ! tt d.tail b (o + 8) (λ part.
    sets ! (of_opd ! (load ! (through ! refl (fld ! refl (stop !))) (look ! 0 refl))) refl (Ptr-Good d.tail) $
    pointer_out ! tt d.tail b (o + 8) $
    returns ! (look_at ! 0 refl) $ free_all ! refl $ keep ! (0 ∷ []) $
    suffices ! _ (ends_at 𝓛 ended hs c z (ptr_val d.tail) d.tail (tt, tt) (tt, tt)) $ says ! (λ h. tail_place d.cells d.tail d.tail h d.placed.1) $
    feq_i ! (List Val) (ptr_val d.tail ∷ []) (ptr_val d.tail ∷ []) refl $ nothing ! $ nothing ! $ fjoin ! $ join ! $ nothing ! $ move ! (2 ∷ 0 ∷ []) $ join ! $ join ! $ done !))))
