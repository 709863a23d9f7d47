-- `head` reads the pointer to the first node. Assumes `Logic`.
use Rattle.buffer_pool.proofs.Steps.{◌+◌, List, [], ◌∷◌, ◌++◌, refl, Fn, named, Val, vptr, SProp, ftrue, flft, WpFn, tables, ‵, ◌⊛◌, prop, ◌$◌, ◌∵◌, !, qed, move, keep, split, join, regoal, fsplit, fjoin, feq_i, feq_l, suffices, done, look, stop, fld, load, of_opd, returns, enter, alloc_all, pass_all, free_all, look_at, through, sets, yes, RefOf, owns, ptr_val, ShrRef, plain, nothing, says, Stays, stay_dropped, walk_of, ends_at, Goes-dropped, Ptr-Good, proved_at}
use Rattle.buffer_pool.proofs.NodeSteps.{Lr}
use Rattle.buffer_pool.proofs.Seen.{nodes_Seen, pointer_in, pointer_out}
use Rattle.buffer_pool.proofs.Cells.{head_place}
use Rattle.buffer_pool.specs.declared.nodes.Nodes.{Nodes}
use Rattle.buffer_pool.specs.contracts.nodes.Nodes.head.{ended, clauses}
use Rattle.buffer_pool.specs.contracts.nodes.Nodes.head.Key.{name as #self}
use Rattle.buffer_pool.proofs.nodes.Nodes.head.Statement.{statement}
use Rattle.buffer_pool.proofs.nodes.Nodes.head.Code as code

pub head_spec : {M : Type 1} → statement M
head_spec 𝓤 𝓛 𝓜 𝓡 wired =
    let H = 𝓛.H in let 𝓣 = tables 𝓤 H 𝓜 𝓡 𝓡.env in let fn : Fn = code.function in let c = clauses 𝓛 𝓜.mem 𝓡.returns in
    let hs : Stays ended.signature.params ended.kept = (stay_dropped (RefOf (0 ∷ []) tt (plain (λ _. Lr)) (λ _. tt)) yes, tt) in
    proved_at 𝓛 ended hs c 𝓜 𝓡 (Goes-dropped 𝓛 1 (RefOf (0 ∷ []) tt (plain (λ _. Lr)) (λ _. tt)) yes (λ κs x f. refl), tt) #self fn (code.unfolded 𝓤 H 𝓜 𝓡 wired) (λ z are.
    let Post : Val → SProp 𝓤 = (walk_of 𝓛 ended hs c).post z in
    let κ = z.0.0.0 in let q = z.0.1.0 in let self = z.0.3.0 in let d : Nodes = self.now in let b = self.ref_ptr.0 in let o = self.ref_ptr.1 in
    qed 𝓛 (((‵ (flft κ q) ⊛ ‵ ftrue) ⊛ ‵ (owns (ShrRef (named 0) κ Lr ∷ []) z.0.3 z.0.4)) ∷ ‵ ftrue ∷ []) ∵
    split ! $ split ! $ move ! (2 ∷ []) $ fsplit ! $ fsplit ! $ feq_l ! (λ at_self. keep ! (0 ∷ 2 ∷ []) $
    regoal ! (λ (us : List Val). prop (WpFn 𝓤 H 𝓣.C 𝓣.Λ fn us Post)) (λ i. at_self i ++ []) refl $
    enter ! 𝓣.C 𝓣.Λ fn (vptr b o ∷ []) Post $ alloc_all ! (λ l. pass_all ! refl ((tt, tt), tt) $
    nodes_Seen ! d b o $ move ! (0 ∷ 3 ∷ []) $ pointer_in ! tt d.head b (o + 0) (λ part.
    sets ! (of_opd ! (load ! (through ! refl (fld ! refl (stop !))) (look ! 0 refl))) refl (Ptr-Good d.head) $
    pointer_out ! tt d.head b (o + 0) $
    returns ! (look_at ! 0 refl) $ free_all ! refl $ keep ! (0 ∷ []) $
    suffices ! _ (ends_at 𝓛 ended hs c z (ptr_val d.head) d.head (tt, tt) (tt, tt)) $ says ! (λ h. head_place d.cells d.head d.head h d.placed.0) $
    feq_i ! (List Val) (ptr_val d.head ∷ []) (ptr_val d.head ∷ []) refl $ nothing ! $ nothing ! $ fjoin ! $ join ! $ nothing ! $ move ! (2 ∷ 0 ∷ []) $ join ! $ join ! $ done !))))
