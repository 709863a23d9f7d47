-- `single` makes a chain of one node. Assumes `Logic`.
use Rattle.buffer_pool.proofs.Steps.{List, [], ◌∷◌, ◌++◌, refl, Fn, Val, SProp, ftrue, WpFn, tables, ‵, ◌⊛◌, prop, ◌$◌, ◌∵◌, !, qed, move, keep, split, join, regoal, fsplit, fjoin, suffices, done, whole, sub, agg, stop, fld, of_opd, and_then, no_more, returns, enter, alloc_all, pass_all, free_all, look_at, get, get_in, sets, yes, owns, Ptr, block_ptr, plain, nothing, says, Stays, stay_dropped, walk_of, ends_at, Goes-blank, proved_at}
use Rattle.buffer_pool.proofs.NodeSteps.{words, two_good, nodes_made}
use Rattle.buffer_pool.proofs.LooseSteps.{Or, lone_word, lone_good, loose_had}
use Rattle.buffer_pool.specs.declared.nodes.Nodes.{Nodes}
use Rattle.buffer_pool.specs.Links.{Cell}
use Rattle.buffer_pool.specs.contracts.nodes.Nodes.single.{ended, clauses}
use Rattle.buffer_pool.specs.contracts.nodes.Nodes.single.Key.{name as #self}
use Rattle.buffer_pool.proofs.nodes.Nodes.single.Statement.{statement}
use Rattle.buffer_pool.proofs.nodes.Nodes.single.Code as code

pub single_spec : {M : Type 1} → statement M
single_spec 𝓤 𝓛 𝓜 𝓡 wired =
    let H = 𝓛.H in let 𝓣 = tables 𝓤 H 𝓜 𝓡 𝓡.env in let fn : Fn = code.function in let c = clauses 𝓛 𝓜.mem 𝓡.returns in
    let hs : Stays ended.signature.params ended.kept = (stay_dropped (plain (λ _. Or)) yes, tt) in
    proved_at 𝓛 ended hs c 𝓜 𝓡 (Goes-blank 𝓛 0 (plain (λ _. Or)) yes (λ κs x f. tt), tt) #self fn (code.unfolded 𝓤 H 𝓜 𝓡 wired) (λ z are.
    let Post : Val → SProp 𝓤 = (walk_of 𝓛 ended hs c).post z in
    let loose = z.0.3.0 in
    qed 𝓛 ((‵ ftrue ⊛ ‵ (owns (Or ∷ []) z.0.3 z.0.4)) ∷ ‵ ftrue ∷ []) ∵
    split ! $ move ! (1 ∷ []) $ fsplit ! $ loose_had ! loose z.0.4.0 (λ b o at vs. keep ! (0 ∷ []) $
    let p : Ptr = block_ptr b o in
    let now : Cell = (p, loose.node) in
    let new : Nodes = record { head = p; tail = p; cells = now ∷ []; end = loose.node.next; placed = (refl, refl) } in
    regoal ! (λ (us : List Val). prop (WpFn 𝓤 H 𝓣.C 𝓣.Λ fn us Post)) (λ i. vs i ++ []) refl $
    enter ! 𝓣.C 𝓣.Λ fn (lone_word p ∷ []) Post $ alloc_all ! (λ l. pass_all ! refl (lone_good p, tt) $
    -- [the node]
    sets ! (of_opd ! (get_in ! (fld ! refl (stop !)) (sub ! 0 refl (whole !)))) refl (tt, tt) $
    sets ! (agg ! (and_then ! (get ! refl) (and_then ! (get ! refl) (no_more !)))) refl (two_good p p) $
    nothing ! $ move ! (1 ∷ 0 ∷ []) $ fjoin ! $ nodes_made ! new $
    returns ! (look_at ! 0 refl) $ free_all ! refl $ keep ! (0 ∷ []) $
    suffices ! _ (ends_at 𝓛 ended hs c z (words p p) new (tt, tt) (tt, tt)) $ says ! refl $
    nothing ! $ nothing ! $ fjoin ! $ join ! $ nothing ! $ join ! $ done !)))
