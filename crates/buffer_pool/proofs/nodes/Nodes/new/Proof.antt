-- `new` owns nothing. Assumes `Logic`.
use Rattle.buffer_pool.proofs.Steps.{[], ◌∷◌, refl, lit<, Fn, ftrue, tables, ‵, ◌⊛◌, split, ◌$◌, ◌∵◌, !, qed, keep, join, suffices, done, agg, lit, and_then, no_more, returns, enter, alloc_all, pass_all, free_all, look_at, sets, null_ptr, nothing, says, Stays, walk_of, ends_at, proved_at}
use Rattle.buffer_pool.proofs.NodeSteps.{words, nodes_made}
use Rattle.buffer_pool.specs.declared.nodes.Nodes.{Nodes}
use Rattle.buffer_pool.specs.contracts.nodes.Nodes.new.{ended, clauses}
use Rattle.buffer_pool.specs.contracts.nodes.Nodes.new.Key.{name as #self}
use Rattle.buffer_pool.proofs.nodes.Nodes.new.Statement.{statement}
use Rattle.buffer_pool.proofs.nodes.Nodes.new.Code as code

pub new_spec : {M : Type 1} → statement M
new_spec 𝓤 𝓛 𝓜 𝓡 wired =
    let H = 𝓛.H in let 𝓣 = tables 𝓤 H 𝓜 𝓡 𝓡.env in let fn : Fn = code.function in let c = clauses 𝓛 𝓜.mem 𝓡.returns in
    let hs : Stays ended.signature.params ended.kept = tt in
    proved_at 𝓛 ended hs c 𝓜 𝓡 tt #self fn (code.unfolded 𝓤 H 𝓜 𝓡 wired) (λ z are.
    let Post = (walk_of 𝓛 ended hs c).post z in
    let new : Nodes = record { head = null_ptr; tail = null_ptr; cells = []; end = null_ptr; placed = (refl, refl) } in
    qed 𝓛 ((‵ ftrue ⊛ ‵ ftrue) ∷ ‵ ftrue ∷ []) ∵ split ! $ enter ! 𝓣.C 𝓣.Λ fn [] Post $ alloc_all ! (λ l. pass_all ! refl tt $
    sets ! (agg ! (and_then ! (lit ! tt) (and_then ! (lit ! tt) (no_more !)))) refl (tt, (record { fits = lit< tt }, (record { fits = lit< tt }, tt))) $
    returns ! (look_at ! 0 refl) $ free_all ! refl $ keep ! [] $ nothing ! $ nodes_made ! new $
    suffices ! _ (ends_at 𝓛 ended hs c z (words null_ptr null_ptr) new tt tt) $ says ! refl $ nothing ! $ join ! $ nothing ! $ join ! $ done !))
