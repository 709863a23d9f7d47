use Rattle.std.proofs.Common.{ap, sym, ◌∙◌, ◌∷◌, [], ◌++◌}
use Rattle.conf_eval.specs.Kept.{state_of}
use Rattle.conf_eval.specs.Opening as spec
use Rattle.conf_eval.specs.Parts.{Went}
use Rattle.conf_eval.specs.Settings.{State}
use Rattle.conf_eval.proofs.Loads.{goes, lacks_memory, state_is}
use Rattle.conf_eval.proofs.opening.open.Goals as goal

pub returns-in-Ok-clause-ran : goal.returns-in-Ok-clause-ran
returns-in-Ok-clause-ran c calls =
    let l = c.args.loading.now in
    goes (spec.opens_with c.args.scopes.now c.args.behind c.args.condition) (state_of l) _ calls
    (λ others. ap (λ (s : State). Went s others) (state_is l.warnings l.files l.room (l.built.blocks ++ spec.block c.args.scopes.now c.args.behind c.args.condition ∷ []) c.open.new.self.blocks l.built.patterns c.open.new.self.patterns
    (sym c.in-Ok.ensures.blocks) (sym c.in-Ok.ensures.patterns)))

pub returns-in-Err-clause-ran : goal.returns-in-Err-clause-ran
returns-in-Err-clause-ran c calls = lacks_memory (spec.opens_with c.args.scopes.now c.args.behind c.args.condition) (state_of c.args.loading.now) _ calls tt
