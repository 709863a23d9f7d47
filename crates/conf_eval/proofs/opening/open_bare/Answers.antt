use Rattle.std.proofs.Common.{◌≡◌, ◌∙◌, ℕ, Option, Some, None, ap, sym, subst}
use Rattle.conf_eval.specs.declared.fault.LoadError.{LoadError}
use Rattle.conf_eval.specs.Answers.{Ran}
use Rattle.conf_eval.specs.Calls.{no_calls}
use Rattle.conf_eval.specs.Kept.{state_of}
use Rattle.conf_eval.specs.Opening as spec
use Rattle.conf_eval.specs.Parts.{Stopped}
use Rattle.conf_eval.proofs.Loads.{stops}
use Rattle.conf_eval.proofs.opening.open_bare.Goals as goal

pub returns-in-None-clause-ran : goal.returns-in-None-clause-ran
returns-in-None-clause-ran c calls =
    let s = state_of c.args.loading.now in
    rw c.in-None.is (stops (spec.opens_bare c.args.file c.args.line c.args.scopes.now None) s s calls c.fault.result (ap (λ (x : LoadError). Stopped x no_calls) (sym c.fault.ensures)))

pub returns-in-Some-clause-ran : goal.returns-in-Some-clause-ran
returns-in-Some-clause-ran c calls = rw c.in-Some.is (c.open_else.ensures.ran calls)
