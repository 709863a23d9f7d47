use Rattle.std.proofs.Common.{◌≡◌, ◌++◌, take}
use Rattle.lt_script.specs.Printing.{printed_steps}
use Rattle.lt_script.proofs.printing.print_steps.Given as goal

abbrev pub invariant-loop-step : goal.invariant-loop-step
invariant-loop-step l = l.text ≡ l.initial.text ++ printed_steps (take l.step-index l.steps)
