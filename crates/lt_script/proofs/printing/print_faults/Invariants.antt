use Rattle.std.proofs.Common.{◌≡◌, ◌++◌, take}
use Rattle.lt_script.specs.Printing.{printed_faults}
use Rattle.lt_script.proofs.printing.print_faults.Given as goal

abbrev pub invariant-loop-fault : goal.invariant-loop-fault
invariant-loop-fault l = l.text ≡ l.initial.text ++ printed_faults (take l.fault-index l.faults)
