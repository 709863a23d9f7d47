use Rattle.std.proofs.Common.{◌≡◌, take}
use Rattle.script_net.proofs.load.copy_faults.Given as goal

abbrev pub invariant-loop-fault : goal.invariant-loop-fault
invariant-loop-fault l = l.copy ≡ take l.fault-index l.faults
