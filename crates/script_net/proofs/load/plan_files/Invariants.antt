use Rattle.std.proofs.Common.{◌≡◌, drop}
use Rattle.script_net.specs.Loads.{faulted}
use Rattle.script_net.proofs.load.plan_files.Given as goal

abbrev pub invariant-loop-fault : goal.invariant-loop-fault
invariant-loop-fault l = record {
  planned : faulted (drop l.fault-index l.faults) l.files ≡ faulted l.faults l.initial.files;
  rest : l.files ≡ record l.initial.files { find_plan = l.files.find_plan; open_plan = l.files.open_plan; read_plan = l.files.read_plan };
  uncounted : l.files.read_plan.made ≡ l.initial.files.read_plan.made;
}
