use Rattle.std.proofs.Common.{◌≡◌, ◌≤◌, ◌++◌, length, List, ℕ}
use Rattle.script_net.proofs.writing.write_all.Given as goal

abbrev pub invariant-loop-rest : goal.invariant-loop-rest
invariant-loop-rest g l = record {
  written : g.S.Sink.tells → (done : List ℕ) × (l.text ≡ done ++ l.rest) × (g.S.Sink.bytes l.sink ≡ g.S.Sink.bytes l.initial.sink ++ done);
  faults : g.S.Sink.faults l.initial.sink ≤ g.S.Sink.faults l.sink;
  later : g.S.Sink.later l.initial.sink l.sink;
}

abbrev pub decreases-loop-rest : goal.decreases-loop-rest
decreases-loop-rest g l = length l.rest
