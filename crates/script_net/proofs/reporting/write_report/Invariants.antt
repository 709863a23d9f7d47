use Rattle.std.proofs.Common.{◌≡◌, ◌≤◌, ◌++◌}
use Rattle.script_net.specs.Reports.{lines_below}
use Rattle.script_net.proofs.reporting.write_report.Given as goal

abbrev pub invariant-loop-link : goal.invariant-loop-link
invariant-loop-link g l = record {
  written : g.S.Sink.tells → g.S.Sink.bytes l.sink ≡ g.S.Sink.bytes l.initial.sink ++ lines_below l.link l.links.trace;
  faults : g.S.Sink.faults l.initial.sink ≤ g.S.Sink.faults l.sink;
  later : g.S.Sink.later l.initial.sink l.sink;
}
