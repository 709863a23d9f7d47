-- A run, turn by turn.
use Rattle.std.proofs.Common.{◌++◌, ◌∙◌, ap, arith, append_assoc}
use Rattle.server_model.specs.Site.{Site}
use Rattle.server_model.specs.Turns.{Seen, Grows}
use Rattle.server_model.specs.Runs.{Told, IsRun, none, more}
use Rattle.server_model.proofs.Turning.{grows_none}

grows_both : (a b c : Seen) → Grows a b → Grows b c → Grows a c
grows_both a b c first second = record {
  tree = second.tree ∙ first.tree;
  log = (second.log.0 ++ first.log.0, append_assoc second.log.0 first.log.0 a.disk.calls ∙ ap (λ l. second.log.0 ++ l) first.log.1 ∙ second.log.1);
  faults = omega (arith, first.faults, second.faults);
}

pub run_grows : (site : Site) (before after : Told) → IsRun site before after → Grows before.seen after.seen
run_grows site before after none = grows_none before.seen
run_grows site before after (more run turn) = grows_both before.seen _ after.seen (run_grows site before _ run) turn.grows
