use Rattle.std.proofs.Common.{◌≡◌, true, take}
use Rattle.fcgi_records.specs.States.{is_framing}
use Rattle.fcgi_records.specs.Reading.{Passes}
use Rattle.fcgi_records.specs.Sound.{IsSoundState}
use Rattle.fcgi_records.proofs.state.State.through.Given as goal

abbrev pub invariant-loop-i : goal.invariant-loop-i
invariant-loop-i l = record {
  passes : Passes l.fn.self (take l.i l.bytes) l.state;
  sound : IsSoundState l.state;
  first : l.i ≡ 0 → is_framing l.state ≡ true;
}
