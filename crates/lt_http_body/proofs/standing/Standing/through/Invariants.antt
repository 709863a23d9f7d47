use Rattle.std.proofs.Common.{◌≡◌, true, take}
use Rattle.lt_http_body.specs.Standings.{is_in_line}
use Rattle.lt_http_body.specs.Reading.{Passes}
use Rattle.lt_http_body.specs.Sound.{IsSoundState}
use Rattle.lt_http_body.proofs.standing.Standing.through.Given as goal

abbrev pub invariant-loop-i : goal.invariant-loop-i
invariant-loop-i l = record {
  passes : Passes l.fn.self (take l.i l.bytes) l.standing;
  sound : IsSoundState l.standing.state;
  first : l.i ≡ 0 → is_in_line l.standing.state ≡ true;
}
