use Rattle.std.proofs.Common.{◌≡◌, ℕ, ◌+◌, ◌-◌, ◌<◌, ◌≤◌, ◌++◌, List, length, drop, true, false}
use Rattle.std.specs.Prelude.{option_map}
use Rattle.http_head.specs.Scan.{is_ended, end_behind}
use Rattle.http_head.proofs.scan.Place.behind.Given as goal

abbrev pub invariant-loop-at : goal.invariant-loop-at
invariant-loop-at l = record {
  within : l.at ≤ length l.bytes;
  some : is_ended l.fn.self ≡ false → is_ended l.place ≡ true → 0 < l.at;
  ends : (more : List ℕ) → end_behind l.fn.self (l.bytes ++ more) ≡ option_map (λ n. l.at + n) (end_behind l.place (drop l.at l.bytes ++ more));
}

abbrev pub decreases-loop-at : goal.decreases-loop-at
decreases-loop-at l = length l.bytes - l.at
