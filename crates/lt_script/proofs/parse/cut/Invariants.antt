use Rattle.std.proofs.Common.{◌≡◌, ◌++◌, take, drop, option_map, List, ℕ}
use Rattle.lt_script.specs.Scripts.{cut}
use Rattle.lt_script.proofs.parse.cut.Given as goal

abbrev pub invariant-loop-i : goal.invariant-loop-i
invariant-loop-i l = option_map (λ (x : List ℕ × List ℕ). (take l.i l.bytes ++ x.0, x.1)) (cut (drop l.i l.bytes)) ≡ cut l.bytes
