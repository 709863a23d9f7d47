-- How large the size of a chunk is.
use Rattle.std.proofs.Common.{ℕ, ◌^◌, ◌<◌, ◌≤◌, lit<, arith}
use Rattle.std.proofs.Math.Nat.{pow-le-pow_right}

-- one digit more fits 64 bits
pub with_room : (digits size : ℕ) → digits < 15 → size < 16 ^ digits → size < 2 ^ 56
with_room digits size few small = let top : 16 ^ digits ≤ 16 ^ 14 = pow-le-pow_right {n = 16} (lit< tt) {i = digits} {j = 14} (omega arith) in omega arith
