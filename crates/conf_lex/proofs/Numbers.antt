-- How large a number of so many digits is.
use Rattle.std.proofs.Common.{ℕ, ◌^◌, ◌<◌, ◌≤◌, lit<, arith}
use Rattle.std.proofs.Math.Nat.{pow-le-pow_right}

-- with one digit more it still fits 64 bits
pub below_room : (count value : ℕ) → count < 18 → value < 10 ^ count → value < 100000000000000000
below_room count value few small = let top : 10 ^ count ≤ 10 ^ 17 = pow-le-pow_right {n = 10} (lit< tt) {i = count} {j = 17} (omega arith) in omega arith

pub below_most : (count value : ℕ) → count ≤ 18 → value < 10 ^ count → value < 1000000000000000000
below_most count value few small = let top : 10 ^ count ≤ 10 ^ 18 = pow-le-pow_right {n = 10} (lit< tt) {i = count} {j = 18} few in omega arith
