-- The numbers that are drawn for clients (README.md of this crate, 'The script'): a linear congruence modulo 2^64.
use Rattle.std.specs.Prelude.{ℕ, zero, suc, ◌+◌, ◌*◌, ◌%◌, ◌/◌, ◌^◌}

-- the draw after another
abbrev pub after : ℕ → ℕ
after draw = (draw * 6364136223846793005 + 1442695040888963407) % 2 ^ 64

-- the kth draw of so many clients; the draw before the first is their number
abbrev pub drawn : ℕ → ℕ → ℕ
drawn clients zero = clients
drawn clients (suc k) = after (drawn clients k)

-- which file is asked for, by the two highest bits of the draw
abbrev pub file_of : ℕ → ℕ
file_of draw = draw / 2 ^ 62

-- how many bytes are taken at a time, from 64 to 4,096, by the fourteen highest bits
abbrev pub piece_of : ℕ → ℕ
piece_of draw = 64 + draw / 2 ^ 50 % 4033
