-- What one read at a place gives (POSIX, "pread").
use Rattle.std.specs.Prelude.{◌≡◌, ℕ, ◌<◌, ◌≤◌, List, length, take, drop}

-- the next bytes from `start` on, and none only past the end or into no room
pub record GivesAt (n start : ℕ) (bytes buf : List ℕ) : Type 0 where
  pub next : take n buf ≡ take n (drop start bytes)
  pub there : n ≤ length (drop start bytes)
  pub past_end : 0 < length buf → n ≡ 0 → length bytes ≤ start
