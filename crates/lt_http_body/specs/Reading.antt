-- What bytes are to a body.
use Rattle.std.specs.Prelude.{◌≡◌, ℕ, ◌+◌, List, [], ◌∷◌, ◌++◌, length, if◌then◌else◌}
use Rattle.lt_http_body.specs.declared.standing.Standing.{Standing}
use Rattle.lt_http_body.specs.Standings.{step, is_over, kept_from}

-- where the body stands behind the bytes
unfoldable pub standing_after : Standing → List ℕ → Standing
standing_after s [] = s
standing_after s (byte ∷ bytes) = standing_after (step s byte) bytes

-- the data among the bytes
unfoldable pub data_in : Standing → List ℕ → List ℕ
data_in s [] = []
data_in s (byte ∷ bytes) = kept_from s.state byte ++ data_in (step s byte) bytes

-- how many of the bytes are the body's own: those up to its end, or up to the byte at which it is refused
unfoldable pub taken_in : Standing → List ℕ → ℕ
taken_in s [] = 0
taken_in s (byte ∷ bytes) = (if is_over s.state then 0 else 1) + taken_in (step s byte) bytes

-- the bytes hold no data, all are the body's own, and it stands there behind them
pub record Passes (s : Standing) (bytes : List ℕ) (behind : Standing) : Type 0 where
  pub stands : standing_after s bytes ≡ behind
  pub none : data_in s bytes ≡ []
  pub all : taken_in s bytes ≡ length bytes
