-- The bytes of a line that gives only their number (README.md of this crate, 'How a script is played').
use Rattle.std.specs.Prelude.{ℕ, zero, suc, ◌+◌, ◌%◌, List, [], ◌∷◌, ◌++◌}

-- the letters from `a` to `z`, again and again
abbrev pub letters : ℕ → List ℕ
letters zero = []
letters (suc n) = letters n ++ (97 + n % 26) ∷ []
