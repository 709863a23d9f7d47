-- Replacements of a rewrite (lighttpd documentation, mod_rewrite).
use Rattle.std.specs.Prelude.{ℕ, ◌-◌, ◌==◌, ◌&&◌, List, [], ◌∷◌, ◌++◌, if◌then◌else◌}
use Rattle.std.specs.Char.{is_ascii_digit}
use Rattle.conditions.specs.Groups.{group_at}

-- `$` and a digit stand for a group of the rule, `%` and a digit for one of the condition around it; every other byte
-- stands for itself
abbrev pub filled : List (List ℕ) → List (List ℕ) → List ℕ → List ℕ
filled own outer [] = []
filled own outer (b ∷ []) = b ∷ []
filled own outer (b ∷ d ∷ rest) =
    if is_ascii_digit d && (b == 36) then group_at own (d - 48) ++ filled own outer rest
    else (if is_ascii_digit d && (b == 37) then group_at outer (d - 48) ++ filled own outer rest
    else b ∷ filled own outer (d ∷ rest))
