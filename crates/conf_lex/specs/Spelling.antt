-- How a text is written between quotation marks (lighttpd 1.4 documentation, "Configuration").
use Rattle.std.specs.Prelude.{ℕ, ◌++◌, [], ◌∷◌, flat_map, if◌then◌else◌, ◌==◌}
use Rattle.conf_lex.specs.Tokens.{Text}

-- a byte between quotation marks
abbrev pub escaped : ℕ → Text
escaped b = if b == 34 then 92 ∷ 34 ∷ [] else b ∷ []

-- each quotation mark has a backslash before it
abbrev pub inside : Text → Text
inside = flat_map escaped

-- a text with its quotation marks
abbrev pub quoted : Text → Text
quoted t = 34 ∷ (inside t ++ 34 ∷ [])
