-- What a pattern finds: the texts of the groups 0 to 9 of its leftmost match, by the definition of `regex`.
use Rattle.std.specs.Prelude.{◌≡◌, ℕ, List, [], ◌∷◌, map, Option, Some, None, option_map, option_and_then, unwrap_or, slice_get, slice_range, false, chars}
use Rattle.std.specs.List.{range_with_len}
use Rattle.regex_syntax.specs.Grammar.{read}
use Rattle.regex.specs.Patterns.{Re, Match, find, span, Config, default_config}
use Rattle.regex.specs.Writes.{group_of}
use Rattle.regex.specs.Bytes.{regex_source, regex_config, IsReadFromSource}
use Rattle.regex.specs.declared.bytes.regex.Regex.{Regex}

-- a group by its number; one that is not there is empty
abbrev pub group_at : List (List ℕ) → ℕ → List ℕ
group_at groups n = unwrap_or (slice_get groups n) []

-- the bytes of a span, empty where there is none
abbrev pub text_of : List ℕ → Option (ℕ × ℕ) → List ℕ
text_of hay None = []
text_of hay (Some p) = slice_range hay p.0 p.1

-- the texts of its groups 0 to 9; group 0 is the whole match
unfoldable pub group_texts : List ℕ → Match → List (List ℕ)
group_texts hay m = text_of hay (Some (span m)) ∷ map (λ n. text_of hay (group_of m n)) (range_with_len 1 9)

-- the groups of the leftmost match, if there is one
abbrev pub groups_in : Re → List ℕ → Option (List (List ℕ))
groups_in re hay = option_map (group_texts hay) (find re hay 0)

-- how the bytes of a configuration's pattern are read
abbrev pub bytes_config : Config
bytes_config = record default_config { utf8 = false }

-- the compiled pattern is what the grammar of regular expressions reads in its text
pub record IsRead (r : Regex) : Type 0 where
  pub config : regex_config r ≡ bytes_config
  pub read : IsReadFromSource r

-- the same, with this text
pub record IsPatternOf (text : List ℕ) (r : Regex) : Type 0 where
  pub source : regex_source r ≡ text
  pub is_read : IsRead r

-- what the text stands for in the grammar, if it is in it
abbrev pub re_of : List ℕ → Option Re
re_of text = option_map (λ p. p.0.value) (read bytes_config (chars text))

-- the groups that the pattern with this text has in the bytes, if it matches there
abbrev pub groups_by : List ℕ → List ℕ → Option (List (List ℕ))
groups_by text hay = option_and_then (λ re. groups_in re hay) (re_of text)
