-- Rules of a rewrite (lighttpd documentation, mod_rewrite): `url.rewrite-once` and `url.rewrite-repeat`.
use Rattle.std.specs.Prelude.{◌≡◌, ℕ, ◌+◌, ◌<◌, ◌^◌, true, List, [], ◌∷◌, length, Option, Some, None, option_map, slice_get}
use Rattle.conf_value.specs.declared.value.Pair.{Pair, out-Pair}
use Rattle.conf_value.specs.declared.value.Value.{Value, out-Value}
use Rattle.conf_value.specs.declared.value.Value.TheOpen.{Value-F}
use Rattle.conditions.specs.Groups.{groups_by}
use Rattle.conditions.specs.Marked.{Marked}

-- a pattern, and what stands in the target's place where it matches
pub record Rule : Type 0 where
  pub pattern : List ℕ
  pub replacement : List ℕ

abbrev pub text_of : Value-F Value Pair → Option (List ℕ)
text_of (Value-F.Text text) = Some text
text_of value = None

abbrev pub rule_by : Option (List ℕ) → Option (List ℕ) → Option Rule
rule_by (Some pattern) (Some replacement) = Some (record { pattern = pattern; replacement = replacement })
rule_by pattern replacement = None

-- a pair with a key and a text as its value; any other is no rule
abbrev pub rule_of : Pair → Option Rule
rule_of pair = rule_by (out-Pair pair).key (text_of (out-Value (out-Pair pair).value))

-- the rules of a list in their order, and the groups of the condition of the block that sets it
pub record RuleList : Type 0 where
  pub rules : List Pair
  pub outer : List (List ℕ)

-- the two lists that win on a target
pub record Lists : Type 0 where
  pub once : RuleList
  pub repeat : RuleList

-- a rule that matched: its replacement, and the groups of its match
pub record Match : Type 0 where
  pub replacement : List ℕ
  pub groups : List (List ℕ)

-- the match of a rule in a target
abbrev pub match_of : Option Rule → List ℕ → Option Match
match_of None raw = None
match_of (Some rule) raw = option_map (λ groups. record { replacement = rule.replacement; groups = groups }) (groups_by rule.pattern raw)

abbrev pub or_first_of : Option Match → Option Match → Option Match
or_first_of None rest = rest
or_first_of (Some found) rest = Some found

-- the first rule that matches
abbrev pub first_match : List Pair → List ℕ → Option Match
first_match [] raw = None
first_match (pair ∷ pairs) raw = or_first_of (match_of (rule_of pair) raw) (first_match pairs raw)

-- the pattern of a rule is there under this number, and is a rule's
abbrev pub IsPattern : List Marked → ℕ → Option Rule → Type 0
IsPattern patterns n None = Unit {0}
IsPattern patterns n (Some rule) = slice_get patterns n ≡ Some (rule.pattern, true)

-- the patterns of the rules are there, one number after another
abbrev pub ArePatterns : List Marked → ℕ → List Pair → Type 0
ArePatterns patterns first [] = Unit {0}
ArePatterns patterns first (pair ∷ pairs) = IsPattern patterns first (rule_of pair) × ArePatterns patterns (first + 1) pairs

-- and their numbers have 32 bits
pub record AreNumbered (patterns : List Marked) (first : ℕ) (pairs : List Pair) : Type 0 where
  pub all : ArePatterns patterns first pairs
  pub few : first + length pairs < 2 ^ 32
