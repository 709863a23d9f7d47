-- What a setting does to the blocks. Of the blocks that are open the innermost comes first, by their numbers.
use Rattle.std.specs.Prelude.{ℕ, zero, suc, ◌==◌, List, [], ◌∷◌, ◌++◌, Option, Some, None, Bool, true, false, not, ◌&&◌, ◌||◌, is_some, if◌then◌else◌, Result, Ok, Err, codes, nat_eq}
use Rattle.std.specs.Str.{bytes_eq}
use Rattle.std.specs.List.{starts_with}
use Rattle.conf_value.specs.declared.value.Value.{Value, out-Value}
use Rattle.conf_value.specs.declared.value.Pair.{Pair, out-Pair}
use Rattle.conf_value.specs.declared.block.Setting.{Setting}
use Rattle.conf_value.specs.declared.block.Block.{Block}
use Rattle.conf_value.specs.declared.block.Warning.{Warning}
use Rattle.conf_parse.specs.declared.tree.Term.{Term}
use Rattle.conditions.specs.Marked.{Marked}
use Rattle.settings.specs.declared.key.Key.{Key}
use Rattle.settings.specs.declared.key.Key.TheVariants as keys
use Rattle.settings.specs.Keys as typed
use Rattle.settings.specs.Checking.{check}
use Rattle.settings.specs.Keys.{is_rule_list}
use Rattle.settings.specs.Kinds.{pairs_in}
use Rattle.settings.specs.declared.checking.KeyCheck.{KeyCheck}
use Rattle.settings.specs.declared.checking.KeyCheck.TheVariants as found
use Rattle.conf_eval.specs.declared.halt.Wrong.{Wrong}
use Rattle.conf_eval.specs.declared.halt.Wrong.TheVariants.{Duplicate, WrongType, BadValue}
use Rattle.conf_eval.specs.Faults.{proceed}
use Rattle.conf_eval.specs.Values.{Text, Valued, joins, sum_value}

-- ---- the settings of a block

abbrev pub setting : Text → Value → ℕ → Setting
setting key value first = record { key = key; value = value; first_pattern = first }

-- what a key is set to
abbrev pub value_of : Text → List Setting → Option Value
value_of key [] = None
value_of key (s ∷ settings) = if bytes_eq s.key key then Some s.value else value_of key settings

-- a key is set: in its place if it was set before, else behind the others
abbrev pub with_setting : List Setting → Setting → List Setting
with_setting [] new = new ∷ []
with_setting (s ∷ settings) new = if bytes_eq s.key new.key then new ∷ settings else s ∷ with_setting settings new

-- ---- blocks

-- the global block
abbrev pub global : List Setting → Block
global settings = record { parent = 0; chain = None; condition = None; settings = settings }

-- the blocks, where there is the global one alone
abbrev pub blocks_of : List Setting → List Block
blocks_of settings = global settings ∷ []

-- a block with other settings
abbrev pub set_to : Block → List Setting → Block
set_to b settings = record b { settings = settings }

-- what a block with this number sets
abbrev pub settings_of : ℕ → List Block → List Setting
settings_of n [] = []
settings_of zero (b ∷ blocks) = b.settings
settings_of (suc n) (b ∷ blocks) = settings_of n blocks

-- a block sets a key
abbrev pub with_key : ℕ → Setting → List Block → List Block
with_key n new [] = []
with_key zero new (b ∷ blocks) = set_to b (with_setting b.settings new) ∷ blocks
with_key (suc n) new (b ∷ blocks) = b ∷ with_key n new blocks

abbrev pub or_else : Option Value → Option Value → Option Value
or_else (Some value) other = Some value
or_else None other = other

-- the value of a key in the nearest of these blocks that sets it
abbrev pub nearest : List Block → List ℕ → Text → Option Value
nearest blocks [] key = None
nearest blocks (n ∷ scopes) key = or_else (value_of key (settings_of n blocks)) (nearest blocks scopes key)

-- the number of the innermost block
abbrev pub innermost : List ℕ → ℕ
innermost [] = 0
innermost (n ∷ scopes) = n

-- ---- a setting

-- what was loaded so far
pub record State : Type 0 where
  pub blocks : List Block
  pub warnings : List Warning
  -- the patterns that were made, by their texts, each with the mark whether it is a rule's
  pub patterns : List Marked
  -- how many texts were fetched
  pub files : ℕ
  -- how many bytes more the texts may have
  pub room : ℕ

-- one key of mod_rewrite has two names
abbrev pub key_of : Text → Text
key_of word = if bytes_eq word (codes "url.rewrite") then codes "url.rewrite-once" else word

abbrev pub is_variable : Text → Bool
is_variable key = starts_with nat_eq key (codes "var.")

-- `=` takes the value as it is, `+=` joins it to the one that is there
abbrev pub appended : Option Value → Value → Valued
appended None value = Ok value
appended (Some before) value = joins before value

abbrev pub assigned : Bool → Option Value → Value → Valued
assigned false before value = Ok value
assigned true before value = appended before value

-- the key counts in the global block alone
abbrev pub is_global_key : Option Key → Bool
is_global_key (Some key) = typed.is_global key
is_global_key None = false

abbrev pub is_global : Text → Bool
is_global key = is_global_key (typed.key_of key)

-- the key is one of gateways, which aren't served yet
abbrev pub is_unserved_key : Option Key → Bool
is_unserved_key (Some keys.FastcgiServer) = true
is_unserved_key (Some keys.FastcgiBalance) = true
is_unserved_key (Some keys.ProxyServer) = true
is_unserved_key (Some keys.ProxyBalance) = true
is_unserved_key other = false

abbrev pub is_unserved : Text → Bool
is_unserved key = is_unserved_key (typed.key_of key)

-- whether a setting gives a warning, in the block of this number; a value of another kind comes before a wrong value
abbrev pub warns : KeyCheck → Text → ℕ → Result Bool Wrong
warns found.Known key block = Ok (is_unserved key || (is_global key && not (block == 0)))
warns found.Partly key block = Ok true
warns found.Unknown key block = Ok (not (is_variable key))
warns found.WrongType key block = Err WrongType
warns found.BadValue key block = Err BadValue

abbrev pub warning : Text → ℕ → ℕ → Warning
warning key file line = record { key = key; file = file; line = line }

-- the key is set, with its warning if it gives one
abbrev pub with_warning : Bool → Warning → List Warning → List Warning
with_warning true w warnings = warnings ++ w ∷ []
with_warning false w warnings = warnings

-- the value that a key gets, and whether it gives a warning in the block of this number
abbrev pub with_check : Text → ℕ → Value → Result (Value × Bool) Wrong
with_check key block value = proceed (warns (check key value) key block) (λ warned. Ok (value, warned))

-- the sum is joined, then checked
abbrev pub with_sum : List ℕ → List Block → Text → Bool → Value → Result (Value × Bool) Wrong
with_sum scopes blocks key add sum = proceed (assigned add (nearest blocks scopes key) sum) (with_check key (innermost scopes))

-- the value is taken, then joined, then checked
abbrev pub checked : List ℕ → List Block → Text → Bool → List Term → Result (Value × Bool) Wrong
checked scopes blocks key add terms = proceed (sum_value (nearest blocks scopes) 64 terms) (with_sum scopes blocks key add)

-- `=` may not name a key that this block has set
abbrev pub settled : List ℕ → List Block → Text → Bool → List Term → Result (Value × Bool) Wrong
settled scopes blocks key add terms =
    if not add && is_some (value_of key (settings_of (innermost scopes) blocks)) then Err Duplicate else checked scopes blocks key add terms

-- ---- rules

-- the rules of a value of this key
abbrev pub rules_of : Text → Value → List Pair
rules_of key value = if is_rule_list key then pairs_in (out-Value value) else []

abbrev pub text_or_none : Option Text → Text
text_or_none (Some text) = text
text_or_none None = []

-- the text of a rule's pattern
abbrev pub pattern_of : Pair → Text
pattern_of rule = text_or_none (out-Pair rule).key

-- the number of the first pattern of a setting, where so many were made before
abbrev pub first_of : Text → ℕ → ℕ
first_of key made = if is_rule_list key then made else 0

-- ---- what is kept

-- the block with this number sets a key, with its warning if it gives one
abbrev pub keeps : ℕ → ℕ → ℕ → Setting → Bool → State → State
keeps file line block new warned s =
    record s { blocks = with_key block new s.blocks; warnings = with_warning warned (warning new.key file line) s.warnings }
