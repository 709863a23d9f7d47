-- A device: where keys stand in a list of items that have one.
use Rattle.std.specs.Prelude.{ℕ, suc, List, [], ◌∷◌, Option, Some, None, Bool, Vec, if◌then◌else◌}
use Rattle.std.specs.Str.{bytes_eq}
use Rattle.std.specs.Map.{lookup}
use Rattle.std.specs.declared.alloc.Global.{Global}
use Rattle.conf_value.specs.declared.block.Setting.{Setting}
use Rattle.conf_eval.specs.declared.places.Places.{Places}

-- where a key stands by what is kept
abbrev pub place_in : Places → List ℕ → Option ℕ
place_in places key = lookup (λ (k : Vec ℕ Global). bytes_eq key k.items) places.by_key.entries

-- one further
abbrev pub further : Option ℕ → Option ℕ
further (Some at) = Some (suc at)
further None = None

-- the first item that has a key
abbrev pub place : {A : Type 0} → (A → List ℕ → Bool) → List A → List ℕ → Option ℕ
place has [] key = None
place has (x ∷ items) key = if has x key then Some 0 else further (place has items key)

-- the setting is of this key
abbrev pub sets_key : Setting → List ℕ → Bool
sets_key s key = bytes_eq s.key key

abbrev pub place_of_setting : List Setting → List ℕ → Option ℕ
place_of_setting = place sets_key
