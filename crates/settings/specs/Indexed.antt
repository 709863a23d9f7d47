-- Where keys are set, and which of these places counts (lighttpd documentation, "Configuration": a later block that holds goes
-- before an earlier one).
use Rattle.std.specs.Prelude.{◌≡◌, ℕ, zero, suc, ◌+◌, ◌-◌, nat_le, Bool, true, false, List, [], ◌∷◌, length, map, take, position, get_or, Option, None, Some, option_map, if◌then◌else◌}
use Rattle.std.specs.Str.{bytes_eq}
use Rattle.conf_value.specs.declared.value.Value.{out-Value}
use Rattle.conf_value.specs.declared.block.Setting.{Setting}
use Rattle.conf_value.specs.declared.block.Block.{Block}
use Rattle.conf_value.specs.declared.truth.Truth.{Truth}
use Rattle.conf_value.specs.declared.truth.Truth.TheVariants.{True, False, Unset}
use Rattle.settings.specs.declared.places.Place.{Place}
use Rattle.settings.specs.declared.places.Index.{Index}
use Rattle.settings.specs.declared.counting.Counting.{Counting}
use Rattle.settings.specs.declared.key.Key.{Key}
use Rattle.settings.specs.declared.key.TheConstants.{KEYS}
use Rattle.settings.specs.Keys.{name, row, is_global, is_gateway}
use Rattle.settings.specs.Kinds.{pairs_in}

-- ---- lists of hosts, each with a number of its own: over the blocks in order, in each over its settings and their entries

-- how many lists of hosts a setting has
abbrev pub lists_in : Setting → ℕ
lists_in setting = if is_gateway setting.key then length (pairs_in (out-Value setting.value)) else 0

abbrev pub lists_of : List Setting → ℕ
lists_of [] = 0
lists_of (setting ∷ settings) = lists_in setting + lists_of settings

abbrev pub lists_of_all : List Block → ℕ
lists_of_all [] = 0
lists_of_all (block ∷ blocks) = lists_of block.settings + lists_of_all blocks

-- what is left of so many where these are taken, if they are not more
abbrev pub less : ℕ → ℕ → Option ℕ
less left taken = if nat_le taken left then Some (left - taken) else None

-- ---- where a key is set

-- the setting has this key
abbrev pub is_of : List ℕ → Setting → Bool
is_of key setting = bytes_eq setting.key key

-- where a key stands among the settings of the block with this number, before which there are so many lists of hosts
abbrev pub place_of : List ℕ → ℕ → ℕ → List Setting → Option Place
place_of key block lists settings = option_map (λ at. record { block = block; at = at; first_list = lists + lists_of (take at settings) }) (position (is_of key) settings)

abbrev pub with_place : Option Place → List Place → List Place
with_place (Some place) places = place ∷ places
with_place None places = places

-- the places of a key in the order of their blocks, of which the first has this number
abbrev pub places_from : List ℕ → ℕ → ℕ → List Block → List Place
places_from key number lists [] = []
places_from key number lists (block ∷ blocks) =
    with_place (place_of key number lists block.settings) (places_from key (number + 1) (lists + lists_of block.settings) blocks)

-- the blocks in which a typed key counts: all, or the global one alone
abbrev pub blocks_of : Key → List Block → List Block
blocks_of key blocks = if is_global key then take 1 blocks else blocks

-- the places that count for a typed key
unfoldable pub places_of : List Block → Key → List Place
places_of blocks key = places_from (name key) 0 0 (blocks_of key blocks)

-- the index has the places of each typed key
abbrev pub IsIndexOf : List Block → Index → Type 0
IsIndexOf blocks index = index.rows ≡ map (places_of blocks) KEYS

-- ---- which place counts

abbrev pub is_true : Truth → Bool
is_true True = true
is_true False = false
is_true Unset = false

-- the first where it is there, else the second
abbrev pub or_else : Option Place → Option Place → Option Place
or_else (Some place) other = Some place
or_else None other = other

-- a place whose block has this truth
abbrev pub where_true : Truth → Place → Option Place
where_true truth place = if is_true truth then Some place else None

-- the last of these places whose block is True, where each block, by its number, has this truth
abbrev pub last_true : (ℕ → Truth) → List Place → Option Place
last_true truth [] = None
last_true truth (place ∷ places) = or_else (last_true truth places) (where_true (truth place.block) place)

-- the place of a typed key that counts: that of the last block that is True and sets it
abbrev pub winner : List Block → (ℕ → Truth) → Key → Option Place
winner blocks truth key = last_true truth (places_of blocks key)

-- truths in a list, one a block
abbrev pub truth_in : List Truth → ℕ → Truth
truth_in truths block = get_or truths block False

-- the global block is True, and no other is
abbrev pub global_alone : ℕ → Truth
global_alone zero = True
global_alone (suc block) = False

-- truths that agree at each of these places
abbrev pub AgreeAt : List Place → (ℕ → Truth) → (ℕ → Truth) → Type 0
AgreeAt [] t u = Unit {0}
AgreeAt (place ∷ places) t u = (t place.block ≡ u place.block) × AgreeAt places t u

-- ---- what was found of all keys

-- the place that was found for a key
abbrev pub place_in : Counting → Key → Option Place
place_in counting key = get_or counting.places (row key) None

-- each key has the place that counts
abbrev pub IsCountingOf : List Block → (ℕ → Truth) → Counting → Type 0
IsCountingOf blocks truth counting = (key : Key) → place_in counting key ≡ winner blocks truth key

-- for proofs alone: each of these keys has the place that is due
abbrev pub AreDue : (Key → Option Place) → List Key → Counting → Type 0
AreDue due [] counting = Unit {0}
AreDue due (key ∷ keys) counting = (place_in counting key ≡ due key) × AreDue due keys counting
