-- An index of media types: slots of entries, by the last three bytes of a key or all of a shorter one. A key that ends a
-- path has these bytes in common with it, so it stands in the slot of the path's last bytes.
use Rattle.std.specs.Prelude.{◌≡◌, ℕ, ◌+◌, ◌-◌, ◌*◌, ◌<◌, ◌%◌, Bool, ◌==◌, min, List, [], ◌∷◌, length, drop, map, filter, filter_map, Option, Some, None, slice_get, if◌then◌else◌}
use Rattle.conf_value.specs.declared.value.Pair.{Pair}
use Rattle.static_files.specs.declared.type_index.Slot.{Slot}
use Rattle.static_files.specs.MediaTypes.{MediaType, media_type_of, better, type_of}

-- the last bytes of a text, so many, or all of a shorter one
abbrev pub ending : ℕ → List ℕ → List ℕ
ending count text = drop (length text - count) text

-- the slot of these last bytes, among so many
abbrev pub slot_of : ℕ → List ℕ → ℕ
slot_of slots [] = 0
slot_of slots (a ∷ []) = a % slots
slot_of slots (a ∷ b ∷ []) = (a * 256 + b) % slots
slot_of slots (a ∷ b ∷ c ∷ rest) = ((a * 256 + b) * 256 + c) % slots

-- the type has its place in this slot
abbrev pub is_in : ℕ → ℕ → MediaType → Bool
is_in slots at t = slot_of slots (ending 3 t.key) == at

-- how many of a key's last bytes count for its slot
abbrev pub window_of : MediaType → ℕ
window_of t = min 3 (length t.key)

abbrev pub has_window : ℕ → MediaType → Bool
has_window window t = window_of t == window

-- the longest of the types that are kept, as `longest` has it
abbrev pub longest_by : (MediaType → Bool) → List ℕ → List MediaType → Option MediaType
longest_by keep path [] = None
longest_by keep path (t ∷ types) = better path (if keep t then Some t else None) (longest_by keep path types)

-- what may count of a list of pairs
abbrev pub types_of : List Pair → List MediaType
types_of pairs = filter_map media_type_of pairs

abbrev pub slot_types : Option Slot → List MediaType
slot_types None = []
slot_types (Some slot) = map type_of slot.entries.items

abbrev pub types_at : List Slot → ℕ → List MediaType
types_at slots at = slot_types (slice_get slots at)

-- each slot has its types, in their order
abbrev pub AreSlots : List Slot → List Pair → Type 0
AreSlots slots pairs = (at : ℕ) → at < length slots → types_at slots at ≡ filter (is_in (length slots) at) (types_of pairs)
