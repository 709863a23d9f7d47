-- Slots as they are filled.
use Rattle.std.proofs.Common.{◌≡◌, ◌≢◌, ℕ, zero, suc, ◌<◌, Bool, true, false, List, [], ◌∷◌, ◌++◌, length, map, get_or, Option, Some, None, if◌then◌else◌, ◌==◌, refl, sym, ◌∙◌, ap, arith}
use Rattle.std.specs.Prelude.{filter, slice_set}
use Rattle.std.specs.List.{cons_option}
use Rattle.std.proofs.lemmas.Bool.{eqb-true, eqb-false}
use Rattle.std.proofs.lemmas.List.{append-nil, map-append}
use Rattle.std.proofs.lemmas.Option.{slice_get_read}
use Rattle.std.proofs.lemmas.List.Elements.{filter-append, filter_map-append}
use Rattle.conf_value.specs.declared.value.Pair.{Pair}
use Rattle.static_files.specs.declared.media_types.Entry.{Entry}
use Rattle.static_files.specs.declared.type_index.Slot.{Slot}
use Rattle.static_files.specs.MediaTypes.{MediaType, media_type_of, type_of}
use Rattle.static_files.specs.TypeSlots.{ending, slot_of, is_in, types_of, slot_types, types_at, AreSlots}

-- no slot has a type
abbrev pub AreEmpty : List Slot → Type 0
AreEmpty slots = (at : ℕ) → types_at slots at ≡ []

pub empty_more : (slots : List Slot) (slot : Slot) → slot_types (Some slot) ≡ [] → AreEmpty slots → AreEmpty (slots ++ slot ∷ [])
empty_more [] slot e none zero = e
empty_more [] slot e none (suc at) = refl
empty_more (s ∷ slots) slot e none zero = none 0
empty_more (s ∷ slots) slot e none (suc at) = empty_more slots slot e (λ n. none (suc n)) at

-- a pair of which nothing counts
pub unchanged : (slots : List Slot) (before : List Pair) (pair : Pair) → None ≡ media_type_of pair → AreSlots slots before → AreSlots slots (before ++ pair ∷ [])
unchanged slots before pair none are at lt =
    let one : types_of (pair ∷ []) ≡ [] = ap (λ (m : Option MediaType). cons_option m []) (sym none) in
    let all : types_of (before ++ pair ∷ []) ≡ types_of before = filter_map-append media_type_of before (pair ∷ []) ∙ ap (λ (x : List MediaType). types_of before ++ x) one ∙ append-nil (types_of before) in
    rw all (are at lt)

-- a type behind the others of its slot
pub filled : (slots after : List Slot) (before : List Pair) (pair : Pair) (t : MediaType) (at : ℕ) → Some t ≡ media_type_of pair → at ≡ slot_of (length slots) (ending 3 t.key)
    → length after ≡ length slots → types_at after at ≡ types_at slots at ++ t ∷ [] → ((other : ℕ) → other ≢ at → types_at after other ≡ types_at slots other)
    → AreSlots slots before → AreSlots after (before ++ pair ∷ [])
filled slots after before pair t at some is count here others are other lt =
    let one : types_of (pair ∷ []) ≡ t ∷ [] = ap (λ (m : Option MediaType). cons_option m []) (sym some) in
    let all : types_of (before ++ pair ∷ []) ≡ types_of before ++ t ∷ [] = filter_map-append media_type_of before (pair ∷ []) ∙ ap (λ (x : List MediaType). types_of before ++ x) one in
    let each : filter (is_in (length slots) other) (types_of before ++ t ∷ []) ≡ filter (is_in (length slots) other) (types_of before) ++ filter (is_in (length slots) other) (t ∷ []) =
    filter-append (is_in (length slots) other) (types_of before) (t ∷ []) in
    let old : types_at slots other ≡ filter (is_in (length slots) other) (types_of before) = are other (omega (arith, count, lt)) in
    rw (all, count, each, sym old) (by (slot_of (length slots) (ending 3 t.key) == other) refl)
  where
    by : (b : Bool) → (slot_of (length slots) (ending 3 t.key) == other) ≡ b → types_at after other ≡ types_at slots other ++ (if b then t ∷ [] else [])
    by true e = let same : at ≡ other = is ∙ eqb-true (slot_of (length slots) (ending 3 t.key)) other e in rw (sym same) here
    by false e = others other (λ same. eqb-false (slot_of (length slots) (ending 3 t.key)) other e (sym is ∙ sym same)) ∙ sym (append-nil (types_at slots other))

-- an entry behind the others of its slot
pub put_here : (slots : List Slot) (at : ℕ) (old after : Slot) (t : Entry) → at < length slots → old ≡ get_or slots at old → after.entries.items ≡ old.entries.items ++ t ∷ []
    → types_at (slice_set slots at after) at ≡ types_at slots at ++ type_of t ∷ []
put_here [] at old after t lt is items = absurd (omega arith)
put_here (s ∷ slots) zero old after t lt is items = ap (map type_of) items ∙ map-append type_of old.entries.items (t ∷ []) ∙ ap (λ (o : Slot). map type_of o.entries.items ++ type_of t ∷ []) is
put_here (s ∷ slots) (suc at) old after t lt is items = put_here slots at old after t (omega arith) is items

pub put_others : (slots : List Slot) (at : ℕ) (after : Slot) (other : ℕ) → other ≢ at → types_at (slice_set slots at after) other ≡ types_at slots other
put_others [] at after other not = refl
put_others (s ∷ slots) zero after zero not = absurd (not refl)
put_others (s ∷ slots) zero after (suc other) not = refl
put_others (s ∷ slots) (suc at) after zero not = refl
put_others (s ∷ slots) (suc at) after (suc other) not = put_others slots at after other (λ same. not (ap suc same))

-- what is read from a place
pub read_at : (slots : List Slot) (at : ℕ) (slot : Slot) → at < length slots → slot ≡ get_or slots at slot → types_at slots at ≡ map type_of slot.entries.items
read_at slots at slot lt is = ap slot_types (slice_get_read slots (length slots) at slot refl lt is)
