-- What a kept matcher finds, by the pattern and by its text.
use Rattle.std.proofs.Common.{◌≡◌, ◌≢◌, ℕ, zero, suc, ◌+◌, ◌-◌, ◌*◌, ◌<◌, ◌≤◌, cond, List, [], ◌∷◌, ◌++◌, map, length, get_or, Bool, true, false, ◌&&◌, nat_le, Option, Some, None, All, sym, refl, ap, ap₂, ◌∙◌, arith, inl, inr, ◌⊎◌, ne_eqb, true≢false, string_bytes}
use Rattle.std.specs.Prelude.{option_map, option_and_then, chars, IsSomeAnd, is_some, slice_index, slice_range}
use Rattle.std.specs.List.{range_with_len}
use Rattle.std.proofs.lemmas.Bool.{and_parts, cases_lt, cond-false, leb-true}
use Rattle.std.proofs.lemmas.List.{get_or_past, get_or_default, length-map}
use Rattle.std.proofs.lemmas.List.FromFn.{length-map-range_with_len}
use Rattle.std.proofs.lemmas.List.Elements.{All-weaker}
use Rattle.std.proofs.lemmas.Option.{same_Some}
use Rattle.regex_hir.proofs.AttemptLemmas.{cond_some}
use mathlib.Core.Path.{fun_ext}
use Rattle.regex_hir.specs.Re.{Re, accept, attempt}
use Rattle.regex_hir.specs.Find.{Match, find}
use Rattle.regex_hir.specs.Meaning.{meaning}
use Rattle.regex_hir.specs.declared.hir.Hir.{Hir}
use Rattle.regex_hir.proofs.FindLemmas.{IsFirst-of_first_between}
use Rattle.regex_vm.specs.Found.{span, group_cells}
use Rattle.regex_syntax.specs.Captures.{SameCaptures}
use Rattle.regex_syntax.specs.Grammar.{read, Names, group_count}
use Rattle.regex_syntax.specs.Brackets.{Nested}
use Rattle.regex_syntax.specs.Verdict.{Reads}
use Rattle.regex_syntax.proofs.CapturesLemmas.{spans, find_alike}
use Rattle.regex.specs.Search.{group_span}
use Rattle.regex.specs.Writes.{both, group_of}
use Rattle.regex.specs.Bytes as bytes
use Rattle.regex.specs.Bytes.{regex_pattern, regex_source}
use Rattle.regex.specs.Locations.{location, location_count, AreLocationsOf}
use Rattle.regex.specs.declared.bytes.regex.Regex.{Regex}
use Rattle.regex.specs.declared.locations.CaptureLocations.{CaptureLocations}
use Rattle.regex.proofs.GroupLemmas.{HasRoom, group_span_of_match, no_span_past_cells}
use Rattle.conditions.specs.Groups.{text_of, group_texts, groups_in, groups_by, re_of, bytes_config, IsRead}
use Rattle.conditions.specs.Kept.{AreInside}
use Rattle.conditions.proofs.Slots.{attempt_leads, accepted}

-- no match writes past the groups of the pattern
room : (re : Re) (count : ℕ) → group_count re ≤ count → HasRoom re (2 * count - 2)
room re count enough hay i t found =
    All-weaker (λ (w : ℕ × ℕ). w.0 < 2 * count) (λ w. w.0 < 2 * count - 2 + 2) (λ w low. omega arith) t.writes
    (attempt_leads (2 * count) hay re (omega arith) accept (accepted (2 * count) hay) i t found)

cells_count : (m : Match) (count : ℕ) → length (group_cells m (2 * count - 2)) ≡ 2 * count - 2
unfolding group_cells
cells_count m count = length-map-range_with_len _ 0 (2 * count - 2)

-- the tests of `group_span` say that its span is in order and lies in the bytes
tests_say : (size first last : ℕ) (p : ℕ × ℕ) → cond (nat_le 1 first && (nat_le first last && (nat_le last (size + 1) && true))) (Some (first - 1, last - 1)) None ≡ Some p
    → (p.0 ≤ p.1) × (p.1 ≤ size)
tests_say size first last p e =
    let parts = cond_some _ (Some (first - 1, last - 1)) p e in
    let one = and_parts _ _ parts.0 in
    let two = and_parts _ _ one.1 in
    let three = and_parts _ _ two.1 in
    let low : 1 ≤ first = leb-true 1 first one.0 in
    let ordered : first ≤ last = leb-true first last two.0 in
    let high : last ≤ size + 1 = leb-true last (size + 1) three.0 in
    let same : (first - 1, last - 1) ≡ p = same_Some _ p parts.1 in
    let start : first - 1 ≡ p.0 = ap (λ (q : ℕ × ℕ). q.0) same in
    let end : last - 1 ≡ p.1 = ap (λ (q : ℕ × ℕ). q.1) same in
    (omega arith, omega arith)

-- the span of a group lies in the bytes
span_inside : (hay : List ℕ) (whole : ℕ × ℕ) (cells : List ℕ) (n : ℕ) (p : ℕ × ℕ) → 1 ≤ n → group_span false hay whole cells n ≡ Some p
    → (p.0 ≤ p.1) × (p.1 ≤ length hay)
unfolding group_span
span_inside hay whole cells n p behind e =
    tests_say (length hay) (slice_index cells (2 * n - 2)) (slice_index cells (2 * n - 1)) p (sym (cond-false _ (Some whole) _ (ne_eqb n 0 (omega arith))) ∙ e)

group_place : (re : Re) (hay : List ℕ) (m : Match) (count n : ℕ) → group_count re ≤ count → find re hay 0 ≡ Some m → 1 ≤ n
    → group_span false hay (span m) (group_cells m (2 * count - 2)) n ≡ group_of m n
group_place re hay m count n enough found behind =
    group_span_of_match false re hay 0 m (2 * count - 2) n (λ is. absurd (true≢false (sym is))) (room re count enough) behind found

-- the places are those of the groups, also of groups that the pattern does not have
place_is : (re : Re) (hay : List ℕ) (m : Match) (places : CaptureLocations) → group_count re ≤ location_count places → find re hay 0 ≡ Some m
    → AreLocationsOf m places → (n : ℕ) → 1 ≤ n → location places n ≡ group_of m n
place_is re hay m places enough found are n behind = by (cases_lt n (location_count places))
  where
    by : (n < location_count places) ⊎ (location_count places ≤ n) → location places n ≡ group_of m n
    by (inl low) = are.1 n behind low
    by (inr past) =
        get_or_past places.spans.items n None (omega (arith, past))
        ∙ sym (no_span_past_cells false hay (span m) (group_cells m (2 * location_count places - 2)) n behind
        (omega (arith, cells_count m (location_count places))))
        ∙ group_place re hay m (location_count places) n enough found behind

pub places_inside : (re : Re) (hay : List ℕ) (m : Match) (places : CaptureLocations) → group_count re ≤ location_count places → find re hay 0 ≡ Some m
    → AreLocationsOf m places → AreInside places hay
places_inside re hay m places enough found are = λ n p behind e.
    span_inside hay (span m) (group_cells m (2 * location_count places - 2)) n p behind
    (group_place re hay m (location_count places) n enough found behind ∙ sym (place_is re hay m places enough found are n behind) ∙ e)

along : (f g : ℕ → List ℕ) (low size : ℕ) → ((n : ℕ) → low ≤ n → f n ≡ g n) → map f (range_with_len low size) ≡ map g (range_with_len low size)
along f g low zero h = refl
along f g low (suc size) h = ap₂ (λ (x : List ℕ) (xs : List (List ℕ)). x ∷ xs) (h low (omega arith)) (along f g (low + 1) size (λ n up. h n (omega arith)))

-- the texts at the places are those of the groups
pub texts_are : (re : Re) (hay : List ℕ) (m : Match) (places : CaptureLocations) → group_count re ≤ location_count places → find re hay 0 ≡ Some m
    → AreLocationsOf m places → text_of hay (Some (span m)) ∷ map (λ n. text_of hay (location places n)) (range_with_len 1 9) ≡ group_texts hay m
unfolding group_texts
texts_are re hay m places enough found are =
    ap (λ (texts : List (List ℕ)). text_of hay (Some (span m)) ∷ texts)
    (along _ _ 1 9 (λ n behind. ap (text_of hay) (place_is re hay m places enough found are n behind)))

-- the texts by what a caller sees of a match
abbrev by_spans : List ℕ → ℕ × ℕ × (ℕ → Option ℕ) → List (List ℕ)
by_spans hay s = text_of hay (Some (s.0, s.1)) ∷ map (λ n. text_of hay (both (s.2 (2 * n)) (s.2 (2 * n + 1)))) (range_with_len 1 9)

texts_by_spans : (hay : List ℕ) (o : Option Match) → option_map (group_texts hay) o ≡ option_map (by_spans hay) (option_map spans o)
unfolding group_texts
texts_by_spans hay None = refl
texts_by_spans hay (Some m) = refl

groups_alike : (a b : Re) → SameCaptures a b → (hay : List ℕ) → All (λ x. x < 256) hay → groups_in a hay ≡ groups_in b hay
groups_alike a b same hay ok =
    texts_by_spans hay (find a hay 0) ∙ ap (option_map (by_spans hay)) (find_alike a b same hay ok 0) ∙ sym (texts_by_spans hay (find b hay 0))

by_reading : (hir : Hir) (limit : ℕ) (names : Names) (o : Option (Nested Re × Names))
    → IsSomeAnd o (λ (re, found). (re.depth ≤ limit) × SameCaptures (meaning hir) re.value × (names ≡ found) × (group_count (meaning hir) ≤ length names))
    → (hay : List ℕ) → All (λ x. x < 256) hay → groups_in (meaning hir) hay ≡ option_and_then (λ re. groups_in re hay) (option_map (λ p. p.0.value) o)
by_reading hir limit names None p hay ok = absurd p
by_reading hir limit names (Some x) p hay ok = groups_alike (meaning hir) x.0.value p.1 hay ok

-- a pattern has no more groups than names
named : (hir : Hir) (limit : ℕ) (names : Names) (o : Option (Nested Re × Names))
    → IsSomeAnd o (λ (re, found). (re.depth ≤ limit) × SameCaptures (meaning hir) re.value × (names ≡ found) × (group_count (meaning hir) ≤ length names))
    → group_count (meaning hir) ≤ length names
named hir limit names None p = absurd p
named hir limit names (Some x) p = p.3

pub groups_counted : (r : Regex) → IsRead r → group_count (regex_pattern r) ≤ bytes.group_count r
unfolding Reads
groups_counted r is = omega (arith, named _ _ _ _ is.read, length-map r.pattern.names.items (option_map string_bytes))

-- the compiled pattern finds what its text says
pub groups_in_text : (r : Regex) → IsRead r → (hay : List ℕ) → All (λ x. x < 256) hay → groups_in (regex_pattern r) hay ≡ groups_by (regex_source r) hay
unfolding Reads
groups_in_text r is hay ok = by_reading _ _ _ (read bytes_config (chars (regex_source r))) (rw is.config at is.read) hay ok

is_some_map : {A B : Type 0} (f : A → B) (o : Option A) → is_some (option_map f o) ≡ is_some o
is_some_map f None = refl
is_some_map f (Some x) = refl

-- whether it matches, by its text
pub found_by_text : (r : Regex) → IsRead r → (hay : List ℕ) → All (λ x. x < 256) hay → is_some (find (regex_pattern r) hay 0) ≡ is_some (groups_by (regex_source r) hay)
found_by_text r is hay ok = sym (is_some_map (group_texts hay) (find (regex_pattern r) hay 0)) ∙ ap (λ (o : Option (List (List ℕ))). is_some o) (groups_in_text r is hay ok)

pub some_groups : (re : Re) (text hay : List ℕ) (m : Match) (texts : List (List ℕ)) → groups_in re hay ≡ groups_by text hay → find re hay 0 ≡ Some m
    → texts ≡ group_texts hay m → Some texts ≡ groups_by text hay
some_groups re text hay m texts same found is = ap Some is ∙ sym (ap (option_map (group_texts hay)) found) ∙ same

pub no_groups : (re : Re) (text hay : List ℕ) → groups_in re hay ≡ groups_by text hay → find re hay 0 ≡ None → None ≡ groups_by text hay
no_groups re text hay same found = sym (ap (option_map (group_texts hay)) found) ∙ same

pub in_bytes : (hay : List ℕ) → ((i : ℕ) → get_or hay i 0 < 256) → All (λ x. x < 256) hay
in_bytes hay small k d h = rw (get_or_default hay k d 0 h) (small k)

-- a pattern has no more groups than a kept matcher has room for
pub enough_room : (r : Regex) (count : ℕ) → IsRead r → count ≡ bytes.group_count r → group_count (regex_pattern r) ≤ count
enough_room r count is e = omega (arith, groups_counted r is)

-- the bytes of a match
pub whole_is : (hay within : List ℕ) (s : ℕ × ℕ) (m : Match) (whole : List ℕ) → whole ≡ slice_range within s.0 s.1 → within ≡ hay → s ≡ span m
    → whole ≡ text_of hay (Some (span m))
whole_is hay within s m whole e there at =
    e ∙ ap (λ (h : List ℕ). slice_range h s.0 s.1) there ∙ ap (λ (p : ℕ × ℕ). slice_range hay p.0 p.1) at

-- what is copied of a match is what its pattern's text says
pub groups_are : (r : Regex) (hay : List ℕ) (m : Match) (places : CaptureLocations) (whole : List ℕ) (groups : List (List ℕ))
    → group_count (regex_pattern r) ≤ location_count places → find (regex_pattern r) hay 0 ≡ Some m → AreLocationsOf m places
    → groups ≡ whole ∷ map (λ n. text_of hay (location places n)) (range_with_len 1 9) → whole ≡ text_of hay (Some (span m)) → groups ≡ group_texts hay m
groups_are r hay m places whole groups enough found are e first =
    e ∙ ap (λ (w : List ℕ). w ∷ map (λ n. text_of hay (location places n)) (range_with_len 1 9)) first
    ∙ texts_are (regex_pattern r) hay m places enough found are
