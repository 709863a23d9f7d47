-- The longest type is found in the slots of a path's last bytes.
use Rattle.std.proofs.Common.{◌≡◌, ℕ, ◌+◌, ◌-◌, ◌<◌, ◌≤◌, min, Bool, true, false, List, [], ◌∷◌, length, drop, map, get_or, Option, Some, None, if◌then◌else◌, ◌&&◌, ◌||◌, refl, sym, ◌∙◌, ap, true≢false, ◌≢◌, arith, length-drop, drop-drop}
use Rattle.std.specs.Prelude.{nat_le, filter}
use Rattle.std.proofs.lemmas.Bool.{leb-true, eqb-true}
use Rattle.std.proofs.lemmas.Bool.Decides.{nat_tests}
use Rattle.std.proofs.lemmas.Slice.Eq.{bytes_eq-Decides}
use Rattle.std.specs.List.{cons_option}
use Rattle.conf_value.specs.declared.value.Pair.{Pair}
use Rattle.static_files.specs.Locations.{ends_in}
use Rattle.static_files.specs.MediaTypes.{MediaType, media_type_of, is_longest, better, longest, type_of}
use Rattle.static_files.specs.TypeSlots.{ending, slot_of, is_in, window_of, has_window, longest_by, types_of, AreSlots}
use Rattle.static_files.specs.declared.type_index.Slot.{Slot}
use Rattle.static_files.proofs.TypeSlots.{read_at}

-- a key in which a path ends has the path's last bytes
pub same_ending : (count : ℕ) (path key : List ℕ) → ends_in path key ≡ true → count ≤ length key → ending count key ≡ ending count path
same_ending count path key ends le =
    let cut : drop (length path - length key) path ≡ key = (bytes_eq-Decides (drop (length path - length key) path) key).0 ends in
    let size : length path - (length path - length key) ≡ length key = sym (length-drop (length path - length key) path) ∙ ap length cut in
    let twice : drop (length key - count) (drop (length path - length key) path) ≡ drop ((length path - length key) + (length key - count)) path = drop-drop (length key - count) (length path - length key) path in
    let number : (length path - length key) + (length key - count) ≡ length path - count = omega (arith, size, le) in
    ap (λ (x : List ℕ). drop (length key - count) x) (sym cut) ∙ twice ∙ ap (λ (n : ℕ). drop n path) number

-- what counts of a key is its window
pub whole_ending : (window : ℕ) (key : List ℕ) → min 3 (length key) ≡ window → ending 3 key ≡ ending window key
whole_ending window key e = ap (λ (n : ℕ). drop n key) (omega (arith, e))

-- a type with a window in whose key the path ends has its place in the slot of the path's last bytes
pub in_slot : (slots window : ℕ) (path : List ℕ) (t : MediaType) → has_window window t ≡ true → ends_in path t.key ≡ true → is_in slots (slot_of slots (ending window path)) t ≡ true
in_slot slots window path t has ends =
    let e : min 3 (length t.key) ≡ window = eqb-true (min 3 (length t.key)) window has in
    let same : ending 3 t.key ≡ ending window path = whole_ending window t.key e ∙ same_ending window path t.key ends (omega (arith, e)) in
    rw same (grind (arith, nat_tests))

-- a type that doesn't end the path changes nothing
skipped : (path : List ℕ) (keep : Bool) (t : MediaType) (rest : Option MediaType) → (keep ≡ true → ends_in path t.key ≡ true → ⊥) → better path (if keep then Some t else None) rest ≡ rest
skipped path false t rest no_end = refl
skipped path true t rest no_end = by (ends_in path t.key) refl
  where
    by : (b : Bool) → ends_in path t.key ≡ b → (if b && is_longest t.key rest then Some t else rest) ≡ rest
    by false e = refl
    by true e = absurd (no_end refl e)

-- it is enough to look at the types of a test that each type passes which is kept and ends the path
pub enough : (keep test : MediaType → Bool) (path : List ℕ) → ((t : MediaType) → keep t ≡ true → ends_in path t.key ≡ true → test t ≡ true)
    → (types : List MediaType) → longest_by keep path (filter test types) ≡ longest_by keep path types
enough keep test path all [] = refl
enough keep test path all (t ∷ types) = by (test t) refl (enough keep test path all types)
  where
    by : (b : Bool) → test t ≡ b → longest_by keep path (filter test types) ≡ longest_by keep path types
        → longest_by keep path (if b then t ∷ filter test types else filter test types) ≡ longest_by keep path (t ∷ types)
    by true e more = ap (λ (rest : Option MediaType). better path (if keep t then Some t else None) rest) more
    by false e more = more ∙ sym (skipped path (keep t) t (longest_by keep path types) (λ k ends. true≢false (sym (all t k ends) ∙ e)))

-- what is found is kept
found_kept : (keep : MediaType → Bool) (path : List ℕ) (types : List MediaType) (x : MediaType) → longest_by keep path types ≡ Some x → keep x ≡ true
found_kept keep path [] x e = absurd (cc e)
found_kept keep path (t ∷ types) x e = by (keep t) refl (found_kept keep path types x) e
  where
    inner : (b : Bool) → keep t ≡ true → (longest_by keep path types ≡ Some x → keep x ≡ true) → (if b then Some t else longest_by keep path types) ≡ Some x → keep x ≡ true
    inner true k more f = let same : t ≡ x = cc f in rw (sym same) k
    inner false k more f = more f

    by : (b : Bool) → keep t ≡ b → (longest_by keep path types ≡ Some x → keep x ≡ true) → better path (if b then Some t else None) (longest_by keep path types) ≡ Some x → keep x ≡ true
    by false k more f = more f
    by true k more f = inner (ends_in path t.key && is_longest t.key (longest_by keep path types)) k more f

-- the first, or else the second
abbrev pub or_else : Option MediaType → Option MediaType → Option MediaType
or_else None second = second
or_else (Some x) second = Some x

-- of types whose keys are longer and types whose keys are shorter, the longer ones come first
pub merged : (all longer shorter : MediaType → Bool) (path : List ℕ)
    → ((t : MediaType) → all t ≡ (longer t || shorter t))
    → ((x y : MediaType) → longer x ≡ true → shorter y ≡ true → length y.key < length x.key)
    → (types : List MediaType) → longest_by all path types ≡ or_else (longest_by longer path types) (longest_by shorter path types)
merged all longer shorter path join above [] = refl
merged all longer shorter path join above (t ∷ types) =
    let kept : longest_by all path (t ∷ types) ≡ better path (if longer t || shorter t then Some t else None) (longest_by all path types) =
    ap (λ (b : Bool). better path (if b then Some t else None) (longest_by all path types)) (join t) in
    let rest : better path (if longer t || shorter t then Some t else None) (longest_by all path types) ≡ better path (if longer t || shorter t then Some t else None) (or_else (longest_by longer path types) (longest_by shorter path types)) =
    ap (λ (rest : Option MediaType). better path (if longer t || shorter t then Some t else None) rest) (merged all longer shorter path join above types) in
    let cases : better path (if longer t || shorter t then Some t else None) (or_else (longest_by longer path types) (longest_by shorter path types))
    ≡ or_else (better path (if longer t then Some t else None) (longest_by longer path types)) (better path (if shorter t then Some t else None) (longest_by shorter path types)) =
    by (longer t) (shorter t) refl refl (longest_by longer path types) (longest_by shorter path types) refl refl in
    kept ∙ rest ∙ cases
  where
    short_wins : (g : Option MediaType) → longer t ≡ true → longest_by shorter path types ≡ g → is_longest t.key g ≡ true
    short_wins None l e = refl
    short_wins (Some y) l e = let lt : length y.key < length t.key = above t y l (found_kept shorter path types y e) in grind (arith, nat_tests)

    long_wins : (x : MediaType) → longest_by longer path types ≡ Some x → shorter t ≡ true → is_longest t.key (Some x) ≡ false
    long_wins x e s = let lt : length t.key < length x.key = above x t (found_kept longer path types x e) s in grind (arith, nat_tests)

    at : (l s : Bool) → longer t ≡ l → shorter t ≡ s → (ends : Bool) → (f g : Option MediaType) → longest_by longer path types ≡ f → longest_by shorter path types ≡ g → (xor : l ≢ s)
        → (if ends && is_longest t.key (or_else f g) then Some t else or_else f g)
        ≡ or_else (if l then (if ends && is_longest t.key f then Some t else f) else f) (if s then (if ends && is_longest t.key g then Some t else g) else g)
    at true false le se false f g fe ge xor = refl
    at true false le se true None g fe ge xor = rw (short_wins g le ge) refl
    at true false le se true (Some x) g fe ge xor = each (is_longest t.key (Some x))
      where
        each : (b : Bool) → (if b then Some t else Some x) ≡ or_else (if b then Some t else Some x) g
        each true = refl
        each false = refl
    at false true le se false f g fe ge xor = refl
    at false true le se true None g fe ge xor = refl
    at false true le se true (Some x) g fe ge xor = rw (long_wins x fe se) refl
    at false false le se ends f g fe ge xor = absurd (xor refl)
    at true true le se ends f g fe ge xor = absurd (xor refl)

    by : (l s : Bool) → longer t ≡ l → shorter t ≡ s → (f g : Option MediaType) → longest_by longer path types ≡ f → longest_by shorter path types ≡ g
        → better path (if l || s then Some t else None) (or_else f g) ≡ or_else (better path (if l then Some t else None) f) (better path (if s then Some t else None) g)
    by false false le se f g fe ge = refl
    by true true le se f g fe ge = absurd (omega (arith, above t t le se))
    by true false le se f g fe ge = at true false le se (ends_in path t.key) f g fe ge (λ e. true≢false e)
    by false true le se f g fe ge = at false true le se (ends_in path t.key) f g fe ge (λ e. true≢false (sym e))

-- at most so many bytes of the key count
abbrev window_within : ℕ → MediaType → Bool
window_within window t = nat_le (window_of t) window

one_more : (window : ℕ) (path : List ℕ) → window < 3 → (types : List MediaType)
    → longest_by (window_within (window + 1)) path types ≡ or_else (longest_by (has_window (window + 1)) path types) (longest_by (window_within window) path types)
one_more window path lt types = merged (window_within (window + 1)) (has_window (window + 1)) (window_within window) path join above types
  where
    join : (t : MediaType) → window_within (window + 1) t ≡ (has_window (window + 1) t || window_within window t)
    join t = grind (arith, nat_tests)

    above : (x y : MediaType) → has_window (window + 1) x ≡ true → window_within window y ≡ true → length y.key < length x.key
    above x y h w =
        let e : min 3 (length x.key) ≡ window + 1 = eqb-true (min 3 (length x.key)) (window + 1) h in
        let le : min 3 (length y.key) ≤ window = leb-true (min 3 (length y.key)) window w in
        omega (arith, e, le, lt)

-- tests that agree keep the same
agree : (p q : MediaType → Bool) (path : List ℕ) → ((t : MediaType) → p t ≡ q t) → (types : List MediaType) → longest_by p path types ≡ longest_by q path types
agree p q path same [] = refl
agree p q path same (t ∷ types) =
    ap (λ (b : Bool). better path (if b then Some t else None) (longest_by p path types)) (same t)
    ∙ ap (λ (rest : Option MediaType). better path (if q t then Some t else None) rest) (agree p q path same types)

-- the longest of a list, by the types in it
pub longest_is : (path : List ℕ) (pairs : List Pair) → longest path pairs ≡ longest_by (window_within 3) path (types_of pairs)
longest_is path [] = refl
longest_is path (pair ∷ pairs) = ap (better path (media_type_of pair)) (longest_is path pairs) ∙ by (media_type_of pair)
  where
    within : (t : MediaType) → window_within 3 t ≡ true
    within t = grind (arith, nat_tests)

    by : (m : Option MediaType) → better path m (longest_by (window_within 3) path (types_of pairs)) ≡ longest_by (window_within 3) path (cons_option m (types_of pairs))
    by None = refl
    by (Some t) = sym (ap (λ (b : Bool). better path (if b then Some t else None) (longest_by (window_within 3) path (types_of pairs))) (within t))

-- window after window, from the longest on
pub by_windows : (path : List ℕ) (types : List MediaType)
    → longest_by (window_within 3) path types
    ≡ or_else (longest_by (has_window 3) path types) (or_else (longest_by (has_window 2) path types) (or_else (longest_by (has_window 1) path types) (longest_by (has_window 0) path types)))
by_windows path types =
    let third : longest_by (window_within 3) path types ≡ or_else (longest_by (has_window 3) path types) (longest_by (window_within 2) path types) = one_more 2 path (omega arith) types in
    let second : longest_by (window_within 2) path types ≡ or_else (longest_by (has_window 2) path types) (longest_by (window_within 1) path types) = one_more 1 path (omega arith) types in
    let first : longest_by (window_within 1) path types ≡ or_else (longest_by (has_window 1) path types) (longest_by (window_within 0) path types) = one_more 0 path (omega arith) types in
    let none : longest_by (window_within 0) path types ≡ longest_by (has_window 0) path types = agree (window_within 0) (has_window 0) path (λ t. grind (arith, nat_tests)) types in
    rw (third, second, first, none) refl

-- the longest of a list, window after window
all_windows : (path : List ℕ) (pairs : List Pair) → longest path pairs
    ≡ or_else (longest_by (has_window 3) path (types_of pairs)) (or_else (longest_by (has_window 2) path (types_of pairs)) (or_else (longest_by (has_window 1) path (types_of pairs)) (longest_by (has_window 0) path (types_of pairs))))
all_windows path pairs = longest_is path pairs ∙ by_windows path (types_of pairs)

pub at_third : (path : List ℕ) (pairs : List Pair) (x : MediaType) → Some x ≡ longest_by (has_window 3) path (types_of pairs) → Some x ≡ longest path pairs
at_third path pairs x some = rw (all_windows path pairs, sym some) refl

pub at_second : (path : List ℕ) (pairs : List Pair) (x : MediaType) → None ≡ longest_by (has_window 3) path (types_of pairs) → Some x ≡ longest_by (has_window 2) path (types_of pairs) → Some x ≡ longest path pairs
at_second path pairs x none some = rw (all_windows path pairs, sym none, sym some) refl

pub at_first : (path : List ℕ) (pairs : List Pair) (x : MediaType) → None ≡ longest_by (has_window 3) path (types_of pairs) → None ≡ longest_by (has_window 2) path (types_of pairs)
    → Some x ≡ longest_by (has_window 1) path (types_of pairs) → Some x ≡ longest path pairs
at_first path pairs x none no_second some = rw (all_windows path pairs, sym none, sym no_second, sym some) refl

pub at_last : (path : List ℕ) (pairs : List Pair) (found : Option MediaType) → None ≡ longest_by (has_window 3) path (types_of pairs) → None ≡ longest_by (has_window 2) path (types_of pairs)
    → None ≡ longest_by (has_window 1) path (types_of pairs) → found ≡ longest_by (has_window 0) path (types_of pairs) → found ≡ longest path pairs
at_last path pairs found none no_second no_first is = rw (all_windows path pairs, sym none, sym no_second, sym no_first) is

-- the longest of a window stands in the slot of the path's last bytes
pub looked : (slots : List Slot) (pairs : List Pair) (window at : ℕ) (path : List ℕ) (slot : Slot) → AreSlots slots pairs → at ≡ slot_of (length slots) (ending window path) → at < length slots → slot ≡ get_or slots at slot
    → longest_by (has_window window) path (map type_of slot.entries.items) ≡ longest_by (has_window window) path (types_of pairs)
looked slots pairs window at path slot are is lt read =
    ap (longest_by (has_window window) path) (sym (read_at slots at slot lt read) ∙ are at lt)
    ∙ enough (has_window window) (is_in (length slots) at) path (λ t has ends. rw is (in_slot (length slots) window path t has ends)) (types_of pairs)
