-- The list of clients: one is looked at, changed, added or taken out.
use Rattle.std.proofs.Common.{zero, suc, ◌≡◌, ◌≢◌, ℕ, ◌+◌, ◌≤◌, ◌<◌, List, [], ◌∷◌, ◌++◌, length, take, drop, get_or, set, Option, Some, None, refl, sym, ◌∙◌, ap, subst, arith, inl, inr, add-one, take-append-drop}
use Rattle.std.proofs.lemmas.Bool.{cases_lt}
use Rattle.std.proofs.lemmas.List.{drop_more, set_split, take-set, drop-set-lt, map-append, take-map, drop-map, length-map, get_or-map, get_or_read}
use Rattle.buffer_pool.specs.State.{PoolState}
use Rattle.buffer_pool.specs.Kept.{Kept, HeldWithin}
use Rattle.server_model.specs.Held.{Held, kept_at, IsEachOnce, IsPlace}
use Rattle.server_model.proofs.Tables.{kept_at-first, kept_at-past}
use Rattle.server_model.proofs.Changing.{Changes, IsAt, at_is, replaces, removes, place_at}
use Rattle.connection.specs.Connection.{Connected}
use Rattle.server_core.specs.Steps.{IsResting}
use Rattle.server_core.specs.Table.{helds, held_count, AllAbove, Rising, AllResting, IsKept}
use Rattle.buffer_pool.proofs.Keeping.{kept_both}
use Rattle.server_core.proofs.Buffered.{each_changed, each_removed}

pub helds_append : (xs ys : List Connected) → helds (xs ++ ys) ≡ helds xs ++ helds ys
helds_append xs ys = map-append (λ (c : Connected). c.held) xs ys

pub count_append : (xs ys : List Connected) → held_count (xs ++ ys) ≡ held_count xs + held_count ys
count_append [] ys = omega arith
count_append (c ∷ xs) ys = omega (arith, count_append xs ys)

-- links that rise
none_above : (n : ℕ) (table : List Held) → AllAbove n table → kept_at n table ≡ None
none_above n [] above = refl
none_above n (x ∷ table) above = kept_at-past n x table (λ e. omega (arith, e, above.0)) ∙ none_above n table above.1

pub rising_once : (table : List Held) → Rising table → IsEachOnce table
rising_once [] rising = tt
rising_once (x ∷ table) rising = (none_above x.link table rising.0, rising_once table rising.1)

above_replace : (n : ℕ) (xs : List Held) (old new : Held) (ys : List Held) → new.link ≡ old.link → AllAbove n (xs ++ old ∷ ys) → AllAbove n (xs ++ new ∷ ys)
above_replace n [] old new ys same above = (omega (arith, above.0, same), above.1)
above_replace n (x ∷ xs) old new ys same above = (above.0, above_replace n xs old new ys same above.1)

pub rising_replace : (xs : List Held) (old new : Held) (ys : List Held) → new.link ≡ old.link → Rising (xs ++ old ∷ ys) → Rising (xs ++ new ∷ ys)
rising_replace [] old new ys same rising = (subst (λ (l : ℕ). AllAbove l ys) (sym same) rising.0, rising.1)
rising_replace (x ∷ xs) old new ys same rising = (above_replace x.link xs old new ys same rising.0, rising_replace xs old new ys same rising.1)

above_remove : (n : ℕ) (xs : List Held) (old : Held) (ys : List Held) → AllAbove n (xs ++ old ∷ ys) → AllAbove n (xs ++ ys)
above_remove n [] old ys above = above.1
above_remove n (x ∷ xs) old ys above = (above.0, above_remove n xs old ys above.1)

pub rising_remove : (xs : List Held) (old : Held) (ys : List Held) → Rising (xs ++ old ∷ ys) → Rising (xs ++ ys)
rising_remove [] old ys rising = rising.1
rising_remove (x ∷ xs) old ys rising = (above_remove x.link xs old ys rising.0, rising_remove xs old ys rising.1)

above_push : (n : ℕ) (table : List Held) (new : Held) → AllAbove n table → n < new.link → AllAbove n (table ++ new ∷ [])
above_push n [] new above below = (below, tt)
above_push n (x ∷ table) new above below = (above.0, above_push n table new above.1 below)

some_none : (o : Option Held) (held : Held) → o ≡ Some held → o ≡ None → ⊥
some_none o held some none = cc (some, none)

-- a link that is above all those that were given
pub rising_push : (links : ℕ) (table : List Held) (new : Held) → ((l : ℕ) → links ≤ l → kept_at l table ≡ None) → links ≤ new.link → Rising table → Rising (table ++ new ∷ [])
rising_push links [] new below le rising = (tt, tt)
rising_push links (x ∷ table) new below le rising = (above_push x.link table new rising.0 (omega (arith, here, le)), rising_push links table new rest le rising.1)
  where
    here : x.link < links
    here = elim (cases_lt x.link links) [
      | inl less ↦ less
      | inr past ↦ absurd (some_none (kept_at x.link (x ∷ table)) x (kept_at-first x.link x table refl) (below x.link past))
    ]

    rest : (l : ℕ) → links ≤ l → kept_at l table ≡ None
    rest l past = sym (kept_at-past l x table (λ e. omega (arith, e, here, past))) ∙ below l past

resting_replace : (xs : List Held) (old new : Held) (ys : List Held) → IsResting new → AllResting (xs ++ old ∷ ys) → AllResting (xs ++ new ∷ ys)
resting_replace [] old new ys is resting = (is, resting.1)
resting_replace (x ∷ xs) old new ys is resting = (resting.0, resting_replace xs old new ys is resting.1)

resting_remove : (xs : List Held) (old : Held) (ys : List Held) → AllResting (xs ++ old ∷ ys) → AllResting (xs ++ ys)
resting_remove [] old ys resting = resting.1
resting_remove (x ∷ xs) old ys resting = (resting.0, resting_remove xs old ys resting.1)

resting_here : (xs : List Held) (old : Held) (ys : List Held) → AllResting (xs ++ old ∷ ys) → IsResting old
resting_here [] old ys resting = resting.0
resting_here (x ∷ xs) old ys resting = resting_here xs old ys resting.1

pub resting_push : (table : List Held) (new : Held) → IsResting new → AllResting table → AllResting (table ++ new ∷ [])
resting_push [] new is resting = (is, tt)
resting_push (x ∷ table) new is resting = (resting.0, resting_push table new is resting.1)

-- the client at a place
module _ (link : ℕ) (conns : List Connected) (i : ℕ) (c : Connected) (place : IsPlace link (helds conns) (Some i)) (is : c ≡ get_or conns i c) where
  abbrev xs : List Connected
  xs = take i conns

  abbrev ys : List Connected
  ys = drop (i + 1) conns

  pub place_below : i < length conns
  place_below = omega (arith, place.0, length-map conns (λ (k : Connected). k.held))

  -- the list around it
  pub split : conns ≡ take i conns ++ c ∷ drop (i + 1) conns
  split = sym (take-append-drop i conns) ∙ ap (λ l. take i conns ++ l) (drop_more conns i c place_below) ∙ ap (λ h. take i conns ++ h ∷ drop (i + 1) conns) (sym is)

  table_split : helds conns ≡ helds xs ++ c.held ∷ helds ys
  table_split = ap helds split ∙ helds_append xs (c ∷ ys)

  held_is : c.held ≡ get_or (helds conns) i c.held
  held_is = ap (λ (k : Connected). k.held) is ∙ sym (get_or-map (λ (k : Connected). k.held) conns i c c.held place_below)

  at : Rising (helds conns) → IsAt link (helds conns) (helds xs) c.held (helds ys)
  at rising =
      let P : List Held → List Held → Type 0 = λ a b. IsAt link (helds conns) a c.held b in
      subst (λ (b : List Held). P (helds xs) b) (drop-map (λ (k : Connected). k.held) (i + 1) conns)
      (subst (λ (a : List Held). P a (drop (i + 1) (helds conns))) (take-map (λ (k : Connected). k.held) i conns)
      (place_at link (helds conns) i c.held (rising_once (helds conns) rising) place held_is))

  pub place_kept : Rising (helds conns) → kept_at link (helds conns) ≡ Some c.held
  place_kept rising = at_is link (helds conns) (helds xs) c.held (helds ys) (at rising)

  pub place_link : c.held.link ≡ link
  place_link = ap (λ (h : Held). h.link) held_is ∙ place.1 c.held

  set_is : (new : Connected) → set conns i new ≡ take i conns ++ new ∷ drop (i + 1) conns
  set_is new = set_split conns i new place_below ∙ ap (λ (n : ℕ). take i conns ++ new ∷ drop n conns) (sym (add-one i))

  table_set : (new : Connected) → helds (set conns i new) ≡ helds xs ++ new.held ∷ helds ys
  table_set new = ap helds (set_is new) ∙ helds_append xs (new ∷ ys)

  pub place_set : Rising (helds conns) → (new : Connected) → new.held.link ≡ c.held.link → Changes link (helds conns) (helds (set conns i new)) (Some new.held)
  place_set rising new same = replaces link (helds conns) (helds xs) c.held (helds ys) (at rising) new.held (helds (set conns i new)) (table_set new) same

  removed_is : (new : Connected) (next : List Connected) → next ≡ take i (set conns i new) ++ drop (i + 1) (set conns i new) → next ≡ take i conns ++ drop (i + 1) conns
  removed_is new next same = same ∙ ap (λ l. l ++ drop (i + 1) (set conns i new)) (take-set conns i new) ∙ ap (λ l. take i conns ++ l) (drop-set-lt (i + 1) conns i new (omega arith))

  table_removed : (new : Connected) (next : List Connected) → next ≡ take i (set conns i new) ++ drop (i + 1) (set conns i new) → helds next ≡ helds xs ++ helds ys
  table_removed new next same = ap helds (removed_is new next same) ∙ helds_append xs ys

  pub place_removed : Rising (helds conns) → (new : Connected) (next : List Connected) → next ≡ take i (set conns i new) ++ drop (i + 1) (set conns i new) → Changes link (helds conns) (helds next) None
  place_removed rising new next same = removes link (helds conns) (helds xs) c.held (helds ys) (at rising) (helds next) (table_removed new next same) (rising_once (helds conns) rising)

  count_is : held_count conns ≡ held_count xs + (length c.numbers + held_count ys)
  count_is = ap held_count split ∙ count_append xs (c ∷ ys)

  module _ (store : PoolState) (k : IsKept store conns) where
    pub place_within : HeldWithin store (length c.numbers)
    place_within = omega (arith, k.counted, count_is)

    pub place_resting : IsResting c.held
    place_resting = resting_here (helds xs) c.held (helds ys) (subst AllResting table_split k.resting)

    module _ (new : Connected) (next_store : PoolState) (kept : Kept store c.numbers next_store new.numbers) where
      pub closing_within : HeldWithin next_store (length new.numbers)
      closing_within = omega (arith, k.counted, count_is, kept.total, kept.rises)

      pub place_set_kept : new.held.link ≡ c.held.link → IsResting new.held → IsKept next_store (set conns i new)
      place_set_kept same rests = record {
        counted = omega (arith, k.counted, count_is, kept.total, kept.rises, ap held_count (set_is new), count_append xs (new ∷ ys));
        each = each_changed store next_store conns xs ys c split k.each new kept (set conns i new) (set_is new);
        rising = subst Rising (sym (table_set new)) (rising_replace (helds xs) c.held new.held (helds ys) same (subst Rising table_split k.rising));
        resting = subst AllResting (sym (table_set new)) (resting_replace (helds xs) c.held new.held (helds ys) rests (subst AllResting table_split k.resting));
      }

      pub place_removed_kept : (last : PoolState) → Kept next_store new.numbers last [] → (gone : Connected) (next : List Connected) → next ≡ take i (set conns i gone) ++ drop (i + 1) (set conns i gone) → IsKept last next
      place_removed_kept last closed gone next same = record {
        counted = omega (arith, k.counted, count_is, kept.total, kept.rises, closed.total, closed.rises, ap held_count (removed_is gone next same), count_append xs ys);
        each = each_removed store last conns xs ys c split k.each (kept_both store next_store last c.numbers new.numbers [] kept closed) next (removed_is gone next same);
        rising = subst Rising (sym (table_removed gone next same)) (rising_remove (helds xs) c.held (helds ys) (subst Rising table_split k.rising));
        resting = subst AllResting (sym (table_removed gone next same)) (resting_remove (helds xs) c.held (helds ys) (subst AllResting table_split k.resting));
      }

-- where no link is this one
none_kept : (link : ℕ) (table : List Held) → ((i : ℕ) → i < length table → (other : Held) → (get_or table i other).link ≢ link) → kept_at link table ≡ None
none_kept link [] apart = refl
none_kept link (x ∷ table) apart = kept_at-past link x table (apart 0 (omega arith) x) ∙ none_kept link table (λ i le other. apart (suc i) (omega (arith, le)) other)

-- an earlier link is below a later one
above_at : (n : ℕ) (table : List Held) (j : ℕ) (other : Held) → AllAbove n table → j < length table → n < (get_or table j other).link
above_at n [] j other above le = absurd (omega (arith, le))
above_at n (x ∷ table) zero other above le = above.0
above_at n (x ∷ table) (suc j) other above le = above_at n table j other above.1 (omega (arith, le))

pub rising_at : (table : List Held) (i j : ℕ) (a b : Held) → Rising table → i < j → j < length table → (get_or table i a).link < (get_or table j b).link
rising_at [] i j a b rising less le = absurd (omega (arith, le))
rising_at (x ∷ table) i zero a b rising less le = absurd (omega (arith, less))
rising_at (x ∷ table) zero (suc j) a b rising less le = above_at x.link table j b rising.0 (omega (arith, le))
rising_at (x ∷ table) (suc i) (suc j) a b rising less le = rising_at table i j a b rising.1 (omega (arith, less)) (omega (arith, le))

-- the clients before `low` have lower links, and those from `high` on higher ones
pub record IsBetween (table : List Held) (link low high : ℕ) : Type 0 where
  pub within : high ≤ length table
  pub below : (i : ℕ) → i < low → (other : Held) → (get_or table i other).link < link
  pub above : (i : ℕ) → high ≤ i → i < length table → (other : Held) → link < (get_or table i other).link

pub element_held : (conns : List Connected) (i : ℕ) (c : Connected) → i < length conns → c ≡ get_or conns i c → c.held ≡ get_or (helds conns) i c.held
element_held conns i c below is = ap (λ (k : Connected). k.held) is ∙ sym (get_or-map (λ (k : Connected). k.held) conns i c c.held below)

pub between_start : (conns : List Connected) (link : ℕ) → IsBetween (helds conns) link 0 (length conns)
between_start conns link = record {
  within = omega (arith, length-map conns (λ (k : Connected). k.held));
  below = λ i less other. absurd (omega (arith, less));
  above = λ i past le other. absurd (omega (arith, past, le, length-map conns (λ (k : Connected). k.held)));
}

module _ (table : List Held) (link low high i : ℕ) (h : Held) (rising : Rising table) (between : IsBetween table link low high) (less : i < high) (is : h ≡ get_or table i h) where
  inside : i < length table
  inside = omega (arith, less, between.within)

  read_is : (other : Held) → h.link ≡ (get_or table i other).link
  read_is other = ap (λ (x : Held). x.link) (get_or_read table i h inside is other)

  pub between_low : h.link < link → IsBetween table link (i + 1) high
  between_low lower = record {
    within = between.within;
    below = λ j before other. elim (cases_lt j i) [
      | inl earlier ↦ omega (arith, lower, rising_at table j i other h rising earlier inside, read_is h)
      | inr same ↦ let there : j ≡ i = omega (arith, same, before) in subst (λ (k : ℕ). (get_or table k other).link < link) (sym there) (omega (arith, lower, read_is other))
    ];
    above = between.above;
  }

  pub between_high : link < h.link → IsBetween table link low i
  between_high higher = record {
    within = omega (arith, inside);
    below = between.below;
    above = λ j past le other. elim (cases_lt i j) [
      | inl later ↦ omega (arith, higher, rising_at table i j h other rising later le, read_is h)
      | inr same ↦ let there : j ≡ i = omega (arith, same, past) in subst (λ (k : ℕ). link < (get_or table k other).link) (sym there) (omega (arith, higher, read_is other))
    ];
  }

  pub place_found : h.link ≡ link → IsPlace link table (Some i)
  place_found same = (inside, λ other. sym (read_is other) ∙ same)

pub place_none : (table : List Held) (link low high : ℕ) → IsBetween table link low high → high ≤ low → IsPlace link table None
place_none table link low high between done = none_kept link table (λ i le other. elim (cases_lt i low) [
  | inl less ↦ λ e. omega (arith, e, between.below i less other)
  | inr past ↦ λ e. omega (arith, e, between.above i (omega (arith, done, past)) le other)
])

pub held_length : (conns : List Connected) → length (helds conns) ≡ length conns
held_length conns = length-map conns (λ (k : Connected). k.held)

-- neither the same nor below
pub apart_above : (a b l : ℕ) → a ≡ l → a ≢ b → b ≤ a → b < l
apart_above a b l is apart le = elim (cases_lt b a) [
  | inl less ↦ omega (arith, less, is)
  | inr past ↦ let same : a ≡ b = omega (arith, le, past) in absurd (apart same)
]
