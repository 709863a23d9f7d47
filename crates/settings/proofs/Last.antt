-- The last place whose block is True.
use Rattle.std.proofs.Common.{◌≡◌, ℕ, ◌+◌, ◌<◌, ◌≤◌, suc, zero, Bool, true, false, cond, List, [], ◌∷◌, ◌++◌, length, take, position, Option, None, Some, refl, sym, ◌∙◌, ap, arith}
use Rattle.std.specs.Prelude.{slice_get}
use Rattle.std.specs.Option.{option_map}
use Rattle.std.proofs.Math.Seq.{take-suc}
use Rattle.std.proofs.lemmas.Option.{get_or_from_slice_get, slice_get_within}
use Rattle.conf_value.specs.declared.block.Block.{Block}
use Rattle.conf_value.specs.declared.truth.Truth.{Truth}
use Rattle.settings.specs.declared.key.Key.{Key}
use Rattle.settings.specs.declared.places.Place.{Place}
use Rattle.settings.specs.Keys.{name, is_global}
use Rattle.settings.specs.Used.{values_at, values_where}
use Rattle.settings.specs.Indexed.{is_of, lists_of, place_of, with_place, places_from, places_of, is_true, or_else, where_true, last_true, winner, global_alone, AgreeAt}

-- ---- a place more at the end

kept : (o : Option Place) → or_else o None ≡ o
kept (Some p) = refl
kept None = refl

assoc : (a b c : Option Place) → or_else (or_else a b) c ≡ or_else a (or_else b c)
assoc (Some a) b c = refl
assoc None b c = refl

last_end : (t : ℕ → Truth) (places : List Place) (place : Place) → last_true t (places ++ place ∷ []) ≡ or_else (where_true (t place.block) place) (last_true t places)
last_end t [] place = sym (kept (where_true (t place.block) place))
last_end t (p ∷ ps) place = ap (λ o. or_else o (where_true (t p.block) p)) (last_end t ps place) ∙ assoc (where_true (t place.block) place) (last_true t ps) (where_true (t p.block) p)

-- of one place more the last counts, where it is True
last_more : (t : ℕ → Truth) (places : List Place) (i : ℕ) (place : Place) → slice_get places i ≡ Some place
    → last_true t (take (suc i) places) ≡ or_else (where_true (t place.block) place) (last_true t (take i places))
last_more t places i place is =
    ap (last_true t) (take-suc places i place (slice_get_within places i place is) ∙ ap (λ (p : Place). take i places ++ p ∷ []) (get_or_from_slice_get places i place place is))
    ∙ last_end t (take i places) place

pub last_here : (t : ℕ → Truth) (places : List Place) (i : ℕ) (place : Place) → slice_get places i ≡ Some place → is_true (t place.block) ≡ true → last_true t (take (suc i) places) ≡ Some place
last_here t places i place is holds = last_more t places i place is ∙ ap (λ (b : Bool). or_else (cond b (Some place) None) (last_true t (take i places))) holds

pub last_before : (t : ℕ → Truth) (places : List Place) (i : ℕ) (place : Place) → slice_get places i ≡ Some place → is_true (t place.block) ≡ false → last_true t (take (suc i) places) ≡ last_true t (take i places)
last_before t places i place is fails = last_more t places i place is ∙ ap (λ (b : Bool). or_else (cond b (Some place) None) (last_true t (take i places))) fails

-- ---- truths that agree

pub last_agree : (places : List Place) (t u : ℕ → Truth) → AgreeAt places t u → last_true t places ≡ last_true u places
last_agree [] t u h = refl
last_agree (p ∷ ps) t u (h, rest) = ap (λ o. or_else o (where_true (t p.block) p)) (last_agree ps t u rest) ∙ ap (λ (x : Truth). or_else (last_true u ps) (where_true x p)) h

pub values_agree : (blocks : List Block) (t u : ℕ → Truth) → ((key : Key) → AgreeAt (places_of blocks key) t u) → values_where blocks t ≡ values_where blocks u
values_agree blocks t u h = ap (values_at blocks) (λ i key. last_agree (places_of blocks key) t u (h key) i)

-- ---- places stand in blocks

within_from : (key : List ℕ) (number lists : ℕ) (blocks : List Block) (at : ℕ) (place : Place) → slice_get (places_from key number lists blocks) at ≡ Some place → place.block < number + length blocks
within_from key number lists [] at place is = let e : None ≡ Some place = is in cc
within_from key number lists (b ∷ bs) at place is =
    by (places_from key (number + 1) (lists + lists_of b.settings) bs) (λ k e. within_from key (number + 1) (lists + lists_of b.settings) bs k place e) (position (is_of key) b.settings) at is
  where
    by : (rest : List Place) → ((k : ℕ) → slice_get rest k ≡ Some place → place.block < number + 1 + length bs) → (o : Option ℕ) (k : ℕ) → slice_get (with_place (option_map (λ n. record { block = number; at = n; first_list = lists + lists_of (take n b.settings) }) o) rest) k ≡ Some place
        → place.block < number + length (b ∷ bs)
    by rest further None k e = let low = further k e in omega (arith, low)
    by rest further (Some n) zero e = let here : number ≡ place.block = ap block_or e in omega (arith, here)
      where
        block_or : Option Place → ℕ
        block_or (Some p) = p.block
        block_or None = 0
    by rest further (Some n) (suc k) e = let low = further k e in omega (arith, low)

few_first : (blocks : List Block) → length (take 1 blocks) ≤ length blocks
few_first [] = omega arith
few_first (b ∷ bs) = omega arith

-- a place of a typed key is in a block that there is
pub within : (blocks : List Block) (key : Key) (at : ℕ) (place : Place) → slice_get (places_of blocks key) at ≡ Some place → place.block < length blocks
unfolding places_of
within blocks key at place = by (is_global key)
  where
    by : (g : Bool) → slice_get (places_from (name key) 0 0 (cond g (take 1 blocks) blocks)) at ≡ Some place → place.block < length blocks
    by true is = let few = few_first blocks in let low = within_from (name key) 0 0 (take 1 blocks) at place is in omega (arith, few, low)
    by false is = let low = within_from (name key) 0 0 blocks at place is in omega (arith, low)

-- ---- the global block alone

none_from : (key : List ℕ) (number lists : ℕ) (blocks : List Block) → last_true global_alone (places_from key (suc number) lists blocks) ≡ None
none_from key number lists [] = refl
none_from key number lists (b ∷ bs) =
    let e : suc number + 1 ≡ suc (suc number) = omega arith in
    by (places_from key (suc number + 1) (lists + lists_of b.settings) bs)
    (ap (λ n. last_true global_alone (places_from key n (lists + lists_of b.settings) bs)) e ∙ none_from key (suc number) (lists + lists_of b.settings) bs)
    (position (is_of key) b.settings)
  where
    by : (rest : List Place) → last_true global_alone rest ≡ None → (o : Option ℕ) → last_true global_alone (with_place (option_map (λ n. record { block = suc number; at = n; first_list = lists + lists_of (take n b.settings) }) o) rest) ≡ None
    by rest none None = none
    by rest none (Some n) = ap (λ (p : Option Place). or_else p None) none

global_from : (key : List ℕ) (b : Block) (bs : List Block) → last_true global_alone (places_from key 0 0 (b ∷ bs)) ≡ place_of key 0 0 b.settings
global_from key b bs = by (position (is_of key) b.settings)
  where
    rest : List Place
    rest = places_from key (0 + 1) (0 + lists_of b.settings) bs

    none : last_true global_alone rest ≡ None
    none = none_from key 0 (0 + lists_of b.settings) bs

    by : (o : Option ℕ) → last_true global_alone (with_place (option_map (λ n. record { block = 0; at = n; first_list = 0 + lists_of (take n b.settings) }) o) rest)
        ≡ option_map (λ n. record { block = 0; at = n; first_list = 0 + lists_of (take n b.settings) }) o
    by None = none
    by (Some n) = ap (λ (p : Option Place). or_else p (Some (record { block = 0; at = n; first_list = 0 + lists_of (take n b.settings) }))) none

-- where the global block alone is True, what it sets counts
pub global_is : (key : Key) (b : Block) (bs : List Block) → winner (b ∷ bs) global_alone key ≡ place_of (name key) 0 0 b.settings
unfolding places_of
global_is key b bs = by (is_global key)
  where
    by : (g : Bool) → last_true global_alone (places_from (name key) 0 0 (cond g (take 1 (b ∷ bs)) (b ∷ bs))) ≡ place_of (name key) 0 0 b.settings
    by true = global_from (name key) b []
    by false = global_from (name key) b bs

pub none_is : (key : Key) (blocks : List Block) → length blocks ≡ 0 → winner blocks global_alone key ≡ None
unfolding places_of
none_is key (b ∷ bs) e = absurd (omega (arith, e))
none_is key [] e = by (is_global key)
  where
    by : (g : Bool) → last_true global_alone (places_from (name key) 0 0 (cond g (take 1 []) [])) ≡ None
    by true = refl
    by false = refl
