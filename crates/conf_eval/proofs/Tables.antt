-- The settings of a block, by the places of their keys.
use Rattle.std.proofs.Common.{◌≡◌, ℕ, ◌<◌, List, [], ◌∷◌, ◌++◌, length, slice_get, slice_set, Option, Some, None, option_map, Bool, true, false, if◌then◌else◌, refl, sym, ◌∙◌, ap}
use Rattle.std.specs.Str.{bytes_eq}
use Rattle.std.proofs.lemmas.Slice.Eq.{bytes_eq-Decides}
use Rattle.conf_value.specs.declared.value.Value.{Value}
use Rattle.conf_value.specs.declared.block.Setting.{Setting}
use Rattle.conf_eval.specs.Settings.{value_of, with_setting}
use Rattle.conf_eval.specs.Places.{further, sets_key, place_of_setting}
use Rattle.conf_eval.proofs.Placed.{puts, found, lacks, stays}

-- ---- settings

with_setting-puts : (settings : List Setting) (new : Setting) → with_setting settings new ≡ puts sets_key settings new.key new
with_setting-puts [] new = refl
with_setting-puts (s ∷ settings) new = ap (λ (l : List Setting). if bytes_eq s.key new.key then new ∷ settings else s ∷ l) (with_setting-puts settings new)

each_setting : (key : List ℕ) (s : Setting) → sets_key s key ≡ true → (k : List ℕ) → sets_key s k ≡ bytes_eq key k
each_setting key s e k = ap (λ (l : List ℕ). bytes_eq l k) ((bytes_eq-Decides s.key key).0 e)

-- what a key is set to, by its place
abbrev pub value_at : List Setting → Option ℕ → Option Value
value_at settings None = None
value_at settings (Some at) = option_map (λ s. s.value) (slice_get settings at)

shift : (s : Setting) (settings : List Setting) (at : Option ℕ) → value_at (s ∷ settings) (further at) ≡ value_at settings at
shift s settings None = refl
shift s settings (Some at) = refl

pub value_by : (settings : List Setting) (key : List ℕ) → value_of key settings ≡ value_at settings (place_of_setting settings key)
value_by [] key = refl
value_by (s ∷ settings) key = by (value_by settings key) (bytes_eq s.key key)
  where
    by : value_of key settings ≡ value_at settings (place_of_setting settings key) → (b : Bool) → (if b then Some s.value else value_of key settings) ≡ value_at (s ∷ settings) (if b then Some 0 else further (place_of_setting settings key))
    by rest true = refl
    by rest false = rest ∙ sym (shift s settings (place_of_setting settings key))

-- a key that is there is set in its place
pub record SetsAt (settings : List Setting) (new : Setting) (at : ℕ) : Type 0 where
  pub below : at < length settings
  pub put : with_setting settings new ≡ slice_set settings at new
  pub stays : (q : List ℕ) → place_of_setting (slice_set settings at new) q ≡ place_of_setting settings q

pub sets_at : (settings : List Setting) (new : Setting) (at : ℕ) → place_of_setting settings new.key ≡ Some at → SetsAt settings new at
sets_at settings new at p = let h = found sets_key settings new.key at p in record {
  below = h.below;
  put = with_setting-puts settings new ∙ h.put new;
  stays = λ q. ap (λ (l : List Setting). place_of_setting l q) (sym (h.put new)) ∙ stays sets_key settings new.key new (λ k. refl) (each_setting new.key) at p q;
}

-- a key that isn't there is set behind the others
pub record SetsLast (settings : List Setting) (new : Setting) : Type 0 where
  pub put : with_setting settings new ≡ settings ++ new ∷ []
  pub placed : (q : List ℕ) → place_of_setting (settings ++ new ∷ []) q ≡ (if bytes_eq new.key q then Some (length settings) else place_of_setting settings q)

pub sets_last : (settings : List Setting) (new : Setting) → place_of_setting settings new.key ≡ None → SetsLast settings new
sets_last settings new p = let h = lacks sets_key settings new.key p in record {
  put = with_setting-puts settings new ∙ h.put new;
  placed = λ q. ap (λ (l : List Setting). place_of_setting l q) (sym (h.put new)) ∙ h.placed new (λ k. refl) q;
}

-- ---- what is found

module _ (settings whole : List Setting) (key : List ℕ) (place : Option ℕ) (v : settings ≡ whole) (p : place ≡ place_of_setting settings key) where
  found_as : (o : Option ℕ) → place ≡ o → value_of key whole ≡ value_at settings o
  found_as o e = ap (value_of key) (sym v) ∙ value_by settings key ∙ ap (value_at settings) (sym p ∙ e)

  pub get_none : place ≡ None → None ≡ value_of key whole
  get_none e = sym (found_as None e)

  pub get_at : (at : ℕ) (s : Option Setting) → place ≡ Some at → s ≡ slice_get settings at → option_map (λ (x : Setting). x.value) s ≡ value_of key whole
  get_at at s e i = sym (found_as (Some at) e ∙ ap (option_map (λ (x : Setting). x.value)) (sym i))
