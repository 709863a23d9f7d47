-- What stands at the place of a key that counts is the setting of the last block that is True and sets it.
use Rattle.std.proofs.Common.{◌≡◌, ℕ, ◌+◌, ◌<◌, suc, zero, Bool, true, false, cond, List, [], ◌∷◌, length, take, position, Option, None, Some, refl, sym, ◌∙◌, ap, subst, add-zero, arith}
use Rattle.std.specs.Prelude.{slice_get}
use Rattle.std.specs.Option.{option_map}
use Rattle.std.specs.List.{position_from}
use Rattle.std.proofs.lemmas.Iterator.Adapters.{position_from-zero}
use Rattle.conf_value.specs.declared.block.Block.{Block}
use Rattle.conf_value.specs.declared.block.Setting.{Setting}
use Rattle.conf_value.specs.declared.truth.Truth.{Truth}
use Rattle.settings.specs.declared.key.Key.{Key}
use Rattle.settings.specs.declared.places.Place.{Place}
use Rattle.settings.specs.Keys.{name, is_global}
use Rattle.settings.specs.Used.{Placed, in_block, setting_at, with_setting}
use Rattle.settings.specs.Indexed.{is_of, lists_of, with_place, places_from, places_of, is_true, or_else, where_true, last_true}
use Rattle.settings.specs.Winning.{setting_of, set_by, or_setting, last_set, winning_setting, documented_setting}

-- a number and the setting that stands there, or neither
abbrev Stands : List Setting → Option ℕ → Option Setting → Type 0
Stands settings (Some at) (Some setting) = slice_get settings at ≡ Some setting
Stands settings None None = Unit {0}
Stands settings at setting = ⊥

-- a place and the setting that stands there, or neither
abbrev Tied : List Block → Option Place → Option Setting → Type 0
Tied blocks (Some place) (Some setting) = in_block (slice_get blocks place.block) place.at ≡ Some setting
Tied blocks None None = Unit {0}
Tied blocks place setting = ⊥

-- the setting of a key stands at its first place
stands_from : (key : List ℕ) (i : ℕ) (all settings : List Setting) → ((k : ℕ) → slice_get all (i + k) ≡ slice_get settings k) → Stands all (position_from (is_of key) i settings) (setting_of key settings)
stands_from key i all [] same = tt
stands_from key i all (setting ∷ settings) same =
    by (is_of key setting) (stands_from key (i + 1) all settings (λ k. ap (slice_get all) (let e : i + 1 + k ≡ i + suc k = omega arith in e) ∙ same (suc k)))
  where
    by : (t : Bool) → Stands all (position_from (is_of key) (i + 1) settings) (setting_of key settings)
        → Stands all (cond t (Some i) (position_from (is_of key) (i + 1) settings)) (cond t (Some setting) (setting_of key settings))
    by true h = ap (slice_get all) (sym (add-zero i)) ∙ same 0
    by false h = h

stands : (key : List ℕ) (settings : List Setting) → Stands settings (position (is_of key) settings) (setting_of key settings)
stands key settings =
    subst (λ o. Stands settings o (setting_of key settings)) (sym (position_from-zero (is_of key) settings))
    (stands_from key 0 settings settings (λ k. ap (slice_get settings) (let e : 0 + k ≡ k = omega arith in e)))

-- of two the first counts, at the places as among the settings
tied_or : (blocks : List Block) (a b : Option Place) (s r : Option Setting) → Tied blocks a s → Tied blocks b r → Tied blocks (or_else a b) (or_setting s r)
tied_or blocks (Some p) b (Some x) r h g = h
tied_or blocks None b None r h g = g
tied_or blocks (Some p) b None r h g = absurd h
tied_or blocks None b (Some x) r h g = absurd h

nothing : (w : Bool) → ◌≡◌ {A = Option Setting} (cond w None None) None
nothing true = refl
nothing false = refl

no_more : (s : Option Setting) → or_setting s None ≡ s
no_more (Some x) = refl
no_more None = refl

one : (blocks : List Block) (w : Bool) (place : Place) (x : Setting) → in_block (slice_get blocks place.block) place.at ≡ Some x → Tied blocks (cond w (Some place) None) (cond w (Some x) None)
one blocks true place x e = e
one blocks false place x e = tt

-- one block more
tied_more : (key : List ℕ) (number lists : ℕ) (all : List Block) (block : Block) (truth : ℕ → Truth) (rest : List Place) (s : Option Setting) → slice_get all number ≡ Some block → Tied all (last_true truth rest) s
    → Tied all (last_true truth (with_place (option_map (λ at. record { block = number; at = at; first_list = lists + lists_of (take at block.settings) }) (position (is_of key) block.settings)) rest))
    (or_setting s (set_by key block (truth number)))
tied_more key number lists all block truth rest s is h = by (position (is_of key) block.settings) (setting_of key block.settings) (stands key block.settings)
  where
    by : (o : Option ℕ) (x : Option Setting) → Stands block.settings o x
        → Tied all (last_true truth (with_place (option_map (λ at. record { block = number; at = at; first_list = lists + lists_of (take at block.settings) }) o) rest)) (or_setting s (cond (is_true (truth number)) x None))
    by None None g = subst (λ x. Tied all (last_true truth rest) x) (sym (ap (or_setting s) (nothing (is_true (truth number))) ∙ no_more s)) h
    by (Some at) (Some x) g =
        tied_or all (last_true truth rest) (where_true (truth number) (record { block = number; at = at; first_list = lists + lists_of (take at block.settings) })) s (cond (is_true (truth number)) (Some x) None) h
        (one all (is_true (truth number)) (record { block = number; at = at; first_list = lists + lists_of (take at block.settings) }) x (ap (λ (b : Option Block). in_block b at) is ∙ g))
    by None (Some x) g = absurd g
    by (Some at) None g = absurd g

-- the places of the blocks from one on, by the settings of these blocks
tied_from : (key : List ℕ) (number lists : ℕ) (all blocks : List Block) (truth : ℕ → Truth) → ((k : ℕ) → k < length blocks → slice_get all (number + k) ≡ slice_get blocks k)
    → Tied all (last_true truth (places_from key number lists blocks)) (last_set key truth number blocks)
tied_from key number lists all [] truth same = tt
tied_from key number lists all (block ∷ blocks) truth same =
    tied_more key number lists all block truth (places_from key (number + 1) (lists + lists_of block.settings) blocks) (last_set key truth (number + 1) blocks)
    (ap (slice_get all) (sym (add-zero number)) ∙ same 0 (omega arith))
    (tied_from key (number + 1) (lists + lists_of block.settings) all blocks truth
    (λ k low. ap (slice_get all) (let e : number + 1 + k ≡ number + suc k = omega arith in e) ∙ same (suc k) (omega (arith, low))))

-- what is tied is the setting at the place
setting_tied : (blocks : List Block) (o : Option Place) (x : Option Setting) → Tied blocks o x → option_map (λ (found : Placed). found.setting) (setting_at blocks o) ≡ x
setting_tied blocks (Some place) (Some x) h = ap (λ (s : Option Setting). option_map (λ (found : Placed). found.setting) (with_setting place s)) h
setting_tied blocks None None h = refl
setting_tied blocks (Some place) None h = absurd h
setting_tied blocks None (Some x) h = absurd h

same_first : (blocks : List Block) (k : ℕ) → k < length (take 1 blocks) → slice_get blocks (0 + k) ≡ slice_get (take 1 blocks) k
same_first [] k low = refl
same_first (block ∷ blocks) zero low = refl
same_first (block ∷ blocks) (suc k) low = absurd (omega (arith, low))

pub winner_is : (blocks : List Block) (truth : ℕ → Truth) (key : Key) → winning_setting blocks truth key ≡ documented_setting blocks truth key
unfolding places_of
winner_is blocks truth key = by (is_global key)
  where
    by : (g : Bool) → option_map (λ (found : Placed). found.setting) (setting_at blocks (last_true truth (places_from (name key) 0 0 (cond g (take 1 blocks) blocks))))
        ≡ last_set (name key) truth 0 (cond g (take 1 blocks) blocks)
    by true = setting_tied blocks (last_true truth (places_from (name key) 0 0 (take 1 blocks))) (last_set (name key) truth 0 (take 1 blocks)) (tied_from (name key) 0 0 blocks (take 1 blocks) truth (same_first blocks))
    by false = setting_tied blocks (last_true truth (places_from (name key) 0 0 blocks)) (last_set (name key) truth 0 blocks) (tied_from (name key) 0 0 blocks blocks truth (λ k low. ap (slice_get blocks) (let e : 0 + k ≡ k = omega arith in e)))
