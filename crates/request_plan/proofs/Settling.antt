-- What is found on attributes is what the model speaks of.
use Rattle.std.proofs.Common.{◌≡◌, ℕ, ◌+◌, ◌≤◌, List, [], length, map, Option, Some, None, Result, Ok, Err, refl, sym, ◌∙◌, ap, arith}
use Rattle.std.specs.Prelude.{IfOk, slice_get, unwrap_or}
use Rattle.std.specs.Option.{option_map}
use Rattle.std.proofs.lemmas.Option.{slice_get-map}
use Rattle.conf_value.specs.declared.block.Block.{Block}
use Rattle.conf_value.specs.declared.value.Pair.{Pair}
use Rattle.conditions.specs.Attributes.{Attributes}
use Rattle.cond_cache.specs.declared.place.Place.{Place}
use Rattle.cond_cache.specs.Kept.{Counts, asked}
use Rattle.settings.specs.declared.places.Place as settings
use Rattle.settings.specs.declared.key.Key.TheVariants.{MimetypeAssign}
use Rattle.settings.specs.Indexed.{global_alone, places_of}
use Rattle.settings.specs.Used.{Values, pairs_or_none, seen, setting_at, values_where}
use Rattle.static_files.specs.MediaTypes.{mime}
use Rattle.static_files.specs.TypeTables.{list_at}
use Rattle.lt_bytes.specs.declared.memory.NoMemory.{NoMemory}
use Rattle.server_model.specs.Attributes.{no_address}
use Rattle.server_model.specs.Request.{Head}
use Rattle.server_model.specs.Rewrites.{rewriting}
use Rattle.server_model.specs.Settings.{Settings, settings_from, settings_on, global_settings}
use Rattle.request_settings.specs.declared.attributes.Arrival.{Arrival}
use Rattle.request_settings.specs.declared.values.SettingsNow.{SettingsNow}
use Rattle.request_settings.specs.Values.{values_on}
use Rattle.request_settings.specs.Lists.{lists_on, rewriting_on}
use Rattle.request_plan.specs.Lent.{came, lent, wanted}
use Rattle.request_plan.specs.Kept.{types_at}

pub settings_same : (blocks : List Block) (a : Attributes) → settings_from (values_on blocks a) ≡ settings_on blocks a
unfolding values_on settings_on
settings_same blocks a = refl

pub global_same : (blocks : List Block) → settings_from (values_where blocks global_alone) ≡ global_settings blocks
unfolding global_settings
global_same blocks = refl

pub rewriting_same : (blocks : List Block) (arrival : Arrival) (head : Head) → rewriting_on blocks arrival head head.target ≡ rewriting blocks (Some (came arrival)) head
unfolding rewriting_on rewriting lists_on values_on
rewriting_same blocks arrival head = refl

-- settings that are lent
pub lent_are : (r : Result SettingsNow NoMemory) (values : Values) (s : Settings) → IfOk r (λ (now : SettingsNow). seen now.settings ≡ values) → settings_from values ≡ s → IfOk r (λ (now : SettingsNow). lent now.settings ≡ s)
lent_are (Ok now) values s are same = ap settings_from are ∙ same
lent_are (Err e) values s are same = tt

-- a comparison that is counted
pub counts_wanted : {A E : Type 0} (r : Result A E) (old new : List Place) (before now : ℕ) → Counts r old new before now → now + length (asked old) ≤ before + length (asked new) + wanted r
counts_wanted (Ok x) old new before now counts = omega (arith, counts)
counts_wanted (Err e) old new before now counts = omega (arith, counts.1)

-- attributes of nothing
pub no_attributes : Attributes
no_attributes = record { host = []; url = []; query = []; method = []; peer = no_address; local = no_address; fields = []; physical = None }

-- the list of a place among those of all places
pub list_of : (f : settings.Place → List Pair) (places : List settings.Place) (number : ℕ) (place : settings.Place) → slice_get places number ≡ Some place → list_at (map f places) number ≡ f place
list_of f places number place is = ap (λ (o : Option (List Pair)). unwrap_or o []) (slice_get-map f places number ∙ ap (option_map f) is)

-- the media type by the list of a place is that of the settings that are set there
pub type_of : (blocks : List Block) (types : List (List Pair)) (places : List settings.Place) (number : ℕ) (place : settings.Place) (assigned : List Pair) (at : Option settings.Place) (path : List ℕ)
    → types ≡ map (types_at blocks) (places_of blocks MimetypeAssign) → places ≡ places_of blocks MimetypeAssign → slice_get places number ≡ Some place → assigned ≡ pairs_or_none (setting_at blocks at) → at ≡ Some place
    → mime (list_at types number) path ≡ mime assigned path
type_of blocks types places number place assigned at path tables all is set where_set =
    ap (λ (l : List Pair). mime l path)
    (ap (λ (t : List (List Pair)). list_at t number) (tables ∙ ap (map (types_at blocks)) (sym all)) ∙ list_of (types_at blocks) places number place is
    ∙ ap (λ (o : Option settings.Place). pairs_or_none (setting_at blocks o)) (sym where_set) ∙ sym set)
