-- What is kept while requests are planned: what is served, and what was found of the conditions for the present request.
use Rattle.std.specs.Prelude.{◌≡◌, ℕ, List, [], map, length, Some}
use Rattle.conf_value.specs.declared.block.Block.{Block}
use Rattle.conf_value.specs.declared.value.Pair.{Pair}
use Rattle.cond_cache.specs.declared.place.Place.{Place}
use Rattle.cond_cache.specs.Kept.{AreRight, HavePlaces, asked}
use Rattle.conditions.specs.Attributes.{Attributes}
use Rattle.settings.specs.declared.key.Key.TheVariants.{MimetypeAssign}
use Rattle.settings.specs.declared.places.Place as settings
use Rattle.settings.specs.Indexed.{global_alone, places_of}
use Rattle.settings.specs.Used.{pairs_or_none, seen, setting_at, values_where}
use Rattle.request_settings.specs.Lists.{Belongs}
use Rattle.server_model.specs.Attributes.{attributes_at}
use Rattle.server_model.specs.Request.{Head}
use Rattle.server_model.specs.Site as model
use Rattle.server_model.specs.World.{Arrival}
use Rattle.request_plan.specs.declared.planner.Planner.TheInside.{Inside}

pub record Kept : Type 0 where
  pub site : model.Site
  -- what was found of each block's condition
  pub places : List Place

-- how many conditions were compared since the attributes changed
abbrev pub asked_of : Kept → ℕ
asked_of kept = length (asked kept.places)

-- nothing was found yet, which is right on any attributes
pub record IsFresh (kept : Kept) : Type 0 where
  pub right : (a : Attributes) → AreRight kept.site.blocks a kept.places
  pub none : asked kept.places ≡ []

-- what was found is right for a request of a client that came so, as it was sent
abbrev pub IsRightFor : Arrival → Head → Kept → Type 0
IsRightFor arrival head kept = AreRight kept.site.blocks (attributes_at (Some arrival) head head.target) kept.places

-- ---- what the fields stand for

abbrev pub kept_of : Inside → Kept
kept_of p = record { site = record { blocks = p.config.now.blocks }; places = p.conds }

-- the media types that are set at a place
abbrev pub types_at : List Block → settings.Place → List Pair
types_at blocks place = pairs_or_none (setting_at blocks (Some place))

-- a configuration in form with its index and its patterns, a place for each block, the media types of each place that
-- sets them, and the values where the global block alone holds
pub record IsPlanner (p : Inside) : Type 0 where
  pub belongs : Belongs p.config.now p.index p.matchers
  pub places : HavePlaces p.config.now.blocks p.conds
  pub types : p.types ≡ map (types_at p.config.now.blocks) (places_of p.config.now.blocks MimetypeAssign)
  pub global : seen p.global ≡ values_where p.config.now.blocks global_alone
