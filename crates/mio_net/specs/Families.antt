-- Families: a client and the gateway links that were dialled for it stand in a circle of places.
use Rattle.std.specs.Prelude.{ℕ, List, set, replicate, Option, Some, None, slice_index_or}
use Rattle.std.specs.Option.{unwrap_or}

pub record Circles : Type 0 where
  -- by place, the place that stands behind it; none where it stands alone
  pub behind : List (Option ℕ)
  -- by place, the place before it
  pub before : List (Option ℕ)

abbrev pub all_alone : Circles
all_alone = record { behind = replicate 4096 None; before = replicate 4096 None }

abbrev pub behind : ℕ → Circles → ℕ
behind place circles = unwrap_or (slice_index_or circles.behind place None) place

abbrev pub before : ℕ → Circles → ℕ
before place circles = unwrap_or (slice_index_or circles.before place None) place

-- the second place stands behind the first one
abbrev pub linked : ℕ → ℕ → Circles → Circles
linked first second circles = record { behind = set circles.behind first (Some second); before = set circles.before second (Some first) }

abbrev pub alone : ℕ → Circles → Circles
alone place circles = record { behind = set circles.behind place None; before = set circles.before place None }

-- a place that stood alone stands behind another, before what stood behind that
abbrev pub joins : ℕ → ℕ → Circles → Circles
joins place other circles = linked other place (linked place (behind other circles) circles)

-- its neighbours stand behind one another, and it stands alone
abbrev pub leaves : ℕ → Circles → Circles
leaves place circles = alone place (linked (before place circles) (behind place circles) circles)
