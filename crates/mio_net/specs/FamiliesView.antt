-- The families as contracts see them.
use Rattle.std.specs.Prelude.{◌≡◌, ℕ, ◌<◌, slice_index_or, vec_len, Some, None}
use Rattle.mio_net.specs.declared.families.Families.TheInside.{Inside}
use Rattle.mio_net.specs.Families.{Circles}

abbrev pub circles_of : Inside → Circles
circles_of a = record { behind = a.behind.items; before = a.before.items }

-- each neighbour is a place
pub record AreCircles (a : Inside) : Type 0 where
  pub behind_all : vec_len a.behind ≡ 4096
  pub before_all : vec_len a.before ≡ 4096
  pub behind_within : (place other : ℕ) → slice_index_or a.behind.items place None ≡ Some other → other < 4096
  pub before_within : (place other : ℕ) → slice_index_or a.before.items place None ≡ Some other → other < 4096
