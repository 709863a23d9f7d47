-- How many conditions are compared in a turn.
use Rattle.std.specs.Prelude.{◌≡◌, ℕ, ◌+◌, ◌≤◌, List, [], ◌∷◌, ◌++◌, Option, Some, None}
use Rattle.lt_world.specs.declared.net.Ending.{Ending}
use Rattle.lt_world.specs.declared.net.Ending.TheVariants as ending
use Rattle.lt_world.specs.Trace.{Act, Entry, Close}
use Rattle.server_model.specs.Comparing.{comparisons, passes_in_turn}
use Rattle.server_model.specs.Site.{Site}
use Rattle.server_model.specs.Turns.{Seen}

-- one comparison more, where memory was wanted in it
abbrev pub wants : Option Ending → ℕ
wants None = 0
wants (Some ending.NoMemory) = 1
wants (Some e) = 0

-- one more, where the last act was a close for want of memory
abbrev pub wanted_by : Act → ℕ
wanted_by (Close e) = wants (Some e)
wanted_by act = 0

abbrev pub wanted_in : List Entry → ℕ
wanted_in [] = 0
wanted_in (entry ∷ entries) = wanted_by entry.act

-- in a turn that began with an entry of a link, no more are compared than the request of its client takes that is planned in it; by the files before the turn, on which no request depends
abbrev pub ComparesIn : Site → Seen → List Entry → List Entry → ℕ → ℕ → Type 0
ComparesIn site seen old now before after = (link : ℕ) (event : Act) (more : List Entry) → now ≡ more ++ record { link = link; act = event } ∷ old
    → after ≤ before + comparisons site (passes_in_turn site link seen seen old now) + wanted_in now
