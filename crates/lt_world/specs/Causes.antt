-- When an object of the outside may say that it failed.
use Rattle.std.specs.Prelude.{ℕ, ◌+◌, ◌-◌, ◌^◌, ◌≤◌, min}
use Rattle.lt_world.specs.declared.net.Got.{Got}
use Rattle.lt_world.specs.declared.net.Got.TheVariants as got
use Rattle.lt_world.specs.declared.net.Took.{Took}
use Rattle.lt_world.specs.declared.net.Took.TheVariants as took
use Rattle.lt_world.specs.declared.net.Dialled.{Dialled}
use Rattle.lt_world.specs.declared.net.Dialled.TheVariants as dialled

-- a count of 64 bits rose, or stands at its greatest value
abbrev pub Rose : ℕ → ℕ → Type 0
Rose before now = min (before + 1) (2 ^ 64 - 1) ≤ now

-- a read fails only where the count rose
abbrev pub GotCause : Got → ℕ → ℕ → Type 0
GotCause got.Failed before now = Rose before now
GotCause answer before now = Unit {0}

-- a write fails only where the count rose
abbrev pub TookCause : Took → ℕ → ℕ → Type 0
TookCause took.Failed before now = Rose before now
TookCause answer before now = Unit {0}

-- a connect fails only where the count rose
abbrev pub DialCause : Dialled → ℕ → ℕ → Type 0
DialCause dialled.Failed before now = Rose before now
DialCause answer before now = Unit {0}
