-- Words of the laws on a choice.
use Rattle.std.specs.Prelude.{◌≡◌, ℕ, ◌+◌, ◌-◌, Bool, true, false, nat_lt, List, if◌then◌else◌}
use Rattle.std.specs.List.{slice_index_or}

-- a host stands at this place, and was not tried
abbrev pub IsUntried : List Bool → ℕ → Type 0
IsUntried tried place = slice_index_or tried place true ≡ false

-- how far a place is behind the list's position, in the round of so many hosts
abbrev pub distance : ℕ → ℕ → ℕ → ℕ
distance next hosts place = if nat_lt place next then place + hosts - next else place - next
