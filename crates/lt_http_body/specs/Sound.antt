-- What holds of each state.
use Rattle.std.specs.Prelude.{◌<◌, ◌≤◌, ◌^◌}
use Rattle.lt_http_body.specs.declared.limits.TheConstants.{SIZE_DIGITS}
use Rattle.lt_http_body.specs.declared.state.State.{State}
use Rattle.lt_http_body.specs.declared.state.State.TheVariants as state

-- a size fits its digits, data has a byte to come, and a trailer has room to end
abbrev pub IsSoundState : State → Type 0
IsSoundState (state.Stated left) = 0 < left
IsSoundState (state.Size digits size) = (digits ≤ SIZE_DIGITS) × (size < 16 ^ digits)
IsSoundState (state.Data left) = 0 < left
IsSoundState (state.Trailer left) = 1 ≤ left
IsSoundState (state.TrailerLine left) = 2 ≤ left
IsSoundState (state.TrailerFeed left) = 2 ≤ left
IsSoundState other = Unit {0}
