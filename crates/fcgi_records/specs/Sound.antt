-- What holds of each state.
use Rattle.std.specs.Prelude.{◌<◌}
use Rattle.fcgi_records.specs.declared.state.State.{State}
use Rattle.fcgi_records.specs.declared.state.State.TheVariants as state

-- where bytes are counted, one is still to come
abbrev pub IsSoundState : State → Type 0
IsSoundState (state.Stdout left padding) = 0 < left
IsSoundState (state.Stderr left padding) = 0 < left
IsSoundState (state.Padding left) = 0 < left
IsSoundState (state.Status left padding) = 0 < left
IsSoundState (state.Unused left padding) = 0 < left
IsSoundState (state.EndPadding left) = 0 < left
IsSoundState other = Unit {0}
