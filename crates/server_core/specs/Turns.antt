-- What a turn of the server means.
use Rattle.std.specs.Prelude.{◌≡◌, ℕ, ◌<◌, List}
use Rattle.lt_world.specs.declared.net.NextKind.{NextKind}
use Rattle.lt_world.specs.declared.net.NextKind.TheVariants as kind
use Rattle.lt_world.specs.Trace.{Entry}
use Rattle.server_model.specs.Site.{Site}
use Rattle.server_model.specs.Turns.{Seen, IsTurn}
use Rattle.server_core.specs.declared.turn.Turn.{Turn}
use Rattle.server_core.specs.declared.turn.Turn.TheVariants as turn

-- what the trace gained, by the answer, and by how many buffers were spare before
abbrev pub Turned : Turn → Site → ℕ → Seen → Seen → List Entry → List Entry → Type 0
Turned turn.Did site spare before after old now = IsTurn site spare before after old now
Turned other site spare before after old now = now ≡ old

-- a fact where nothing was done
abbrev pub OnRest : Turn → Type 0 → Type 0
OnRest turn.Did P = Unit {0}
OnRest other P = P

-- the answer is that of the net
abbrev pub KindFits : Turn → NextKind → Type 0
KindFits turn.Did last = last ≡ kind.Event
KindFits turn.Idle last = last ≡ kind.Idle
KindFits turn.Over last = last ≡ kind.Over
KindFits turn.NoMemory last = last ≡ kind.NoMemory

-- a turn uses up an event, but at the end and for want of memory
abbrev pub Uses : Turn → ℕ → ℕ → Type 0
Uses turn.Over before after = after ≡ 0
Uses turn.NoMemory before after = after ≡ before
Uses other before after = after < before
