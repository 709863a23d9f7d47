-- What each answer of a net means (src/net.rt, the trait `Net`).
use Rattle.std.specs.Prelude.{◌≡◌, ℕ, ◌<◌, ◌≤◌, List, [], ◌∷◌, length, take, false, Some, None}
use Rattle.lt_world.specs.declared.net.Address.{Address}
use Rattle.lt_world.specs.declared.net.Owner.{Owner}
use Rattle.lt_world.specs.declared.net.Event.{Event}
use Rattle.lt_world.specs.declared.net.Event.TheVariants as event
use Rattle.lt_world.specs.declared.net.Got.{Got}
use Rattle.lt_world.specs.declared.net.Got.TheVariants as got
use Rattle.lt_world.specs.declared.net.Took.{Took}
use Rattle.lt_world.specs.declared.net.Took.TheVariants as took
use Rattle.lt_world.specs.declared.net.Dialled.{Dialled}
use Rattle.lt_world.specs.declared.net.Dialled.TheVariants as dialled
use Rattle.lt_world.specs.declared.net.NextKind.{NextKind}
use Rattle.lt_world.specs.declared.net.NextKind.TheVariants as kind
use Rattle.lt_world.specs.Trace.{Act, Entry, Reading, Writing, Accepted, Readable, Writable, Read, ReadEnd, NotYet, Failed, Wrote, Connect, said, names}

-- what the trace gains by an answer of `next`
abbrev pub event_tells : Event → List Entry → List Entry
event_tells (event.Arrived link peer local) trace = said link.0 (Accepted peer local ∷ []) trace
event_tells (event.Readable link) trace = said link.0 (Readable ∷ []) trace
event_tells (event.Writable link) trace = said link.0 (Writable ∷ []) trace
event_tells event.Idle trace = trace
event_tells event.Over trace = trace
event_tells event.NoMemory trace = trace

-- of which kind an answer is
abbrev pub kind_of : Event → NextKind
kind_of (event.Arrived link peer local) = kind.Event
kind_of (event.Readable link) = kind.Event
kind_of (event.Writable link) = kind.Event
kind_of event.Idle = kind.Idle
kind_of event.Over = kind.Over
kind_of event.NoMemory = kind.NoMemory

-- a link that arrives was never named before
abbrev pub IsFresh : Event → List Entry → Type 0
IsFresh (event.Arrived link peer local) trace = names link.0 trace ≡ false
IsFresh other trace = Unit {0}

-- a link that arrives has the next number or one above it, and every other event is of a link that is there
abbrev pub IsNumbered : Event → ℕ → ℕ → Type 0
IsNumbered (event.Arrived link peer local) before after = (before ≤ link.0) × (link.0 < after)
IsNumbered (event.Readable link) before after = (link.0 < before) × (after ≡ before)
IsNumbered (event.Writable link) before after = (link.0 < before) × (after ≡ before)
IsNumbered other before after = after ≡ before

-- a fact where the answer is an event of a link
abbrev pub OnEvent : Event → Type 0 → Type 0
OnEvent (event.Arrived link peer local) P = P
OnEvent (event.Readable link) P = P
OnEvent (event.Writable link) P = P
OnEvent other P = Unit {0}

-- each answer of `next` but Over and NoMemory uses up an event; after Over none is left, and NoMemory loses none
abbrev pub UsesEvent : Event → ℕ → ℕ → Type 0
UsesEvent event.Over before after = after ≡ 0
UsesEvent event.NoMemory before after = after ≡ before
UsesEvent other before after = after < before

-- what a read is told as: the size of the buffer, and what was put at its front
abbrev pub read_act : Got → List ℕ → Act
read_act (got.Bytes n) buf = Read (length buf) (take n buf)
read_act got.End buf = ReadEnd
read_act got.NotYet buf = NotYet Reading
read_act got.Failed buf = Failed Reading

-- what a write is told as: how much was offered, and what was taken from its front
abbrev pub write_act : Took → List ℕ → Act
write_act (took.Bytes n) bytes = Wrote (length bytes) (take n bytes)
write_act took.NotYet bytes = NotYet Writing
write_act took.Failed bytes = Failed Writing

-- what a connect is told as, on the link of the client for which it was made
abbrev pub dial_act : Dialled → Owner → Address → Act
dial_act (dialled.Link link) owner to = Connect owner to (Some link.0)
dial_act dialled.Failed owner to = Connect owner to None

-- a read gives from one byte to the whole buffer
abbrev pub GotWithin : Got → ℕ → Type 0
GotWithin (got.Bytes n) size = (1 ≤ n) × (n ≤ size)
GotWithin answer size = Unit {0}

-- a write takes from one byte to all that was offered
abbrev pub TookWithin : Took → ℕ → Type 0
TookWithin (took.Bytes n) size = (1 ≤ n) × (n ≤ size)
TookWithin answer size = Unit {0}

-- a link that is dialled was never named before
abbrev pub IsFreshDial : Dialled → List Entry → Type 0
IsFreshDial (dialled.Link link) trace = names link.0 trace ≡ false
IsFreshDial dialled.Failed trace = Unit {0}

-- a link that is dialled has the next number or one above it
abbrev pub IsNumberedDial : Dialled → ℕ → ℕ → Type 0
IsNumberedDial (dialled.Link link) before after = (before ≤ link.0) × (link.0 < after)
IsNumberedDial dialled.Failed before after = after ≡ before
