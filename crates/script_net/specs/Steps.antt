-- What each step of a script does (README.md of this crate, 'How a script is played').
use Rattle.std.specs.Prelude.{ℕ, ◌+◌, ◌-◌, max, Bool, true, List, [], ◌∷◌, ◌++◌, length, set, Option, Some, None, if◌then◌else◌, ◌==◌, nat_lt}
use Rattle.lt_world.specs.declared.net.Event.{Event}
use Rattle.lt_world.specs.declared.net.Event.TheVariants.{Arrived, Readable, Writable, Idle}
use Rattle.lt_script.specs.declared.script.Name.{Name}
use Rattle.lt_script.specs.declared.script.Step.{Step}
use Rattle.lt_script.specs.declared.script.Step.TheVariants as step
use Rattle.script_net.specs.declared.steps.Taker.{Taker}
use Rattle.script_net.specs.Letters.{letters}
use Rattle.script_net.specs.Sides.{Side, fresh_side, side_at, with_bytes, with_end, with_failing_reads, with_failing_writes}

-- the link of a name: clients are numbered as links, and no link is a gateway's yet
abbrev pub link_of : Name → ℕ → ℕ
link_of name links = if name.gate then links else name.number

-- the link of this name is open
abbrev pub is_open_at : Name → List Side → Bool
is_open_at name sides = (side_at (link_of name (length sides)) sides).is_open

-- the link that the step names, if any, is open
abbrev pub is_due : Step → List Side → Bool
is_due (step.Accept peer local) sides = true
is_due (step.Bytes name bytes) sides = is_open_at name sides
is_due (step.Pour name size) sides = is_open_at name sides
is_due (step.End name) sides = is_open_at name sides
is_due (step.Ready name count) sides = is_open_at name sides
is_due (step.ReadFail name) sides = is_open_at name sides
is_due (step.Take name size count) sides = is_open_at name sides
is_due (step.WriteFail name) sides = is_open_at name sides
is_due step.Idle sides = true

-- a step whose link isn't open is skipped, with what is left of its count
abbrev pub skip : List Side → List Step → List Step
skip sides [] = []
skip sides (step ∷ steps) = if is_due step sides then step ∷ steps else skip sides steps

-- the event of a step, over this many links; one that arrives gets the next number
abbrev pub event_of : Step → ℕ → Event
event_of (step.Accept peer local) links = Arrived (record { 0 = links }) peer local
event_of (step.Bytes name bytes) links = Readable (record { 0 = link_of name links })
event_of (step.Pour name size) links = Readable (record { 0 = link_of name links })
event_of (step.End name) links = Readable (record { 0 = link_of name links })
event_of (step.Ready name count) links = Readable (record { 0 = link_of name links })
event_of (step.ReadFail name) links = Readable (record { 0 = link_of name links })
event_of (step.Take name size count) links = Writable (record { 0 = link_of name links })
event_of (step.WriteFail name) links = Writable (record { 0 = link_of name links })
event_of step.Idle links = Idle

-- the links, of which one is changed
abbrev pub change : ℕ → (Side → Side) → List Side → List Side
change link f sides = set sides link (f (side_at link sides))

-- what a step does to the links
abbrev pub sides_after : Step → List Side → List Side
sides_after (step.Accept peer local) sides = sides ++ fresh_side ∷ []
sides_after (step.Bytes name bytes) sides = change (link_of name (length sides)) (with_bytes bytes) sides
sides_after (step.Pour name size) sides = change (link_of name (length sides)) (with_bytes (letters size)) sides
sides_after (step.End name) sides = change (link_of name (length sides)) with_end sides
sides_after (step.Ready name count) sides = sides
sides_after (step.ReadFail name) sides = change (link_of name (length sides)) with_failing_reads sides
sides_after (step.Take name size count) sides = sides
sides_after (step.WriteFail name) sides = change (link_of name (length sides)) with_failing_writes sides
sides_after step.Idle sides = sides

-- the link to which a write may take something until the next event, and how much
abbrev pub taker_of : Step → ℕ → Option Taker
taker_of (step.Take name size count) links = Some (record { link = link_of name links; size = size })
taker_of other links = None

-- a write outside a `take` takes nothing
abbrev pub allowed : Option Taker → ℕ → ℕ
allowed None link = 0
allowed (Some taker) link = if taker.link == link then taker.size else 0

-- the steps after one event of the first of them
abbrev pub less : Step → List Step → List Step
less (step.Ready name count) rest = if nat_lt 1 count then step.Ready name (count - 1) ∷ rest else rest
less (step.Take name size count) rest = if nat_lt 1 count then step.Take name size (count - 1) ∷ rest else rest
less other rest = rest

-- how often a step is an event
abbrev pub count_of : Step → ℕ
count_of (step.Ready name count) = count
count_of (step.Take name size count) = count
count_of other = 1

-- how many events a step is, one at least
abbrev pub events_of : Step → ℕ
events_of step = max (count_of step) 1

-- how many events the steps are
abbrev pub events_left : List Step → ℕ
events_left [] = 0
events_left (step ∷ steps) = events_of step + events_left steps

-- a step of which so many events were played
abbrev pub lowered : ℕ → Step → Step
lowered played (step.Ready name count) = step.Ready name (count - played)
lowered played (step.Take name size count) = step.Take name size (count - played)
lowered played other = other

-- the steps that are left where so many events of the first were played
abbrev pub steps_from : ℕ → List Step → List Step
steps_from played [] = []
steps_from played (step ∷ steps) = lowered played step ∷ steps
