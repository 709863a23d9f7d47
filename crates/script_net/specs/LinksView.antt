-- For proofs alone: the links of a net, and what was told of them.
use Rattle.std.specs.Prelude.{◌≡◌, ℕ, ◌+◌, ◌≤◌, List, [], ◌∷◌, get_or, length, Some}
use Rattle.lt_world.specs.Trace.{Act, Entry, said}
use Rattle.lt_world.specs.Answers.{event_tells}
use Rattle.lt_script.specs.declared.script.Step.{Step}
use Rattle.script_net.specs.declared.steps.Taker.{Taker}
use Rattle.script_net.specs.declared.steps.TheConstants.{ROOM}
use Rattle.script_net.specs.Sides.{Side}
use Rattle.script_net.specs.Steps.{event_of, sides_after, taker_of}

-- the links, the trace, and the room for more
pub record LinksView : Type 0 where
  -- the links, by their numbers
  pub sides : List Side
  -- the newest entry first
  pub trace : List Entry
  -- for how many bytes each link has room to take, by its number
  pub rooms : List ℕ
  -- for how many more entries there is room
  pub calls : ℕ

-- no link came yet
abbrev pub no_links : LinksView
no_links = record { sides = []; trace = []; rooms = []; calls = 0 }

-- an act of this link is told, the links are these then, and it took so many bytes
pub record Tells (link : ℕ) (act : Act) (links : List Side) (cost : ℕ) (before after : LinksView) : Type 0 where
  pub sides : after.sides ≡ links
  pub trace : after.trace ≡ said link (act ∷ []) before.trace
  pub calls : before.calls ≤ after.calls + 1
  pub rooms : (other : ℕ) → get_or before.rooms other 0 ≤ get_or after.rooms other 0 + cost

-- a step is told: its event, and what it does to the links; after a `take` its link has room
pub record Steps (step : Step) (before after : LinksView) : Type 0 where
  pub sides : after.sides ≡ sides_after step before.sides
  pub trace : after.trace ≡ event_tells (event_of step (length before.sides)) before.trace
  pub calls : before.calls ≤ after.calls + 1
  pub rooms : (other : ℕ) → get_or before.rooms other 0 ≤ get_or after.rooms other 0
  pub ready : (taker : Taker) → taker_of step (length before.sides) ≡ Some taker → ROOM ≤ get_or after.rooms taker.link 0

-- nothing is told, and no room is lost
pub record Stays (before after : LinksView) : Type 0 where
  pub sides : after.sides ≡ before.sides
  pub trace : after.trace ≡ before.trace
  pub calls : before.calls ≤ after.calls
  pub rooms : (other : ℕ) → get_or before.rooms other 0 ≤ get_or after.rooms other 0
