-- What the calls of a net do where it plays a script (README.md of this crate, 'How a script is played').
use Rattle.std.specs.Prelude.{◌≡◌, ℕ, zero, suc, ◌+◌, ◌-◌, ◌^◌, List, [], ◌∷◌, length, take, min, Bool, Option, None, if◌then◌else◌}
use Rattle.lt_world.specs.Trace.{Act, Entry, NotYet, Failed, Writing, Wrote, Connect, Close, said}
use Rattle.lt_world.specs.Answers.{event_tells}
use Rattle.lt_world.specs.declared.net.Address.{Address}
use Rattle.lt_world.specs.declared.net.Owner.{Owner}
use Rattle.lt_world.specs.declared.net.Ending.{Ending}
use Rattle.lt_world.specs.declared.net.Event.{Event}
use Rattle.lt_world.specs.declared.net.Event.TheVariants.{Over, NoMemory}
use Rattle.lt_script.specs.declared.script.Step.{Step}
use Rattle.script_net.specs.declared.steps.Taker.{Taker}
use Rattle.script_net.specs.Sides.{Side, side_at, gives, with_read, with_close}
use Rattle.script_net.specs.Steps.{skip, event_of, sides_after, change, taker_of, allowed, less}

-- where the playing of a script stands
pub record Game : Type 0 where
  pub left : List Step
  -- the links, by their numbers
  pub sides : List Side
  -- the link to which a write may take something
  pub taker : Option Taker
  -- the answers so far, the newest first
  pub trace : List Entry

-- before the first call
abbrev pub start : List Step → Game
start steps = record { left = steps; sides = []; taker = None; trace = [] }

-- the calls of a net, but for one of `next` that had no memory
pub data Call : Type 0 where
  Next : Call
  -- the link, and the size of the buffer
  Reads : ℕ → ℕ → Call
  Writes : ℕ → List ℕ → Call
  Connects : Owner → Address → Call
  Closes : ℕ → Ending → Call

-- the event at these steps
abbrev pub answer_of : List Step → List Side → Event
answer_of [] sides = Over
answer_of (step ∷ rest) sides = event_of step (length sides)

-- the game after the event at these steps
abbrev pub begin : List Step → Game → Game
begin [] game = record game { left = []; taker = None }
begin (step ∷ rest) game = record {
  left = less step rest;
  sides = sides_after step game.sides;
  taker = taker_of step (length game.sides);
  trace = event_tells (event_of step (length game.sides)) game.trace;
}

-- what a write is told as that took so many of the bytes
abbrev pub some_taken : ℕ → List ℕ → Act
some_taken zero bytes = NotYet Writing
some_taken (suc n) bytes = Wrote (length bytes) (take (suc n) bytes)

-- the answer of a write: as much as is allowed of what is offered, or nothing where writes fail
abbrev pub takes : Bool → ℕ → List ℕ → Act
takes fails most bytes = if fails then Failed Writing else some_taken (min most (length bytes)) bytes

-- the game with one more answer
abbrev pub tell : ℕ → Act → Game → Game
tell link act game = record game { trace = said link (act ∷ []) game.trace }

-- the game after a call
abbrev pub after : Call → Game → Game
after Next game = begin (skip game.sides game.left) game
after (Reads link size) game = tell link (gives size (side_at link game.sides)) (record game { sides = change link (with_read size) game.sides })
after (Writes link bytes) game = tell link (takes (side_at link game.sides).writes_fail (allowed game.taker link) bytes) game
after (Connects owner to) game = tell owner.conn (Connect owner to None) game
after (Closes link ending) game = tell link (Close ending) (record game { sides = change link with_close game.sides })

-- what an answer of `next` says: one without memory changes nothing
abbrev pub Turns : Event → Game → Game → Type 0
Turns NoMemory before now = now ≡ before
Turns event before now = (event ≡ answer_of (skip before.sides before.left) before.sides) × (now ≡ after Next before)

-- the count of failed calls after an answer: one that failed raises it, up to the greatest value
abbrev pub counted : Act → ℕ → ℕ
counted (Failed way) faults = min (faults + 1) (2 ^ 64 - 1)
counted (Connect owner to None) faults = min (faults + 1) (2 ^ 64 - 1)
counted other faults = faults
