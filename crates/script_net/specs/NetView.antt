-- For proofs alone: what the fields of a net that plays a script stand for.
use Rattle.std.specs.Prelude.{ℕ, ◌≤◌, List, drop, length, get_or, Option, Some, None}
use Rattle.script_net.specs.declared.steps.Taker.{Taker}
use Rattle.script_net.specs.declared.net.ScriptNet.TheInside.{Inside}
use Rattle.script_net.specs.Steps.{steps_from}
use Rattle.script_net.specs.Playing.{Playing}

-- the fields as the net that they stand for
abbrev pub playing_of : Inside → Playing
playing_of a = record {
  script = a.steps;
  game = record { left = steps_from a.played (drop a.at a.steps); sides = a.links.sides; taker = a.taker; trace = a.links.trace };
  waited = a.waiting;
  faults = a.faults;
  last = a.last;
  calls = a.links.calls;
  room = a.room;
}

-- the link that may take bytes has room for them
abbrev pub IsReady : Option Taker → ℕ → List ℕ → Type 0
IsReady None room rooms = Unit {0}
IsReady (Some taker) room rooms = room ≤ get_or rooms taker.link 0

-- what holds of the fields between calls
pub record IsPlaying (a : Inside) : Type 0 where
  pub within : a.at ≤ length a.steps
  pub ready : IsReady a.taker a.room a.links.rooms
