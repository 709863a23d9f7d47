-- What is known of a net that plays a script.
use Rattle.std.specs.Prelude.{◌≡◌, ◌≤◌, ℕ, List, []}
use Rattle.lt_world.specs.declared.net.NextKind.{NextKind}
use Rattle.lt_world.specs.declared.net.NextKind.TheVariants.{NoneYet}
use Rattle.lt_script.specs.declared.script.Script.{Script}
use Rattle.lt_script.specs.declared.script.Step.{Step}
use Rattle.script_net.specs.Steps.{events_left}
use Rattle.script_net.specs.Calls.{Game, Call, start}
use Rattle.script_net.specs.Plays.{played}
use Rattle.script_net.specs.Waited.{Waited, unwaited}

-- the script, the game, and what a net counts beside it
pub record Playing : Type 0 where
  -- the script that it plays, whole
  pub script : List Step
  pub game : Game
  -- the calls of `listen` and `wait`
  pub waited : Waited
  pub faults : ℕ
  -- the kind of the last answer of `next`
  pub last : NextKind
  -- the room that is left until the next `next`
  pub calls : ℕ
  pub room : ℕ

-- a net that was asked for nothing yet, with these steps, and whose calls of `listen` and `wait` don't fail
abbrev pub unplayed : List Step → Playing
unplayed steps = record { script = steps; game = start steps; waited = unwaited []; faults = 0; last = NoneYet; calls = 0; room = 0 }

-- the same with a script
abbrev pub prepared : Script → Playing
prepared script = record (unplayed script.steps) { waited = unwaited script.faults }

-- what a net may become by the calls of `Net`: the same script, and some calls lead from the one to the other; so its
-- count of failures never falls, and its events get no more
pub record IsLater (a b : Playing) : Type 0 where
  pub same : b.script ≡ a.script
  pub calls : List Call
  pub plays : b.game ≡ played calls a.game
  pub waited : b.waited ≡ a.waited
  pub faults : a.faults ≤ b.faults
  pub left : events_left b.game.left ≤ events_left a.game.left
