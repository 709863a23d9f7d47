-- A trace that a script gives (README.md of this crate, 'How a script is played').
use Rattle.std.specs.Prelude.{◌≡◌, List, [], ◌∷◌}
use Rattle.lt_world.specs.Trace.{Entry}
use Rattle.lt_script.specs.declared.script.Step.{Step}
use Rattle.script_net.specs.Calls.{Game, Call, start, after}

-- the game after calls, the newest first
abbrev pub played : List Call → Game → Game
played [] game = game
played (call ∷ calls) game = after call (played calls game)

-- the trace has just the answers that the script gives to some calls, after which these steps are left
pub record Plays (steps : List Step) (trace : List Entry) (left : List Step) : Type 0 where
  pub calls : List Call
  pub told : (played calls (start steps)).trace ≡ trace
  pub rest : (played calls (start steps)).left ≡ left
