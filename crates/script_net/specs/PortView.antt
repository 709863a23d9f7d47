-- For proofs alone: what a net keeps for one link.
use Rattle.std.specs.Prelude.{ℕ, List, [], get_or, Option, None}
use Rattle.lt_world.specs.declared.net.Ending.{Ending}
use Rattle.script_net.specs.Sides.{Side, no_side, fresh_side}

-- a link, what it took, and how it ended
pub record PortView : Type 0 where
  pub side : Side
  -- the bytes that it took
  pub taken : List ℕ
  -- how it was closed
  pub ending : Option Ending
  -- for how many more bytes there is room
  pub room : ℕ

-- what is kept for a link that never arrived
abbrev pub no_kept : PortView
no_kept = record { side = no_side; taken = []; ending = None; room = 0 }

-- what is kept for a link that arrives
abbrev pub fresh_kept : PortView
fresh_kept = record { side = fresh_side; taken = []; ending = None; room = 0 }

-- what is kept for the link of this number
abbrev pub kept_at : ℕ → List PortView → PortView
kept_at link ports = get_or ports link no_kept
