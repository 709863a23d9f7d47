-- What the replies to a client depend on beside its requests.
use Rattle.std.specs.Prelude.{ℕ, List, [], ◌∷◌, Bool, true, false, Option, Some, None}
use Rattle.lt_world.specs.declared.net.Address.{Address}
use Rattle.lt_world.specs.Trace.{Act, Accepted}
use Rattle.lt_world.specs.declared.files.Call.{Call}
use Rattle.lt_world.specs.declared.files.FileCall.{FileCall}
use Rattle.lt_world.specs.declared.net.Owner.{Owner}
use Rattle.lt_world.specs.Disk.{Tree, Disk, own_calls, count, log_of, is_logged}
use Rattle.server_model.specs.Site.{Site}
use Rattle.server_model.specs.Deeds.{Deed, Ours}

-- where a client came from, and to which address
pub record Arrival : Type 0 where
  pub peer : Address
  pub local : Address

-- what a client's own deeds tell beside its requests
pub record Side : Type 0 where
  -- none before it came
  pub arrival : Option Arrival

-- what an act on its own link tells: its arrival alone
abbrev pub side_after : Act → Side → Side
side_after (Accepted peer local) side = record side { arrival = Some (record { peer = peer; local = local }) }
side_after act side = side

abbrev pub is_arrival : Act → Bool
is_arrival (Accepted peer local) = true
is_arrival act = false

abbrev pub side_of : List Deed → Side
side_of [] = record { arrival = None }
side_of (Ours act ∷ deeds) = side_after act (side_of deeds)

-- what the replies to a client depend on beside its requests
pub record World : Type 0 where
  pub client : ℕ
  -- what is served
  pub site : Site
  pub side : Side
  pub tree : Tree
  -- the calls on files for this client
  pub calls : List Call

abbrev pub world_at : Site → Disk → ℕ → Side → World
world_at site disk client side = record { client = client; site = site; side = side; tree = disk.tree; calls = own_calls client disk.calls }

-- the world of a client of these deeds
abbrev pub world_of : Site → Disk → ℕ → List Deed → World
world_of site disk client deeds = world_at site disk client (side_of deeds)

-- request k of the client, as files know it
abbrev pub owner_at : World → ℕ → Owner
owner_at world k = record { conn = world.client; request = k }

-- how many calls of this kind were made for request k
abbrev pub call_count : World → ℕ → FileCall → ℕ
call_count world k what = count what (owner_at world k) world.calls

-- the call of this kind with this number for request k, counted from 0, is in the log of faults
abbrev pub has_failed_call : World → ℕ → FileCall → ℕ → Bool
has_failed_call world k what nth = is_logged what (owner_at world k) nth (log_of world.calls)

-- a further call for request k
abbrev pub with_call : FileCall → ℕ → Bool → World → World
with_call what k failed world = record { client = world.client; site = world.site; side = world.side; tree = world.tree; calls = record { kind = what; owner = owner_at world k; failed = failed } ∷ world.calls }
