-- What conditions see of a request (lighttpd documentation, "Conditional configuration"): its head, the target that it has by now, where its client came from, and the path of its file, once that is known.
use Rattle.std.specs.Prelude.{ℕ, List, [], ◌∷◌, Option, Some, None}
use Rattle.lt_world.specs.declared.net.Address.{Address}
use Rattle.http_target.specs.declared.read.Target.{Target}
use Rattle.conditions.specs.Attributes.{Attributes}
use Rattle.cond_cache.specs.Kept.{with_physical}
use Rattle.server_model.specs.Request.{Head}
use Rattle.server_model.specs.World.{Arrival}

-- of a client that didn't come yet
abbrev pub no_address : Address
no_address = record { ip = 0 ∷ 0 ∷ 0 ∷ 0 ∷ []; port = 0 }

abbrev pub peer_of : Option Arrival → Address
peer_of None = no_address
peer_of (Some arrival) = arrival.peer

abbrev pub local_of : Option Arrival → Address
local_of None = no_address
local_of (Some arrival) = arrival.local

-- on a target, while the path of the file isn't known
abbrev pub attributes_at : Option Arrival → Head → Target → Attributes
attributes_at arrival head target = record {
  host = head.host;
  url = target.path;
  query = target.query;
  method = head.method;
  peer = peer_of arrival;
  local = local_of arrival;
  fields = head.fields;
  physical = None;
}

-- once a file is known to stand there, or a directory whose index is looked for: by its path in the target's place, and by where it stands
abbrev pub seen_at : Option Arrival → Head → Target → List ℕ → List ℕ → Attributes
seen_at arrival head target path physical = with_physical path physical (attributes_at arrival head target)
