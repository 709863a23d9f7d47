-- The attributes of a request (lighttpd documentation, "Conditional configuration").
use Rattle.std.specs.Prelude.{None}
use Rattle.conditions.specs.Attributes.{Attributes}
use Rattle.http_head.specs.declared.head.Request.{Request}
use Rattle.http_target.specs.declared.read.Target.{Target}
use Rattle.request_settings.specs.declared.attributes.Arrival.{Arrival}

-- those of a client that came so, by the head that was read and a target that the request has or comes to have; of whose
-- file the path is not known
abbrev pub attributes_on : Arrival → Request → Target → Attributes
attributes_on arrival head target = record {
  host = head.host;
  url = target.path;
  query = target.query;
  method = head.method;
  peer = arrival.peer;
  local = arrival.local;
  fields = head.fields;
  physical = None;
}
