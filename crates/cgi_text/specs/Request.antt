-- What a gateway is asked: a request as its parts, over plain lists.
use Rattle.std.specs.Prelude.{ℕ, Bool, List, [], ◌∷◌, ◌++◌, decimal, slice_index}
use Rattle.http_header.specs.FieldValue.{FieldValue}
use Rattle.http_header.specs.HeaderMap.{Entries}
use Rattle.lt_world.specs.declared.net.Address.{Address}
use Rattle.cgi_text.specs.declared.request.GateRequest.{GateRequest}

-- the method; the target before it was rewritten, the target and its query after; the document root, the script's name
-- and the rest of the path; the server's name; the minor version; the host, and the field that names it; the addresses
-- of the client and of the server; whether a body was framed, and its length; the fields
pub record RequestParts : Type 0 where
  pub method : List ℕ
  pub uri : List ℕ
  pub target : List ℕ
  pub query : List ℕ
  pub root : List ℕ
  pub script : List ℕ
  pub info : List ℕ
  pub tag : List ℕ
  pub minor : ℕ
  pub host : List ℕ
  pub host_field : List ℕ
  pub peer : Address
  pub local : Address
  pub framed : Bool
  pub body_len : ℕ
  pub fields : Entries FieldValue

-- the parts of a request that is lent
abbrev pub parts_of : GateRequest → RequestParts
parts_of r = record {
  method = r.method.now;
  uri = r.uri.now;
  target = r.target.now;
  query = r.query.now;
  root = r.root.now;
  script = r.script.now;
  info = r.info.now;
  tag = r.tag.now;
  minor = r.minor;
  host = r.host.now;
  host_field = r.host_field.now;
  peer = r.peer;
  local = r.local;
  framed = r.framed;
  body_len = r.body_len;
  fields = r.fields.now;
}

-- an IPv4 address in dotted decimal form
abbrev pub ip_text : List ℕ → List ℕ
ip_text ip =
    decimal (slice_index ip 0) ++ 46 ∷ [] ++ (decimal (slice_index ip 1) ++ 46 ∷ [] ++ (decimal (slice_index ip 2) ++ 46 ∷ [] ++ decimal (slice_index ip 3)))
