-- What holds for a request: the values of the configuration's keys, by the truths of its blocks (lighttpd documentation of `server.document-root`, `server.tag`, `server.max-keep-alive-requests`, `server.max-request-size`, `index-file.names`, `static-file.exclude-extensions` and `mimetype.assign`; "Conditional configuration").
use Rattle.std.specs.Prelude.{ℕ, ◌+◌, nat_le, List, Bool, ◌||◌, Option, Some, None}
use Rattle.conf_value.specs.declared.block.Block.{Block}
use Rattle.conf_value.specs.declared.value.Pair.{Pair}
use Rattle.conf_value.specs.declared.truth.Truth.{Truth}
use Rattle.conditions.specs.Attributes.{Attributes}
use Rattle.cond_cache.specs.Truths.{truth_of}
use Rattle.settings.specs.Used.{Values, values_where}
use Rattle.settings.specs.Indexed.{global_alone}
use Rattle.server_model.specs.Attributes.{attributes_at}
use Rattle.server_model.specs.Request.{Head, Limits}
use Rattle.server_model.specs.Site.{Site}
use Rattle.server_model.specs.World.{Arrival, World}

pub record Settings : Type 0 where
  -- the document root, without a / at its end
  pub root : List ℕ
  -- what the server calls itself in its replies
  pub tag : List ℕ
  -- requests that one connection may send
  pub request_limit : ℕ
  -- bytes of a body, at most
  pub body_limit : ℕ
  -- what is looked for in a directory
  pub index_names : List Pair
  -- ends of paths that aren't served
  pub excluded : List Pair
  -- media types by ends of paths
  pub types : List Pair

abbrev pub settings_from : Values → Settings
settings_from values = record {
  root = values.server_document_root;
  tag = values.server_tag;
  request_limit = values.server_max_keep_alive_requests;
  body_limit = values.server_max_request_size;
  index_names = values.index_file_names;
  excluded = values.static_file_exclude_extensions;
  types = values.mimetype_assign;
}

-- the settings of blocks on these attributes; proofs know nothing of them but where they say so
unfoldable pub settings_on : List Block → Attributes → Settings
settings_on blocks a = settings_from (values_where blocks (truth_of blocks a))

-- the settings of the global block alone
unfoldable pub global_settings : List Block → Settings
global_settings blocks = settings_from (values_where blocks global_alone)

-- the truth of each block, by its number, for a request of a client that came so, as it was sent, of which this head was read; where none was, the global block alone holds
abbrev pub truths_at : Site → Option Arrival → Option Head → ℕ → Truth
truths_at site arrival None = global_alone
truths_at site arrival (Some head) = truth_of site.blocks (attributes_at arrival head head.target)

-- the settings of such a request, before it is rewritten and its file is known
abbrev pub settings_at : Site → Option Arrival → Option Head → Settings
settings_at site arrival None = global_settings site.blocks
settings_at site arrival (Some head) = settings_on site.blocks (attributes_at arrival head head.target)

abbrev pub settings_of : World → Option Head → Settings
settings_of world head = settings_at world.site world.side.arrival head

-- bytes of a request's body, at most, by its head
abbrev pub limit_for : World → Limits
limit_for world head = (settings_of world (Some head)).body_limit

-- no request may come after request k, by how many may: the number is reached, or there is none above it
abbrev pub is_reached : ℕ → ℕ → Bool
is_reached limit k = nat_le 4294967295 k || nat_le limit (k + 1)

-- the connection doesn't outlast request k (RFC 9112, section 9.3)
abbrev pub is_last_request : ℕ → ℕ → Head → Bool
is_last_request limit k head = head.close || is_reached limit k
