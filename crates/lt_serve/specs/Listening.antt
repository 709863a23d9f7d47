-- Where a server listens (lighttpd documentation, `server.bind` and `server.port`), and what it puts out of it.
use Rattle.std.specs.Prelude.{List, get_or, ◌++◌, codes, ℕ}
use Rattle.std.specs.Fmt.{decimal}
use Rattle.conf_value.specs.declared.block.Block.{Block}
use Rattle.settings.specs.Indexed.{global_alone}
use Rattle.settings.specs.Used.{Values, values_where}
use Rattle.lt_world.specs.declared.net.Address.{Address}

abbrev pub bound_at : Values → Address
bound_at values = record { ip = values.server_bind; port = values.server_port }

-- the two keys count in the global block alone
abbrev pub address_of : List Block → Address
address_of blocks = bound_at (values_where blocks global_alone)

-- `IP:PORT`
abbrev pub address_text : Address → List ℕ
address_text at = decimal (get_or at.ip 0 0) ++ (codes "." ++ (decimal (get_or at.ip 1 0) ++ (codes "." ++ (decimal (get_or at.ip 2 0) ++ (codes "." ++ (decimal (get_or at.ip 3 0) ++ (codes ":" ++ decimal at.port)))))))

-- `listening on IP:PORT`
abbrev pub listening_line : Address → List ℕ
listening_line at = codes "listening on " ++ (address_text at ++ codes "\n")
