-- Gateway values (lighttpd documentation, `fastcgi.server` and `proxy.server`): each entry of the array names by its key the
-- requests that are handed on, and lists the hosts that take them. The list is an array of hosts, whose own keys don't count,
-- or one host.
use Rattle.std.specs.Prelude.{ℕ, ◌+◌, Bool, true, false, ◌&&◌, ◌||◌, not, List, [], ◌∷◌, length, map, Option, Some, None, codes, if◌then◌else◌}
use Rattle.std.specs.Int.{is_in_range}
use Rattle.std.specs.List.{list_all, list_any}
use Rattle.std.specs.Option.{is_some, unwrap_or}
use Rattle.std.specs.Str.{bytes_eq}
use Rattle.conf_value.specs.declared.value.Value.{Value, out-Value}
use Rattle.conf_value.specs.declared.value.Value.TheOpen.{Value-F}
use Rattle.conf_value.specs.declared.value.Pair.{Pair, out-Pair}
use Rattle.conf_value.specs.Addresses.{address_of}
use Rattle.conf_value.specs.Joining.{has_key}
use Rattle.settings.specs.declared.rule.PortRule.{PortRule}
use Rattle.settings.specs.declared.rule.PortRule.TheVariants.{Needed, Optional}
use Rattle.settings.specs.declared.host.Host.{Host}
use Rattle.settings.specs.Kinds.{is_between, pairs_in, text_in, number_in, port_of, bound_to}

-- ---- a host: an array of pairs, of which the first with a key counts

-- the value of a key
abbrev pub value_in : List ℕ → List Pair → Option Value
value_in key [] = None
value_in key (pair ∷ pairs) = if has_key key pair then Some (out-Pair pair).value else value_in key pairs

-- the list of hosts is one host
abbrev pub is_one : List Pair → Bool
is_one pairs = list_any (has_key (codes "host")) pairs

-- ---- which hosts are good

-- `host` is a dotted IPv4 address
abbrev pub is_address : Value-F Value Pair → Bool
is_address (Value-F.Text text) = is_some (address_of text)
is_address other = false

abbrev pub is_good_address : Option Value → Bool
is_good_address None = false
is_good_address (Some value) = is_address (out-Value value)

-- `port` is a number from 1 to 65,535
abbrev pub is_port : Value-F Value Pair → Bool
is_port (Value-F.Number n) = is_between 1 65535 n
is_port other = false

abbrev pub may_lack : PortRule → Bool
may_lack Needed = false
may_lack Optional = true

abbrev pub is_good_port : PortRule → Option Value → Bool
is_good_port rule None = may_lack rule
is_good_port rule (Some value) = is_port (out-Value value)

-- `check-local` is `enable` or `disable`
abbrev pub is_switch : Value-F Value Pair → Bool
is_switch (Value-F.Text text) = bytes_eq text (codes "enable") || bytes_eq text (codes "disable")
is_switch other = false

abbrev pub is_good_switch : Option Value → Bool
is_good_switch None = true
is_good_switch (Some value) = is_switch (out-Value value)

abbrev pub is_good_host : PortRule → List Pair → Bool
is_good_host rule pairs =
    is_good_address (value_in (codes "host") pairs) && (is_good_port rule (value_in (codes "port") pairs) && is_good_switch (value_in (codes "check-local") pairs))

abbrev pub is_host : PortRule → Value-F Value Pair → Bool
is_host rule (Value-F.Array pairs) = is_good_host rule pairs
is_host rule other = false

abbrev pub is_good_item : PortRule → Pair → Bool
is_good_item rule pair = is_host rule (out-Value (out-Pair pair).value)

-- ---- which entries are good

-- one host, or 1 to 16
abbrev pub are_good_hosts : PortRule → List Pair → Bool
are_good_hosts rule pairs = if is_one pairs then is_good_host rule pairs else is_in_range 1 16 (length pairs) && list_all (is_good_item rule) pairs

abbrev pub is_host_list : PortRule → Value-F Value Pair → Bool
is_host_list rule (Value-F.Array pairs) = are_good_hosts rule pairs
is_host_list rule other = false

abbrev pub is_good_gateway : PortRule → Pair → Bool
is_good_gateway rule pair = is_some (out-Pair pair).key && is_host_list rule (out-Value (out-Pair pair).value)

-- ---- parts without effect: a host has a further pair

abbrev pub is_known_key : List ℕ → Bool
is_known_key key = bytes_eq key (codes "host") || (bytes_eq key (codes "port") || bytes_eq key (codes "check-local"))

abbrev pub is_further_key : Option (List ℕ) → Bool
is_further_key None = true
is_further_key (Some key) = not (is_known_key key)

abbrev pub is_further : Pair → Bool
is_further pair = is_further_key (out-Pair pair).key

abbrev pub has_further : Pair → Bool
has_further pair = list_any is_further (pairs_in (out-Value (out-Pair pair).value))

abbrev pub have_further : List Pair → Bool
have_further pairs = if is_one pairs then list_any is_further pairs else list_any has_further pairs

abbrev pub entry_has_further : Pair → Bool
entry_has_further pair = have_further (pairs_in (out-Value (out-Pair pair).value))

-- ---- what a good value says

abbrev pub text_or_none : Option Value → List ℕ
text_or_none None = []
text_or_none (Some value) = text_in [] (out-Value value)

abbrev pub number_or_80 : Option Value → ℕ
number_or_80 None = 80
number_or_80 (Some value) = number_in 80 (out-Value value)

-- a port that isn't set is 80; a request's file is looked for first unless `check-local` is `disable`
abbrev pub host_of : List Pair → Host
host_of pairs = record {
  at = record { ip = bound_to (text_or_none (value_in (codes "host") pairs)); port = port_of (number_or_80 (value_in (codes "port") pairs)) };
  check_local = not (bytes_eq (text_or_none (value_in (codes "check-local") pairs)) (codes "disable"));
}

abbrev pub host_in : Pair → Host
host_in pair = host_of (pairs_in (out-Value (out-Pair pair).value))

abbrev pub hosts_of : List Pair → List Host
hosts_of pairs = if is_one pairs then host_of pairs ∷ [] else map host_in pairs

-- an entry of a gateway value: its key, the number of its list of hosts among those of the whole configuration, and the hosts
pub record HostList : Type 0 where
  pub key : List ℕ
  pub list : ℕ
  pub hosts : List Host

abbrev pub host_list : ℕ → Pair → HostList
host_list number pair = record { key = unwrap_or (out-Pair pair).key []; list = number; hosts = hosts_of (pairs_in (out-Value (out-Pair pair).value)) }

-- the entries of a value, of which the first list has this number
abbrev pub lists_from : ℕ → List Pair → List HostList
lists_from number [] = []
lists_from number (pair ∷ pairs) = host_list number pair ∷ lists_from (number + 1) pairs
