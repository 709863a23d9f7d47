-- The values that count: each typed key after its rule, or its default.
use Rattle.std.specs.Prelude.{ℕ, Bool, List, [], ◌∷◌, map, Option, None, Some, slice_get, codes, if◌then◌else◌}
use Rattle.std.specs.List.{list_any}
use Rattle.std.specs.Str.{bytes_eq}
use Rattle.conf_value.specs.declared.block.Setting.{Setting}
use Rattle.conf_value.specs.declared.block.Block.{Block}
use Rattle.conf_value.specs.declared.value.Value.{out-Value}
use Rattle.conf_value.specs.declared.value.Pair.{Pair, out-Pair}
use Rattle.conf_value.specs.declared.truth.Truth.{Truth}
use Rattle.gate_hosts.specs.declared.choosing.Policy.{Policy}
use Rattle.gate_hosts.specs.declared.choosing.Policy.TheVariants.{Fair, RoundRobin}
use Rattle.settings.specs.declared.key.Key.{Key}
use Rattle.settings.specs.declared.key.Key.TheVariants.{DocumentRoot, Port, Bind, Modules, Tag, MaxRequestSize, MaxKeepAliveRequests, IndexFileNames, MimetypeAssign, ExcludeExtensions, RewriteOnce, RewriteRepeat, FastcgiServer, FastcgiBalance, ProxyServer, ProxyBalance}
use Rattle.settings.specs.declared.places.Place.{Place}
use Rattle.settings.specs.declared.placed.Placed.{Placed as Lent}
use Rattle.settings.specs.declared.lent.Rules.{Rules}
use Rattle.settings.specs.declared.lent.Settings.{Settings}
use Rattle.settings.specs.declared.gateway.Gateways.{Gateways}
use Rattle.settings.specs.declared.host.Host.{Host}
use Rattle.settings.specs.declared.gateway.Hosts.{Hosts}
use Rattle.settings.specs.declared.gateway.Form.{Form}
use Rattle.settings.specs.declared.gateway.Form.TheVariants.{One, Many}
use Rattle.settings.specs.Kinds.{text_in, number_in, pairs_in, without_last_slash, port_of, bound_to, bytes_of, one_or_more}
use Rattle.settings.specs.Gateways.{HostList, lists_from, host_of, host_in}
use Rattle.settings.specs.Indexed.{truth_in, winner}

-- ---- the setting at a place

abbrev pub in_block : Option Block → ℕ → Option Setting
in_block (Some block) at = slice_get block.settings at
in_block None at = None

-- a setting and its place
pub record Placed : Type 0 where
  pub place : Place
  pub setting : Setting

abbrev pub with_setting : Place → Option Setting → Option Placed
with_setting place (Some setting) = Some (record { place = place; setting = setting })
with_setting place None = None

abbrev pub setting_at : List Block → Option Place → Option Placed
setting_at blocks (Some place) = with_setting place (in_block (slice_get blocks place.block) place.at)
setting_at blocks None = None

-- ---- values of settings, or a default

abbrev pub text_or : List ℕ → Option Placed → List ℕ
text_or default (Some found) = text_in default (out-Value found.setting.value)
text_or default None = default

abbrev pub number_or : ℕ → Option Placed → ℕ
number_or default (Some found) = number_in default (out-Value found.setting.value)
number_or default None = default

abbrev pub pairs_or_none : Option Placed → List Pair
pairs_or_none (Some found) = pairs_in (out-Value found.setting.value)
pairs_or_none None = []

-- a list of rules, the number of the block that sets it, and the number of its first pattern
pub record RuleList : Type 0 where
  pub block : ℕ
  pub first_pattern : ℕ
  pub rules : List Pair

abbrev pub rules_or_none : Option Placed → RuleList
rules_or_none (Some found) = record { block = found.place.block; first_pattern = found.setting.first_pattern; rules = pairs_in (out-Value found.setting.value) }
rules_or_none None = record { block = 0; first_pattern = 0; rules = [] }

abbrev pub gateways_or_none : Option Placed → List HostList
gateways_or_none (Some found) = lists_from found.place.first_list (pairs_in (out-Value found.setting.value))
gateways_or_none None = []

-- how hosts share requests; every other word counts as `fair`
abbrev pub policy_of : List ℕ → Policy
policy_of word = if bytes_eq word (codes "round-robin") then RoundRobin else Fair

-- ---- modules

abbrev pub is_name : List ℕ → Pair → Bool
is_name name pair = bytes_eq (text_in [] (out-Value (out-Pair pair).value)) name

-- what a key of a module is set to counts where `server.modules` names the module
abbrev pub of_module : List ℕ → List Pair → Option Placed → Option Placed
of_module name modules found = if list_any (is_name name) modules then found else None

-- ---- the values of all typed keys

pub record Values : Type 0 where
  pub server_document_root : List ℕ
  pub server_port : ℕ
  pub server_bind : List ℕ
  pub server_modules : List Pair
  pub server_tag : List ℕ
  -- in bytes
  pub server_max_request_size : ℕ
  pub server_max_keep_alive_requests : ℕ
  pub index_file_names : List Pair
  pub mimetype_assign : List Pair
  pub static_file_exclude_extensions : List Pair
  pub url_rewrite_once : RuleList
  pub url_rewrite_repeat : RuleList
  pub fastcgi_server : List HostList
  pub fastcgi_balance : Policy
  pub proxy_server : List HostList
  pub proxy_balance : Policy

-- the default and the rule of each key, by the setting of it that counts, where these modules are named
abbrev pub values_with : List Pair → (Key → Option Placed) → Values
values_with modules found = record {
  server_document_root = without_last_slash (text_or [] (found DocumentRoot));
  server_port = port_of (number_or 80 (found Port));
  server_bind = bound_to (text_or (codes "0.0.0.0") (found Bind));
  server_modules = modules;
  server_tag = text_or (codes "lighttpd") (found Tag);
  server_max_request_size = bytes_of (number_or 1024 (found MaxRequestSize));
  server_max_keep_alive_requests = one_or_more (number_or 100 (found MaxKeepAliveRequests));
  index_file_names = pairs_or_none (found IndexFileNames);
  mimetype_assign = pairs_or_none (found MimetypeAssign);
  static_file_exclude_extensions = pairs_or_none (found ExcludeExtensions);
  url_rewrite_once = rules_or_none (of_module (codes "mod_rewrite") modules (found RewriteOnce));
  url_rewrite_repeat = rules_or_none (of_module (codes "mod_rewrite") modules (found RewriteRepeat));
  fastcgi_server = gateways_or_none (of_module (codes "mod_fastcgi") modules (found FastcgiServer));
  fastcgi_balance = policy_of (text_or (codes "fair") (of_module (codes "mod_fastcgi") modules (found FastcgiBalance)));
  proxy_server = gateways_or_none (of_module (codes "mod_proxy") modules (found ProxyServer));
  proxy_balance = policy_of (text_or (codes "fair") (of_module (codes "mod_proxy") modules (found ProxyBalance)));
}

-- the values where each key is set at this place, or nowhere
abbrev pub values_at : List Block → (Key → Option Place) → Values
values_at blocks place = values_with (pairs_or_none (setting_at blocks (place Modules))) (λ key. setting_at blocks (place key))

-- the values that count where each block, by its number, has this truth
abbrev pub values_where : List Block → (ℕ → Truth) → Values
values_where blocks truth = values_at blocks (winner blocks truth)

-- the same for truths in a list, one a block
abbrev pub values_of : List Block → List Truth → Values
values_of blocks truths = values_where blocks (truth_in truths)

-- ---- what the settings that are lent say

abbrev pub lent_placed : Lent → Placed
lent_placed lent = record { place = lent.place; setting = lent.setting.now }

abbrev pub rules_seen : Rules → RuleList
rules_seen rules = record { block = rules.block; first_pattern = rules.first_pattern; rules = rules.rules.now }

abbrev pub gateways_seen : Gateways → List HostList
gateways_seen gateways = lists_from gateways.first_list gateways.entries.now

abbrev pub form_seen : Form → List Host
form_seen (One pairs) = host_of pairs.now ∷ []
form_seen (Many pairs) = map host_in pairs.now

abbrev pub hosts_seen : Hosts → HostList
hosts_seen hosts = record { key = hosts.key.now; list = hosts.list; hosts = form_seen hosts.form }

abbrev pub seen : Settings → Values
seen settings = record {
  server_document_root = settings.server_document_root.now;
  server_port = settings.server_port;
  server_bind = settings.server_bind;
  server_modules = settings.server_modules.now;
  server_tag = settings.server_tag.now;
  server_max_request_size = settings.server_max_request_size;
  server_max_keep_alive_requests = settings.server_max_keep_alive_requests;
  index_file_names = settings.index_file_names.now;
  mimetype_assign = settings.mimetype_assign.now;
  static_file_exclude_extensions = settings.static_file_exclude_extensions.now;
  url_rewrite_once = rules_seen settings.url_rewrite_once;
  url_rewrite_repeat = rules_seen settings.url_rewrite_repeat;
  fastcgi_server = gateways_seen settings.fastcgi_server;
  fastcgi_balance = settings.fastcgi_balance;
  proxy_server = gateways_seen settings.proxy_server;
  proxy_balance = settings.proxy_balance;
}
