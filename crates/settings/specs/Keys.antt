-- The keys that have a type, and their names (lighttpd documentation, "Configuration: all options").
use Rattle.std.specs.Prelude.{ℕ, Bool, true, false, ◌||◌, List, [], ◌∷◌, Option, Some, None, codes, if◌then◌else◌}
use Rattle.std.specs.Str.{bytes_eq}
use Rattle.settings.specs.declared.key.Key.{Key}
use Rattle.settings.specs.declared.key.Key.TheVariants.{DocumentRoot, Port, Bind, Modules, Tag, MaxRequestSize, MaxKeepAliveRequests, IndexFileNames, MimetypeAssign, ExcludeExtensions, RewriteOnce, RewriteRepeat, FastcgiServer, FastcgiBalance, ProxyServer, ProxyBalance}
use Rattle.settings.specs.declared.key.TheConstants.{KEYS}

unfoldable pub name : Key → List ℕ
name DocumentRoot = codes "server.document-root"
name Port = codes "server.port"
name Bind = codes "server.bind"
name Modules = codes "server.modules"
name Tag = codes "server.tag"
name MaxRequestSize = codes "server.max-request-size"
name MaxKeepAliveRequests = codes "server.max-keep-alive-requests"
name IndexFileNames = codes "index-file.names"
name MimetypeAssign = codes "mimetype.assign"
name ExcludeExtensions = codes "static-file.exclude-extensions"
name RewriteOnce = codes "url.rewrite-once"
name RewriteRepeat = codes "url.rewrite-repeat"
name FastcgiServer = codes "fastcgi.server"
name FastcgiBalance = codes "fastcgi.balance"
name ProxyServer = codes "proxy.server"
name ProxyBalance = codes "proxy.balance"

-- the number of a key among all
abbrev pub row : Key → ℕ
row DocumentRoot = 0
row Port = 1
row Bind = 2
row Modules = 3
row Tag = 4
row MaxRequestSize = 5
row MaxKeepAliveRequests = 6
row IndexFileNames = 7
row MimetypeAssign = 8
row ExcludeExtensions = 9
row RewriteOnce = 10
row RewriteRepeat = 11
row FastcgiServer = 12
row FastcgiBalance = 13
row ProxyServer = 14
row ProxyBalance = 15

-- the key counts in the global block alone
abbrev pub is_global : Key → Bool
is_global Port = true
is_global Bind = true
is_global Modules = true
is_global key = false

-- the first of these keys with this name
abbrev pub key_among : List Key → List ℕ → Option Key
key_among [] text = None
key_among (key ∷ keys) text = if bytes_eq (name key) text then Some key else key_among keys text

-- the typed key of this name
unfoldable pub key_of : List ℕ → Option Key
key_of text = key_among KEYS text

-- ---- keys by their names, for those who read settings one by one

-- the key's value is a list of rules
abbrev pub is_rule_list : List ℕ → Bool
is_rule_list key = bytes_eq key (codes "url.rewrite-once") || bytes_eq key (codes "url.rewrite-repeat")

-- the key's value is a list of gateways, each with a list of hosts
abbrev pub is_gateway : List ℕ → Bool
is_gateway key = bytes_eq key (codes "fastcgi.server") || bytes_eq key (codes "proxy.server")
