-- Which values a key takes: its kind and its rule (lighttpd documentation of each key; the limits are those of docs/CONFIGURATION.md).
use Rattle.std.specs.Prelude.{ℕ, zero, suc, ◌-◌, ◌^◌, Bool, true, false, ◌&&◌, ◌||◌, not, ◌==◌, nat_eq, nat_le, List, [], ◌∷◌, length, Option, Some, None, codes, if◌then◌else◌}
use Rattle.std.specs.Int.{is_in_range}
use Rattle.std.specs.List.{list_all, list_any, starts_with}
use Rattle.std.specs.Option.{is_some}
use Rattle.std.specs.Str.{bytes_eq}
use Rattle.conf_value.specs.declared.value.Value.{Value, out-Value}
use Rattle.conf_value.specs.declared.value.Value.TheOpen.{Value-F}
use Rattle.conf_value.specs.declared.value.Pair.{Pair, out-Pair}
use Rattle.conf_value.specs.Addresses.{address_of}
use Rattle.settings.specs.declared.key.Key.{Key}
use Rattle.settings.specs.declared.key.Key.TheVariants.{DocumentRoot, Port, Bind, Modules, Tag, MaxRequestSize, MaxKeepAliveRequests, IndexFileNames, MimetypeAssign, ExcludeExtensions, RewriteOnce, RewriteRepeat, FastcgiServer, FastcgiBalance, ProxyServer, ProxyBalance}
use Rattle.settings.specs.declared.rule.Rule.{Rule}
use Rattle.settings.specs.declared.rule.Rule.TheVariants as rule
use Rattle.settings.specs.declared.rule.TextRule.{TextRule}
use Rattle.settings.specs.declared.rule.TextRule.TheVariants as text
use Rattle.settings.specs.declared.rule.PortRule.{PortRule}
use Rattle.settings.specs.declared.rule.PortRule.TheVariants as port
use Rattle.settings.specs.declared.checking.KeyCheck.{KeyCheck}
use Rattle.settings.specs.declared.checking.KeyCheck.TheVariants.{Known, Partly, Unknown, WrongType, BadValue}
use Rattle.settings.specs.Keys.{key_of}
use Rattle.settings.specs.Kinds.{is_between}
use Rattle.settings.specs.Gateways.{is_good_gateway, entry_has_further}

-- ---- the table: the kind and the rule of each key

abbrev pub rule_of : Key → Rule
rule_of DocumentRoot = rule.Text text.Absolute
rule_of Port = rule.Number 1 65535
rule_of Bind = rule.Text text.Address
rule_of Modules = rule.Texts text.Any
rule_of Tag = rule.Text text.Visible
rule_of MaxRequestSize = rule.Number 0 (2 ^ 63 - 1)
rule_of MaxKeepAliveRequests = rule.Number 0 (2 ^ 63 - 1)
rule_of IndexFileNames = rule.Texts text.Name
rule_of MimetypeAssign = rule.Table text.Visible
rule_of ExcludeExtensions = rule.Texts text.Any
rule_of RewriteOnce = rule.Table text.Template
rule_of RewriteRepeat = rule.Table text.Template
rule_of FastcgiServer = rule.Gateways port.Needed
rule_of FastcgiBalance = rule.Balance
rule_of ProxyServer = rule.Gateways port.Optional
rule_of ProxyBalance = rule.Balance

-- ---- texts

-- a text of a typed key has at most so many bytes
abbrev pub is_short : List ℕ → Bool
is_short bytes = nat_le (length bytes) 4096

abbrev pub is_visible : ℕ → Bool
is_visible b = is_in_range 32 126 b

-- the text begins with what other servers would read as the name of a variable
abbrev pub opens_name : List ℕ → Bool
opens_name bytes = starts_with nat_eq bytes (codes "${") || starts_with nat_eq bytes (codes "%{")

-- `${` or `%{` stands in the text
abbrev pub has_name : List ℕ → Bool
has_name [] = false
has_name (b ∷ bytes) = opens_name (b ∷ bytes) || has_name bytes

abbrev pub follows : TextRule → List ℕ → Bool
follows text.Any bytes = true
follows text.Absolute bytes = starts_with nat_eq bytes (codes "/")
follows text.Address bytes = is_some (address_of bytes)
follows text.Visible bytes = list_all is_visible bytes
follows text.Name bytes = not (list_any (λ b. b == 47) bytes)
follows text.Template bytes = not (has_name bytes)

-- the text is short, and its rule holds
abbrev pub is_good : TextRule → List ℕ → Bool
is_good rule bytes = is_short bytes && follows rule bytes

-- ---- arrays

abbrev pub is_text : Value-F Value Pair → Bool
is_text (Value-F.Text bytes) = true
is_text other = false

abbrev pub is_good_text : TextRule → Value-F Value Pair → Bool
is_good_text rule (Value-F.Text bytes) = is_good rule bytes
is_good_text rule other = false

abbrev pub is_short_key : Option (List ℕ) → Bool
is_short_key (Some key) = is_short key
is_short_key None = false

-- an item of an array of texts: a text without a key
abbrev pub is_item : Pair → Bool
is_item pair = not (is_some (out-Pair pair).key) && is_text (out-Value (out-Pair pair).value)

abbrev pub is_good_item : TextRule → Pair → Bool
is_good_item rule pair = is_good_text rule (out-Value (out-Pair pair).value)

-- an entry of an array text to text: a text with a key
abbrev pub is_entry : Pair → Bool
is_entry pair = is_some (out-Pair pair).key && is_text (out-Value (out-Pair pair).value)

abbrev pub is_good_entry : TextRule → Pair → Bool
is_good_entry rule pair = is_short_key (out-Pair pair).key && is_good_text rule (out-Value (out-Pair pair).value)

-- ---- gateway values

-- every text of an array of arrays nested at most so deep is short, as a key and as a value
abbrev pub value_is_short : (List Pair → Bool) → Value-F Value Pair → Bool
value_is_short array (Value-F.Text text) = is_short text
value_is_short array (Value-F.Number n) = true
value_is_short array (Value-F.Array pairs) = array pairs

abbrev pub key_is_short : Option (List ℕ) → Bool
key_is_short None = true
key_is_short (Some key) = is_short key

abbrev pub pair_is_short : (List Pair → Bool) → Pair → Bool
pair_is_short array pair = key_is_short (out-Pair pair).key && value_is_short array (out-Value (out-Pair pair).value)

unfoldable pub are_short : ℕ → List Pair → Bool
are_short zero pairs = false
are_short (suc depth) pairs = list_all (pair_is_short (are_short depth)) pairs

-- no value of a configuration has arrays nested deeper than 64
abbrev pub are_gateways : PortRule → List Pair → Bool
are_gateways rule pairs = are_short 64 pairs && list_all (is_good_gateway rule) pairs

-- ---- values

-- a good value, of which a part has no effect or not
abbrev pub partly_if : Bool → KeyCheck
partly_if true = Partly
partly_if false = Known

abbrev pub gateways_check : PortRule → List Pair → KeyCheck
gateways_check rule pairs = if are_gateways rule pairs then partly_if (list_any entry_has_further pairs) else BadValue

-- `hash` and `sticky` are taken as `fair`
abbrev pub is_policy : List ℕ → Bool
is_policy word = bytes_eq word (codes "fair") || (bytes_eq word (codes "least-connection") || bytes_eq word (codes "round-robin"))

abbrev pub is_other_policy : List ℕ → Bool
is_other_policy word = bytes_eq word (codes "hash") || bytes_eq word (codes "sticky")

abbrev pub balance_check : List ℕ → KeyCheck
balance_check word = if is_policy word then Known else if is_other_policy word then Partly else BadValue

-- a value of the right kind is known where its rule holds
abbrev pub known_if : Bool → KeyCheck
known_if true = Known
known_if false = BadValue

-- of the right kind or not comes first, and then its rule
abbrev pub array_check : (Pair → Bool) → (Pair → Bool) → List Pair → KeyCheck
array_check is_right is_good pairs = if list_all is_right pairs then known_if (list_all is_good pairs) else WrongType

abbrev pub value_check : Rule → Value-F Value Pair → KeyCheck
value_check (rule.Text rule) (Value-F.Text bytes) = known_if (is_good rule bytes)
value_check (rule.Number least most) (Value-F.Number n) = known_if (is_between least most n)
value_check (rule.Texts rule) (Value-F.Array pairs) = array_check is_item (is_good_item rule) pairs
value_check (rule.Table rule) (Value-F.Array pairs) = array_check is_entry (is_good_entry rule) pairs
value_check (rule.Gateways rule) (Value-F.Array pairs) = gateways_check rule pairs
value_check rule.Balance (Value-F.Text word) = balance_check word
value_check rule value = WrongType

abbrev pub check_of : Option Key → Value → KeyCheck
check_of (Some key) value = value_check (rule_of key) (out-Value value)
check_of None value = Unknown

-- what is found of a key that is set to a value
abbrev pub check : List ℕ → Value → KeyCheck
check key value = check_of (key_of key) value
