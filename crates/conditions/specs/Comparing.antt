-- The truth of a condition (lighttpd documentation, "Conditional configuration").
use Rattle.std.specs.Prelude.{◌≡◌, ℕ, ◌==◌, Bool, true, false, not, nat_eq, List, [], ◌∷◌, bytes_eq, decimal, Option, Some, None, is_some, option_map, unwrap_or, slice_get, MatchOption, if◌then◌else◌}
use Rattle.std.specs.List.{starts_with, ends_with}
use Rattle.lt_world.specs.declared.net.Address.{Address}
use Rattle.conf_value.specs.declared.condition.Condition.{Condition}
use Rattle.conf_value.specs.declared.condition.Field.{Field}
use Rattle.conf_value.specs.declared.condition.Field.TheVariants as field
use Rattle.conf_value.specs.declared.condition.Op.{Op}
use Rattle.conf_value.specs.declared.condition.Op.TheVariants.{Equal, NotEqual, Match, NoMatch, Prefix, Suffix}
use Rattle.conf_value.specs.declared.truth.Truth.{Truth}
use Rattle.conf_value.specs.declared.truth.Truth.TheVariants as truth
use Rattle.conditions.specs.Attributes.{Attributes, socket_text, value_of}
use Rattle.conditions.specs.Groups.{groups_by}
use Rattle.conditions.specs.Marked.{Marked}
use Rattle.conditions.specs.Networks.{is_in_network}

abbrev pub begins_with_colon : List ℕ → Bool
begins_with_colon [] = false
begins_with_colon (b ∷ text) = b == 58

-- a text that begins with a colon names the port alone
abbrev pub is_socket : List ℕ → Address → Bool
is_socket text local =
    if begins_with_colon text then bytes_eq text (58 ∷ decimal local.port) else bytes_eq text (socket_text local)

-- the attribute is that of the text: an address by its network, a socket by its port, any other as a whole
abbrev pub is_text : Field → List ℕ → Attributes → List ℕ → Bool
is_text field.RemoteIp text a value = is_in_network text a.peer.ip
is_text field.Socket text a value = is_socket text a.local
is_text other text a value = bytes_eq value text

-- the pattern of the text matches somewhere in the value
abbrev pub matches : List ℕ → List ℕ → Bool
matches text value = is_some (groups_by text value)

-- the condition, where the attribute has a value
abbrev pub holds : Op → Field → List ℕ → Attributes → List ℕ → Bool
holds Equal field text a value = is_text field text a value
holds NotEqual field text a value = not (is_text field text a value)
holds Match field text a value = matches text value
holds NoMatch field text a value = not (matches text value)
holds Prefix field text a value = starts_with nat_eq value text
holds Suffix field text a value = ends_with nat_eq value text

abbrev pub truth_by : Option Bool → Truth
truth_by None = truth.Unset
truth_by (Some true) = truth.True
truth_by (Some false) = truth.False

-- the truth of a condition by itself
abbrev pub own_truth : Condition → Attributes → Truth
own_truth c a = truth_by (option_map (holds c.op c.field c.text a) (value_of c.field a))

abbrev pub groups_with : Op → List ℕ → Option (List ℕ) → List (List ℕ)
groups_with Match text (Some value) = unwrap_or (groups_by text value) []
groups_with op text value = []

-- the groups that its match leaves; there are none but for `=~`
abbrev pub own_groups : Condition → Attributes → List (List ℕ)
own_groups c a = groups_with c.op c.text (value_of c.field a)

-- only `=~` and `!~` try a pattern
abbrev pub tries_pattern : Op → Bool
tries_pattern Match = true
tries_pattern NoMatch = true
tries_pattern op = false

-- a condition that tries a pattern names one, and it is that of its text and no rule's
abbrev pub HasPattern : Condition → List Marked → Type 0
HasPattern c patterns =
    MatchOption c.pattern (tries_pattern c.op ≡ false) (λ n. slice_get patterns n ≡ Some (c.text, false))
