-- How a block opens (lighttpd 1.4 documentation, "Conditional configuration").
use Rattle.std.specs.Prelude.{ℕ, ◌+◌, List, [], ◌∷◌, ◌++◌, Option, Some, None, Bool, true, false, not, is_some, if◌then◌else◌, length, nat_le}
use Rattle.conf_parse.specs.declared.tree.RawCondition.{RawCondition}
use Rattle.conf_value.specs.declared.block.Block.{Block}
use Rattle.conf_value.specs.declared.condition.Condition.{Condition}
use Rattle.conf_value.specs.declared.condition.Field.{Field}
use Rattle.conf_value.specs.declared.condition.Field.TheVariants as field
use Rattle.conf_value.specs.declared.condition.Op.{Op}
use Rattle.conf_value.specs.declared.condition.Op.TheVariants as op
use Rattle.conf_value.specs.Addresses.{network_of}
use Rattle.conditions.specs.Comparing.{tries_pattern}
use Rattle.conditions.specs.Fields.{field_of}
use Rattle.conf_eval.specs.declared.fault.ConfKind.TheVariants as kind
use Rattle.conf_eval.specs.declared.limits.TheConstants.{MAX_BLOCKS}
use Rattle.conf_eval.specs.Values.{Text}
use Rattle.conf_eval.specs.Settings.{State, innermost}
use Rattle.conf_eval.specs.Calls.{Calls}
use Rattle.conf_eval.specs.Parts.{Part, Reply, Went, goes_on, fails, makes}

-- the block that opens in these, behind this branch of its chain if there is one
abbrev pub block : List ℕ → Option ℕ → Option Condition → Block
block scopes behind condition = record { parent = innermost scopes; chain = behind; condition = condition; settings = [] }

abbrev pub with_block : List ℕ → Option ℕ → Option Condition → State → State
with_block scopes behind condition s = record s { blocks = s.blocks ++ block scopes behind condition ∷ [] }

-- beside the global block there may be 1,024
abbrev pub is_full : State → Bool
is_full s = nat_le (MAX_BLOCKS + 1) (length s.blocks)

-- `==` and `!=` compare a client's address with a network
abbrev pub lacks_network : Field → Op → Text → Bool
lacks_network field.RemoteIp op.Equal text = not (is_some (network_of text))
lacks_network field.RemoteIp op.NotEqual text = not (is_some (network_of text))
lacks_network other op text = false

abbrev pub condition_of : RawCondition → Field → Option ℕ → Condition
condition_of raw field pattern = record { field = field; op = raw.op; text = raw.text; pattern = pattern }

abbrev pub opens_with : List ℕ → Option ℕ → Option Condition → Part
opens_with scopes behind condition s calls = Went (with_block scopes behind condition s) calls

-- a condition that tries a pattern names the one that is made of its text
abbrev pub opens_by : ℕ → ℕ → List ℕ → Option ℕ → RawCondition → Field → Bool → Part
opens_by file line scopes behind raw field false s calls = opens_with scopes behind (Some (condition_of raw field None)) s calls
opens_by file line scopes behind raw field true s calls =
    goes_on (makes file line false raw.text s calls) (opens_with scopes behind (Some (condition_of raw field (Some (length s.patterns)))))

abbrev pub opens_on : ℕ → ℕ → List ℕ → Option ℕ → RawCondition → Option Field → Part
opens_on file line scopes behind raw None s calls = fails kind.UnknownField file line calls
opens_on file line scopes behind raw (Some field) s calls =
    if is_full s then fails kind.TooMany file line calls
    else (if lacks_network field raw.op raw.text then fails kind.BadValue file line calls
    else opens_by file line scopes behind raw field (tries_pattern raw.op) s calls)

-- a bare `else` stands behind another branch
abbrev pub opens_bare : ℕ → ℕ → List ℕ → Option ℕ → Part
opens_bare file line scopes None s calls = fails kind.Grammar file line calls
opens_bare file line scopes (Some behind) s calls =
    if is_full s then fails kind.TooMany file line calls else opens_with scopes (Some behind) None s calls

-- a block opens on this line of a file
abbrev pub opens : ℕ → ℕ → List ℕ → Option ℕ → Option RawCondition → Part
opens file line scopes behind None s calls = opens_bare file line scopes behind s calls
opens file line scopes behind (Some raw) s calls = opens_on file line scopes behind raw (field_of raw.group raw.name) s calls

-- the branch that the next one of the chain stands behind: a bare `else` ends its chain
abbrev pub behind_it : Option RawCondition → ℕ → Option ℕ
behind_it None number = None
behind_it (Some raw) number = Some number
