-- The printed form (README.md of this crate). The number is how deep blocks and arrays may still nest; what is nested deeper is left out.
use Rattle.std.specs.Prelude.{ℕ, zero, suc, ◌-◌, ◌++◌, List, [], ◌∷◌, Option, Some, None, Bool, true, false, codes, flat_map}
use Rattle.std.specs.Fmt.{signed_decimal}
use Rattle.conf_value.specs.declared.condition.Op.{Op}
use Rattle.conf_value.specs.declared.condition.Op.TheVariants as op
use Rattle.conf_parse.specs.declared.tree.Term.{Term, out-Term}
use Rattle.conf_parse.specs.declared.tree.Term.TheOpen.{Term-F}
use Rattle.conf_parse.specs.declared.tree.Item.{Item, out-Item}
use Rattle.conf_parse.specs.declared.tree.Statement.{Statement, out-Statement}
use Rattle.conf_parse.specs.declared.tree.What.{What, out-What}
use Rattle.conf_parse.specs.declared.tree.What.TheOpen.{What-F}
use Rattle.conf_parse.specs.declared.tree.Branch.{Branch, out-Branch}
use Rattle.conf_parse.specs.declared.tree.RawCondition.{RawCondition}
use Rattle.conf_parse.specs.declared.tree.Tree.{Tree}
use Rattle.conf_lex.specs.Spelling.{quoted}
use Rattle.conf_parse.specs.Symbols.{Text}

-- ---- values

-- one or more with something between
abbrev pub separated : {A : Type 0} → (A → Text) → Text → List A → Text
separated f between [] = []
separated f between (x ∷ xs) = f x ++ flat_map (λ y. between ++ f y) xs

-- a key and its arrow, if there is one
abbrev pub key_text : Option Text → Text
key_text (Some k) = quoted k ++ codes " => "
key_text None = []

module _ (array : List Item → Text) where
  -- a value, where arrays are printed so
  abbrev pub open_text : Term-F Term Item → Text
  open_text (Term-F.Text t) = quoted t
  open_text (Term-F.Number n) = signed_decimal n
  open_text (Term-F.Var key) = key
  open_text (Term-F.Array items) = array items

  -- values with ` + ` between them
  abbrev pub sum_of : List Term → Text
  sum_of terms = separated (λ v. open_text (out-Term v)) (codes " + ") terms

  -- an item: its key and its value
  abbrev pub item_of : Item → Text
  item_of i = key_text (out-Item i).key ++ sum_of (out-Item i).value

  -- an array: its items between parentheses
  abbrev pub items_of : List Item → Text
  items_of [] = codes "( )"
  items_of (i ∷ items) = codes "( " ++ separated item_of (codes ", ") (i ∷ items) ++ codes " )"

-- an array, so deep
unfoldable pub array_text : ℕ → List Item → Text
array_text zero items = []
array_text (suc d) items = items_of (array_text d) items

-- a value, so deep
abbrev pub term_text : ℕ → Term → Text
term_text d v = open_text (array_text d) (out-Term v)

-- a sum, so deep
abbrev pub sum_text : ℕ → List Term → Text
sum_text d = sum_of (array_text d)

-- an item, so deep
abbrev pub item_text : ℕ → Item → Text
item_text d = item_of (array_text d)

-- ---- statements

-- two spaces a block that is open
unfoldable pub indent : ℕ → Text
indent zero = []
indent (suc n) = 32 ∷ 32 ∷ indent n

-- the indentation where so many levels are left
abbrev pub margin : ℕ → Text
margin d = indent (64 - d)

-- an operator as it is written
abbrev pub op_text : Op → Text
op_text op.Equal = codes "=="
op_text op.NotEqual = codes "!="
op_text op.Match = codes "=~"
op_text op.NoMatch = codes "!~"
op_text op.Prefix = codes "=^"
op_text op.Suffix = codes "=$"

-- a condition and the space after it, if there is one
abbrev pub condition_text : Option RawCondition → Text
condition_text (Some c) = codes "$" ++ c.group ++ codes "[" ++ quoted c.name ++ codes "] " ++ op_text c.op ++ codes " " ++ quoted c.text ++ codes " "
condition_text None = []

-- the sign of a setting
abbrev pub assign_text : Bool → Text
assign_text true = codes " += "
assign_text false = codes " = "

module _ (d : ℕ) (branches : List Branch → Text) where
  -- a statement with its line feed
  abbrev pub what_text : What-F What Branch Statement → Text
  what_text (What-F.Set key add value) = margin d ++ key ++ assign_text add ++ sum_text d value ++ codes "\n"
  what_text (What-F.Include value) = margin d ++ codes "include " ++ sum_text d value ++ codes "\n"
  what_text (What-F.Branches bs) = branches bs

  -- statements, one after another
  abbrev pub body_of : List Statement → Text
  body_of = flat_map (λ x. what_text (out-What (out-Statement x).what))

-- a branch in a body of this room: its condition, its statements and its closing brace
module _ (d : ℕ) (body : List Statement → Text) where
  -- a branch from its condition on
  abbrev pub branch_of : Branch → Text
  branch_of b = condition_text (out-Branch b).condition ++ codes "{\n" ++ body (out-Branch b).body ++ margin d ++ codes "}\n"

  -- a branch after the first
  abbrev pub further_of : Branch → Text
  further_of b = margin d ++ codes "else " ++ branch_of b

  -- a chain
  abbrev pub branches_of : List Branch → Text
  branches_of [] = []
  branches_of (b ∷ bs) = (margin d ++ branch_of b) ++ flat_map further_of bs

-- a chain, so deep
unfoldable pub branches_text : ℕ → List Branch → Text
branches_text zero bs = []
branches_text (suc d) bs = branches_of (suc d) (body_of d (branches_text d)) bs

-- a statement, so deep
abbrev pub statement_text : ℕ → Statement → Text
statement_text d x = what_text d (branches_text d) (out-What (out-Statement x).what)

-- statements, so deep
abbrev pub body_text : ℕ → List Statement → Text
body_text d = body_of d (branches_text d)

-- the printed form of a tree, with 64 levels
abbrev pub printed : Tree → Text
printed tree = body_text 64 tree.statements
