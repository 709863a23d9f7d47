-- The grammar (lighttpd 1.4 documentation, "Configuration"). Each relation says that the terminals from the first
-- list up to the second spell the value, with blocks and arrays nested no deeper than the number.
use Rattle.std.specs.Prelude.{ℕ, suc, List, [], ◌∷◌, Option, Some, None, Bool, true, false, ℤ}
use Rattle.conf_lex.specs.declared.token.Token.{Token}
use Rattle.conf_value.specs.declared.condition.Op.{Op}
use Rattle.conf_parse.specs.declared.symbol.Sign.{Sign}
use Rattle.conf_parse.specs.declared.symbol.Sign.TheVariants as g
use Rattle.conf_parse.specs.declared.symbol.Role.{Role}
use Rattle.conf_parse.specs.declared.symbol.Role.TheVariants as roles
use Rattle.conf_parse.specs.declared.symbol.Symbol.TheVariants as s
use Rattle.conf_parse.specs.declared.tree.Term.{Term}
use Rattle.conf_parse.specs.declared.tree.Term.TheVariants as t
use Rattle.conf_parse.specs.declared.tree.Item.{Item, roll-Item}
use Rattle.conf_parse.specs.declared.tree.Statement.{Statement, roll-Statement}
use Rattle.conf_parse.specs.declared.tree.What.{What}
use Rattle.conf_parse.specs.declared.tree.What.TheVariants as w
use Rattle.conf_parse.specs.declared.tree.Branch.{Branch, roll-Branch}
use Rattle.conf_parse.specs.declared.tree.RawCondition.{RawCondition}
use Rattle.conf_parse.specs.declared.tree.Tree.{Tree}
use Rattle.conf_parse.specs.Symbols.{Text, Mark, at, sign, marks, var_dot, IsKey}

-- an item of an array, with its key if it has one
abbrev pub item_of : Option Text → List Term → Item
item_of key value = roll-Item (record { key = key; value = value })

-- a statement on this line
abbrev pub statement : ℕ → What → Statement
statement line what = roll-Statement (record { line = line; what = what })

-- a branch on this line; the last one of a chain may have no condition
abbrev pub branch : ℕ → Option RawCondition → List Statement → Branch
branch line condition body = roll-Branch (record { line = line; condition = condition; body = body })

-- a condition: group, name, operator and text
abbrev pub condition_of : Text → Text → Op → Text → RawCondition
condition_of group name op text = record { group = group; name = name; op = op; text = text }

-- value := text | number | "enable" | "disable" | var | array
-- array := "(" [ item ("," item)* [","] ] ")"    item := [ text "=>" ] expr    expr := value ("+" value)*
mutual
  pub data IsValue : ℕ → Term → List Mark → List Mark → Type 0 where
    text : {d l : ℕ} {x : Text} {r : List Mark} → IsValue d (t.Text x) (at (s.Text x) l ∷ r) r
    number : {d l : ℕ} {n : ℤ} {r : List Mark} → IsValue d (t.Number n) (at (s.Number n) l ∷ r) r
    switch : {d l : ℕ} {x : Text} {r : List Mark} → IsValue d (t.Text x) (at (s.Word roles.Switch x) l ∷ r) r
    dotted : {d l : ℕ} {x : Text} {r : List Mark} → IsValue d (t.Var x) (at (s.Word roles.Variable x) l ∷ r) r
    undotted : {d l : ℕ} {x : Text} {r : List Mark} → IsValue d (t.Var (var_dot x)) (at (s.Word roles.Bare x) l ∷ r) r
    array : {d l : ℕ} {its : List Item} {ts r : List Mark} → IsItems d its ts r → IsValue (suc d) (t.Array its) (sign g.OpenArray l ∷ ts) r

  pub data IsItems : ℕ → List Item → List Mark → List Mark → Type 0 where
    no_item : {d l : ℕ} {r : List Mark} → IsItems d [] (sign g.CloseArray l ∷ r) r
    last : {d l : ℕ} {key : Option Text} {v : List Term} {ts r : List Mark} → IsItem d key v ts (sign g.CloseArray l ∷ r) → IsItems d (item_of key v ∷ []) ts r
    more : {d l : ℕ} {key : Option Text} {v : List Term} {its : List Item} {ts mid r : List Mark} → IsItem d key v ts (sign g.Comma l ∷ mid) → IsItems d its mid r → IsItems d (item_of key v ∷ its) ts r

  pub data IsItem : ℕ → Option Text → List Term → List Mark → List Mark → Type 0 where
    keyed : {d l m : ℕ} {x : Text} {v : List Term} {ts r : List Mark} → IsSum d v ts r → IsItem d (Some x) v (at (s.Text x) l ∷ sign g.Arrow m ∷ ts) r
    plain : {d : ℕ} {v : List Term} {ts r : List Mark} → IsSum d v ts r → IsItem d None v ts r

  pub data IsSum : ℕ → List Term → List Mark → List Mark → Type 0 where
    one : {d : ℕ} {v : Term} {ts r : List Mark} → IsValue d v ts r → IsSum d (v ∷ []) ts r
    sum : {d l : ℕ} {v : Term} {vs : List Term} {ts mid r : List Mark} → IsValue d v ts (sign g.Plus l ∷ mid) → IsSum d vs mid r → IsSum d (v ∷ vs) ts r

-- `+=` adds, `=` sets
abbrev pub assign_of : Bool → Sign
assign_of true = g.Append
assign_of false = g.Assign

-- statement := key ("=" | "+=") expr | "include" expr | chain
-- chain := block ("else" block)* [ "else" "{" statement* "}" ]    block := "$" word "[" text "]" op text "{" statement* "}"
mutual
  pub data IsBody : ℕ → List Statement → List Mark → List Mark → Type 0 where
    none : {d : ℕ} {r : List Mark} → IsBody d [] r r
    some : {d : ℕ} {x : Statement} {xs : List Statement} {ts mid r : List Mark} → IsStatement d x ts mid → IsBody d xs mid r → IsBody d (x ∷ xs) ts r

  pub data IsStatement : ℕ → Statement → List Mark → List Mark → Type 0 where
    set : {d l m : ℕ} {role : Role} {word key : Text} {add : Bool} {value : List Term} {ts r : List Mark} → IsKey role word key → IsSum d value ts r
        → IsStatement d (statement l (w.Set key add value)) (at (s.Word role word) l ∷ sign (assign_of add) m ∷ ts) r
    include : {d l : ℕ} {word : Text} {value : List Term} {ts r : List Mark} → IsSum d value ts r → IsStatement d (statement l (w.Include value)) (at (s.Word roles.Include word) l ∷ ts) r
    chain : {d l : ℕ} {b : Branch} {bs : List Branch} {ts mid r : List Mark} → IsBlock d l b ts mid → IsElses d bs mid r → IsStatement d (statement l (w.Branches (b ∷ bs))) (sign g.Dollar l ∷ ts) r

  -- behind its `$`; the line is that of the branch
  pub data IsBlock : ℕ → ℕ → Branch → List Mark → List Mark → Type 0 where
    block : {d l l1 l2 l3 l4 l5 l6 l7 l8 : ℕ} {role : Role} {group name text : Text} {op : Op} {body : List Statement} {ts r : List Mark} → IsBody d body ts (sign g.CloseBlock l8 ∷ r)
        → IsBlock (suc d) l (branch l (Some (condition_of group name op text)) body)
        (at (s.Word role group) l1 ∷ sign g.OpenName l2 ∷ at (s.Text name) l3 ∷ sign g.CloseName l4 ∷ sign (g.Compare op) l5 ∷ at (s.Text text) l6 ∷ sign g.OpenBlock l7 ∷ ts) r

  pub data IsElses : ℕ → List Branch → List Mark → List Mark → Type 0 where
    no_else : {d : ℕ} {r : List Mark} → IsElses d [] r r
    else_block : {d l m : ℕ} {word : Text} {b : Branch} {bs : List Branch} {ts mid r : List Mark} → IsBlock d l b ts mid → IsElses d bs mid r → IsElses d (b ∷ bs) (at (s.Word roles.Else word) l ∷ sign g.Dollar m ∷ ts) r
    bare_else : {d l m n : ℕ} {word : Text} {body : List Statement} {ts r : List Mark} → IsBody d body ts (sign g.CloseBlock n ∷ r) → IsElses (suc d) (branch l None body ∷ []) (at (s.Word roles.Else word) l ∷ sign g.OpenBlock m ∷ ts) r

-- the terminals of a whole file
abbrev pub IsFile : ℕ → List Statement → List Mark → Type 0
IsFile d xs ts = IsBody d xs ts []

-- The tokens spell the tree.
abbrev pub Spells : ℕ → Tree → List Token → Type 0
Spells d tree tokens = IsFile d tree.statements (marks tokens)
