-- A device: a value, read by a machine that takes one terminal at a time, as the code does.
use Rattle.std.specs.Prelude.{ℕ, zero, suc, ◌++◌, List, [], ◌∷◌, Option, Some, None}
use Rattle.conf_parse.specs.declared.symbol.Sign.{Sign}
use Rattle.conf_parse.specs.declared.symbol.Sign.TheVariants as g
use Rattle.conf_parse.specs.declared.symbol.Role.TheVariants as r
use Rattle.conf_parse.specs.declared.symbol.Symbol.{Symbol}
use Rattle.conf_parse.specs.declared.symbol.Symbol.TheVariants as s
use Rattle.conf_parse.specs.declared.tree.Term.{Term}
use Rattle.conf_parse.specs.declared.tree.Term.TheVariants as t
use Rattle.conf_parse.specs.declared.tree.Item.{Item}
use Rattle.conf_parse.specs.declared.value.Mode.{Mode}
use Rattle.conf_parse.specs.declared.value.Mode.TheVariants as m
use Rattle.conf_parse.specs.declared.value.Array.{Array}
use Rattle.conf_parse.specs.declared.value.Level.{Level}
use Rattle.conf_parse.specs.declared.value.Reading.{Reading}
use Rattle.conf_parse.specs.declared.value.Turn.{Turn}
use Rattle.conf_parse.specs.declared.value.Turn.TheVariants.{Go, Whole, Wrong, Deep}
use Rattle.conf_parse.specs.Symbols.{Text, var_dot}
use Rattle.conf_parse.specs.Grammar.{item_of}

-- a value so far: what comes next, its terms, how deep more may nest, and the arrays that are open
abbrev pub reading : Mode → List Term → ℕ → List Level → Reading
reading mode terms room opens = record { mode = mode; terms = terms; room = room; opens = opens }

-- an array so far: the terms before it, its items, and the room before it
abbrev pub array_of : List Term → List Item → ℕ → Array
array_of before items room = record { before = before; items = items; room = room }

-- an array in which an item is open, with its key
abbrev pub level : Array → Option Text → Level
level a key = record { array = a; key = key }

-- the item that was being read stands among the items
abbrev pub with_item : Level → List Term → List Item
with_item o terms = o.array.items ++ item_of o.key terms ∷ []

-- one more term
abbrev pub termed : List Term → Term → ℕ → List Level → Turn
termed terms term room opens = Go (reading m.After (terms ++ term ∷ []) room opens)

-- an array opens, if there is room
abbrev pub opened : List Term → ℕ → List Level → Turn
opened terms zero opens = Deep
opened terms (suc d) opens = Go (reading (m.Item (array_of terms [] (suc d))) [] d opens)

-- a terminal where a value may begin
abbrev pub value : Symbol → List Term → ℕ → List Level → Turn
value (s.Text x) terms room opens = termed terms (t.Text x) room opens
value (s.Number n) terms room opens = termed terms (t.Number n) room opens
value (s.Word r.Switch x) terms room opens = termed terms (t.Text x) room opens
value (s.Word r.Variable x) terms room opens = termed terms (t.Var x) room opens
value (s.Word r.Bare x) terms room opens = termed terms (t.Var (var_dot x)) room opens
value (s.Sign g.OpenArray) terms room opens = opened terms room opens
value _ terms room opens = Wrong

-- an array closes
abbrev pub shut : Array → List Item → List Level → Turn
shut a items opens = termed a.before (t.Array items) a.room opens

-- a terminal where an item may begin
abbrev pub item : Symbol → Array → ℕ → List Level → Turn
item (s.Text x) a room opens = Go (reading (m.Named a x) [] room opens)
item (s.Sign g.CloseArray) a room opens = shut a a.items opens
item x a room opens = value x [] room (level a None ∷ opens)

-- a sign after a term inside an array
abbrev pub after_in : Sign → List Term → ℕ → Level → List Level → Turn
after_in g.Plus terms room o opens = Go (reading m.Value terms room (o ∷ opens))
after_in g.Comma terms room o opens = Go (reading (m.Item (array_of o.array.before (with_item o terms) o.array.room)) [] room opens)
after_in g.CloseArray terms room o opens = shut o.array (with_item o terms) opens
after_in _ terms room o opens = Wrong

-- a terminal after a term
abbrev pub after : Symbol → List Term → ℕ → List Level → Turn
after (s.Sign g.Plus) terms room [] = Go (reading m.Value terms room [])
after x terms room [] = Whole terms x
after (s.Sign x) terms room (o ∷ opens) = after_in x terms room o opens
after _ terms room (o ∷ opens) = Wrong

-- a terminal after a text that may be a key
abbrev pub named : Text → Array → Symbol → ℕ → List Level → Turn
named x a (s.Sign g.Arrow) room opens = Go (reading m.Value [] room (level a (Some x) ∷ opens))
named x a y room opens = after y (t.Text x ∷ []) room (level a None ∷ opens)

-- a terminal, by what comes next
abbrev pub turn_at : Mode → Symbol → List Term → ℕ → List Level → Turn
turn_at m.Value x terms room opens = value x terms room opens
turn_at (m.Item a) x terms room opens = item x a room opens
turn_at (m.Named a y) x terms room opens = named y a x room opens
turn_at m.After x terms room opens = after x terms room opens

-- what a terminal makes of a value
abbrev pub turn : Reading → Symbol → Turn
turn v x = turn_at v.mode x v.terms v.room v.opens
