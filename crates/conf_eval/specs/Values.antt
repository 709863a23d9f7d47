-- What a value of a statement is: sums from left to right, variables, arrays item by item (lighttpd 1.4 documentation,
-- "Configuration").
use Rattle.std.specs.Prelude.{ℕ, zero, suc, List, [], ◌∷◌, ◌++◌, Option, Some, None, Bool, true, false, Result, Ok, Err}
use Rattle.std.specs.List.{list_all}
use Rattle.conf_value.specs.declared.value.Value.{Value, out-Value}
use Rattle.conf_value.specs.declared.value.Value.TheOpen.{Value-F}
use Rattle.conf_value.specs.declared.value.Value.TheVariants as v
use Rattle.conf_value.specs.declared.value.Pair.{Pair, out-Pair, roll-Pair}
use Rattle.conf_value.specs.declared.joining.JoinFault.{JoinFault}
use Rattle.conf_value.specs.declared.joining.JoinFault.TheVariants as join
use Rattle.conf_value.specs.Joining.{joined, with_pairs}
use Rattle.conf_parse.specs.declared.tree.Term.{Term, out-Term}
use Rattle.conf_parse.specs.declared.tree.Term.TheOpen.{Term-F}
use Rattle.conf_parse.specs.declared.tree.Item.{Item, out-Item}
use Rattle.conf_eval.specs.declared.halt.Wrong.{Wrong}
use Rattle.conf_eval.specs.declared.halt.Wrong.TheVariants.{UnknownVariable, Mixed, Overflow, Deep}
use Rattle.conf_eval.specs.Faults.{proceed}

-- the bytes of a text
abbrev pub Text : Type 0
Text = List ℕ

-- a value, or what is wrong with it first
abbrev pub Valued : Type 0
Valued = Result Value Wrong

-- ---- how deep arrays are nested

-- a value, where pairs of an array are deep so
abbrev pub value_is_within : (List Pair → Bool) → Value-F Value Pair → Bool
value_is_within array (Value-F.Text t) = true
value_is_within array (Value-F.Number n) = true
value_is_within array (Value-F.Array pairs) = array pairs

-- an array of these pairs, counted itself, has arrays nested at most so deep
unfoldable pub array_within : ℕ → List Pair → Bool
array_within zero pairs = false
array_within (suc d) pairs = list_all (λ p. value_is_within (array_within d) (out-Value (out-Pair p).value)) pairs

-- the value has arrays nested at most so deep
abbrev pub within : ℕ → Value → Bool
within d value = value_is_within (array_within d) (out-Value value)

-- ---- sums

-- two values are joined, or they are not; a definition never lacks memory
abbrev pub join_wrong : JoinFault → Wrong
join_wrong join.Mixed = Mixed
join_wrong join.Overflow = Overflow
join_wrong join.NoMemory = Overflow

abbrev pub joins_of : Result Value JoinFault → Valued
joins_of (Ok value) = Ok value
joins_of (Err e) = Err (join_wrong e)

abbrev pub joins : Value → Value → Valued
joins a b = joins_of (joined a b)

-- the value of a variable, if it has one
abbrev pub known : Option Value → Valued
known (Some value) = Ok value
known None = Err UnknownVariable

-- an item of an array: its key and its value
abbrev pub pair_of : Option Text → Value → Pair
pair_of key value = roll-Pair (record { key = key; value = value })

-- an item's own value, whose arrays are nested less than 64 deep
abbrev pub shallow : Value → Bool → Valued
shallow value true = Ok value
shallow value false = Err Deep

-- what variables are set to
module _ (look : Text → Option Value) (array : List Item → Valued) where
  -- a term, where arrays are so
  abbrev pub term_of : Term-F Term Item → Valued
  term_of (Term-F.Text t) = Ok (v.Text t)
  term_of (Term-F.Number n) = Ok (v.Number n)
  term_of (Term-F.Var key) = known (look key)
  term_of (Term-F.Array items) = array items

  -- a term is joined to a value
  abbrev pub plus : Value → Term → Valued
  plus value t = proceed (term_of (out-Term t)) (joins value)

  -- the terms behind a value are joined to it, one after another
  abbrev pub added : Value → List Term → Valued
  added value [] = Ok value
  added value (t ∷ ts) = proceed (plus value t) (λ sum. added sum ts)

  -- a sum; no text spells an empty one
  abbrev pub sum_of : List Term → Valued
  sum_of [] = Ok (v.Text [])
  sum_of (t ∷ ts) = proceed (term_of (out-Term t)) (λ first. added first ts)

  -- an item, unless its value is too deep already
  abbrev pub item_of : Item → Result Pair Wrong
  item_of i = proceed (sum_of (out-Item i).value) (λ value. proceed (shallow value (within 63 value)) (λ value. Ok (pair_of (out-Item i).key value)))

  -- an array literal: the pairs of its items, behind those of the items before, added one by one to an empty array
  abbrev pub items_of : List Pair → List Item → Valued
  items_of pairs [] = Ok (v.Array (with_pairs [] pairs))
  items_of pairs (i ∷ items) = proceed (item_of i) (λ pair. items_of (pairs ++ pair ∷ []) items)

module _ (look : Text → Option Value) where
  -- an array literal that may nest so deep
  unfoldable pub array_value : ℕ → List Item → Valued
  array_value zero items = Err Deep
  array_value (suc d) items = items_of look (array_value d) [] items

  -- a term, so deep
  abbrev pub term_value : ℕ → Term → Valued
  term_value d t = term_of look (array_value d) (out-Term t)

  -- a sum, so deep
  abbrev pub sum_value : ℕ → List Term → Valued
  sum_value d = sum_of look (array_value d)

  -- an item, so deep
  abbrev pub item_value : ℕ → Item → Result Pair Wrong
  item_value d = item_of look (array_value d)
