-- A value that is read is spelled.
use Rattle.std.proofs.Common.{◌≡◌, ℕ, zero, suc, ◌++◌, List, [], ◌∷◌, Option, Some, None, refl, sym, subst, append_assoc, append-nil}
use Rattle.conf_parse.specs.declared.symbol.Sign.TheVariants as g
use Rattle.conf_parse.specs.declared.symbol.Role.TheVariants as roles
use Rattle.conf_parse.specs.declared.symbol.Symbol.{Symbol}
use Rattle.conf_parse.specs.declared.symbol.Symbol.TheVariants as s
use Rattle.conf_parse.specs.declared.tree.Term.{Term}
use Rattle.conf_parse.specs.declared.tree.Term.TheVariants as t
use Rattle.conf_parse.specs.declared.tree.Item.{Item}
use Rattle.conf_parse.specs.declared.value.Mode.{Mode}
use Rattle.conf_parse.specs.declared.value.Mode.TheVariants as m
use Rattle.conf_parse.specs.declared.value.Array.{Array}
use Rattle.conf_parse.specs.declared.value.Level.{Level}
use Rattle.conf_parse.specs.declared.value.Reading.{Reading}
use Rattle.conf_parse.specs.declared.value.Turn.{Turn}
use Rattle.conf_parse.specs.declared.value.Turn.TheVariants.{Go, Whole, Wrong, Deep}
use Rattle.conf_parse.specs.Symbols.{Text, Mark, at, sign}
use Rattle.conf_parse.specs.Grammar.{item_of, IsValue, IsItems, IsItem, IsSum, text, number, switch, dotted, undotted, array, no_item, last, more, keyed, plain, one, sum}
use Rattle.conf_parse.specs.Values.{reading, level, array_of, with_item, turn}

-- what may follow the first term of a sum
pub data Tail : ℕ → List Term → List Mark → List Mark → Type 0 where
  no_more : {d : ℕ} {r : List Mark} → Tail d [] r r
  plus : {d l : ℕ} {vs : List Term} {ts r : List Mark} → IsSum d vs ts r → Tail d vs (sign g.Plus l ∷ ts) r

-- what may follow an item
pub data Closes : ℕ → List Item → List Mark → List Mark → Type 0 where
  shuts : {d l : ℕ} {r : List Mark} → Closes d [] (sign g.CloseArray l ∷ r) r
  comma : {d l : ℕ} {its : List Item} {ts r : List Mark} → IsItems d its ts r → Closes d its (sign g.Comma l ∷ ts) r

-- With these terms the innermost value is whole, and the terminals up to the last ones make the whole value of them.
pub data Outer : List Level → ℕ → List Term → List Term → List Mark → List Mark → Type 0 where
  out : {d : ℕ} {terms : List Term} {ts : List Mark} → Outer [] d terms terms ts ts
  into : {o : Level} {os : List Level} {d : ℕ} {terms xs vs : List Term} {its : List Item} {ts mid behind r : List Mark}
      → Closes d its ts mid → Tail o.array.room vs mid behind
      → Outer os o.array.room ((o.array.before ++ t.Array (with_item o terms ++ its) ∷ []) ++ vs) xs behind r
      → Outer (o ∷ os) d terms xs ts r

pub data RestAfter (d : ℕ) (terms : List Term) (os : List Level) (xs : List Term) (ts r : List Mark) : Type 0 where
  rest_after : {vs : List Term} {mid : List Mark} → Tail d vs ts mid → Outer os d (terms ++ vs) xs mid r → RestAfter d terms os xs ts r

pub data RestValue (d : ℕ) (terms : List Term) (os : List Level) (xs : List Term) (ts r : List Mark) : Type 0 where
  rest_value : {vs : List Term} {mid : List Mark} → IsSum d vs ts mid → Outer os d (terms ++ vs) xs mid r → RestValue d terms os xs ts r

pub data RestItem (d : ℕ) (a : Array) (os : List Level) (xs : List Term) (ts r : List Mark) : Type 0 where
  rest_item : {its : List Item} {mid : List Mark} → IsItems d its ts mid → RestAfter a.room (a.before ++ t.Array (a.items ++ its) ∷ []) os xs mid r → RestItem d a os xs ts r

pub data RestNamed (d : ℕ) (a : Array) (x : Text) (os : List Level) (xs : List Term) (r : List Mark) : List Mark → Type 0 where
  arrow : {l : ℕ} {ts : List Mark} → RestValue d [] (level a (Some x) ∷ os) xs ts r → RestNamed d a x os xs r (sign g.Arrow l ∷ ts)
  no_arrow : {ts : List Mark} → RestAfter d (t.Text x ∷ []) (level a None ∷ os) xs ts r → RestNamed d a x os xs r ts

abbrev pub RestMode : Mode → ℕ → List Term → List Level → List Term → List Mark → List Mark → Type 0
RestMode m.Value d terms os xs ts r = RestValue d terms os xs ts r
RestMode (m.Item a) d terms os xs ts r = RestItem d a os xs ts r
RestMode (m.Named a x) d terms os xs ts r = RestNamed d a x os xs r ts
RestMode m.After d terms os xs ts r = RestAfter d terms os xs ts r

-- The terminals up to the last ones, read from here on, make the value of these terms.
abbrev pub RestReading : Reading → List Term → List Mark → List Mark → Type 0
RestReading v xs ts r = RestMode v.mode v.room v.terms v.opens xs ts r

-- ---- a step back

pub sum_of : {d : ℕ} {v : Term} {vs : List Term} {ts mid r : List Mark} → IsValue d v ts mid → Tail d vs mid r → IsSum d (v ∷ vs) ts r
sum_of h no_more = one h
sum_of h (plus hs) = sum h hs

pub items_of : {d : ℕ} {key : Option Text} {v : List Term} {its : List Item} {ts mid r : List Mark} → IsItem d key v ts mid → Closes d its mid r → IsItems d (item_of key v ∷ its) ts r
items_of h shuts = last h
items_of h (comma hs) = more h hs

valued : {d : ℕ} {v : Term} {terms xs : List Term} {os : List Level} {ts mid r : List Mark} → IsValue d v ts mid → RestAfter d (terms ++ v ∷ []) os xs mid r → RestValue d terms os xs ts r
valued {d = d} {v = v} {terms = terms} {xs = xs} {os = os} {r = r} h (rest_after {vs = vs} {mid = mid} tail u) =
    rest_value (sum_of h tail) (subst (λ (y : List Term). Outer os d y xs mid r) (append_assoc terms (v ∷ []) vs) u)

item_up : {d : ℕ} {key : Option Text} {v xs : List Term} {a : Array} {os : List Level} {ts mid r : List Mark} → IsItem d key v ts mid → Outer (level a key ∷ os) d v xs mid r → RestItem d a os xs ts r
item_up {d = d} {key = key} {v = v} {xs = xs} {a = a} {os = os} {r = r} h (into {vs = vs} {its = its} {behind = behind} c tail u) =
    rest_item (items_of h c) (rest_after tail (subst (λ (y : List Item). Outer os a.room ((a.before ++ t.Array y ∷ []) ++ vs) xs behind r) (append_assoc a.items (item_of key v ∷ []) its) u))

first_valued : {d : ℕ} {v : Term} {xs : List Term} {a : Array} {os : List Level} {ts mid r : List Mark} → IsValue d v ts mid → RestAfter d (v ∷ []) (level a None ∷ os) xs mid r → RestItem d a os xs ts r
first_valued h (rest_after tail u) = item_up (plain (sum_of h tail)) u

named_back : {d l : ℕ} {x : Text} {xs : List Term} {a : Array} {os : List Level} {ts r : List Mark} → RestNamed d a x os xs r ts → RestItem d a os xs (at (s.Text x) l ∷ ts) r
named_back (arrow (rest_value h u)) = item_up (keyed h) u
named_back (no_arrow h) = first_valued text h

-- an array that was opened
opened_back : {d l : ℕ} {terms xs : List Term} {os : List Level} {ts r : List Mark} → RestItem d (array_of terms [] (suc d)) os xs ts r → RestValue (suc d) terms os xs (sign g.OpenArray l ∷ ts) r
opened_back (rest_item h a) = valued (array h) a

first_opened_back : {d l : ℕ} {xs : List Term} {b : Array} {os : List Level} {ts r : List Mark} → RestItem d (array_of [] [] (suc d)) (level b None ∷ os) xs ts r → RestItem (suc d) b os xs (sign g.OpenArray l ∷ ts) r
first_opened_back (rest_item h a) = first_valued (array h) a

shut_back : {d l : ℕ} {xs : List Term} {a : Array} {os : List Level} {ts r : List Mark} → RestAfter a.room (a.before ++ t.Array a.items ∷ []) os xs ts r → RestItem d a os xs (sign g.CloseArray l ∷ ts) r
shut_back {xs = xs} {a = a} {os = os} {ts = ts} {r = r} h = rest_item no_item (subst (λ (y : List Item). RestAfter a.room (a.before ++ t.Array y ∷ []) os xs ts r) (sym (append-nil a.items)) h)

-- behind a value: `+`, `,`, `)`
plus_back : {d l : ℕ} {terms xs : List Term} {os : List Level} {ts r : List Mark} → RestValue d terms os xs ts r → RestAfter d terms os xs (sign g.Plus l ∷ ts) r
plus_back (rest_value h u) = rest_after (plus h) u

pub here_back : {d : ℕ} {terms xs : List Term} {os : List Level} {ts r : List Mark} → Outer os d terms xs ts r → RestAfter d terms os xs ts r
here_back {d = d} {terms = terms} {xs = xs} {os = os} {ts = ts} {r = r} u = rest_after no_more (subst (λ (y : List Term). Outer os d y xs ts r) (sym (append-nil terms)) u)

comma_back : {d l : ℕ} {terms xs : List Term} {o : Level} {os : List Level} {ts r : List Mark} → RestItem d (array_of o.array.before (with_item o terms) o.array.room) os xs ts r → RestAfter d terms (o ∷ os) xs (sign g.Comma l ∷ ts) r
comma_back (rest_item h (rest_after tail u)) = here_back (into (comma h) tail u)

close_back : {d l : ℕ} {terms xs : List Term} {o : Level} {os : List Level} {ts r : List Mark} → RestAfter o.array.room (o.array.before ++ t.Array (with_item o terms) ∷ []) os xs ts r → RestAfter d terms (o ∷ os) xs (sign g.CloseArray l ∷ ts) r
close_back {terms = terms} {xs = xs} {o = o} {os = os} {r = r} (rest_after {vs = vs} {mid = mid} tail u) =
    here_back (into shuts tail (subst (λ (y : List Item). Outer os o.array.room ((o.array.before ++ t.Array y ∷ []) ++ vs) xs mid r) (sym (append-nil (with_item o terms))) u))

-- what a step says of the rest
abbrev pub Back : Turn → Reading → Symbol → Type 0
Back (Go next) v x = (l : ℕ) (xs : List Term) (ts r : List Mark) → RestReading next xs ts r → RestReading v xs (at x l ∷ ts) r
Back (Whole terms y) v x = (y ≡ x) × ((ts : List Mark) → RestReading v terms ts ts)
Back Wrong v x = Unit {0}
Back Deep v x = Unit {0}

abbrev BackAt : Mode → Symbol → List Term → ℕ → List Level → Type 0
BackAt mode x terms d os = Back (turn (reading mode terms d os) x) (reading mode terms d os) x

value_turn : (x : Symbol) (terms : List Term) (d : ℕ) (os : List Level) → BackAt m.Value x terms d os
value_turn (s.Text x) terms d os = λ l xs ts r h. valued text h
value_turn (s.Number n) terms d os = λ l xs ts r h. valued number h
value_turn (s.Word roles.Switch x) terms d os = λ l xs ts r h. valued switch h
value_turn (s.Word roles.Variable x) terms d os = λ l xs ts r h. valued dotted h
value_turn (s.Word roles.Bare x) terms d os = λ l xs ts r h. valued undotted h
value_turn (s.Sign g.OpenArray) terms zero os = tt
value_turn (s.Sign g.OpenArray) terms (suc d) os = λ l xs ts r h. opened_back h
value_turn _ terms d os = tt

item_turn : (x : Symbol) (a : Array) (terms : List Term) (d : ℕ) (os : List Level) → BackAt (m.Item a) x terms d os
item_turn (s.Text x) a terms d os = λ l xs ts r h. named_back h
item_turn (s.Sign g.CloseArray) a terms d os = λ l xs ts r h. shut_back h
item_turn (s.Number n) a terms d os = λ l xs ts r h. first_valued number h
item_turn (s.Word roles.Switch x) a terms d os = λ l xs ts r h. first_valued switch h
item_turn (s.Word roles.Variable x) a terms d os = λ l xs ts r h. first_valued dotted h
item_turn (s.Word roles.Bare x) a terms d os = λ l xs ts r h. first_valued undotted h
item_turn (s.Sign g.OpenArray) a terms zero os = tt
item_turn (s.Sign g.OpenArray) a terms (suc d) os = λ l xs ts r h. first_opened_back h
item_turn _ a terms d os = tt

after_turn : (x : Symbol) (terms : List Term) (d : ℕ) (os : List Level) → BackAt m.After x terms d os
after_turn (s.Sign g.Plus) terms d [] = λ l xs ts r h. plus_back h
after_turn x terms d [] = (refl, λ ts. here_back out)
after_turn (s.Sign g.Plus) terms d (o ∷ os) = λ l xs ts r h. plus_back h
after_turn (s.Sign g.Comma) terms d (o ∷ os) = λ l xs ts r h. comma_back h
after_turn (s.Sign g.CloseArray) terms d (o ∷ os) = λ l xs ts r h. close_back h
after_turn _ terms d (o ∷ os) = tt

named_turn : (x : Symbol) (a : Array) (y : Text) (terms : List Term) (d : ℕ) (os : List Level) → BackAt (m.Named a y) x terms d os
named_turn (s.Sign g.Arrow) a y terms d os = λ l xs ts r h. arrow h
named_turn (s.Sign g.Plus) a y terms d os = λ l xs ts r h. no_arrow (plus_back h)
named_turn (s.Sign g.Comma) a y terms d os = λ l xs ts r h. no_arrow (comma_back h)
named_turn (s.Sign g.CloseArray) a y terms d os = λ l xs ts r h. no_arrow (close_back h)
named_turn _ a y terms d os = tt

mode_turn : (mode : Mode) (x : Symbol) (terms : List Term) (d : ℕ) (os : List Level) → BackAt mode x terms d os
mode_turn m.Value x terms d os = value_turn x terms d os
mode_turn (m.Item a) x terms d os = item_turn x a terms d os
mode_turn (m.Named a y) x terms d os = named_turn x a y terms d os
mode_turn m.After x terms d os = after_turn x terms d os

pub turn_back : (v : Reading) (x : Symbol) → Back (turn v x) v x
turn_back v x = mode_turn v.mode x v.terms v.room v.opens
