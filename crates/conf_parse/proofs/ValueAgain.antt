-- A printed value is read again.
use Rattle.std.proofs.Common.{◌≡◌, ℕ, suc, ◌++◌, List, [], ◌∷◌, flat_map, Bool, true, false, cond, ◌||◌, Option, Some, ℤ, codes, refl, ◌∙◌, sym, ap, subst, append_assoc, append-nil}
use Rattle.std.proofs.lemmas.Bool.{ne_eqb}
use Rattle.std.specs.Str.{IsUtf8}
use Rattle.conf_lex.specs.Class.{class, in_word}
use Rattle.conf_lex.specs.Spelling.{inside}
use Rattle.conf_lex.proofs.Lexed.{IsWord, IsClosed, AllOf}
use Rattle.conf_parse.specs.declared.symbol.Sign.TheVariants as g
use Rattle.conf_parse.specs.declared.symbol.Role.{Role}
use Rattle.conf_parse.specs.declared.symbol.Role.TheVariants as roles
use Rattle.conf_parse.specs.declared.symbol.Symbol.TheVariants as s
use Rattle.conf_parse.specs.declared.tree.Term.{Term, out-Term, out-roll-Term}
use Rattle.conf_parse.specs.declared.tree.Term.TheVariants as t
use Rattle.conf_parse.specs.declared.tree.Term.TheOpen.{Term-F}
use Rattle.conf_parse.specs.declared.tree.Item.{Item}
use Rattle.conf_parse.specs.Symbols.{Text, Mark, at, sign, role_of, var_dot, has_empty_part, begins}
use Rattle.conf_parse.specs.Grammar as grammar
use Rattle.conf_parse.specs.Grammar.{IsValue, IsItems, IsItem, IsSum, text, number, switch, dotted, undotted, array, no_item, last, more, keyed, plain, one, sum}
use Rattle.conf_parse.specs.Print.{open_text, items_of, array_text, term_text, sum_text, item_text}
use Rattle.conf_parse.proofs.Fine.{AllFine, value_rest, item_rest}
use Rattle.conf_parse.proofs.Pieces.{Again, Apart, Any, join, behind, change, loosen, respell, OneSign, one_sign, OneWord, one_word, OneText, one_text, OneNumber, one_number, word_piece, text_piece, number_piece, plus_piece, arrow_piece, comma_piece, open_piece, close_piece, close_alone, word_utf8}
use Rattle.conf_parse.proofs.ValueSound.{Tail, plus, Closes, shuts, comma, sum_of as summed, items_of as itemed}

-- ---- the printed terms, by their variants

term_is_text : (x : Text) → out-Term (t.Text x) ≡ Term-F.Text x
term_is_text x = ap out-Term (sym (t.rolls-Text x)) ∙ out-roll-Term (Term-F.Text x)

term_is_number : (z : ℤ) → out-Term (t.Number z) ≡ Term-F.Number z
term_is_number z = ap out-Term (sym (t.rolls-Number z)) ∙ out-roll-Term (Term-F.Number z)

term_is_var : (x : Text) → out-Term (t.Var x) ≡ Term-F.Var x
term_is_var x = ap out-Term (sym (t.rolls-Var x)) ∙ out-roll-Term (Term-F.Var x)

term_is_array : (its : List Item) → out-Term (t.Array its) ≡ Term-F.Array its
term_is_array its = ap out-Term (sym (t.rolls-Array its)) ∙ out-roll-Term (Term-F.Array its)

-- the text of a term whose layer is this
layer : (d : ℕ) (v : Term) (f : Term-F Term Item) → out-Term v ≡ f → open_text (array_text d) f ≡ term_text d v
layer d v f e = ap (open_text (array_text d)) (sym e)

array_inner : (d : ℕ) (its : List Item) → items_of (array_text d) its ≡ array_text (suc d) its
unfolding array_text
array_inner d its = refl

-- ---- words

-- a word may stand between quotation marks
word_closed : (w : Text) → AllOf in_word w → IsClosed w
word_closed [] h = tt
word_closed (b ∷ []) h = λ z. let q = ap in_word z in let e = h.0 in cc
word_closed (b ∷ d ∷ w) h = word_closed (d ∷ w) h.1

word_inside : (w : Text) → AllOf in_word w → inside w ≡ w
word_inside [] h = refl
word_inside (b ∷ w) h = let no_quote : (b ≡ 34 → ⊥) = λ z. let q = ap (λ (y : ℕ). in_word (class y)) z in let e = h.0 in cc in rw (ne_eqb b 34 no_quote, word_inside w h.1) refl

all_of_word : (w : Text) → IsWord w → AllOf in_word w
all_of_word [] h = absurd h
all_of_word (b ∷ w) h = (ap in_word h.0, h.1)

word_as_text : (w : Text) → IsWord w → IsClosed w × IsUtf8 (inside w)
word_as_text w h = (word_closed w (all_of_word w h), subst IsUtf8 (sym (word_inside w (all_of_word w h))) (word_utf8 w h))

pub var_word : (w : Text) → IsWord w → IsWord (var_dot w)
var_word w h = (refl, (refl, (refl, (refl, all_of_word w h))))

miss : (y : Bool) (u v x : Role) → (u ≡ x → ⊥) → cond y u v ≡ x → (y ≡ false) × (v ≡ x)
miss true u v x n e = absurd (n e)
miss false u v x n e = (refl, e)

second : (x y : Bool) → (x || y) ≡ false → y ≡ false
second true y e = cc
second false y e = e

not_else : roles.Else ≡ roles.Bare → ⊥
not_else e = cc

not_include : roles.Include ≡ roles.Bare → ⊥
not_include e = cc

not_switch : roles.Switch ≡ roles.Bare → ⊥
not_switch e = cc

not_other : roles.Other ≡ roles.Bare → ⊥
not_other e = cc

-- a key without a dot has no empty part
bare_part : (w : Text) → roles.Bare ≡ role_of w → has_empty_part begins w ≡ false
bare_part w e = let a = miss _ roles.Else _ roles.Bare not_else (sym e) in let b = miss _ roles.Include _ roles.Bare not_include a.1 in let d = miss _ roles.Switch _ roles.Bare not_switch b.1 in
    let f = miss _ roles.Other _ roles.Bare not_other d.1 in second _ (has_empty_part begins w) f.0

-- with `var.` before it, it is a variable
pub var_role : (w : Text) → roles.Bare ≡ role_of w → role_of (var_dot w) ≡ roles.Variable
var_role w e = rw (bare_part w e) refl

-- ---- terms

switch_text : {d : ℕ} {x : Text} (ts r : List Mark) → OneText x ts r → IsValue d (t.Text x) ts r
switch_text ts r one_text = text

word_var : {d : ℕ} (x : Text) → role_of x ≡ roles.Variable → (ts r : List Mark) → OneWord x ts r → IsValue d (t.Var x) ts r
word_var {d = d} x e ts r (one_word {l = l} {r = q}) = subst (λ (y : Role). IsValue d (t.Var x) (at (s.Word y x) l ∷ q) q) (sym e) dotted

number_value : {d : ℕ} (z : ℤ) (ts r : List Mark) → OneNumber z ts r → IsValue d (t.Number z) ts r
number_value z ts r one_number = number

-- ---- sums and items

tail_of : {d : ℕ} {vs : List Term} (ts mid r : List Mark) → OneSign g.Plus ts mid → IsSum d vs mid r → Tail d vs ts r
tail_of ts mid r one_sign h = plus h

sum_tail : (d : ℕ) (vs : List Term) (ts r : List Mark) → IsSum d vs ts r → flat_map (λ v. codes " + " ++ term_text d v) vs ≡ codes " + " ++ sum_text d vs
sum_tail d vs ts r (one {v = v} h) = append_assoc (codes " + ") (term_text d v) []
sum_tail d vs ts r (sum {v = v} {vs = ws} h hs) = append_assoc (codes " + ") (term_text d v) (flat_map (λ y. codes " + " ++ term_text d y) ws)

-- a key and its arrow
data KeyMarks (x : Text) : List Mark → List Mark → Type 0 where
  key_marks : {l m : ℕ} {r : List Mark} → KeyMarks x (at (s.Text x) l ∷ sign g.Arrow m ∷ r) r

key_of : {x : Text} (ts mid r : List Mark) → OneText x ts mid → OneSign g.Arrow mid r → KeyMarks x ts r
key_of ts mid r one_text one_sign = key_marks

keyed_by : {d : ℕ} {x : Text} {v : List Term} (ts mid r : List Mark) → KeyMarks x ts mid → IsSum d v mid r → IsItem d (Some x) v ts r
keyed_by ts mid r key_marks h = keyed h

shuts_by : {d : ℕ} (ts r : List Mark) → OneSign g.CloseArray ts r → Closes d [] ts r
shuts_by ts r one_sign = shuts

comma_by : {d : ℕ} {its : List Item} (ts mid r : List Mark) → OneSign g.Comma ts mid → IsItems d its mid r → Closes d its ts r
comma_by ts mid r one_sign h = comma h

array_by : {d : ℕ} {its : List Item} (ts mid r : List Mark) → OneSign g.OpenArray ts mid → IsItems d its mid r → IsValue (suc d) (t.Array its) ts r
array_by ts mid r one_sign h = array h

no_items_by : {d : ℕ} (ts r : List Mark) → OneSign g.CloseArray ts r → IsItems d [] ts r
no_items_by ts r one_sign = no_item

-- the items behind the first, up to the end
abbrev others : ℕ → List Item → Text
others d its = flat_map (λ i. codes ", " ++ item_text d i) its ++ codes " )"

others_apart : (d : ℕ) (its : List Item) (bs : List ℕ) → Apart (others d its ++ bs)
others_apart d [] bs = refl
others_apart d (i ∷ its) bs = refl

others_more : (d : ℕ) (i : Item) (its : List Item) → codes ", " ++ (item_text d i ++ others d its) ≡ others d (i ∷ its)
others_more d i its = let rest = flat_map (λ j. codes ", " ++ item_text d j) its in
    sym (append_assoc (codes ", ") (item_text d i) (others d its)) ∙ sym (append_assoc (codes ", " ++ item_text d i) rest (codes " )"))

items_first : (d : ℕ) (i : Item) (its : List Item) → codes "( " ++ (item_text d i ++ others d its) ≡ items_of (array_text d) (i ∷ its)
items_first d i its = let rest = flat_map (λ j. codes ", " ++ item_text d j) its in
    ap (λ (y : Text). codes "( " ++ y) (sym (append_assoc (item_text d i) rest (codes " )"))) ∙ sym (append_assoc (codes "( ") (item_text d i ++ rest) (codes " )"))

items_none : {d : ℕ} {n : ℕ} → Again Any (IsValue (suc d) (t.Array [])) (codes "( )") n
items_none {n = n} = behind {a = codes "( "} {b = codes ")"} (open_piece n) (λ m. change no_items_by (close_alone m)) array_by

mutual
  value_again : {d : ℕ} {v : Term} {ts r : List Mark} → IsValue d v ts r → AllFine ts → (n : ℕ) → Again Apart (IsValue d v) (term_text d v) n
  value_again {d = d} (text {x = x}) f n = respell (layer d (t.Text x) (Term-F.Text x) (term_is_text x)) (loosen (change switch_text (text_piece x f.0 n)))
  value_again {d = d} (number {n = z}) f n = respell (layer d (t.Number z) (Term-F.Number z) (term_is_number z)) (change (number_value z) (number_piece z f.0 n))
  value_again {d = d} (switch {x = x}) f n = respell (layer d (t.Text x) (Term-F.Text x) (term_is_text x)) (loosen (change switch_text (text_piece x (word_as_text x f.0.1) n)))
  value_again {d = d} (dotted {x = x}) f n = respell (layer d (t.Var x) (Term-F.Var x) (term_is_var x)) (change (word_var x (sym f.0.0)) (word_piece x f.0.1 n))
  value_again {d = d} (undotted {x = x}) f n = respell (layer d (t.Var (var_dot x)) (Term-F.Var (var_dot x)) (term_is_var (var_dot x)))
      (change (word_var (var_dot x) (var_role x f.0.0)) (word_piece (var_dot x) (var_word x f.0.1) n))
  value_again {d = suc d} (array {its = its} h) f n = respell (array_inner d its ∙ layer (suc d) (t.Array its) (Term-F.Array its) (term_is_array its)) (loosen (array_again h f.1 n))

  array_again : {d : ℕ} {its : List Item} {ts r : List Mark} → IsItems d its ts r → AllFine ts → (n : ℕ) → Again Any (IsValue (suc d) (t.Array its)) (items_of (array_text d) its) n
  array_again no_item f n = items_none
  array_again {d = d} (last {key = key} {v = v} h) f n = respell (items_first d (grammar.item_of key v) [])
      (behind (open_piece n) (λ m. join (item_again h f m) (λ o. change shuts_by (close_piece o)) (λ bs a. others_apart d [] bs) (λ ts mid r p q. itemed p q)) array_by)
  array_again {d = d} (more {key = key} {v = v} {its = its} h hs) f n = respell (items_first d (grammar.item_of key v) its)
      (behind (open_piece n) (λ m. join (item_again h f m) (λ o. let q = item_rest h f in closes_again hs q.1 o) (λ bs a. others_apart d its bs) (λ ts mid r p q. itemed p q)) array_by)

  closes_again : {d : ℕ} {its : List Item} {ts r : List Mark} → IsItems d its ts r → AllFine ts → (n : ℕ) → Again Any (Closes d its) (others d its) n
  closes_again no_item f n = change shuts_by (close_piece n)
  closes_again {d = d} (last {key = key} {v = v} h) f n = respell (others_more d (grammar.item_of key v) [])
      (behind (comma_piece n) (λ m. join (item_again h f m) (λ o. change shuts_by (close_piece o)) (λ bs a. others_apart d [] bs) (λ ts mid r p q. itemed p q)) comma_by)
  closes_again {d = d} (more {key = key} {v = v} {its = its} h hs) f n = respell (others_more d (grammar.item_of key v) its)
      (behind (comma_piece n) (λ m. join (item_again h f m) (λ o. let q = item_rest h f in closes_again hs q.1 o) (λ bs a. others_apart d its bs) (λ ts mid r p q. itemed p q)) comma_by)

  item_again : {d : ℕ} {key : Option Text} {v : List Term} {ts r : List Mark} → IsItem d key v ts r → AllFine ts → (n : ℕ) → Again Apart (IsItem d key v) (item_text d (grammar.item_of key v)) n
  item_again (keyed {x = x} h) f n = behind (behind (text_piece x f.0 n) arrow_piece key_of) (λ m. sum_again h f.1.1 m) keyed_by
  item_again (plain h) f n = change (λ ts r p. plain p) (sum_again h f n)

  pub sum_again : {d : ℕ} {v : List Term} {ts r : List Mark} → IsSum d v ts r → AllFine ts → (n : ℕ) → Again Apart (IsSum d v) (sum_text d v) n
  sum_again {d = d} (one {v = v} h) f n = respell (sym (append-nil (term_text d v))) (change (λ ts r p. one p) (value_again h f n))
  sum_again {d = d} (sum {v = v} {vs = vs} {mid = mid} {r = r} h hs) f n = respell (ap (λ (y : Text). term_text d v ++ y) (sym (sum_tail d vs mid r hs)))
      (join (value_again h f n) (λ m. behind (plus_piece m) (λ o. let q = value_rest h f in sum_again hs q.1 o) tail_of) (λ bs a. refl) (λ ts mid r p q. summed p q))
