-- A printed tree is read again.
use Rattle.std.proofs.Common.{◌≡◌, ℕ, zero, suc, ◌++◌, List, [], ◌∷◌, flat_map, Bool, true, false, Option, Some, None, codes, refl, ◌∙◌, sym, ap, subst, append-nil}
use Rattle.std.proofs.lemmas.Str.{IsUtf8-nil}
use Rattle.conf_lex.proofs.Lexed.{IsWord}
use Rattle.conf_parse.specs.declared.symbol.Sign.TheVariants as g
use Rattle.conf_parse.specs.declared.symbol.Role.{Role}
use Rattle.conf_parse.specs.declared.symbol.Role.TheVariants as roles
use Rattle.conf_parse.specs.declared.symbol.Symbol.{Symbol}
use Rattle.conf_parse.specs.declared.symbol.Symbol.TheVariants as s
use Rattle.conf_parse.specs.declared.tree.Term.{Term}
use Rattle.conf_parse.specs.declared.tree.Statement.{Statement}
use Rattle.conf_parse.specs.declared.tree.What.{What, out-What, out-roll-What}
use Rattle.conf_parse.specs.declared.tree.What.TheVariants as w
use Rattle.conf_parse.specs.declared.tree.What.TheOpen.{What-F}
use Rattle.conf_parse.specs.declared.tree.Branch.{Branch, out-roll-Branch}
use Rattle.conf_parse.specs.declared.tree.RawCondition.{RawCondition}
use Rattle.conf_parse.specs.Symbols.{Text, Mark, sign, role_of, var_dot, IsKey, setting, variable, bare}
use Rattle.conf_parse.specs.Grammar.{statement, branch, assign_of, IsSum, IsBody, IsStatement, IsBlock, IsElses, none, some, set, include, chain, block, no_else, else_block, bare_else}
use Rattle.conf_parse.specs.Print.{sum_text, margin, condition_text, assign_text, what_text, branch_of, further_of, branches_of, branches_text, statement_text, body_text}
use Rattle.conf_parse.specs.SameTree.{SameStatements, SameStatement, SameBranches, no_statement, more_statements, same_set, same_include, same_chain, no_branch, more_branches}
use Rattle.conf_parse.proofs.Fine.{Fine, AllFine, body_rest, statement_rest, block_rest}
use Rattle.conf_parse.proofs.Pieces.{Again, again, Apart, Any, Nothing, nothing, OneSign, one_sign, row_end, row_next, RowFrom, row_from, more_row, sign_row, word_row, text_row, none_row, word_piece, text_piece, dollar_from, word_from, include_from, else_from, open_name_piece, close_name_piece, open_block_piece, close_block_piece, op_piece, assign_piece, blank_piece, feed_piece, margin_piece}
use Rattle.conf_parse.proofs.ValueAgain.{sum_again, var_role, var_word}
use Rattle.conf_parse.proofs.Family.{AgainAs, again_as, two, alone, rename, respelled, then, before}

-- ---- the printed statements, by their variants

what_is_set : (key : Text) (add : Bool) (value : List Term) → out-What (w.Set key add value) ≡ What-F.Set key add value
what_is_set key add value = ap out-What (sym (w.rolls-Set key add value)) ∙ out-roll-What (What-F.Set key add value)

what_is_include : (value : List Term) → out-What (w.Include value) ≡ What-F.Include value
what_is_include value = ap out-What (sym (w.rolls-Include value)) ∙ out-roll-What (What-F.Include value)

what_is_branches : (bs : List Branch) → out-What (w.Branches bs) ≡ What-F.Branches bs
what_is_branches bs = ap out-What (sym (w.rolls-Branches bs)) ∙ out-roll-What (What-F.Branches bs)

layer : (d l : ℕ) (x : What) (f : What-F What Branch Statement) → out-What x ≡ f → what_text d (branches_text d) f ≡ statement_text d (statement l x)
layer d l x f e = ap (what_text d (branches_text d)) (sym e)

branches_inner : (d : ℕ) (bs : List Branch) → branches_of (suc d) (body_text d) bs ≡ branches_text (suc d) bs
unfolding branches_text
branches_inner d bs = refl

-- ---- settings

-- the key as it is kept is a key
kept_key : {role : Role} {word key : Text} → IsKey role word key → (role ≡ role_of word) × IsWord word → IsKey (role_of key) key key × IsWord key
kept_key (setting {w = x}) f = (subst (λ (y : Role). IsKey y x x) f.0 setting, f.1)
kept_key (variable {w = x}) f = (subst (λ (y : Role). IsKey y x x) f.0 variable, f.1)
kept_key (bare {w = x}) f = (subst (λ (y : Role). IsKey y (var_dot x) (var_dot x)) (sym (var_role x f.0)) variable, var_word x f.1)

abbrev Always : ℕ → Type 0
Always l = Unit {0}

abbrev key_symbol : Text → Symbol
key_symbol key = s.Word (role_of key) key

behind_margin : {l : ℕ} {x : Symbol} {xs : List Symbol} (ts mid r : List Mark) → Nothing ts mid → RowFrom l x xs mid r → RowFrom l x xs ts r
behind_margin ts mid r nothing h = h

set_of : {d l : ℕ} {key : Text} {add : Bool} {value : List Term} {ts mid r : List Mark} → IsKey (role_of key) key key → RowFrom l (key_symbol key) (s.Sign (assign_of add) ∷ []) ts mid → IsSum d value mid r
    → IsStatement d (statement l (w.Set key add value)) ts r
set_of name (row_from (row_next row_end)) h = set name h

include_of : {d l : ℕ} {value : List Term} {ts mid r : List Mark} → RowFrom l (s.Word roles.Include (codes "include")) [] ts mid → IsSum d value mid r → IsStatement d (statement l (w.Include value)) ts r
include_of (row_from row_end) h = include h

ended : {d : ℕ} (x : Statement) (ts mid r : List Mark) → IsStatement d x ts mid → Nothing mid r → IsStatement d x ts r
ended x ts mid r h nothing = h

set_again : {d n : ℕ} (key : Text) (add : Bool) (value : List Term) → IsKey (role_of key) key key → IsWord key → ((m : ℕ) → Again Apart (IsSum d value) (sum_text d value) m)
    → AgainAs Any (λ l. IsStatement d (statement l (w.Set key add value))) Always (margin d ++ key ++ assign_text add ++ sum_text d value ++ codes "\n") n
set_again {d = d} {n = n} key add value name h k =
    then (then (then (before (margin_piece d n) (λ m. alone m tt (word_from key h m)) (λ bs a. tt) (λ l ts mid r. behind_margin ts mid r))
    (assign_piece add) (assign_apart add) (λ l ts mid r p q. more_row p (sign_row q)))
    k (λ bs a. tt) (λ l ts mid r p q. set_of name p q))
    feed_piece (λ bs a. refl) (λ l ts mid r p q. ended _ ts mid r p q) where
      assign_apart : (add : Bool) (bs : List ℕ) → Any bs → Apart (assign_text add ++ bs)
      assign_apart true bs a = refl
      assign_apart false bs a = refl

include_again : {d n : ℕ} (value : List Term) → ((m : ℕ) → Again Apart (IsSum d value) (sum_text d value) m)
    → AgainAs Any (λ l. IsStatement d (statement l (w.Include value))) Always (margin d ++ codes "include " ++ sum_text d value ++ codes "\n") n
include_again {d = d} {n = n} value k =
    then (then (before (margin_piece d n) (λ m. alone m tt (include_from m)) (λ bs a. tt) (λ l ts mid r. behind_margin ts mid r))
    k (λ bs a. tt) (λ l ts mid r p q. include_of p q))
    feed_piece (λ bs a. refl) (λ l ts mid r p q. ended _ ts mid r p q)

-- ---- conditions

abbrev heading : RawCondition → List Symbol
heading c = s.Word (role_of c.group) c.group ∷ s.Sign g.OpenName ∷ s.Text c.name ∷ s.Sign g.CloseName ∷ s.Sign (g.Compare c.op) ∷ s.Text c.text ∷ []

-- the terminals of a condition
abbrev IsCondition : Option RawCondition → ℕ → List Mark → List Mark → Type 0
IsCondition (Some c) l ts r = RowFrom l (s.Sign g.Dollar) (heading c) ts r
IsCondition None l ts r = Nothing ts r

abbrev FineCondition : Option RawCondition → Type 0
FineCondition (Some c) = IsWord c.group × Fine (s.Text c.name) × Fine (s.Text c.text)
FineCondition None = Unit {0}

condition_again : (c : Option RawCondition) → FineCondition c → (n : ℕ) → AgainAs Any (IsCondition c) Always (condition_text c) n
condition_again None f n = alone n tt (again (λ vs. vs) n (λ bs vs o r a q. q) (λ vs. nothing) IsUtf8-nil)
condition_again (Some c) f n =
    then (then (then (then (then (then (then (then (alone {P = λ l. RowFrom l (s.Sign g.Dollar) []} n tt (dollar_from n))
    (word_piece c.group f.0) (λ bs a. tt) (λ l ts mid r p q. more_row p (word_row q)))
    open_name_piece (λ bs a. refl) (λ l ts mid r p q. more_row p (sign_row q)))
    (text_piece c.name f.1) (λ bs a. tt) (λ l ts mid r p q. more_row p (text_row q)))
    close_name_piece (λ bs a. tt) (λ l ts mid r p q. more_row p (sign_row q)))
    (op_piece c.op) (λ bs a. tt) (λ l ts mid r p q. more_row p (sign_row q)))
    blank_piece (λ bs a. tt) (λ l ts mid r p q. more_row p (none_row q)))
    (text_piece c.text f.2) (λ bs a. tt) (λ l ts mid r p q. more_row p (text_row q)))
    blank_piece (λ bs a. tt) (λ l ts mid r p q. more_row p (none_row q))

-- ---- branches

-- a condition and an opening brace
data Opened (c : Option RawCondition) (l : ℕ) : List Mark → List Mark → Type 0 where
  opened : (m : ℕ) {ts r : List Mark} → IsCondition c l ts (sign g.OpenBlock m ∷ r) → Opened c l ts r

data OpenBody (d : ℕ) (c : Option RawCondition) (l : ℕ) (ys : List Statement) : List Mark → List Mark → Type 0 where
  open_body : {ts mid r : List Mark} → Opened c l ts mid → IsBody d ys mid r → OpenBody d c l ys ts r

data Whole (d : ℕ) (c : Option RawCondition) (l : ℕ) (ys : List Statement) : List Mark → List Mark → Type 0 where
  whole : {m : ℕ} {ts mid r : List Mark} → Opened c l ts mid → IsBody d ys mid (sign g.CloseBlock m ∷ r) → Whole d c l ys ts r

opened_by : {c : Option RawCondition} {l : ℕ} (ts mid r : List Mark) → IsCondition c l ts mid → OneSign g.OpenBlock mid r → Opened c l ts r
opened_by ts mid r h (one_sign {l = m}) = opened m h

margin_behind : {d : ℕ} {c : Option RawCondition} {l : ℕ} {ys : List Statement} (ts mid r : List Mark) → OpenBody d c l ys ts mid → Nothing mid r → OpenBody d c l ys ts r
margin_behind ts mid r h nothing = h

whole_by : {d : ℕ} {c : Option RawCondition} {l : ℕ} {ys : List Statement} (ts mid r : List Mark) → OpenBody d c l ys ts mid → OneSign g.CloseBlock mid r → Whole d c l ys ts r
whole_by ts mid r (open_body o h) one_sign = whole o h

branch_text : (d l : ℕ) (c : Option RawCondition) (xs : List Statement) → condition_text c ++ codes "{\n" ++ body_text d xs ++ margin (suc d) ++ codes "}\n" ≡ branch_of (suc d) (body_text d) (branch l c xs)
branch_text d l c xs = ap (λ r. condition_text r.condition ++ codes "{\n" ++ body_text d r.body ++ margin (suc d) ++ codes "}\n") (sym (out-roll-Branch (record { line = l; condition = c; body = xs })))

branch_again : {d : ℕ} {xs : List Statement} (l : ℕ) (c : Option RawCondition) → FineCondition c → ((m : ℕ) → AgainAs Any (IsBody d) (SameStatements xs) (body_text d xs) m) → (n : ℕ)
    → AgainAs Any (λ (p : ℕ × List Statement). Whole d c p.0 p.1) (λ p. SameStatements xs p.1) (branch_of (suc d) (body_text d) (branch l c xs)) n
branch_again {d = d} {xs = xs} l c f k n = respelled (branch_text d l c xs)
    (then (then (two (then (condition_again c f n) open_block_piece (λ bs a. tt) (λ i ts mid r p q. opened_by ts mid r p q))
    k (λ bs a. tt) (λ i ys. (i, ys)) (λ i ys a b. b) (λ i ys ts mid r p q. open_body p q))
    (margin_piece (suc d)) (λ bs a. tt) (λ p ts mid r h q. margin_behind ts mid r h q))
    close_block_piece (λ bs a. tt) (λ p ts mid r h q. whole_by ts mid r h q))

margin_first : {d : ℕ} {c : Option RawCondition} {l : ℕ} {ys : List Statement} (ts mid r : List Mark) → Nothing ts mid → Whole d c l ys mid r → Whole d c l ys ts r
margin_first ts mid r nothing h = h

-- a block behind its `$`, whatever line the branch has
data Dollared (d : ℕ) (k : RawCondition) (l : ℕ) (ys : List Statement) : List Mark → List Mark → Type 0 where
  dollared : {ts r : List Mark} → ((i : ℕ) → IsBlock (suc d) i (branch i (Some k) ys) ts r) → Dollared d k l ys (sign g.Dollar l ∷ ts) r

block_of : {d : ℕ} {k : RawCondition} {l : ℕ} {ys : List Statement} {ts r : List Mark} → Whole d (Some k) l ys ts r → Dollared d k l ys ts r
block_of (whole (opened m (row_from (row_next (row_next (row_next (row_next (row_next (row_next row_end)))))))) h) = dollared (λ i. block h)

first_of : {d : ℕ} {k : RawCondition} {l : ℕ} {ys : List Statement} {cs : List Branch} {ts mid r : List Mark} → Dollared d k l ys ts mid → IsElses (suc d) cs mid r
    → IsStatement (suc d) (statement l (w.Branches (branch l (Some k) ys ∷ cs))) ts r
first_of (dollared f) es = chain (f _) es

else_of : {d : ℕ} {k : RawCondition} {l i : ℕ} {ys : List Statement} {cs : List Branch} {ts mid behind r : List Mark} → RowFrom l (s.Word roles.Else (codes "else")) [] ts mid → Dollared d k i ys mid behind → IsElses (suc d) cs behind r
    → IsElses (suc d) (branch l (Some k) ys ∷ cs) ts r
else_of (row_from row_end) (dollared f) es = else_block (f _) es

bare_of : {d l i : ℕ} {ys : List Statement} {ts mid r : List Mark} → RowFrom l (s.Word roles.Else (codes "else")) [] ts mid → Whole d None i ys mid r → IsElses (suc d) (branch l None ys ∷ []) ts r
bare_of (row_from row_end) (whole (opened m nothing) h) = bare_else h

-- an `else` and its branch
data Further (d : ℕ) (c : Option RawCondition) (l : ℕ) (ys : List Statement) : List Mark → List Mark → Type 0 where
  further : {i : ℕ} {ts mid r : List Mark} → RowFrom l (s.Word roles.Else (codes "else")) [] ts mid → Whole d c i ys mid r → Further d c l ys ts r

further_again : {d : ℕ} {xs : List Statement} (l : ℕ) (c : Option RawCondition) → FineCondition c → ((m : ℕ) → AgainAs Any (IsBody d) (SameStatements xs) (body_text d xs) m) → (n : ℕ)
    → AgainAs Any (λ (p : ℕ × List Statement). Further d c p.0 p.1) (λ p. SameStatements xs p.1) (further_of (suc d) (body_text d) (branch l c xs)) n
further_again {d = d} l c f k n =
    two (before (margin_piece (suc d) n) (λ m. alone {S = Always} m tt (else_from m)) (λ bs a. tt) (λ i ts mid r. behind_margin ts mid r))
    (λ m. branch_again l c f k m) (λ bs a. tt) (λ i p. (i, p.1)) (λ i p a b. b) (λ i p ts mid r e h. further e h)

more_else : {d : ℕ} {k : RawCondition} {l : ℕ} {ys : List Statement} {cs : List Branch} {ts mid r : List Mark} → Further d (Some k) l ys ts mid → IsElses (suc d) cs mid r → IsElses (suc d) (branch l (Some k) ys ∷ cs) ts r
more_else (further e h) es = else_of e (block_of h) es

last_else : {d l : ℕ} {ys : List Statement} {ts r : List Mark} → Further d None l ys ts r → IsElses (suc d) (branch l None ys ∷ []) ts r
last_else (further e h) = bare_of e h

-- ---- statements

nothing_again : {A : Type 0} {P : List A → List Mark → List Mark → Type 0} {S : List A → Type 0} → ((r : List Mark) → P [] r r) → S [] → (n : ℕ) → AgainAs Any P S [] n
nothing_again f e n = again_as [] e (again (λ vs. vs) n (λ bs vs o r a q. q) (λ vs. f _) IsUtf8-nil)

mutual
  pub body_again : {d : ℕ} {xs : List Statement} {ts r : List Mark} → IsBody d xs ts r → AllFine ts → (n : ℕ) → AgainAs Any (IsBody d) (SameStatements xs) (body_text d xs) n
  body_again none f n = nothing_again (λ r. none) no_statement n
  body_again (some h hs) f n = two (statement_again h f n) (λ m. body_again hs (statement_rest h f) m) (λ bs a. tt) (λ y ys. y ∷ ys) (λ y ys e es. more_statements e es) (λ y ys ts mid r p q. some p q)

  statement_again : {d : ℕ} {x : Statement} {ts r : List Mark} → IsStatement d x ts r → AllFine ts → (n : ℕ) → AgainAs Any (IsStatement d) (SameStatement x) (statement_text d x) n
  statement_again {d = d} (set {l = l} {key = key} {add = add} {value = value} name h) f n = let key_is = kept_key name f.0 in
      respelled (layer d l (w.Set key add value) (What-F.Set key add value) (what_is_set key add value))
      (rename (λ i. statement i (w.Set key add value)) (λ i a. same_set) (λ i ts r p. p) (set_again key add value key_is.0 key_is.1 (λ m. sum_again h f.1.1 m)))
  statement_again {d = d} (include {l = l} {value = value} h) f n =
      respelled (layer d l (w.Include value) (What-F.Include value) (what_is_include value))
      (rename (λ i. statement i (w.Include value)) (λ i a. same_include) (λ i ts r p. p) (include_again value (λ m. sum_again h f.1 m)))
  statement_again {d = zero} (chain h es) f n = elim h [ ]
  statement_again {d = suc d} (chain {l = l} {bs = bs} (block {l = i} {group = group} {name = name} {text = text} {op = op} {body = xs} h) es) f n =
      let condition : RawCondition = record { group = group; name = name; op = op; text = text } in
      respelled (branches_inner d (branch i (Some condition) xs ∷ bs) ∙ layer (suc d) l (w.Branches (branch i (Some condition) xs ∷ bs)) (What-F.Branches (branch i (Some condition) xs ∷ bs)) (what_is_branches (branch i (Some condition) xs ∷ bs)))
      (two (before (margin_piece (suc d) n) (λ m. branch_again i (Some condition) (f.1.0.1, f.1.1.1.0, f.1.1.1.1.1.1.0) (λ o. body_again h f.1.1.1.1.1.1.1.1 o) m) (λ bs a. tt) (λ p ts mid r. margin_first ts mid r))
      (λ m. let q = body_rest h f.1.1.1.1.1.1.1.1 in elses_again es q.1 m) (λ bs a. tt)
      (λ p cs. statement p.0 (w.Branches (branch p.0 (Some condition) p.1 ∷ cs))) (λ p cs a b. same_chain (more_branches i p.0 (Some condition) a b)) (λ p cs ts mid r a b. first_of (block_of a) b))

  elses_again : {d : ℕ} {bs : List Branch} {ts r : List Mark} → IsElses (suc d) bs ts r → AllFine ts → (n : ℕ) → AgainAs Any (IsElses (suc d)) (SameBranches bs) (flat_map (further_of (suc d) (body_text d)) bs) n
  elses_again no_else f n = nothing_again (λ r. no_else) no_branch n
  elses_again (else_block hb es) f n = two (further_block hb f.1.1 n) (λ m. elses_again es (block_rest hb f.1.1) m) (λ bs a. tt)
      (λ y cs. y ∷ cs) (λ y cs a b. a _ _ b) (λ y cs ts mid r a b. a cs r b)
  elses_again {d = d} (bare_else {l = i} {body = xs} h) f n = respelled (sym (append-nil _))
      (rename (λ p. branch p.0 None p.1 ∷ []) (λ p a. more_branches i p.0 None a no_branch) (λ p ts r a. last_else a) (further_again i None tt (λ o. body_again h f.1.1 o) n))

  -- a further branch with a condition
  further_block : {d l : ℕ} {b : Branch} {ts r : List Mark} → IsBlock (suc d) l b ts r → AllFine ts → (n : ℕ)
      → AgainAs Any (λ (y : Branch) (us q : List Mark). (cs : List Branch) (z : List Mark) → IsElses (suc d) cs q z → IsElses (suc d) (y ∷ cs) us z)
      (λ y. (bs cs : List Branch) → SameBranches bs cs → SameBranches (b ∷ bs) (y ∷ cs)) (further_of (suc d) (body_text d) b) n
  further_block {l = i} (block {group = group} {name = name} {text = text} {op = op} {body = xs} h) f n =
      let condition : RawCondition = record { group = group; name = name; op = op; text = text } in
      rename (λ p. branch p.0 (Some condition) p.1) (λ p a bs cs e. more_branches i p.0 (Some condition) a e) (λ p ts r a cs z es. more_else a es)
      (further_again i (Some condition) (f.0.1, f.1.1.0, f.1.1.1.1.1.0) (λ o. body_again h f.1.1.1.1.1.1.1 o) n)
