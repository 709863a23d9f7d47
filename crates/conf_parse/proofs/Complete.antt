-- What is spelled is read.
use Rattle.std.proofs.Common.{◌≡◌, ℕ, ◌++◌, List, [], ◌∷◌, Option, None, Bool, true, false, Ok, refl, ◌∙◌, sym, ap, append_assoc, append-nil}
use Rattle.conf_parse.specs.declared.symbol.Sign.TheVariants as g
use Rattle.conf_parse.specs.declared.symbol.Role.{Role}
use Rattle.conf_parse.specs.declared.symbol.Role.TheVariants as roles
use Rattle.conf_parse.specs.declared.symbol.Symbol.{Symbol}
use Rattle.conf_parse.specs.declared.symbol.Symbol.TheVariants as s
use Rattle.conf_parse.specs.declared.tree.Term.{Term}
use Rattle.conf_parse.specs.declared.tree.Term.TheVariants as t
use Rattle.conf_parse.specs.declared.tree.Item.{Item}
use Rattle.conf_parse.specs.declared.tree.Statement.{Statement}
use Rattle.conf_parse.specs.declared.tree.What.TheVariants as w
use Rattle.conf_parse.specs.declared.tree.Branch.{Branch}
use Rattle.conf_parse.specs.declared.value.Mode.TheVariants as m
use Rattle.conf_parse.specs.declared.value.Array.{Array}
use Rattle.conf_parse.specs.declared.value.Level.{Level}
use Rattle.conf_parse.specs.declared.value.Reading.{Reading}
use Rattle.conf_parse.specs.declared.state.Body.{Body}
use Rattle.conf_parse.specs.declared.state.Frame.{Frame}
use Rattle.conf_parse.specs.declared.state.Target.{Target}
use Rattle.conf_parse.specs.declared.state.Target.TheVariants as target
use Rattle.conf_parse.specs.declared.state.Part.TheVariants as p
use Rattle.conf_parse.specs.declared.state.State.TheVariants.{Between, Key, Value, Head, After}
use Rattle.conf_parse.specs.Symbols.{Text, Mark, at, sign, IsKey, setting, variable, bare}
use Rattle.conf_parse.specs.Grammar.{item_of, statement, assign_of, IsValue, IsItems, IsItem, IsSum, IsBody, IsStatement, IsBlock, IsElses, IsFile, text, number, switch, dotted, undotted, array, no_item, last, more, keyed, plain, one, sum, none, some, set, include, chain, block, no_else, else_block, bare_else}
use Rattle.conf_parse.specs.Values.{reading, level, array_of}
use Rattle.conf_parse.specs.Machine.{body, chain_of, with, what_of, fresh, run, start, Reply}

-- ---- what a value is followed by

abbrev NoArrowAt : Symbol → Type 0
NoArrowAt (s.Sign g.Arrow) = ⊥
NoArrowAt _ = Unit {0}

abbrev NoArrow : List Mark → Type 0
NoArrow [] = Unit {0}
NoArrow (x ∷ xs) = NoArrowAt x.symbol

-- neither `+` nor `else`, with which the statement before would go on
abbrev EndsAt : Symbol → Type 0
EndsAt (s.Sign g.Plus) = ⊥
EndsAt (s.Word roles.Else x) = ⊥
EndsAt _ = Unit {0}

abbrev Ends : List Mark → Type 0
Ends [] = Unit {0}
Ends (x ∷ xs) = EndsAt x.symbol

-- ---- values

module _ (b : Body) (line : ℕ) (goal : Target) (fs : List Frame) where
  abbrev go : List Mark → Reading → Reply
  go ts v = run ts (Value b line goal v fs)

  named_at : (x : Text) (y : Symbol) (l : ℕ) (ts : List Mark) (d : ℕ) (o : Array) (os : List Level) → NoArrowAt y
      → go (at y l ∷ ts) (reading (m.Named o x) [] d os) ≡ go (at y l ∷ ts) (reading m.After (t.Text x ∷ []) d (level o None ∷ os))
  named_at x (s.Sign g.Arrow) l ts d o os n = absurd n
  named_at x _ l ts d o os n = refl

  named_after : (x : Text) (ts : List Mark) (d : ℕ) (o : Array) (os : List Level) → NoArrow ts
      → go ts (reading (m.Named o x) [] d os) ≡ go ts (reading m.After (t.Text x ∷ []) d (level o None ∷ os))
  named_after x [] d o os n = refl
  named_after x (y ∷ ts) d o os n = named_at x y.symbol y.line ts d o os n

  mutual
    value_read : {d : ℕ} {v : Term} {ts r : List Mark} → IsValue d v ts r → (terms : List Term) (os : List Level)
        → go ts (reading m.Value terms d os) ≡ go r (reading m.After (terms ++ v ∷ []) d os)
    value_read text terms os = refl
    value_read number terms os = refl
    value_read switch terms os = refl
    value_read dotted terms os = refl
    value_read undotted terms os = refl
    value_read (array h) terms os = items_read h terms [] _ os

    items_read : {d : ℕ} {its : List Item} {ts r : List Mark} → IsItems d its ts r → (before : List Term) (items : List Item) (D : ℕ) (os : List Level)
        → go ts (reading (m.Item (array_of before items D)) [] d os) ≡ go r (reading m.After (before ++ t.Array (items ++ its) ∷ []) D os)
    items_read {r = r} no_item before items D os = ap (λ (x : List Item). go r (reading m.After (before ++ t.Array x ∷ []) D os)) (sym (append-nil items))
    items_read (last h) before items D os = item_read h tt before items D os
    items_read {r = r} (more {key = i} {v = v} {its = its} h hs) before items D os = item_read h tt before items D os
        ∙ items_read hs before (items ++ item_of i v ∷ []) D os
        ∙ ap (λ (x : List Item). go r (reading m.After (before ++ t.Array x ∷ []) D os)) (append_assoc items (item_of i v ∷ []) its)

    item_read : {d : ℕ} {i : Option Text} {v : List Term} {ts r : List Mark} → IsItem d i v ts r → NoArrow r → (before : List Term) (items : List Item) (D : ℕ) (os : List Level)
        → go ts (reading (m.Item (array_of before items D)) [] d os) ≡ go r (reading m.After v d (level (array_of before items D) i ∷ os))
    item_read (keyed h) n before items D os = sum_read h [] _
    item_read (plain h) n before items D os = first_sum_read h n before items D os

    sum_read : {d : ℕ} {v : List Term} {ts r : List Mark} → IsSum d v ts r → (terms : List Term) (os : List Level)
        → go ts (reading m.Value terms d os) ≡ go r (reading m.After (terms ++ v) d os)
    sum_read (one h) terms os = value_read h terms os
    sum_read {d = d} {r = r} (sum {v = v} {vs = vs} h hs) terms [] = value_read h terms [] ∙ sum_read hs (terms ++ v ∷ []) [] ∙ ap (λ (x : List Term). go r (reading m.After x d [])) (append_assoc terms (v ∷ []) vs)
    sum_read {d = d} {r = r} (sum {v = v} {vs = vs} h hs) terms (o ∷ os) = value_read h terms (o ∷ os) ∙ sum_read hs (terms ++ v ∷ []) (o ∷ os) ∙ ap (λ (x : List Term). go r (reading m.After x d (o ∷ os))) (append_assoc terms (v ∷ []) vs)

    first_sum_read : {d : ℕ} {v : List Term} {ts r : List Mark} → IsSum d v ts r → NoArrow r → (before : List Term) (items : List Item) (D : ℕ) (os : List Level)
        → go ts (reading (m.Item (array_of before items D)) [] d os) ≡ go r (reading m.After v d (level (array_of before items D) None ∷ os))
    first_sum_read (one h) n before items D os = first_read h n before items D os
    first_sum_read (sum {v = v} h hs) n before items D os = first_read h tt before items D os ∙ sum_read hs (v ∷ []) _

    first_read : {d : ℕ} {v : Term} {ts r : List Mark} → IsValue d v ts r → NoArrow r → (before : List Term) (items : List Item) (D : ℕ) (os : List Level)
        → go ts (reading (m.Item (array_of before items D)) [] d os) ≡ go r (reading m.After (v ∷ []) d (level (array_of before items D) None ∷ os))
    first_read {d = d} {r = r} (text {x = x}) n before items D os = named_after x r d (array_of before items D) os n
    first_read number n before items D os = refl
    first_read switch n before items D os = refl
    first_read dotted n before items D os = refl
    first_read undotted n before items D os = refl
    first_read (array h) n before items D os = items_read h [] [] _ (level (array_of before items D) None ∷ os)

  -- a value that is whole before a terminal that does not go on with it
  settled_at : (y : Symbol) (l : ℕ) (ts : List Mark) (d : ℕ) (v : List Term) → EndsAt y → go (at y l ∷ ts) (reading m.After v d []) ≡ run (at y l ∷ ts) (Between (with b line (what_of goal v)) fs)
  settled_at (s.Sign g.Plus) l ts d v n = absurd n
  settled_at _ l ts d v n = refl

settled : (b : Body) (line : ℕ) (goal : Target) (fs : List Frame) (ts : List Mark) (d : ℕ) (v : List Term) → Ends ts
    → run ts (Value b line goal (reading m.After v d []) fs) ≡ run ts (Between (with b line (what_of goal v)) fs)
settled b line goal [] [] d v n = refl
settled b line goal (f ∷ fs) [] d v n = refl
settled b line goal fs (y ∷ ts) d v n = settled_at b line goal fs y.symbol y.line ts d v n

whole_read : {d : ℕ} {v : List Term} {ts r : List Mark} → IsSum d v ts r → Ends r → (done : List Statement) (line : ℕ) (goal : Target) (fs : List Frame)
    → run ts (Value (body d done) line goal (fresh d) fs) ≡ run r (Between (with (body d done) line (what_of goal v)) fs)
whole_read {d = d} {v = v} {r = r} h n done line goal fs = sum_read (body d done) line goal fs h [] [] ∙ settled (body d done) line goal fs r d v n

-- ---- statements

-- a body begins with neither `+` nor `else`, if none follows it
body_ends : {d : ℕ} {xs : List Statement} {ts r : List Mark} → IsBody d xs ts r → Ends r → Ends ts
body_ends none n = n
body_ends (some (set setting h) hs) n = tt
body_ends (some (set variable h) hs) n = tt
body_ends (some (set bare h) hs) n = tt
body_ends (some (include h) hs) n = tt
body_ends (some (chain h es) hs) n = tt

ended_at : (d : ℕ) (done : List Statement) (line : ℕ) (bs : List Branch) (fs : List Frame) (y : Symbol) (l : ℕ) (ts : List Mark) → EndsAt y
    → run (at y l ∷ ts) (After (body d done) (chain_of line bs) fs) ≡ run (at y l ∷ ts) (Between (body d (done ++ statement line (w.Branches bs) ∷ [])) fs)
ended_at d done line bs fs (s.Word roles.Else x) l ts n = absurd n
ended_at d done line bs fs _ l ts n = refl

ended : (d : ℕ) (done : List Statement) (line : ℕ) (bs : List Branch) (fs : List Frame) (ts : List Mark) → Ends ts
    → run ts (After (body d done) (chain_of line bs) fs) ≡ run ts (Between (body d (done ++ statement line (w.Branches bs) ∷ [])) fs)
ended d done line bs [] [] n = refl
ended d done line bs (f ∷ fs) [] n = refl
ended d done line bs fs (y ∷ ts) n = ended_at d done line bs fs y.symbol y.line ts n

key_read : {role : Role} {word key : Text} → IsKey role word key → (b : Body) (l : ℕ) (fs : List Frame) (ts : List Mark) → run (at (s.Word role word) l ∷ ts) (Between b fs) ≡ run ts (Key b l key fs)
key_read setting b l fs ts = refl
key_read variable b l fs ts = refl
key_read bare b l fs ts = refl

assigned : (add : Bool) (b : Body) (l i : ℕ) (key : Text) (fs : List Frame) (ts : List Mark) → run (sign (assign_of add) i ∷ ts) (Key b l key fs) ≡ run ts (Value b l (target.Set key add) (fresh b.room) fs)
assigned true b l i key fs ts = refl
assigned false b l i key fs ts = refl

mutual
  body_read : {d : ℕ} {xs : List Statement} {ts r : List Mark} → IsBody d xs ts r → Ends r → (done : List Statement) (fs : List Frame)
      → run ts (Between (body d done) fs) ≡ run r (Between (body d (done ++ xs)) fs)
  body_read {d = d} {r = r} none n done fs = ap (λ (y : List Statement). run r (Between (body d y) fs)) (sym (append-nil done))
  body_read {d = d} {r = r} (some {x = x} {xs = xs} h hs) n done fs = statement_read h (body_ends hs n) done fs ∙ body_read hs n (done ++ x ∷ []) fs
      ∙ ap (λ (y : List Statement). run r (Between (body d y) fs)) (append_assoc done (x ∷ []) xs)

  statement_read : {d : ℕ} {x : Statement} {ts r : List Mark} → IsStatement d x ts r → Ends r → (done : List Statement) (fs : List Frame)
      → run ts (Between (body d done) fs) ≡ run r (Between (body d (done ++ x ∷ [])) fs)
  statement_read {d = d} (set {l = l} {m = i} {key = key} {add = add} {ts = ts} name h) n done fs =
      key_read name (body d done) l fs (sign (assign_of add) i ∷ ts) ∙ assigned add (body d done) l i key fs ts ∙ whole_read h n done l (target.Set key add) fs
  statement_read (include {l = l} h) n done fs = whole_read h n done l target.Include fs
  statement_read (chain {l = l} {b = b} h es) n done fs = block_read h done l [] fs ∙ elses_read es n done l (b ∷ []) fs

  block_read : {d l : ℕ} {b : Branch} {ts r : List Mark} → IsBlock d l b ts r → (done : List Statement) (line : ℕ) (bs : List Branch) (fs : List Frame)
      → run ts (Head (body d done) (chain_of line bs) l p.Group fs) ≡ run r (After (body d done) (chain_of line (bs ++ b ∷ [])) fs)
  block_read (block h) done line bs fs = body_read h tt [] _

  elses_read : {d : ℕ} {es : List Branch} {ts r : List Mark} → IsElses d es ts r → Ends r → (done : List Statement) (line : ℕ) (bs : List Branch) (fs : List Frame)
      → run ts (After (body d done) (chain_of line bs) fs) ≡ run r (Between (body d (done ++ statement line (w.Branches (bs ++ es)) ∷ [])) fs)
  elses_read {d = d} {r = r} no_else n done line bs fs = ended d done line bs fs r n ∙ ap (λ (y : List Branch). run r (Between (body d (done ++ statement line (w.Branches y) ∷ [])) fs)) (sym (append-nil bs))
  elses_read {d = d} {r = r} (else_block {b = b} {bs = es} h hs) n done line bs fs = block_read h done line bs fs ∙ elses_read hs n done line (bs ++ b ∷ []) fs
      ∙ ap (λ (y : List Branch). run r (Between (body d (done ++ statement line (w.Branches y) ∷ [])) fs)) (append_assoc bs (b ∷ []) es)
  elses_read (bare_else h) n done line bs fs = body_read h tt [] _

pub file_read : {room : ℕ} {xs : List Statement} {ts : List Mark} → IsFile room xs ts → run ts (start room) ≡ Ok xs
file_read h = body_read h tt [] []
