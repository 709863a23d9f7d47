-- What is read is spelled.
use Rattle.std.proofs.Common.{◌≡◌, ℕ, zero, suc, ◌++◌, List, [], ◌∷◌, Option, Some, None, Bool, true, false, Ok, refl, sym, subst, append_assoc, append-nil}
use Rattle.conf_parse.specs.declared.symbol.Sign.TheVariants as g
use Rattle.conf_parse.specs.declared.symbol.Role.{Role}
use Rattle.conf_parse.specs.declared.symbol.Role.TheVariants as roles
use Rattle.conf_parse.specs.declared.symbol.Symbol.{Symbol}
use Rattle.conf_parse.specs.declared.symbol.Symbol.TheVariants as s
use Rattle.conf_parse.specs.declared.tree.Term.{Term}
use Rattle.conf_parse.specs.declared.tree.Statement.{Statement}
use Rattle.conf_parse.specs.declared.tree.What.TheVariants as w
use Rattle.conf_parse.specs.declared.tree.Branch.{Branch}
use Rattle.conf_parse.specs.declared.tree.RawCondition.{RawCondition}
use Rattle.conf_parse.specs.declared.value.Mode.{Mode}
use Rattle.conf_parse.specs.declared.value.Mode.TheVariants as m
use Rattle.conf_parse.specs.declared.value.Level.{Level}
use Rattle.conf_parse.specs.declared.value.Reading.{Reading}
use Rattle.conf_parse.specs.declared.value.Turn.{Turn}
use Rattle.conf_parse.specs.declared.value.Turn.TheVariants.{Go, Whole, Wrong, Deep}
use Rattle.conf_parse.specs.declared.state.Body.{Body}
use Rattle.conf_parse.specs.declared.state.Chain.{Chain}
use Rattle.conf_parse.specs.declared.state.Frame.{Frame}
use Rattle.conf_parse.specs.declared.state.Target.{Target}
use Rattle.conf_parse.specs.declared.state.Target.TheVariants as target
use Rattle.conf_parse.specs.declared.state.Part.{Part}
use Rattle.conf_parse.specs.declared.state.Part.TheVariants as p
use Rattle.conf_parse.specs.declared.state.State.{State}
use Rattle.conf_parse.specs.declared.state.State.TheVariants.{Between, Key, Value, Head, After, Else}
use Rattle.conf_parse.specs.Symbols.{Text, Mark, at, sign, IsKey, setting, variable, bare}
use Rattle.conf_parse.specs.Grammar.{statement, branch, assign_of, IsBody, IsBlock, IsElses, IsFile, none, some, set, include, chain, block, no_else, else_block, bare_else}
use Rattle.conf_parse.specs.Values.{reading, turn}
use Rattle.conf_parse.specs.Machine.{body, chain_of, frame, with, joined, what_of, fresh, head, headed, turned, next, run, start, finish_value}
use Rattle.conf_parse.proofs.ValueSound.{out, RestReading, rest_value, here_back, Back, turn_back}

-- what may follow a closed branch of the chain
pub data Follow : ℕ → Option RawCondition → List Branch → List Mark → List Mark → Type 0 where
  conditional : {d : ℕ} {c : RawCondition} {bs : List Branch} {ts r : List Mark} → IsElses d bs ts r → Follow d (Some c) bs ts r
  bare_end : {d : ℕ} {r : List Mark} → Follow d None [] r r

-- With these statements the innermost body is whole, and the terminals make the whole file of them.
pub data Around : List Frame → List Statement → List Statement → List Mark → Type 0 where
  alone : {xs : List Statement} → Around [] xs xs []
  inside : {f : Frame} {fs : List Frame} {bs : List Branch} {xs inner tree : List Statement} {l : ℕ} {ts mid r : List Mark}
      → Follow f.body.room f.condition bs ts mid → IsBody f.body.room xs mid r
      → Around fs (f.body.done ++ (statement f.chain.line (w.Branches (f.chain.branches ++ (branch f.line f.condition inner ∷ bs))) ∷ xs)) tree r
      → Around (f ∷ fs) inner tree (sign g.CloseBlock l ∷ ts)

pub data RestBody (b : Body) (fs : List Frame) (tree : List Statement) (ts : List Mark) : Type 0 where
  rest_body : {xs : List Statement} {r : List Mark} → IsBody b.room xs ts r → Around fs (b.done ++ xs) tree r → RestBody b fs tree ts

pub data RestChain (b : Body) (c : Chain) (fs : List Frame) (tree : List Statement) (ts : List Mark) : Type 0 where
  rest_chain : {bs : List Branch} {xs : List Statement} {mid r : List Mark} → IsElses b.room bs ts mid → IsBody b.room xs mid r
      → Around fs (b.done ++ (statement c.line (w.Branches (c.branches ++ bs)) ∷ xs)) tree r → RestChain b c fs tree ts

pub data RestBlock (b : Body) (c : Chain) (l : ℕ) (fs : List Frame) (tree : List Statement) (ts : List Mark) : Type 0 where
  rest_block : {x : Branch} {mid : List Mark} → IsBlock b.room l x ts mid → RestChain b (joined c x) fs tree mid → RestBlock b c l fs tree ts

pub data RestSetting (b : Body) (l : ℕ) (goal : Target) (v : Reading) (fs : List Frame) (tree : List Statement) (ts : List Mark) : Type 0 where
  rest_setting : (xs : List Term) (r : List Mark) → RestReading v xs ts r → RestBody (with b l (what_of goal xs)) fs tree r → RestSetting b l goal v fs tree ts

pub data RestKey (b : Body) (l : ℕ) (key : Text) (fs : List Frame) (tree : List Statement) : List Mark → Type 0 where
  rest_key : {add : Bool} {i : ℕ} {ts : List Mark} → RestSetting b l (target.Set key add) (fresh b.room) fs tree ts → RestKey b l key fs tree (sign (assign_of add) i ∷ ts)

-- what holds of the terminals behind a part of a condition, of the terminals with that part before them, whatever their lines
abbrev pub Before : Part → (List Mark → Type 0) → List Mark → Type 0
Before p.Group P ts = P ts
Before (p.OpenName group) P ts = (role : Role) (l1 : ℕ) → P (at (s.Word role group) l1 ∷ ts)
Before (p.Name group) P ts = (role : Role) (l1 l2 : ℕ) → P (at (s.Word role group) l1 ∷ sign g.OpenName l2 ∷ ts)
Before (p.CloseName group name) P ts = (role : Role) (l1 l2 l3 : ℕ) → P (at (s.Word role group) l1 ∷ sign g.OpenName l2 ∷ at (s.Text name) l3 ∷ ts)
Before (p.Op group name) P ts = (role : Role) (l1 l2 l3 l4 : ℕ) → P (at (s.Word role group) l1 ∷ sign g.OpenName l2 ∷ at (s.Text name) l3 ∷ sign g.CloseName l4 ∷ ts)
Before (p.Text group name op) P ts = (role : Role) (l1 l2 l3 l4 l5 : ℕ) → P (at (s.Word role group) l1 ∷ sign g.OpenName l2 ∷ at (s.Text name) l3 ∷ sign g.CloseName l4 ∷ sign (g.Compare op) l5 ∷ ts)
Before (p.Block c) P ts = (role : Role) (l1 l2 l3 l4 l5 l6 : ℕ) → P (at (s.Word role c.group) l1 ∷ sign g.OpenName l2 ∷ at (s.Text c.name) l3 ∷ sign g.CloseName l4 ∷ sign (g.Compare c.op) l5 ∷ at (s.Text c.text) l6 ∷ ts)

abbrev pub Rest : State → List Statement → List Mark → Type 0
Rest (Between b fs) tree ts = RestBody b fs tree ts
Rest (Key b l key fs) tree ts = RestKey b l key fs tree ts
Rest (Value b l goal v fs) tree ts = RestSetting b l goal v fs tree ts
Rest (Head b c l part fs) tree ts = Before part (RestBlock b c l fs tree) ts
Rest (After b c fs) tree ts = RestChain b c fs tree ts
Rest (Else b c l fs) tree ts = (x : Text) → RestChain b c fs tree (at (s.Word roles.Else x) l ∷ ts)

-- ---- a step back

key_back : {b : Body} {l : ℕ} {role : Role} {word key : Text} {fs : List Frame} {tree : List Statement} {ts : List Mark} → IsKey role word key → RestKey b l key fs tree ts → RestBody b fs tree (at (s.Word role word) l ∷ ts)
key_back {b = b} {l = l} {key = key} {fs = fs} {tree = tree} name (rest_key {add = add} (rest_setting v _ (rest_value h out) (rest_body {xs = xs} {r = r} hs u))) =
    rest_body (some (set name h) hs) (subst (λ (y : List Statement). Around fs y tree r) (append_assoc b.done (statement l (w.Set key add v) ∷ []) xs) u)

include_back : {b : Body} {l : ℕ} {x : Text} {fs : List Frame} {tree : List Statement} {ts : List Mark} → RestSetting b l target.Include (fresh b.room) fs tree ts → RestBody b fs tree (at (s.Word roles.Include x) l ∷ ts)
include_back {b = b} {l = l} {fs = fs} {tree = tree} (rest_setting v _ (rest_value h out) (rest_body {xs = xs} {r = r} hs u)) =
    rest_body (some (include h) hs) (subst (λ (y : List Statement). Around fs y tree r) (append_assoc b.done (statement l (w.Include v) ∷ []) xs) u)

dollar_back : {b : Body} {l : ℕ} {fs : List Frame} {tree : List Statement} {ts : List Mark} → RestBlock b (chain_of l []) l fs tree ts → RestBody b fs tree (sign g.Dollar l ∷ ts)
dollar_back (rest_block h (rest_chain es hs u)) = rest_body (some (chain h es) hs) u

else_dollar : {b : Body} {c : Chain} {l i : ℕ} {x : Text} {fs : List Frame} {tree : List Statement} {ts : List Mark} → RestBlock b c l fs tree ts → RestChain b c fs tree (at (s.Word roles.Else x) l ∷ sign g.Dollar i ∷ ts)
else_dollar {b = b} {c = c} {fs = fs} {tree = tree} (rest_block {x = x} h (rest_chain {bs = bs} {xs = xs} {r = r} es hs u)) =
    rest_chain (else_block h es) hs (subst (λ (y : List Branch). Around fs (b.done ++ (statement c.line (w.Branches y) ∷ xs)) tree r) (append_assoc c.branches (x ∷ []) bs) u)

-- a block that was opened
opened_back : {d l l1 l2 l3 l4 l5 l6 l7 : ℕ} {role : Role} {done : List Statement} {c : Chain} {k : RawCondition} {fs : List Frame} {tree : List Statement} {ts : List Mark}
    → RestBody (body d []) (frame (body (suc d) done) c l (Some k) ∷ fs) tree ts
    → RestBlock (body (suc d) done) c l fs tree (at (s.Word role k.group) l1 ∷ sign g.OpenName l2 ∷ at (s.Text k.name) l3 ∷ sign g.CloseName l4 ∷ sign (g.Compare k.op) l5 ∷ at (s.Text k.text) l6 ∷ sign g.OpenBlock l7 ∷ ts)
opened_back {done = done} {c = c} {fs = fs} {tree = tree} (rest_body h (inside {bs = bs} {xs = xs} {inner = inner} {r = r} (conditional es) hs u)) =
    rest_block (block h) (rest_chain es hs (subst (λ (y : List Branch). Around fs (done ++ (statement c.line (w.Branches y) ∷ xs)) tree r) (sym (append_assoc c.branches _ bs)) u))

else_back : {d l i : ℕ} {x : Text} {done : List Statement} {c : Chain} {fs : List Frame} {tree : List Statement} {ts : List Mark}
    → RestBody (body d []) (frame (body (suc d) done) c l None ∷ fs) tree ts → RestChain (body (suc d) done) c fs tree (at (s.Word roles.Else x) l ∷ sign g.OpenBlock i ∷ ts)
else_back (rest_body h (inside bare_end hs u)) = rest_chain (bare_else h) hs u

around_back : {b : Body} {fs : List Frame} {tree : List Statement} {ts : List Mark} → Around fs b.done tree ts → RestBody b fs tree ts
around_back {b = b} {fs = fs} {tree = tree} {ts = ts} u = rest_body none (subst (λ (y : List Statement). Around fs y tree ts) (sym (append-nil b.done)) u)

closed_back : {b : Body} {f : Frame} {fs : List Frame} {l : ℕ} {k : RawCondition} {tree : List Statement} {ts : List Mark} → f.condition ≡ Some k
    → RestChain f.body (joined f.chain (branch f.line f.condition b.done)) fs tree ts → RestBody b (f ∷ fs) tree (sign g.CloseBlock l ∷ ts)
closed_back {b = b} {f = f} {fs = fs} {tree = tree} {ts = ts} e (rest_chain {bs = bs} {xs = xs} {mid = mid} {r = r} es hs u) =
    around_back (inside (subst (λ (y : Option RawCondition). Follow f.body.room y bs ts mid) (sym e) (conditional es)) hs
    (subst (λ (y : List Branch). Around fs (f.body.done ++ (statement f.chain.line (w.Branches y) ∷ xs)) tree r) (append_assoc f.chain.branches (branch f.line f.condition b.done ∷ []) bs) u))

closed_bare : {b : Body} {f : Frame} {fs : List Frame} {l : ℕ} {tree : List Statement} {ts : List Mark} → f.condition ≡ None
    → RestBody (with f.body f.chain.line (w.Branches (f.chain.branches ++ branch f.line f.condition b.done ∷ []))) fs tree ts → RestBody b (f ∷ fs) tree (sign g.CloseBlock l ∷ ts)
closed_bare {b = b} {f = f} {fs = fs} {tree = tree} {ts = ts} e (rest_body {xs = xs} {r = r} h u) =
    around_back (inside (subst (λ (y : Option RawCondition). Follow f.body.room y [] ts ts) (sym e) bare_end) h (subst (λ (y : List Statement). Around fs y tree r) (append_assoc f.body.done _ xs) u))

after_behind : {tree : List Statement} {b : Body} {c : Chain} {fs : List Frame} {us : List Mark} → RestBody (with b c.line (w.Branches c.branches)) fs tree us → RestChain b c fs tree us
after_behind {tree = tree} {b = b} {c = c} {fs = fs} (rest_body {xs = xs} {r = r} h u) = rest_chain no_else h
    (subst (λ (y : List Branch). Around fs (b.done ++ (statement c.line (w.Branches y) ∷ xs)) tree r) (sym (append-nil c.branches))
    (subst (λ (y : List Statement). Around fs y tree r) (append_assoc b.done (statement c.line (w.Branches c.branches) ∷ []) xs) u))

-- ---- a run back

module _ (tree : List Statement) (ts : List Mark) (ih : (z : State) → run ts z ≡ Ok tree → Rest z tree ts) where
  abbrev OnTo : State → Symbol → ℕ → Type 0
  OnTo z x l = run (at x l ∷ ts) z ≡ Ok tree → Rest z tree (at x l ∷ ts)

  end_by : (b : Body) (f : Frame) (fs : List Frame) (l : ℕ) (k : Option RawCondition) → f.condition ≡ k → run (sign g.CloseBlock l ∷ ts) (Between b (f ∷ fs)) ≡ Ok tree → RestBody b (f ∷ fs) tree (sign g.CloseBlock l ∷ ts)
  end_by b f fs l (Some k) e h = closed_back e (subst (λ (y : Option RawCondition). RestChain f.body (joined f.chain (branch f.line y b.done)) fs tree ts) (sym e) (ih _ (rw e at h)))
  end_by b f fs l None e h = closed_bare e (subst (λ (y : Option RawCondition). RestBody (with f.body f.chain.line (w.Branches (f.chain.branches ++ branch f.line y b.done ∷ []))) fs tree ts) (sym e) (ih _ (rw e at h)))

  between_back : (b : Body) (fs : List Frame) (x : Symbol) (l : ℕ) → OnTo (Between b fs) x l
  between_back b fs (s.Word roles.Setting x) l e = key_back setting (ih _ e)
  between_back b fs (s.Word roles.Variable x) l e = key_back variable (ih _ e)
  between_back b fs (s.Word roles.Bare x) l e = key_back bare (ih _ e)
  between_back b fs (s.Word roles.Include x) l e = include_back (ih _ e)
  between_back b fs (s.Sign g.Dollar) l e = dollar_back (ih _ e)
  between_back b [] (s.Sign g.CloseBlock) l e = cc
  between_back b (f ∷ fs) (s.Sign g.CloseBlock) l e = end_by b f fs l f.condition refl e
  between_back b fs _ l e = cc

  after_back : (b : Body) (c : Chain) (fs : List Frame) (x : Symbol) (l : ℕ) → OnTo (After b c fs) x l
  after_back b c fs (s.Word roles.Else x) l e = ih _ e x
  after_back b c fs x l e = after_behind (between_back (with b c.line (w.Branches c.branches)) fs x l e)

  assigned : {b : Body} {line l : ℕ} {key : Text} {add : Bool} {fs : List Frame} → RestSetting b line (target.Set key add) (fresh b.room) fs tree ts → RestKey b line key fs tree (sign (assign_of add) l ∷ ts)
  assigned h = rest_key h

  key_step : (b : Body) (line : ℕ) (key : Text) (fs : List Frame) (x : Symbol) (l : ℕ) → OnTo (Key b line key fs) x l
  key_step b line key fs (s.Sign g.Assign) l e = assigned {add = false} (ih _ e)
  key_step b line key fs (s.Sign g.Append) l e = assigned {add = true} (ih _ e)
  key_step b line key fs _ l e = cc

  go_back : (b : Body) (line : ℕ) (goal : Target) (v next : Reading) (fs : List Frame) (x : Symbol) (l : ℕ) → ((xs : List Term) (r : List Mark) → RestReading next xs ts r → RestReading v xs (at x l ∷ ts) r)
      → RestSetting b line goal next fs tree ts → RestSetting b line goal v fs tree (at x l ∷ ts)
  go_back b line goal v next fs x l f (rest_setting xs r h hs) = rest_setting xs r (f xs r h) hs

  value_by : (b : Body) (line : ℕ) (goal : Target) (v : Reading) (fs : List Frame) (x : Symbol) (l : ℕ) (y : Turn) → Back y v x → next (turned y b line goal l fs) (run ts) (at x l ∷ ts) ≡ Ok tree
      → RestSetting b line goal v fs tree (at x l ∷ ts)
  value_by b line goal v fs x l (Go other) h e = go_back b line goal v other fs x l (λ xs r q. h l xs ts r q) (ih _ e)
  value_by b line goal v fs x l (Whole terms y) h e = rest_setting terms (at x l ∷ ts) (h.1 (at x l ∷ ts)) (between_back (with b line (what_of goal terms)) fs x l (rw h.0 at e))
  value_by b line goal v fs x l Wrong h e = cc
  value_by b line goal v fs x l Deep h e = cc

  head_by : (b : Body) (c : Chain) (line : ℕ) (fs : List Frame) (part : Part) (x : Symbol) (l : ℕ) → next (headed (head part x) b c line fs) (run ts) (at x l ∷ ts) ≡ Ok tree → Before part (RestBlock b c line fs tree) (at x l ∷ ts)
  head_by b c line fs p.Group (s.Word role x) l e = ih _ e role l
  head_by b c line fs (p.OpenName group) (s.Sign g.OpenName) l e = λ role l1. ih _ e role l1 l
  head_by b c line fs (p.Name group) (s.Text x) l e = λ role l1 l2. ih _ e role l1 l2 l
  head_by b c line fs (p.CloseName group name) (s.Sign g.CloseName) l e = λ role l1 l2 l3. ih _ e role l1 l2 l3 l
  head_by b c line fs (p.Op group name) (s.Sign (g.Compare op)) l e = λ role l1 l2 l3 l4. ih _ e role l1 l2 l3 l4 l
  head_by b c line fs (p.Text group name op) (s.Text x) l e = λ role l1 l2 l3 l4 l5. ih _ e role l1 l2 l3 l4 l5 l
  head_by b c line fs _ _ l e = absurd cc

  block_by : (d : ℕ) (done : List Statement) (c : Chain) (line : ℕ) (k : RawCondition) (fs : List Frame) (l : ℕ) → run (sign g.OpenBlock l ∷ ts) (Head (body d done) c line (p.Block k) fs) ≡ Ok tree
      → (role : Role) (l1 l2 l3 l4 l5 l6 : ℕ) → RestBlock (body d done) c line fs tree (at (s.Word role k.group) l1 ∷ sign g.OpenName l2 ∷ at (s.Text k.name) l3 ∷ sign g.CloseName l4 ∷ sign (g.Compare k.op) l5 ∷ at (s.Text k.text) l6 ∷ sign g.OpenBlock l ∷ ts)
  block_by zero done c line k fs l e role l1 l2 l3 l4 l5 l6 = cc
  block_by (suc d) done c line k fs l e role l1 l2 l3 l4 l5 l6 = opened_back (ih _ e)

  head_step : (b : Body) (c : Chain) (line : ℕ) (part : Part) (fs : List Frame) (x : Symbol) (l : ℕ) → OnTo (Head b c line part fs) x l
  head_step b c line (p.Block k) fs (s.Sign g.OpenBlock) l e = block_by b.room b.done c line k fs l e
  head_step b c line (p.Block k) fs _ l e = absurd cc
  head_step b c line p.Group fs x l e = head_by b c line fs p.Group x l e
  head_step b c line (p.OpenName group) fs x l e = head_by b c line fs (p.OpenName group) x l e
  head_step b c line (p.Name group) fs x l e = head_by b c line fs (p.Name group) x l e
  head_step b c line (p.CloseName group name) fs x l e = head_by b c line fs (p.CloseName group name) x l e
  head_step b c line (p.Op group name) fs x l e = head_by b c line fs (p.Op group name) x l e
  head_step b c line (p.Text group name op) fs x l e = head_by b c line fs (p.Text group name op) x l e

  else_by : (d : ℕ) (done : List Statement) (c : Chain) (line : ℕ) (fs : List Frame) (l : ℕ) → run (sign g.OpenBlock l ∷ ts) (Else (body d done) c line fs) ≡ Ok tree
      → (x : Text) → RestChain (body d done) c fs tree (at (s.Word roles.Else x) line ∷ sign g.OpenBlock l ∷ ts)
  else_by zero done c line fs l e x = cc
  else_by (suc d) done c line fs l e x = else_back (ih _ e)

  else_step : (b : Body) (c : Chain) (line : ℕ) (fs : List Frame) (x : Symbol) (l : ℕ) → OnTo (Else b c line fs) x l
  else_step b c line fs (s.Sign g.Dollar) l e = λ x. else_dollar (ih _ e)
  else_step b c line fs (s.Sign g.OpenBlock) l e = else_by b.room b.done c line fs l e
  else_step b c line fs _ l e = absurd cc

  state_back : (z : State) (x : Symbol) (l : ℕ) → OnTo z x l
  state_back (Between b fs) x l e = between_back b fs x l e
  state_back (Key b line key fs) x l e = key_step b line key fs x l e
  state_back (Value b line goal v fs) x l e = value_by b line goal v fs x l (turn v x) (turn_back v x) e
  state_back (Head b c line part fs) x l e = head_step b c line part fs x l e
  state_back (After b c fs) x l e = after_back b c fs x l e
  state_back (Else b c line fs) x l e = else_step b c line fs x l e

file_end : {tree done : List Statement} → done ≡ tree → Around [] done tree []
file_end {tree = tree} e = subst (λ (y : List Statement). Around [] y tree []) (sym e) alone

value_end : (tree : List Statement) (b : Body) (line : ℕ) (goal : Target) (mode : Mode) (terms : List Term) (d : ℕ) (os : List Level) (fs : List Frame)
    → finish_value mode os (b.done ++ statement line (what_of goal terms) ∷ []) fs ≡ Ok tree → RestSetting b line goal (reading mode terms d os) fs tree []
value_end tree b line goal m.After terms d [] [] e = rest_setting terms [] (here_back out) (around_back (file_end cc))
value_end tree b line goal m.After terms d [] (f ∷ fs) e = cc
value_end tree b line goal m.After terms d (o ∷ os) fs e = cc
value_end tree b line goal _ terms d os fs e = cc

finish_back : (tree : List Statement) (z : State) → run [] z ≡ Ok tree → Rest z tree []
finish_back tree (Between b []) e = around_back (file_end cc)
finish_back tree (Between b (f ∷ fs)) e = cc
finish_back tree (Key b line key fs) e = cc
finish_back tree (Value b line goal v fs) e = value_end tree b line goal v.mode v.terms v.room v.opens fs e
finish_back tree (Head b c line part fs) e = absurd cc
finish_back tree (After b c []) e = after_behind (around_back (file_end cc))
finish_back tree (After b c (f ∷ fs)) e = cc
finish_back tree (Else b c line fs) e = absurd cc

pub run_back : (tree : List Statement) (ts : List Mark) (z : State) → run ts z ≡ Ok tree → Rest z tree ts
run_back tree [] z e = finish_back tree z e
run_back tree (x ∷ ts) z e = state_back tree ts (run_back tree ts) z x.symbol x.line e

file_of : {room : ℕ} {tree : List Statement} {ts : List Mark} → RestBody (body room []) [] tree ts → IsFile room tree ts
file_of (rest_body h alone) = h

pub file_spelled : (room : ℕ) (tree : List Statement) (ts : List Mark) → run ts (start room) ≡ Ok tree → IsFile room tree ts
file_spelled room tree ts e = file_of (run_back tree ts (start room) e)
