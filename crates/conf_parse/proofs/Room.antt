-- A file with more room for nesting: the same terminals, the same steps.
use Rattle.std.proofs.Common.{◌≡◌, ℕ, zero, suc, ◌+◌, ◌++◌, List, [], ◌∷◌, Option, Some, None, Result, Ok, Err, refl, subst, arith}
use Rattle.conf_parse.specs.declared.symbol.Sign.TheVariants as g
use Rattle.conf_parse.specs.declared.symbol.Role.TheVariants as roles
use Rattle.conf_parse.specs.declared.symbol.Symbol.{Symbol}
use Rattle.conf_parse.specs.declared.symbol.Symbol.TheVariants as s
use Rattle.conf_parse.specs.declared.tree.Term.{Term}
use Rattle.conf_parse.specs.declared.tree.Item.{Item}
use Rattle.conf_parse.specs.declared.tree.Statement.{Statement}
use Rattle.conf_parse.specs.declared.tree.What.TheVariants as w
use Rattle.conf_parse.specs.declared.tree.Branch.{Branch}
use Rattle.conf_parse.specs.declared.tree.RawCondition.{RawCondition}
use Rattle.conf_parse.specs.declared.value.Mode.{Mode}
use Rattle.conf_parse.specs.declared.value.Mode.TheVariants as m
use Rattle.conf_parse.specs.declared.value.Array.{Array}
use Rattle.conf_parse.specs.declared.value.Level.{Level}
use Rattle.conf_parse.specs.declared.value.Reading.{Reading}
use Rattle.conf_parse.specs.declared.value.Turn.{Turn}
use Rattle.conf_parse.specs.declared.value.Turn.TheVariants.{Go, Whole, Wrong, Deep}
use Rattle.conf_parse.specs.declared.state.Body.{Body}
use Rattle.conf_parse.specs.declared.state.Chain.{Chain}
use Rattle.conf_parse.specs.declared.state.Frame.{Frame}
use Rattle.conf_parse.specs.declared.state.Target.{Target}
use Rattle.conf_parse.specs.declared.state.Part.{Part}
use Rattle.conf_parse.specs.declared.state.Part.TheVariants as p
use Rattle.conf_parse.specs.declared.state.State.{State}
use Rattle.conf_parse.specs.declared.state.State.TheVariants.{Between, Key, Value, Head, After, Else}
use Rattle.conf_parse.specs.Symbols.{Text, Mark}
use Rattle.conf_parse.specs.Grammar.{statement, IsValue, IsItems, IsItem, IsSum, IsBody, IsStatement, IsBlock, IsElses, text, number, switch, dotted, undotted, array, no_item, last, more, keyed, plain, one, sum, none, some, set, include, chain, block, no_else, else_block, bare_else}
use Rattle.conf_parse.specs.Values.{reading, level, array_of, turn}
use Rattle.conf_parse.specs.Machine.{body, frame, with, what_of, opened, closed, head, heads, headed, turned, begin, step, finish, finish_value, Fault, Grammar, Nested}

abbrev pub up : ℕ → ℕ → ℕ
up e zero = e
up e (suc d) = suc (up e d)

up_sum : (e d : ℕ) → up e d ≡ e + d
up_sum e zero = omega arith
up_sum e (suc d) = let ih = up_sum e d in omega (arith, ih)

pub up_comm : (e d : ℕ) → up e d ≡ up d e
up_comm e d = omega (arith, up_sum e d, up_sum d e)

pub up_one : (d : ℕ) → up (suc zero) d ≡ suc d
up_one d = omega (arith, up_sum (suc zero) d)

-- ---- what is spelled

mutual
  value_up : (e : ℕ) {d : ℕ} {v : Term} {ts r : List Mark} → IsValue d v ts r → IsValue (up e d) v ts r
  value_up e text = text
  value_up e number = number
  value_up e switch = switch
  value_up e dotted = dotted
  value_up e undotted = undotted
  value_up e (array h) = array (items_up e h)

  items_up : (e : ℕ) {d : ℕ} {its : List Item} {ts r : List Mark} → IsItems d its ts r → IsItems (up e d) its ts r
  items_up e no_item = no_item
  items_up e (last h) = last (item_up e h)
  items_up e (more h hs) = more (item_up e h) (items_up e hs)

  item_up : (e : ℕ) {d : ℕ} {key : Option Text} {v : List Term} {ts r : List Mark} → IsItem d key v ts r → IsItem (up e d) key v ts r
  item_up e (keyed h) = keyed (sum_up e h)
  item_up e (plain h) = plain (sum_up e h)

  sum_up : (e : ℕ) {d : ℕ} {v : List Term} {ts r : List Mark} → IsSum d v ts r → IsSum (up e d) v ts r
  sum_up e (one h) = one (value_up e h)
  sum_up e (sum h hs) = sum (value_up e h) (sum_up e hs)

mutual
  pub body_up : (e : ℕ) {d : ℕ} {xs : List Statement} {ts r : List Mark} → IsBody d xs ts r → IsBody (up e d) xs ts r
  body_up e none = none
  body_up e (some h hs) = some (statement_up e h) (body_up e hs)

  statement_up : (e : ℕ) {d : ℕ} {x : Statement} {ts r : List Mark} → IsStatement d x ts r → IsStatement (up e d) x ts r
  statement_up e (set name h) = set name (sum_up e h)
  statement_up e (include h) = include (sum_up e h)
  statement_up e (chain h es) = chain (block_up e h) (elses_up e es)

  block_up : (e : ℕ) {d l : ℕ} {b : Branch} {ts r : List Mark} → IsBlock d l b ts r → IsBlock (up e d) l b ts r
  block_up e (block h) = block (body_up e h)

  elses_up : (e : ℕ) {d : ℕ} {bs : List Branch} {ts r : List Mark} → IsElses d bs ts r → IsElses (up e d) bs ts r
  elses_up e no_else = no_else
  elses_up e (else_block h hs) = else_block (block_up e h) (elses_up e hs)
  elses_up e (bare_else h) = bare_else (body_up e h)

-- ---- the same state with more room

abbrev more_array : ℕ → Array → Array
more_array e a = array_of a.before a.items (up e a.room)

abbrev more_level : ℕ → Level → Level
more_level e o = level (more_array e o.array) o.key

abbrev pub more_levels : ℕ → List Level → List Level
more_levels e [] = []
more_levels e (o ∷ os) = more_level e o ∷ more_levels e os

abbrev pub more_mode : ℕ → Mode → Mode
more_mode e m.Value = m.Value
more_mode e (m.Item a) = m.Item (more_array e a)
more_mode e (m.Named a x) = m.Named (more_array e a) x
more_mode e m.After = m.After

abbrev pub more_reading : ℕ → Reading → Reading
more_reading e v = reading (more_mode e v.mode) v.terms (up e v.room) (more_levels e v.opens)

abbrev pub more_body : ℕ → Body → Body
more_body e b = body (up e b.room) b.done

abbrev pub more_frame : ℕ → Frame → Frame
more_frame e f = frame (more_body e f.body) f.chain f.line f.condition

abbrev pub more_frames : ℕ → List Frame → List Frame
more_frames e [] = []
more_frames e (f ∷ fs) = more_frame e f ∷ more_frames e fs

abbrev pub more_room : ℕ → State → State
more_room e (Between b fs) = Between (more_body e b) (more_frames e fs)
more_room e (Key b line key fs) = Key (more_body e b) line key (more_frames e fs)
more_room e (Value b line goal v fs) = Value (more_body e b) line goal (more_reading e v) (more_frames e fs)
more_room e (Head b c line part fs) = Head (more_body e b) c line part (more_frames e fs)
more_room e (After b c fs) = After (more_body e b) c (more_frames e fs)
more_room e (Else b c line fs) = Else (more_body e b) c line (more_frames e fs)

-- ---- a turn with more room does the same, but where there was none

abbrev SameTurn : ℕ → Turn → Turn → Type 0
SameTurn e (Go v) other = other ≡ Go (more_reading e v)
SameTurn e (Whole terms x) other = other ≡ Whole terms x
SameTurn e Wrong other = other ≡ Wrong
SameTurn e Deep other = Unit {0}

abbrev SameAt : ℕ → Mode → Symbol → List Term → ℕ → List Level → Type 0
SameAt e mode x terms d os = SameTurn e (turn (reading mode terms d os) x) (turn (more_reading e (reading mode terms d os)) x)

value_same : (e : ℕ) (x : Symbol) (terms : List Term) (d : ℕ) (os : List Level) → SameAt e m.Value x terms d os
value_same e (s.Text x) terms d os = refl
value_same e (s.Number n) terms d os = refl
value_same e (s.Word roles.Switch x) terms d os = refl
value_same e (s.Word roles.Variable x) terms d os = refl
value_same e (s.Word roles.Bare x) terms d os = refl
value_same e (s.Sign g.OpenArray) terms zero os = tt
value_same e (s.Sign g.OpenArray) terms (suc d) os = refl
value_same e _ terms d os = refl

item_same : (e : ℕ) (x : Symbol) (a : Array) (terms : List Term) (d : ℕ) (os : List Level) → SameAt e (m.Item a) x terms d os
item_same e (s.Text x) a terms d os = refl
item_same e (s.Number n) a terms d os = refl
item_same e (s.Word roles.Switch x) a terms d os = refl
item_same e (s.Word roles.Variable x) a terms d os = refl
item_same e (s.Word roles.Bare x) a terms d os = refl
item_same e (s.Sign g.CloseArray) a terms d os = refl
item_same e (s.Sign g.OpenArray) a terms zero os = tt
item_same e (s.Sign g.OpenArray) a terms (suc d) os = refl
item_same e _ a terms d os = refl

after_same : (e : ℕ) (x : Symbol) (terms : List Term) (d : ℕ) (os : List Level) → SameAt e m.After x terms d os
after_same e (s.Sign g.Plus) terms d [] = refl
after_same e x terms d [] = refl
after_same e (s.Sign g.Plus) terms d (o ∷ os) = refl
after_same e (s.Sign g.Comma) terms d (o ∷ os) = refl
after_same e (s.Sign g.CloseArray) terms d (o ∷ os) = refl
after_same e _ terms d (o ∷ os) = refl

named_same : (e : ℕ) (x : Symbol) (a : Array) (y : Text) (terms : List Term) (d : ℕ) (os : List Level) → SameAt e (m.Named a y) x terms d os
named_same e (s.Sign g.Arrow) a y terms d os = refl
named_same e (s.Sign g.Plus) a y terms d os = refl
named_same e (s.Sign g.Comma) a y terms d os = refl
named_same e (s.Sign g.CloseArray) a y terms d os = refl
named_same e _ a y terms d os = refl

mode_same : (e : ℕ) (mode : Mode) (x : Symbol) (terms : List Term) (d : ℕ) (os : List Level) → SameAt e mode x terms d os
mode_same e m.Value x terms d os = value_same e x terms d os
mode_same e (m.Item a) x terms d os = item_same e x a terms d os
mode_same e (m.Named a y) x terms d os = named_same e x a y terms d os
mode_same e m.After x terms d os = after_same e x terms d os

turn_same : (e : ℕ) (v : Reading) (x : Symbol) → SameTurn e (turn v x) (turn (more_reading e v) x)
turn_same e v x = mode_same e v.mode x v.terms v.room v.opens

-- ---- and so does a step

abbrev Same : ℕ → Result State Fault → Result State Fault → Type 0
Same e (Ok z) other = other ≡ Ok (more_room e z)
Same e (Err Grammar) other = other ≡ Err Grammar
Same e (Err Nested) other = Unit {0}

opened_same : (e d : ℕ) (done : List Statement) (c : Chain) (line : ℕ) (condition : Option RawCondition) (fs : List Frame) → Same e (opened d done c line condition fs) (opened (up e d) done c line condition (more_frames e fs))
opened_same e zero done c line condition fs = tt
opened_same e (suc d) done c line condition fs = refl

closed_same : (e : ℕ) (done : List Statement) (b : Body) (c : Chain) (line : ℕ) (condition : Option RawCondition) (fs : List Frame) → Same e (closed done b c line condition fs) (closed done (more_body e b) c line condition (more_frames e fs))
closed_same e done b c line (Some k) fs = refl
closed_same e done b c line None fs = refl

begin_same : (e : ℕ) (b : Body) (fs : List Frame) (x : Symbol) (l : ℕ) → Same e (begin b x l fs) (begin (more_body e b) x l (more_frames e fs))
begin_same e b fs (s.Word roles.Setting x) l = refl
begin_same e b fs (s.Word roles.Variable x) l = refl
begin_same e b fs (s.Word roles.Bare x) l = refl
begin_same e b fs (s.Word roles.Include x) l = refl
begin_same e b fs (s.Sign g.Dollar) l = refl
begin_same e b [] (s.Sign g.CloseBlock) l = refl
begin_same e b (f ∷ fs) (s.Sign g.CloseBlock) l = closed_same e b.done f.body f.chain f.line f.condition fs
begin_same e b fs _ l = refl

headed_same : (e : ℕ) (part : Option Part) (b : Body) (c : Chain) (line : ℕ) (fs : List Frame) → Same e (headed part b c line fs) (headed part (more_body e b) c line (more_frames e fs))
headed_same e (Some part) b c line fs = refl
headed_same e None b c line fs = refl

heads_same : (e : ℕ) (part : Part) (b : Body) (c : Chain) (line : ℕ) (x : Symbol) (fs : List Frame) → Same e (heads part b c line x fs) (heads part (more_body e b) c line x (more_frames e fs))
heads_same e (p.Block k) b c line (s.Sign g.OpenBlock) fs = opened_same e b.room b.done c line (Some k) fs
heads_same e (p.Block k) b c line _ fs = refl
heads_same e p.Group b c line x fs = headed_same e (head p.Group x) b c line fs
heads_same e (p.OpenName group) b c line x fs = headed_same e (head (p.OpenName group) x) b c line fs
heads_same e (p.Name group) b c line x fs = headed_same e (head (p.Name group) x) b c line fs
heads_same e (p.CloseName group name) b c line x fs = headed_same e (head (p.CloseName group name) x) b c line fs
heads_same e (p.Op group name) b c line x fs = headed_same e (head (p.Op group name) x) b c line fs
heads_same e (p.Text group name op) b c line x fs = headed_same e (head (p.Text group name op) x) b c line fs

turned_same : (e : ℕ) (y z : Turn) → SameTurn e y z → (b : Body) (line : ℕ) (goal : Target) (l : ℕ) (fs : List Frame) → Same e (turned y b line goal l fs) (turned z (more_body e b) line goal l (more_frames e fs))
turned_same e (Go v) z h b line goal l fs = rw h refl
turned_same e (Whole terms x) z h b line goal l fs = rw h (begin_same e (with b line (what_of goal terms)) fs x l)
turned_same e Wrong z h b line goal l fs = rw h refl
turned_same e Deep z h b line goal l fs = tt

step_same : (e : ℕ) (z : State) (x : Symbol) (l : ℕ) → Same e (step z x l) (step (more_room e z) x l)
step_same e (Between b fs) x l = begin_same e b fs x l
step_same e (Key b line key fs) (s.Sign g.Assign) l = refl
step_same e (Key b line key fs) (s.Sign g.Append) l = refl
step_same e (Key b line key fs) _ l = refl
step_same e (Value b line goal v fs) x l = turned_same e (turn v x) (turn (more_reading e v) x) (turn_same e v x) b line goal l fs
step_same e (Head b c line part fs) x l = heads_same e part b c line x fs
step_same e (After b c fs) (s.Word roles.Else x) l = refl
step_same e (After b c fs) x l = begin_same e (with b c.line (w.Branches c.branches)) fs x l
step_same e (Else b c line fs) (s.Sign g.Dollar) l = refl
step_same e (Else b c line fs) (s.Sign g.OpenBlock) l = opened_same e b.room b.done c line None fs
step_same e (Else b c line fs) _ l = refl

pub step_ok : (e : ℕ) (z y : State) (x : Symbol) (l : ℕ) → step z x l ≡ Ok y → step (more_room e z) x l ≡ Ok (more_room e y)
step_ok e z y x l h = subst (λ (r : Result State Fault). Same e r (step (more_room e z) x l)) h (step_same e z x l)

pub step_wrong : (e : ℕ) (z : State) (x : Symbol) (l : ℕ) → step z x l ≡ Err Grammar → step (more_room e z) x l ≡ Err Grammar
step_wrong e z x l h = subst (λ (r : Result State Fault). Same e r (step (more_room e z) x l)) h (step_same e z x l)

-- ---- and the end

finish_value_up : (e : ℕ) (mode : Mode) (os : List Level) (done : List Statement) (fs : List Frame) → finish_value mode os done fs ≡ Err (Grammar, []) → finish_value (more_mode e mode) (more_levels e os) done (more_frames e fs) ≡ Err (Grammar, [])
finish_value_up e m.After [] done [] h = cc
finish_value_up e m.After [] done (f ∷ fs) h = refl
finish_value_up e m.After (o ∷ os) done fs h = refl
finish_value_up e m.Value os done fs h = refl
finish_value_up e (m.Item a) os done fs h = refl
finish_value_up e (m.Named a x) os done fs h = refl

pub finish_up : (e : ℕ) (z : State) → finish z ≡ Err (Grammar, []) → finish (more_room e z) ≡ Err (Grammar, [])
finish_up e (Between b []) h = cc
finish_up e (Between b (f ∷ fs)) h = refl
finish_up e (Value b line goal v fs) h = finish_value_up e v.mode v.opens (b.done ++ statement line (what_of goal v.terms) ∷ []) fs h
finish_up e (After b c []) h = cc
finish_up e (After b c (f ∷ fs)) h = refl
finish_up e _ h = refl

-- ---- where the nesting is at fault, one level more is enough

pub turn_deep : (v : Reading) (x : Symbol) → turn v x ≡ Deep → (next : Reading) × (turn (more_reading (suc zero) v) x ≡ Go next) × (x ≡ s.Sign g.OpenArray)
turn_deep v x h = deep v.mode x v.terms v.room v.opens h where
  value_deep : (x : Symbol) (terms : List Term) (d : ℕ) (os : List Level) → turn (reading m.Value terms d os) x ≡ Deep → (next : Reading) × (turn (more_reading (suc zero) (reading m.Value terms d os)) x ≡ Go next) × (x ≡ s.Sign g.OpenArray)
  value_deep (s.Sign g.OpenArray) terms zero os h = (_, refl, refl)
  value_deep (s.Sign g.OpenArray) terms (suc d) os h = absurd cc
  value_deep (s.Word roles.Switch x) terms d os h = absurd cc
  value_deep (s.Word roles.Variable x) terms d os h = absurd cc
  value_deep (s.Word roles.Bare x) terms d os h = absurd cc
  value_deep _ terms d os h = absurd cc

  item_deep : (x : Symbol) (a : Array) (terms : List Term) (d : ℕ) (os : List Level) → turn (reading (m.Item a) terms d os) x ≡ Deep → (next : Reading) × (turn (more_reading (suc zero) (reading (m.Item a) terms d os)) x ≡ Go next) × (x ≡ s.Sign g.OpenArray)
  item_deep (s.Sign g.OpenArray) a terms zero os h = (_, refl, refl)
  item_deep (s.Sign g.OpenArray) a terms (suc d) os h = absurd cc
  item_deep (s.Sign g.CloseArray) a terms d os h = absurd cc
  item_deep (s.Word roles.Switch x) a terms d os h = absurd cc
  item_deep (s.Word roles.Variable x) a terms d os h = absurd cc
  item_deep (s.Word roles.Bare x) a terms d os h = absurd cc
  item_deep _ a terms d os h = absurd cc

  after_deep : (x : Symbol) (terms : List Term) (d : ℕ) (os : List Level) → turn (reading m.After terms d os) x ≡ Deep → ⊥
  after_deep (s.Sign g.Plus) terms d [] h = cc
  after_deep x terms d [] h = cc
  after_deep (s.Sign g.Plus) terms d (o ∷ os) h = cc
  after_deep (s.Sign g.Comma) terms d (o ∷ os) h = cc
  after_deep (s.Sign g.CloseArray) terms d (o ∷ os) h = cc
  after_deep _ terms d (o ∷ os) h = cc

  named_deep : (x : Symbol) (a : Array) (y : Text) (terms : List Term) (d : ℕ) (os : List Level) → turn (reading (m.Named a y) terms d os) x ≡ Deep → ⊥
  named_deep (s.Sign g.Arrow) a y terms d os h = cc
  named_deep (s.Sign g.Plus) a y terms d os h = cc
  named_deep (s.Sign g.Comma) a y terms d os h = cc
  named_deep (s.Sign g.CloseArray) a y terms d os h = cc
  named_deep _ a y terms d os h = cc

  deep : (mode : Mode) (x : Symbol) (terms : List Term) (d : ℕ) (os : List Level) → turn (reading mode terms d os) x ≡ Deep → (next : Reading) × (turn (more_reading (suc zero) (reading mode terms d os)) x ≡ Go next) × (x ≡ s.Sign g.OpenArray)
  deep m.Value x terms d os h = value_deep x terms d os h
  deep (m.Item a) x terms d os h = item_deep x a terms d os h
  deep (m.Named a y) x terms d os h = absurd (named_deep x a y terms d os h)
  deep m.After x terms d os h = absurd (after_deep x terms d os h)
