-- A refusal comes at the first token with which no file goes on.
use Rattle.std.proofs.Common.{◌≡◌, ℕ, zero, suc, ◌++◌, List, [], ◌∷◌, Option, Some, None, Result, Ok, Err, refl, ◌∙◌, sym, ap, subst, append_assoc, append-nil, ◌⊎◌, inl, inr}
use Rattle.conf_value.specs.declared.condition.Op.{Op}
use Rattle.conf_parse.specs.declared.symbol.Sign.TheVariants as g
use Rattle.conf_parse.specs.declared.symbol.Role.TheVariants as roles
use Rattle.conf_parse.specs.declared.symbol.Symbol.{Symbol}
use Rattle.conf_parse.specs.declared.symbol.Symbol.TheVariants as s
use Rattle.conf_parse.specs.declared.tree.Term.{Term}
use Rattle.conf_parse.specs.declared.tree.Statement.{Statement}
use Rattle.conf_parse.specs.declared.tree.What.TheVariants as w
use Rattle.conf_parse.specs.declared.tree.RawCondition.{RawCondition}
use Rattle.conf_parse.specs.declared.value.Mode.{Mode}
use Rattle.conf_parse.specs.declared.value.Mode.TheVariants as m
use Rattle.conf_parse.specs.declared.value.Level.{Level}
use Rattle.conf_parse.specs.declared.value.Reading.{Reading}
use Rattle.conf_parse.specs.declared.value.Turn.{Turn}
use Rattle.conf_parse.specs.declared.value.Turn.TheVariants.{Go, Whole, Wrong, Deep}
use Rattle.conf_parse.specs.declared.state.Body.{Body}
use Rattle.conf_parse.specs.declared.state.Chain.{Chain}
use Rattle.conf_parse.specs.declared.state.Frame.{Frame}
use Rattle.conf_parse.specs.declared.state.Target.{Target}
use Rattle.conf_parse.specs.declared.state.Part.{Part}
use Rattle.conf_parse.specs.declared.state.Part.TheVariants as p
use Rattle.conf_parse.specs.declared.state.State.{State}
use Rattle.conf_parse.specs.declared.state.State.TheVariants.{Between, Key, Value, Head, After, Else}
use Rattle.std.specs.Prelude.{pos}
use Rattle.conf_lex.specs.declared.token.TokenKind.TheVariants as k
use Rattle.conf_lex.specs.declared.token.TokenKind.{TokenKind}
use Rattle.conf_lex.specs.declared.token.Token.{Token}
use Rattle.conf_parse.specs.Symbols.{Text, Mark, marks, mark, symbol_of}
use Rattle.conf_parse.specs.Grammar.{statement, IsFile}
use Rattle.conf_parse.specs.Values.{reading, turn}
use Rattle.conf_parse.specs.Machine.{body, frame, with, what_of, opened, closed, head, heads, headed, turned, begin, step, next, finish, finish_value, run, start, Reply, Fault, Grammar, Nested}
use Rattle.conf_parse.specs.Refusal.{GoesOn, StopsAt, IsOpening, Because, Refusal}
use Rattle.conf_parse.proofs.Complete.{file_read}
use Rattle.conf_parse.proofs.Sound.{file_spelled}
use Rattle.conf_parse.proofs.Room.{up, up_comm, up_one, body_up, more_body, more_frames, more_reading, more_room, step_ok, step_wrong, finish_up, turn_deep}

abbrev token : TokenKind → Token
token kind = record { kind = kind; line = 1 }

abbrev closing_array : Token
closing_array = token (k.Sign 6)

abbrev opening_block : Token
opening_block = token (k.Sign 7)

abbrev closing_block : Token
closing_block = token (k.Sign 8)

abbrev zero_number : Token
zero_number = token (k.Number (pos 0))

-- the step of a token
abbrev steps : State → Token → Result State Fault
steps z x = step z (symbol_of x.kind) x.line

marks_append : (a b : List Token) → marks (a ++ b) ≡ marks a ++ marks b
marks_append [] b = refl
marks_append (x ∷ a) b = ap (λ (y : List Mark). mark x ∷ y) (marks_append a b)

-- ---- the states on the way

data Reach : State → List Token → State → Type 0 where
  here : {z : State} → Reach z [] z
  on : {y z : State} {front : List Token} (s : State) (x : Token) → steps s x ≡ Ok y → Reach y front z → Reach s (x ∷ front) z

reach_run : {s z : State} {front : List Token} → Reach s front z → (rest : List Token) → run (marks (front ++ rest)) s ≡ run (marks rest) z
reach_run here rest = refl
reach_run (on {front = front} s x e h) rest = rw e (reach_run h rest)

reach_up : (e : ℕ) {s z : State} {front : List Token} → Reach s front z → Reach (more_room e s) front (more_room e z)
reach_up e here = here
reach_up e (on {y = y} s x h hs) = on (more_room e s) x (step_ok e s y (symbol_of x.kind) x.line h) (reach_up e hs)

reach_more : {s y z : State} {front : List Token} (x : Token) → Reach s front y → steps y x ≡ Ok z → Reach s (front ++ x ∷ []) z
reach_more x here h = on _ x h here
reach_more x (on s v e hs) h = on s v e (reach_more x hs h)

data Split (s : State) (front : List Token) (x : Token) : Type 0 where
  split_at : (y z : State) → Reach s front y → steps y x ≡ Ok z → Split s front x

split_on : {s y : State} {a : List Token} {x : Token} (v : Token) → steps s v ≡ Ok y → Split y a x → Split s (v ∷ a) x
split_on v e (split_at p q h f) = split_at p q (on _ v e h) f

reach_split : (a : List Token) (x : Token) (b : List Token) {s z : State} → Reach s (a ++ (x ∷ b)) z → Split s a x
reach_split [] x b (on s v e h) = split_at _ _ here e
reach_split (v ∷ a) x b (on s w e h) = split_on v e (reach_split a x b h)

abbrev Stops : State → Fault → List Token → Type 0
Stops s f [] = (finish s ≡ Err (f, [])) × (f ≡ Grammar)
Stops s f (x ∷ xs) = steps s x ≡ Err f

-- The run stops at some token of the list, and the reply holds the terminals from there on.
data Stopped (s : State) (f : Fault) (left : List Mark) (tokens : List Token) : Type 0 where
  stopped : (front rest : List Token) (z : State) → tokens ≡ front ++ rest → left ≡ marks rest → Reach s front z → Stops z f rest → Stopped s f left tokens

abbrev left_of : Reply → List Mark
left_of (Ok tree) = []
left_of (Err p) = p.1

abbrev fault_of : Reply → Fault
fault_of (Ok tree) = Grammar
fault_of (Err p) = p.0

finish_value_err : (mode : Mode) (os : List Level) (done : List Statement) (fs : List Frame) (f : Fault) (left : List Mark) → finish_value mode os done fs ≡ Err (f, left) → (f ≡ Grammar) × (left ≡ [])
finish_value_err m.After [] done [] f left e = cc
finish_value_err m.After [] done (y ∷ fs) f left e = (sym (ap fault_of e), sym (ap left_of e))
finish_value_err m.After (o ∷ os) done fs f left e = (sym (ap fault_of e), sym (ap left_of e))
finish_value_err m.Value os done fs f left e = (sym (ap fault_of e), sym (ap left_of e))
finish_value_err (m.Item a) os done fs f left e = (sym (ap fault_of e), sym (ap left_of e))
finish_value_err (m.Named a x) os done fs f left e = (sym (ap fault_of e), sym (ap left_of e))

finish_err : (s : State) (f : Fault) (left : List Mark) → finish s ≡ Err (f, left) → (f ≡ Grammar) × (left ≡ [])
finish_err (Between b []) f left e = cc
finish_err (After b c []) f left e = cc
finish_err (Between b (y ∷ fs)) f left e = (sym (ap fault_of e), sym (ap left_of e))
finish_err (After b c (y ∷ fs)) f left e = (sym (ap fault_of e), sym (ap left_of e))
finish_err (Value b line goal v fs) f left e = finish_value_err v.mode v.opens (b.done ++ statement line (what_of goal v.terms) ∷ []) fs f left e
finish_err _ f left e = (sym (ap fault_of e), sym (ap left_of e))

stop_end : (s : State) (f : Fault) (left : List Mark) → f ≡ Grammar → left ≡ [] → finish s ≡ Err (f, left) → Stopped s f left []
stop_end s f left p q e = stopped [] [] s refl q here (e ∙ ap (λ (y : List Mark). Err (f, y)) q, p)

stop_on : {x : Token} {ts : List Token} {s z : State} {f : Fault} {left : List Mark} → steps s x ≡ Ok z → Stopped z f left ts → Stopped s f left (x ∷ ts)
stop_on {x = x} h (stopped front rest z e l r st) = stopped (x ∷ front) rest z (ap (λ (y : List Token). x ∷ y) e) l (on _ x h r) st

stop_step : (x : Token) (ts : List Token) (s : State) (f : Fault) (left : List Mark) → ((z : State) → run (marks ts) z ≡ Err (f, left) → Stopped z f left ts)
    → (r : Result State Fault) → steps s x ≡ r → next r (run (marks ts)) (marks (x ∷ ts)) ≡ Err (f, left) → Stopped s f left (x ∷ ts)
stop_step x ts s f left ih (Ok z) h e = stop_on h (ih z e)
stop_step x ts s f left ih (Err g) h e = stopped [] (x ∷ ts) s refl (sym (ap left_of e)) here (h ∙ ap (λ (y : Fault). Err y) (ap fault_of e))

stop : (ts : List Token) (s : State) (f : Fault) (left : List Mark) → run (marks ts) s ≡ Err (f, left) → Stopped s f left ts
stop [] s f left e = let p = finish_err s f left e in stop_end s f left p.0 p.1 e
stop (x ∷ ts) s f left e = stop_step x ts s f left (λ z h. stop ts z f left h) (steps s x) refl e

-- ---- the states that go on to a file

data Completes (s : State) : Type 0 where
  completes : (tree : List Statement) (others : List Token) → run (marks others) s ≡ Ok tree → Completes s

completed : {s z : State} (x : Token) → steps s x ≡ Ok z → Completes z → Completes s
completed x h (completes tree others e) = completes tree (x ∷ others) (rw h e)

abbrev All : List Frame → Type 0
All fs = ((b : Body) → Completes (Between b fs)) × ((b : Body) (c : Chain) → Completes (After b c fs))
    × ((b : Body) (line : ℕ) (goal : Target) (terms : List Term) (d : ℕ) → Completes (Value b line goal (reading m.After terms d []) fs))

closed_completes : (f : Frame) (fs : List Frame) → All fs → (s : State) (done : List Statement) (condition : Option RawCondition)
    → steps s closing_block ≡ closed done f.body f.chain f.line condition fs → Completes s
closed_completes f fs ih s done (Some c) e = completed closing_block e (ih.1 _ _)
closed_completes f fs ih s done None e = completed closing_block e (ih.0 _)

all_complete : (fs : List Frame) → All fs
all_complete [] = ((λ b. completes b.done [] refl), (λ b c. completes _ [] refl), (λ b line goal terms d. completes _ [] refl))
all_complete (f ∷ fs) = (
  (λ b. closed_completes f fs (all_complete fs) (Between b (f ∷ fs)) b.done f.condition refl),
  (λ b c. closed_completes f fs (all_complete fs) (After b c (f ∷ fs)) _ f.condition refl),
  (λ b line goal terms d. closed_completes f fs (all_complete fs) (Value b line goal (reading m.After terms d []) (f ∷ fs)) _ f.condition refl),
)

module _ (b : Body) (line : ℕ) (goal : Target) (fs : List Frame) where
  after_completes : (os : List Level) (terms : List Term) (d : ℕ) → Completes (Value b line goal (reading m.After terms d os) fs)
  after_completes [] terms d = (all_complete fs).2 b line goal terms d
  after_completes (o ∷ os) terms d = completed closing_array refl (after_completes os _ _)

  mode_completes : (mode : Mode) (os : List Level) (terms : List Term) (d : ℕ) → Completes (Value b line goal (reading mode terms d os) fs)
  mode_completes m.Value os terms d = completed zero_number refl (after_completes os _ d)
  mode_completes (m.Item a) os terms d = completed closing_array refl (after_completes os _ a.room)
  mode_completes (m.Named a x) os terms d = completed closing_array refl (after_completes os _ a.room)
  mode_completes m.After os terms d = after_completes os terms d

value_completes : (b : Body) (line : ℕ) (goal : Target) (v : Reading) (fs : List Frame) → Completes (Value b line goal v fs)
value_completes b line goal v fs = mode_completes b line goal fs v.mode v.opens v.terms v.room

opened_completes : (s : State) (d : ℕ) (done : List Statement) (c : Chain) (line : ℕ) (condition : Option RawCondition) (fs : List Frame)
    → steps s opening_block ≡ opened (up (suc zero) d) done c line condition fs → Completes s
opened_completes s zero done c line condition fs e = completed opening_block e ((all_complete _).0 _)
opened_completes s (suc d) done c line condition fs e = completed opening_block e ((all_complete _).0 _)

-- with room for one more block each condition goes on
module _ (b : Body) (c : Chain) (line : ℕ) (fs : List Frame) where
  abbrev heading : Part → State
  heading part = more_room (suc zero) (Head b c line part fs)

  block_completes : (condition : RawCondition) → Completes (heading (p.Block condition))
  block_completes condition = opened_completes _ b.room b.done c line (Some condition) (more_frames (suc zero) fs) refl

  text_completes : (group name : Text) (op : Op) → Completes (heading (p.Text group name op))
  text_completes group name op = completed (token (k.Text [])) refl (block_completes _)

  op_completes : (group name : Text) → Completes (heading (p.Op group name))
  op_completes group name = completed (token (k.Sign 12)) refl (text_completes group name _)

  close_completes : (group name : Text) → Completes (heading (p.CloseName group name))
  close_completes group name = completed (token (k.Sign 10)) refl (op_completes group name)

  name_completes : (group : Text) → Completes (heading (p.Name group))
  name_completes group = completed (token (k.Text [])) refl (close_completes group [])

  open_completes : (group : Text) → Completes (heading (p.OpenName group))
  open_completes group = completed (token (k.Sign 9)) refl (name_completes group)

  head_completes : (part : Part) → Completes (heading part)
  head_completes p.Group = completed (token (k.Word [])) refl (open_completes [])
  head_completes (p.OpenName group) = open_completes group
  head_completes (p.Name group) = name_completes group
  head_completes (p.CloseName group name) = close_completes group name
  head_completes (p.Op group name) = op_completes group name
  head_completes (p.Text group name op) = text_completes group name op
  head_completes (p.Block condition) = block_completes condition

-- with room for one more block each state goes on
more_completes : (s : State) → Completes (more_room (suc zero) s)
more_completes (Between b fs) = (all_complete _).0 _
more_completes (Key b line key fs) = completed (token (k.Sign 0)) refl (value_completes _ _ _ _ _)
more_completes (Value b line goal v fs) = value_completes _ _ _ _ _
more_completes (Head b c line part fs) = head_completes b c line fs part
more_completes (After b c fs) = (all_complete _).1 _ _
more_completes (Else b c line fs) = opened_completes _ b.room b.done c line None (more_frames (suc zero) fs) refl

-- behind an opening sign a file goes on within the bound
opened_is : (d : ℕ) (done : List Statement) (c : Chain) (line : ℕ) (condition : Option RawCondition) (fs : List Frame) (z : State) → opened d done c line condition fs ≡ Ok z → Completes z
opened_is zero done c line condition fs z e = cc
opened_is (suc d) done c line condition fs z e = subst Completes (let q : Between (body d []) (frame (body (suc d) done) c line condition ∷ fs) ≡ z = cc in q) ((all_complete _).0 _)

abbrev IsGoing : Turn → Type 0
IsGoing (Go v) = Unit {0}
IsGoing Wrong = Unit {0}
IsGoing Deep = Unit {0}
IsGoing (Whole terms x) = (x ≡ s.Sign g.OpenBlock) ⊎ (x ≡ s.Sign g.OpenArray)

turned_is : (y : Turn) → IsGoing y → (b : Body) (line : ℕ) (goal : Target) (l : ℕ) (fs : List Frame) (z : State) → turned y b line goal l fs ≡ Ok z → Completes z
turned_is (Go v) o b line goal l fs z e = subst Completes (let q : Value b line goal v fs ≡ z = cc in q) (value_completes b line goal v fs)
turned_is (Whole terms x) (inl o) b line goal l fs z e = let q = ap (λ (y : Symbol). begin (with b line (what_of goal terms)) y l fs) o in absurd cc
turned_is (Whole terms x) (inr o) b line goal l fs z e = let q = ap (λ (y : Symbol). begin (with b line (what_of goal terms)) y l fs) o in absurd cc
turned_is Wrong o b line goal l fs z e = absurd cc
turned_is Deep o b line goal l fs z e = absurd cc

going : (mode : Mode) (x : Symbol) → (x ≡ s.Sign g.OpenBlock) ⊎ (x ≡ s.Sign g.OpenArray) → (terms : List Term) (d : ℕ) (os : List Level) → IsGoing (turn (reading mode terms d os) x)
going m.Value (s.Sign g.OpenBlock) o terms d os = tt
going m.Value (s.Sign g.OpenArray) o terms zero os = tt
going m.Value (s.Sign g.OpenArray) o terms (suc d) os = tt
going (m.Item a) (s.Sign g.OpenBlock) o terms d os = tt
going (m.Item a) (s.Sign g.OpenArray) o terms zero os = tt
going (m.Item a) (s.Sign g.OpenArray) o terms (suc d) os = tt
going (m.Named a y) (s.Sign g.OpenBlock) o terms d os = tt
going (m.Named a y) (s.Sign g.OpenArray) o terms d os = tt
going m.After (s.Sign g.OpenBlock) o terms d [] = inl refl
going m.After (s.Sign g.OpenArray) o terms d [] = inr refl
going m.After (s.Sign g.OpenBlock) o terms d (y ∷ os) = tt
going m.After (s.Sign g.OpenArray) o terms d (y ∷ os) = tt
going _ _ (inl o) terms d os = absurd cc
going _ _ (inr o) terms d os = absurd cc

opening_block_completes : (y : State) (l : ℕ) (z : State) → step y (s.Sign g.OpenBlock) l ≡ Ok z → Completes z
opening_block_completes (Between b fs) l z e = absurd cc
opening_block_completes (Key b line key fs) l z e = absurd cc
opening_block_completes (Value b line goal v fs) l z e = turned_is (turn v (s.Sign g.OpenBlock)) (going v.mode (s.Sign g.OpenBlock) (inl refl) v.terms v.room v.opens) b line goal l fs z e
opening_block_completes (Head b c line (p.Block k) fs) l z e = opened_is b.room b.done c line (Some k) fs z e
opening_block_completes (Head b c line _ fs) l z e = absurd cc
opening_block_completes (After b c fs) l z e = absurd cc
opening_block_completes (Else b c line fs) l z e = opened_is b.room b.done c line None fs z e

opening_array_completes : (y : State) (l : ℕ) (z : State) → step y (s.Sign g.OpenArray) l ≡ Ok z → Completes z
opening_array_completes (Value b line goal v fs) l z e = turned_is (turn v (s.Sign g.OpenArray)) (going v.mode (s.Sign g.OpenArray) (inr refl) v.terms v.room v.opens) b line goal l fs z e
opening_array_completes (Between b fs) l z e = absurd cc
opening_array_completes (Key b line key fs) l z e = absurd cc
opening_array_completes (Head b c line p.Group fs) l z e = absurd cc
opening_array_completes (Head b c line _ fs) l z e = absurd cc
opening_array_completes (After b c fs) l z e = absurd cc
opening_array_completes (Else b c line fs) l z e = absurd cc

opening_completes : (y : State) (x : Symbol) (l : ℕ) (z : State) → IsOpening x → step y x l ≡ Ok z → Completes z
opening_completes y (s.Sign g.OpenBlock) l z o e = opening_block_completes y l z e
opening_completes y (s.Sign g.OpenArray) l z o e = opening_array_completes y l z e
opening_completes y _ l z o e = absurd o

-- ---- the refusal

goes : {room : ℕ} {front : List Token} {z : State} → Reach (start room) front z → Completes z → GoesOn room front
goes {room = room} {front = front} h (completes tree others e) = (record { statements = tree }, others, file_spelled room tree (marks (front ++ others)) (reach_run h others ∙ e))

goes_more : {room : ℕ} {front : List Token} {z : State} → Reach (start room) front z → GoesOn (suc room) front
goes_more {room = room} {front = front} {z = z} h = subst (λ (y : ℕ). GoesOn y front) (up_one room) (goes (reach_up (suc zero) h) (more_completes z))

within_of : {room : ℕ} {front : List Token} {z : State} → Reach (start room) front z → (a : List Token) (x : Token) (b : List Token) → front ≡ a ++ (x ∷ b) → IsOpening (symbol_of x.kind) → GoesOn room (a ++ x ∷ [])
within_of {room = room} {z = z} h a x b e o = opening (reach_split a x b (subst (λ (y : List Token). Reach (start room) y z) e h)) where
  opening : Split (start room) a x → GoesOn room (a ++ x ∷ [])
  opening (split_at y q r f) = goes (reach_more x r f) (opening_completes y (symbol_of x.kind) x.line q o f)

stops_at : {room : ℕ} {front : List Token} {z : State} (f : Fault) (rest : List Token) → Reach (start room) front z → Stops z f rest → StopsAt room front rest
stops_at {room = room} {front = front} {z = z} f [] h st =
    λ tree file. let a = file_read file in let b = reach_run h [] in let c : run (marks (front ++ [])) (start room) ≡ run (marks front) (start room) = ap (λ (y : List Token). run (marks y) (start room)) (append-nil front) in let d = st.0 in absurd cc
stops_at {room = room} {front = front} {z = z} f (x ∷ xs) h st =
    λ q. let a = file_read q.2 in let b = reach_run h (x ∷ q.1) in let c : run (marks ((front ++ x ∷ []) ++ q.1)) (start room) ≡ run (marks (front ++ (x ∷ q.1))) (start room) = ap (λ (y : List Token). run (marks y) (start room)) (append_assoc front (x ∷ []) q.1)
    in let d : run (marks (x ∷ q.1)) z ≡ Err (f, marks (x ∷ q.1)) = rw st refl in absurd cc

stops_up : (e : ℕ) (z : State) (rest : List Token) → Stops z Grammar rest → Stops (more_room e z) Grammar rest
stops_up e z [] st = (finish_up e z st.0, refl)
stops_up e z (x ∷ xs) st = step_wrong e z (symbol_of x.kind) x.line st

stops_less : (e room : ℕ) (front rest : List Token) → StopsAt (up e room) front rest → StopsAt e front rest
stops_less e room front [] h = λ tree file. h tree (subst (λ (y : ℕ). IsFile y tree.statements (marks front)) (up_comm room e) (body_up room file))
stops_less e room front (x ∷ xs) h = λ q. h (q.0, q.1, subst (λ (y : ℕ). IsFile y q.0.statements (marks ((front ++ x ∷ []) ++ q.1))) (up_comm room e) (body_up room q.2))

-- where the nesting is at fault
data Opens (y : State) (x : Symbol) (l : ℕ) : Type 0 where
  opens : IsOpening x → (z : State) → step (more_room (suc zero) y) x l ≡ Ok z → Completes z → Opens y x l

opened_nested : (y : State) (l d : ℕ) (done : List Statement) (c : Chain) (line : ℕ) (condition : Option RawCondition) (fs gs : List Frame) → opened d done c line condition fs ≡ Err Nested
    → step (more_room (suc zero) y) (s.Sign g.OpenBlock) l ≡ opened (up (suc zero) d) done c line condition gs → Opens y (s.Sign g.OpenBlock) l
opened_nested y l zero done c line condition fs gs e h = opens tt _ h ((all_complete _).0 _)
opened_nested y l (suc d) done c line condition fs gs e h = cc

closed_not : (done : List Statement) (b : Body) (c : Chain) (line : ℕ) (condition : Option RawCondition) (fs : List Frame) → closed done b c line condition fs ≡ Err Nested → ⊥
closed_not done b c line (Some k) fs e = cc
closed_not done b c line None fs e = cc

begin_not : (b : Body) (x : Symbol) (l : ℕ) (fs : List Frame) → begin b x l fs ≡ Err Nested → ⊥
begin_not b (s.Word roles.Setting x) l fs e = cc
begin_not b (s.Word roles.Variable x) l fs e = cc
begin_not b (s.Word roles.Bare x) l fs e = cc
begin_not b (s.Word roles.Include x) l fs e = cc
begin_not b (s.Sign g.Dollar) l fs e = cc
begin_not b (s.Sign g.CloseBlock) l [] e = cc
begin_not b (s.Sign g.CloseBlock) l (f ∷ fs) e = closed_not b.done f.body f.chain f.line f.condition fs e
begin_not b _ l fs e = cc

headed_not : (part : Option Part) (b : Body) (c : Chain) (line : ℕ) (fs : List Frame) → headed part b c line fs ≡ Err Nested → ⊥
headed_not (Some part) b c line fs e = cc
headed_not None b c line fs e = cc

heads_nested : (part : Part) (b : Body) (c : Chain) (line : ℕ) (x : Symbol) (l : ℕ) (fs : List Frame) → heads part b c line x fs ≡ Err Nested → Opens (Head b c line part fs) x l
heads_nested (p.Block k) b c line (s.Sign g.OpenBlock) l fs e = opened_nested _ l b.room b.done c line (Some k) fs (more_frames (suc zero) fs) e refl
heads_nested (p.Block k) b c line _ l fs e = absurd cc
heads_nested p.Group b c line x l fs e = absurd (headed_not (head p.Group x) b c line fs e)
heads_nested (p.OpenName group) b c line x l fs e = absurd (headed_not (head (p.OpenName group) x) b c line fs e)
heads_nested (p.Name group) b c line x l fs e = absurd (headed_not (head (p.Name group) x) b c line fs e)
heads_nested (p.CloseName group name) b c line x l fs e = absurd (headed_not (head (p.CloseName group name) x) b c line fs e)
heads_nested (p.Op group name) b c line x l fs e = absurd (headed_not (head (p.Op group name) x) b c line fs e)
heads_nested (p.Text group name op) b c line x l fs e = absurd (headed_not (head (p.Text group name op) x) b c line fs e)

array_opens : (b : Body) (line : ℕ) (goal : Target) (v : Reading) (fs : List Frame) (x : Symbol) (l : ℕ) (other : Reading) → turn (more_reading (suc zero) v) x ≡ Go other → x ≡ s.Sign g.OpenArray → Opens (Value b line goal v fs) x l
array_opens b line goal v fs x l other h o = opens (subst IsOpening (sym o) tt) (Value (more_body (suc zero) b) line goal other (more_frames (suc zero) fs)) (rw h refl) (value_completes _ _ _ _ _)

turned_nested : (y : Turn) (b : Body) (line : ℕ) (goal : Target) (v : Reading) (fs : List Frame) (x : Symbol) (l : ℕ) → turn v x ≡ y → turned y b line goal l fs ≡ Err Nested → Opens (Value b line goal v fs) x l
turned_nested (Go other) b line goal v fs x l h e = absurd cc
turned_nested (Whole terms z) b line goal v fs x l h e = absurd (begin_not (with b line (what_of goal terms)) z l fs e)
turned_nested Wrong b line goal v fs x l h e = absurd cc
turned_nested Deep b line goal v fs x l h e = let q = turn_deep v x h in array_opens b line goal v fs x l q.0 q.1 q.2

nested_opens : (y : State) (x : Symbol) (l : ℕ) → step y x l ≡ Err Nested → Opens y x l
nested_opens (Between b fs) x l e = absurd (begin_not b x l fs e)
nested_opens (Key b line key fs) (s.Sign g.Assign) l e = absurd cc
nested_opens (Key b line key fs) (s.Sign g.Append) l e = absurd cc
nested_opens (Key b line key fs) _ l e = absurd cc
nested_opens (Value b line goal v fs) x l e = turned_nested (turn v x) b line goal v fs x l refl e
nested_opens (Head b c line part fs) x l e = heads_nested part b c line x l fs e
nested_opens (After b c fs) (s.Word roles.Else x) l e = absurd cc
nested_opens (After b c fs) x l e = absurd (begin_not (with b c.line (w.Branches c.branches)) x l fs e)
nested_opens (Else b c line fs) (s.Sign g.Dollar) l e = absurd cc
nested_opens (Else b c line fs) (s.Sign g.OpenBlock) l e = opened_nested _ l b.room b.done c line None fs (more_frames (suc zero) fs) e refl
nested_opens (Else b c line fs) _ l e = absurd cc

nested_because : (room : ℕ) (front : List Token) (x : Token) (xs : List Token) (z : State) → Reach (start room) front z → steps z x ≡ Err Nested → Opens z (symbol_of x.kind) x.line → Because Nested room front (x ∷ xs)
nested_because room front x xs z h st (opens o y f c) = (o, subst (λ (n : ℕ). GoesOn n (front ++ x ∷ [])) (up_one room) (goes (reach_more x (reach_up (suc zero) h) f) c), stops_at Nested (x ∷ xs) h st)

because_of : (room : ℕ) (f : Fault) (front rest : List Token) (z : State) → Reach (start room) front z → Stops z f rest → Because f room front rest
because_of room Grammar front rest z h st = λ d. stops_less d room front rest (stops_at Grammar rest (reach_up d h) (stops_up d z rest st))
because_of room Nested front [] z h st = absurd (let q = st.1 in cc)
because_of room Nested front (x ∷ xs) z h st = nested_because room front x xs z h st (nested_opens z (symbol_of x.kind) x.line st)

-- the tokens from the faulty one on, and that they are refused
refusal_of : {room : ℕ} {ts : List Token} {left : List Mark} {f : Fault} → Stopped (start room) f left ts → (rest : List Token) × (left ≡ marks rest) × Refusal room ts f rest
refusal_of {room = room} {f = f} (stopped front rest z e l h st) = (
  rest,
  l,
  record {
    front = front;
    split = e;
    so_far = goes_more h;
    within = within_of h;
    because = because_of room f front rest z h st;
  },
)

pub refused : (room : ℕ) (ts : List Token) (f : Fault) (left : List Mark) → run (marks ts) (start room) ≡ Err (f, left) → (rest : List Token) × (left ≡ marks rest) × Refusal room ts f rest
refused room ts f left e = refusal_of (stop ts (start room) f left e)
