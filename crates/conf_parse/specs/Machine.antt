-- A device: a file, read by a machine that takes one terminal at a time, as the code does. `parsed` computes with it.
use Rattle.std.specs.Prelude.{ℕ, zero, suc, ◌++◌, List, [], ◌∷◌, Option, Some, None, true, false, Result, Ok, Err}
use Rattle.conf_parse.specs.declared.symbol.Sign.TheVariants as g
use Rattle.conf_parse.specs.declared.symbol.Role.TheVariants as r
use Rattle.conf_parse.specs.declared.symbol.Symbol.{Symbol}
use Rattle.conf_parse.specs.declared.symbol.Symbol.TheVariants as s
use Rattle.conf_parse.specs.declared.tree.Term.{Term}
use Rattle.conf_parse.specs.declared.tree.Statement.{Statement}
use Rattle.conf_parse.specs.declared.tree.What.{What}
use Rattle.conf_parse.specs.declared.tree.What.TheVariants as w
use Rattle.conf_parse.specs.declared.tree.Branch.{Branch}
use Rattle.conf_parse.specs.declared.tree.RawCondition.{RawCondition}
use Rattle.conf_parse.specs.declared.value.Mode.{Mode}
use Rattle.conf_parse.specs.declared.value.Mode.TheVariants as m
use Rattle.conf_parse.specs.declared.value.Level.{Level}
use Rattle.conf_parse.specs.declared.value.Reading.{Reading}
use Rattle.conf_parse.specs.declared.value.Turn.{Turn}
use Rattle.conf_parse.specs.declared.value.Turn.TheVariants.{Go, Whole, Wrong, Deep}
use Rattle.conf_parse.specs.declared.state.Body.{Body}
use Rattle.conf_parse.specs.declared.state.Chain.{Chain}
use Rattle.conf_parse.specs.declared.state.Frame.{Frame}
use Rattle.conf_parse.specs.declared.state.Target.{Target}
use Rattle.conf_parse.specs.declared.state.Target.TheVariants as goal
use Rattle.conf_parse.specs.declared.state.Part.{Part}
use Rattle.conf_parse.specs.declared.state.Part.TheVariants as p
use Rattle.conf_parse.specs.declared.state.State.{State}
use Rattle.conf_parse.specs.declared.state.State.TheVariants.{Between, Key, Value, Head, After, Else}
use Rattle.conf_parse.specs.Symbols.{Mark, var_dot}
use Rattle.conf_parse.specs.Grammar.{statement, branch, condition_of}
use Rattle.conf_parse.specs.Values.{reading, turn}

-- statements so far, and how deep more may nest
abbrev pub body : ℕ → List Statement → Body
body room done = record { room = room; done = done }

-- the branches of a chain so far, and its line
abbrev pub chain_of : ℕ → List Branch → Chain
chain_of line branches = record { line = line; branches = branches }

-- a block that is open: the body and the chain in which it stands, its line and its condition
abbrev pub frame : Body → Chain → ℕ → Option RawCondition → Frame
frame b c line condition = record { body = b; chain = c; line = line; condition = condition }

-- a fault of the grammar, or a nesting that is too deep
pub data Fault : Type 0 where
  Grammar : Fault
  Nested : Fault

-- the body with one more statement
abbrev pub with : Body → ℕ → What → Body
with b line what = body b.room (b.done ++ statement line what ∷ [])

-- the chain with one more branch
abbrev pub joined : Chain → Branch → Chain
joined c b = chain_of c.line (c.branches ++ b ∷ [])

-- what a statement says whose value is this
abbrev pub what_of : Target → List Term → What
what_of (goal.Set key add) value = w.Set key add value
what_of goal.Include value = w.Include value

-- a value of which nothing was read
abbrev pub fresh : ℕ → Reading
fresh room = reading m.Value [] room []

-- a block opens, if there is room
abbrev pub opened : ℕ → List Statement → Chain → ℕ → Option RawCondition → List Frame → Result State Fault
opened zero done c line condition fs = Err Nested
opened (suc d) done c line condition fs = Ok (Between (body d []) (frame (body (suc d) done) c line condition ∷ fs))

-- a block closes: after a bare `else` its chain is whole
abbrev pub closed : List Statement → Body → Chain → ℕ → Option RawCondition → List Frame → Result State Fault
closed done b c line (Some condition) fs = Ok (After b (joined c (branch line (Some condition) done)) fs)
closed done b c line None fs = Ok (Between (with b c.line (w.Branches (c.branches ++ branch line None done ∷ []))) fs)

-- a closing brace ends the block that is open, if one is
abbrev pub ends : List Statement → List Frame → Result State Fault
ends done [] = Err Grammar
ends done (f ∷ fs) = closed done f.body f.chain f.line f.condition fs

-- a terminal where a statement may begin
abbrev pub begin : Body → Symbol → ℕ → List Frame → Result State Fault
begin b (s.Word r.Setting x) here fs = Ok (Key b here x fs)
begin b (s.Word r.Variable x) here fs = Ok (Key b here x fs)
begin b (s.Word r.Bare x) here fs = Ok (Key b here (var_dot x) fs)
begin b (s.Word r.Include x) here fs = Ok (Value b here goal.Include (fresh b.room) fs)
begin b (s.Sign g.Dollar) here fs = Ok (Head b (chain_of here []) here p.Group fs)
begin b (s.Sign g.CloseBlock) here fs = ends b.done fs
begin b _ here fs = Err Grammar

-- behind a terminal of a condition
abbrev pub head : Part → Symbol → Option Part
head p.Group (s.Word role group) = Some (p.OpenName group)
head (p.OpenName group) (s.Sign g.OpenName) = Some (p.Name group)
head (p.Name group) (s.Text name) = Some (p.CloseName group name)
head (p.CloseName group name) (s.Sign g.CloseName) = Some (p.Op group name)
head (p.Op group name) (s.Sign (g.Compare op)) = Some (p.Text group name op)
head (p.Text group name op) (s.Text x) = Some (p.Block (condition_of group name op x))
head _ _ = None

-- a condition goes on, or the terminal is wrong
abbrev pub headed : Option Part → Body → Chain → ℕ → List Frame → Result State Fault
headed (Some part) b c line fs = Ok (Head b c line part fs)
headed None b c line fs = Err Grammar

-- a terminal of a condition; its last one opens the block
abbrev pub heads : Part → Body → Chain → ℕ → Symbol → List Frame → Result State Fault
heads (p.Block condition) b c line (s.Sign g.OpenBlock) fs = opened b.room b.done c line (Some condition) fs
heads part b c line x fs = headed (head part x) b c line fs

-- what a terminal made of a value, and so of the file
abbrev pub turned : Turn → Body → ℕ → Target → ℕ → List Frame → Result State Fault
turned (Go v) b line target here fs = Ok (Value b line target v fs)
turned (Whole value x) b line target here fs = begin (with b line (what_of target value)) x here fs
turned Wrong b line target here fs = Err Grammar
turned Deep b line target here fs = Err Nested

-- what a terminal makes of the state
abbrev pub step : State → Symbol → ℕ → Result State Fault
step (Between b fs) x here = begin b x here fs
step (Key b line key fs) (s.Sign g.Assign) here = Ok (Value b line (goal.Set key false) (fresh b.room) fs)
step (Key b line key fs) (s.Sign g.Append) here = Ok (Value b line (goal.Set key true) (fresh b.room) fs)
step (Key b line key fs) _ here = Err Grammar
step (Value b line target v fs) x here = turned (turn v x) b line target here fs
step (Head b c line part fs) x here = heads part b c line x fs
step (After b c fs) (s.Word r.Else x) here = Ok (Else b c here fs)
step (After b c fs) x here = begin (with b c.line (w.Branches c.branches)) x here fs
step (Else b c line fs) (s.Sign g.Dollar) here = Ok (Head b c line p.Group fs)
step (Else b c line fs) (s.Sign g.OpenBlock) here = opened b.room b.done c line None fs
step (Else b c line fs) _ here = Err Grammar

-- The statements, or the fault and the terminals from the faulty one on, of which there are none where the file ends too early.
abbrev pub Reply : Type 0
Reply = Result (List Statement) (Fault × List Mark)

-- the end after a value, which is whole where no array is open
abbrev pub finish_value : Mode → List Level → List Statement → List Frame → Reply
finish_value m.After [] done [] = Ok done
finish_value _ _ done fs = Err (Grammar, [])

-- the end of the file
abbrev pub finish : State → Reply
finish (Between b []) = Ok b.done
finish (Value b line target v fs) = finish_value v.mode v.opens (b.done ++ statement line (what_of target v.terms) ∷ []) fs
finish (After b c []) = Ok (b.done ++ statement c.line (w.Branches c.branches) ∷ [])
finish _ = Err (Grammar, [])

-- a step, and then the rest
abbrev pub next : Result State Fault → (State → Reply) → List Mark → Reply
next (Ok z) go marks = go z
next (Err e) go marks = Err (e, marks)

-- from this state on
abbrev pub run : List Mark → State → Reply
run [] z = finish z
run (t ∷ ts) z = next (step z t.symbol t.line) (run ts) (t ∷ ts)

-- before the first terminal
abbrev pub start : ℕ → State
start room = Between (body room []) []
