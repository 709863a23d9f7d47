-- What the parser's answers say (README.md of this crate, 'What is proved').
use Rattle.std.specs.Prelude.{◌≡◌, ℕ, List, [], ◌∷◌, Option, Some, None, Result, Ok, Err}
use Rattle.conf_lex.specs.declared.token.Token.{Token}
use Rattle.conf_parse.specs.declared.tree.Tree.{Tree}
use Rattle.conf_parse.specs.declared.tree.Statement.{Statement}
use Rattle.conf_parse.specs.declared.state.State.{State}
use Rattle.conf_parse.specs.declared.error.ParseError.{ParseError}
use Rattle.conf_parse.specs.declared.error.ParseError.TheVariants as e
use Rattle.conf_parse.specs.Symbols.{Mark, marks}
use Rattle.conf_parse.specs.Machine.{Reply, Fault, Grammar, Nested, run, start}
use Rattle.conf_parse.specs.Refusal.{Refusal}

-- a step's answer on this line
abbrev pub Steps : ℕ → Result State ParseError → Result State Fault → Type 0
Steps here (Ok z) step = step ≡ Ok z
Steps here (Err (e.Grammar line)) step = (line ≡ here) × (step ≡ Err Grammar)
Steps here (Err (e.Deep line)) step = (line ≡ here) × (step ≡ Err Nested)
Steps here (Err e.NoMemory) step = Unit {0}

-- the answer where the file ends; `None` where it ends too early
abbrev pub Finishes : Option (List Statement) → Reply → Type 0
Finishes (Some tree) reply = reply ≡ Ok tree
Finishes None reply = reply ≡ Err (Grammar, [])

-- the line of the last token, or 1
abbrev pub last_line : ℕ → List Token → ℕ
last_line before [] = before
last_line before (x ∷ xs) = last_line x.line xs

-- The line that a refusal names: that of the first of the other tokens, or of the last token where there is no other.
abbrev pub line_at : List Token → List Token → ℕ
line_at tokens [] = last_line 1 tokens
line_at tokens (x ∷ more) = x.line

-- an answer is the machine's, unless memory ran out
abbrev pub Gives : List Token → Result Tree ParseError → Reply → Type 0
Gives tokens (Ok tree) reply = reply ≡ Ok tree.statements
Gives tokens (Err (e.Grammar line)) reply = (rest : List Token) × (line ≡ line_at tokens rest) × (reply ≡ Err (Grammar, marks rest))
Gives tokens (Err (e.Deep line)) reply = (rest : List Token) × (line ≡ line_at tokens rest) × (reply ≡ Err (Nested, marks rest))
Gives tokens (Err e.NoMemory) reply = Unit {0}

-- this tree is the answer, unless memory ran out
abbrev pub IsRead : Tree → Result Tree ParseError → Type 0
IsRead tree (Ok found) = found ≡ tree
IsRead tree (Err x) = x ≡ e.NoMemory

-- The error names the line of the first token with which no file goes on, and whether the nesting is at fault.
abbrev pub Refused : ℕ → List Token → ParseError → Type 0
Refused room tokens (e.Grammar line) = (rest : List Token) × (line ≡ line_at tokens rest) × Refusal room tokens Grammar rest
Refused room tokens (e.Deep line) = (rest : List Token) × (line ≡ line_at tokens rest) × Refusal room tokens Nested rest
Refused room tokens e.NoMemory = Unit {0}

-- ---- the answer as a function of the tokens

-- the line of the first of the terminals that are left, or that of the last token
abbrev pub line_left : List Token → List Mark → ℕ
line_left tokens [] = last_line 1 tokens
line_left tokens (x ∷ more) = x.line

-- the refusal of a fault on this line
abbrev pub fault_at : Fault → ℕ → ParseError
fault_at Grammar line = e.Grammar line
fault_at Nested line = e.Deep line

-- the answer that a reply of the machine is
abbrev pub given : List Token → Reply → Result Tree ParseError
given tokens (Ok statements) = Ok (record { statements = statements })
given tokens (Err p) = Err (fault_at p.0 (line_left tokens p.1))

-- the answer, with 64 levels
abbrev pub parsed : List Token → Result Tree ParseError
parsed tokens = given tokens (run (marks tokens) (start 64))

-- the answer is this one, unless memory ran out
abbrev pub IsAnswer : Result Tree ParseError → Result Tree ParseError → Type 0
IsAnswer (Err e.NoMemory) answer = Unit {0}
IsAnswer found answer = answer ≡ found
