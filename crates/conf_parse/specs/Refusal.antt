-- Where tokens are refused (lighttpd 1.4 documentation, "Configuration").
use Rattle.std.specs.Prelude.{◌≡◌, ℕ, suc, ◌++◌, List, [], ◌∷◌}
use Rattle.conf_lex.specs.declared.token.Token.{Token}
use Rattle.conf_parse.specs.declared.symbol.Sign.TheVariants as g
use Rattle.conf_parse.specs.declared.symbol.Symbol.{Symbol}
use Rattle.conf_parse.specs.declared.symbol.Symbol.TheVariants as s
use Rattle.conf_parse.specs.declared.tree.Tree.{Tree}
use Rattle.conf_parse.specs.Symbols.{symbol_of}
use Rattle.conf_parse.specs.Grammar.{Spells}
use Rattle.conf_parse.specs.Machine.{Fault, Grammar, Nested}

-- Some file, nested no deeper than this, begins with these tokens.
abbrev pub GoesOn : ℕ → List Token → Type 0
GoesOn room front = (tree : Tree) × (others : List Token) × Spells room tree (front ++ others)

-- With the first of the other tokens no file nested no deeper goes on; where there is none, the tokens are no file.
abbrev pub StopsAt : ℕ → List Token → List Token → Type 0
StopsAt room front [] = (tree : Tree) → Spells room tree front → ⊥
StopsAt room front (x ∷ others) = GoesOn room (front ++ x ∷ []) → ⊥

-- the terminal opens a block or an array
abbrev pub IsOpening : Symbol → Type 0
IsOpening (s.Sign g.OpenBlock) = Unit {0}
IsOpening (s.Sign g.OpenArray) = Unit {0}
IsOpening _ = ⊥

-- With a fault of the grammar no file goes on, however deep. The nesting is at fault at an opening sign
-- with which only a deeper file goes on.
abbrev pub Because : Fault → ℕ → List Token → List Token → Type 0
Because Grammar room front rest = (d : ℕ) → StopsAt d front rest
Because Nested room front [] = ⊥
Because Nested room front (x ∷ others) = IsOpening (symbol_of x.kind) × GoesOn (suc room) (front ++ x ∷ []) × (GoesOn room (front ++ x ∷ []) → ⊥)

-- the tokens are refused at the first of the rest, for this fault
pub record Refusal (room : ℕ) (tokens : List Token) (fault : Fault) (rest : List Token) : Type 0 where
  pub front : List Token
  pub split : tokens ≡ front ++ rest
  -- a file of the grammar goes on, and within the bound at each opening sign before
  pub so_far : GoesOn (suc room) front
  pub within : (a : List Token) (x : Token) (b : List Token) → front ≡ a ++ (x ∷ b) → IsOpening (symbol_of x.kind) → GoesOn room (a ++ x ∷ [])
  pub because : Because fault room front rest
