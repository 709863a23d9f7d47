-- On which line a token stands (lighttpd 1.4 documentation, "Configuration").
use Rattle.std.specs.Prelude.{◌≡◌, ℕ, ◌+◌, ◌++◌, ◌==◌, List, [], ◌∷◌, min, count_by}
use Rattle.conf_lex.specs.declared.token.Token.{Token}
use Rattle.conf_lex.specs.Tokens.{Reads}

-- 1 plus the line feeds before a place, and 2^32 - 1 for any later line
abbrev pub line_of : List ℕ → ℕ
line_of front = min (1 + count_by (λ b. b == 10) front) 4294967295

-- The token is the first one of some rest of the text, and its line is the one behind the bytes before it.
pub record StandsIn (text : List ℕ) (token : Token) : Type 0 where
  pub front : List ℕ
  pub rest : List ℕ
  pub split : text ≡ front ++ rest
  pub line : token.line ≡ line_of front
  pub others : List Token
  pub last_line : ℕ
  pub first : Reads token.line rest (token ∷ others) last_line []
