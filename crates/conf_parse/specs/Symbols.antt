-- Tokens as terminals of the grammar (lighttpd 1.4 documentation, "Configuration").
use Rattle.std.specs.Prelude.{ℕ, ◌++◌, List, [], ◌∷◌, map, Bool, true, false, ◌||◌, ◌==◌, if◌then◌else◌, codes, Option, Some, None}
use Rattle.std.specs.List.{list_any, starts_with}
use Rattle.std.specs.Prelude.{nat_eq}
use Rattle.std.specs.Str.{bytes_eq}
use Rattle.conf_lex.specs.declared.token.TokenKind.{TokenKind}
use Rattle.conf_lex.specs.declared.token.TokenKind.TheVariants as k
use Rattle.conf_lex.specs.declared.token.Token.{Token}
use Rattle.conf_value.specs.declared.condition.Op.TheVariants as op
use Rattle.conf_parse.specs.declared.symbol.Sign.{Sign}
use Rattle.conf_parse.specs.declared.symbol.Sign.TheVariants as g
use Rattle.conf_parse.specs.declared.symbol.Role.{Role}
use Rattle.conf_parse.specs.declared.symbol.Role.TheVariants as r
use Rattle.conf_parse.specs.declared.symbol.Symbol.{Symbol}
use Rattle.conf_parse.specs.declared.symbol.Symbol.TheVariants as s

-- the bytes of a text
abbrev pub Text : Type 0
Text = List ℕ

-- The signs, numbered from 0: = += => + , ( ) { } [ ] $ == != =~ !~ =^ =$
abbrev pub sign_of : ℕ → Option Sign
sign_of n =
    if n == 0 then Some g.Assign
    else if n == 1 then Some g.Append
    else if n == 2 then Some g.Arrow
    else if n == 3 then Some g.Plus
    else if n == 4 then Some g.Comma
    else if n == 5 then Some g.OpenArray
    else if n == 6 then Some g.CloseArray
    else if n == 7 then Some g.OpenBlock
    else if n == 8 then Some g.CloseBlock
    else if n == 9 then Some g.OpenName
    else if n == 10 then Some g.CloseName
    else if n == 11 then Some g.Dollar
    else if n == 12 then Some (g.Compare op.Equal)
    else if n == 13 then Some (g.Compare op.NotEqual)
    else if n == 14 then Some (g.Compare op.Match)
    else if n == 15 then Some (g.Compare op.NoMatch)
    else if n == 16 then Some (g.Compare op.Prefix)
    else if n == 17 then Some (g.Compare op.Suffix)
    else None

-- a part of the word between its dots is empty; a part begins here, or has begun
abbrev pub begins : Bool
begins = true

-- an empty part, where one begins here or not
abbrev pub has_empty_part : Bool → Text → Bool
has_empty_part fresh [] = fresh
has_empty_part fresh (b ∷ w) = if b == 46 then fresh || has_empty_part true w else has_empty_part false w

-- A key is a word with a dot and no empty part, or a word without a dot that is none of the five.
abbrev pub role_of : Text → Role
role_of w =
    if bytes_eq w (codes "else") then r.Else
    else if bytes_eq w (codes "include") then r.Include
    else if bytes_eq w (codes "enable") || bytes_eq w (codes "disable") then r.Switch
    else if bytes_eq w (codes "include_shell") || has_empty_part begins w then r.Other
    else if starts_with nat_eq w (codes "var.") then r.Variable
    else if list_any (λ b. b == 46) w then r.Setting
    else r.Bare

-- a sign that is one of these, or an unknown one
abbrev pub known : Option Sign → Symbol
known (Some x) = s.Sign x
known None = s.Unknown

-- the terminal that a token is
abbrev pub symbol_of : TokenKind → Symbol
symbol_of (k.Word w) = s.Word (role_of w) w
symbol_of (k.Text t) = s.Text t
symbol_of (k.Number n) = s.Number n
symbol_of (k.Sign n) = known (sign_of n)

-- a terminal on a line
pub record Mark : Type 0 where
  pub symbol : Symbol
  pub line : ℕ

-- a terminal on this line
abbrev pub at : Symbol → ℕ → Mark
at x line = record { symbol = x; line = line }

-- a sign on this line
abbrev pub sign : Sign → ℕ → Mark
sign x line = at (s.Sign x) line

-- a token as its terminal
abbrev pub mark : Token → Mark
mark t = at (symbol_of t.kind) t.line

-- tokens as their terminals
abbrev pub marks : List Token → List Mark
marks = map mark

-- a key without a dot is kept with `var.` before it
abbrev pub var_dot : Text → Text
var_dot w = codes "var." ++ w

-- the key that a word is
pub data IsKey : Role → Text → Text → Type 0 where
  setting : {w : Text} → IsKey r.Setting w w
  variable : {w : Text} → IsKey r.Variable w w
  bare : {w : Text} → IsKey r.Bare w (var_dot w)
