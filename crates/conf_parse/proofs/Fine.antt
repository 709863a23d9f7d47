-- The terminals of a text that was lexed.
use Rattle.std.proofs.Common.{◌≡◌, ℕ, ◌^◌, ◌<◌, List, [], ◌∷◌, Option, Some, None, pos, refl}
use Rattle.std.specs.Str.{IsUtf8}
use Rattle.conf_lex.specs.declared.token.TokenKind.{TokenKind}
use Rattle.conf_lex.specs.declared.token.TokenKind.TheVariants as k
use Rattle.conf_lex.specs.declared.token.Token.{Token}
use Rattle.conf_lex.specs.Spelling.{inside}
use Rattle.conf_lex.proofs.Lexed.{IsLexed, AllLexed, IsWord, IsClosed}
use Rattle.conf_parse.specs.declared.symbol.Sign.{Sign}
use Rattle.conf_parse.specs.declared.symbol.Symbol.{Symbol}
use Rattle.conf_parse.specs.declared.symbol.Symbol.TheVariants as s
use Rattle.conf_parse.specs.declared.tree.Term.{Term}
use Rattle.conf_parse.specs.declared.tree.Item.{Item}
use Rattle.conf_parse.specs.declared.tree.Statement.{Statement}
use Rattle.conf_parse.specs.declared.tree.Branch.{Branch}
use Rattle.conf_parse.specs.Symbols.{Text, Mark, marks, symbol_of, sign_of, known, role_of}
use Rattle.conf_parse.specs.Grammar.{IsValue, IsItems, IsItem, IsSum, IsBody, IsStatement, IsBlock, IsElses, text, number, switch, dotted, undotted, array, no_item, last, more, keyed, plain, one, sum, none, some, set, include, chain, block, no_else, else_block, bare_else}

abbrev pub Fine : Symbol → Type 0
Fine (s.Word role w) = (role ≡ role_of w) × IsWord w
Fine (s.Text t) = IsClosed t × IsUtf8 (inside t)
Fine (s.Number z) = (i : ℕ) × (z ≡ pos i) × (i < 10 ^ 18)
Fine (s.Sign x) = Unit {0}
Fine s.Unknown = Unit {0}

abbrev pub AllFine : List Mark → Type 0
AllFine [] = Unit {0}
AllFine (x ∷ xs) = Fine x.symbol × AllFine xs

known_fine : (x : Option Sign) → Fine (known x)
known_fine (Some x) = tt
known_fine None = tt

kind_fine : (x : TokenKind) → IsLexed x → Fine (symbol_of x)
unfolding IsLexed
kind_fine (k.Word w) h = (refl, h)
kind_fine (k.Text t) h = h
kind_fine (k.Number z) h = h
kind_fine (k.Sign i) h = known_fine (sign_of i)

pub marks_fine : (ts : List Token) → AllLexed ts → AllFine (marks ts)
marks_fine [] h = tt
marks_fine (x ∷ ts) h = (kind_fine x.kind h.0, marks_fine ts h.1)

-- ---- and those behind a part of it

mutual
  pub value_rest : {d : ℕ} {v : Term} {ts r : List Mark} → IsValue d v ts r → AllFine ts → AllFine r
  value_rest text f = f.1
  value_rest number f = f.1
  value_rest switch f = f.1
  value_rest dotted f = f.1
  value_rest undotted f = f.1
  value_rest (array h) f = items_rest h f.1

  pub items_rest : {d : ℕ} {its : List Item} {ts r : List Mark} → IsItems d its ts r → AllFine ts → AllFine r
  items_rest no_item f = f.1
  items_rest (last h) f = let q = item_rest h f in q.1
  items_rest (more h hs) f = let q = item_rest h f in items_rest hs q.1

  pub item_rest : {d : ℕ} {key : Option Text} {v : List Term} {ts r : List Mark} → IsItem d key v ts r → AllFine ts → AllFine r
  item_rest (keyed h) f = sum_rest h f.1.1
  item_rest (plain h) f = sum_rest h f

  pub sum_rest : {d : ℕ} {v : List Term} {ts r : List Mark} → IsSum d v ts r → AllFine ts → AllFine r
  sum_rest (one h) f = value_rest h f
  sum_rest (sum h hs) f = let q = value_rest h f in sum_rest hs q.1

mutual
  pub body_rest : {d : ℕ} {xs : List Statement} {ts r : List Mark} → IsBody d xs ts r → AllFine ts → AllFine r
  body_rest none f = f
  body_rest (some h hs) f = body_rest hs (statement_rest h f)

  pub statement_rest : {d : ℕ} {x : Statement} {ts r : List Mark} → IsStatement d x ts r → AllFine ts → AllFine r
  statement_rest (set name h) f = sum_rest h f.1.1
  statement_rest (include h) f = sum_rest h f.1
  statement_rest (chain h es) f = elses_rest es (block_rest h f.1)

  pub block_rest : {d l : ℕ} {b : Branch} {ts r : List Mark} → IsBlock d l b ts r → AllFine ts → AllFine r
  block_rest (block h) f = let q = body_rest h f.1.1.1.1.1.1.1 in q.1

  pub elses_rest : {d : ℕ} {bs : List Branch} {ts r : List Mark} → IsElses d bs ts r → AllFine ts → AllFine r
  elses_rest no_else f = f
  elses_rest (else_block h hs) f = elses_rest hs (block_rest h f.1.1)
  elses_rest (bare_else h) f = let q = body_rest h f.1.1 in q.1
