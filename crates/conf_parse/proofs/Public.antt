-- What the machine's reply says of the tokens.
use Rattle.std.proofs.Common.{◌≡◌, ℕ, List, [], ◌∷◌, Result, Ok, Err, refl, ◌∙◌, sym, ap}
use Rattle.std.specs.Prelude.{IfOk, IfErr}
use Rattle.conf_lex.specs.declared.token.Token.{Token}
use Rattle.conf_parse.specs.declared.tree.Tree.{Tree}
use Rattle.conf_parse.specs.declared.tree.Statement.{Statement}
use Rattle.conf_parse.specs.declared.error.ParseError.{ParseError}
use Rattle.conf_parse.specs.declared.error.ParseError.TheVariants as e
use Rattle.conf_parse.specs.Symbols.{Mark, marks}
use Rattle.conf_parse.specs.Grammar.{Spells}
use Rattle.conf_parse.specs.Machine.{run, start, Grammar, Nested}
use Rattle.conf_parse.specs.Answers.{Gives, IsAnswer, IsRead, Refused, given, line_at, line_left, parsed}
use Rattle.conf_parse.proofs.Complete.{file_read}
use Rattle.conf_parse.proofs.Sound.{file_spelled}
use Rattle.conf_parse.proofs.Refused.{refused}

abbrev first_line : List Mark → ℕ
first_line [] = 0
first_line (x ∷ xs) = x.line

-- the same terminals are refused at the same line
same_line : (tokens a b : List Token) → marks a ≡ marks b → line_at tokens a ≡ line_at tokens b
same_line tokens [] [] h = refl
same_line tokens [] (y ∷ b) h = absurd cc
same_line tokens (x ∷ a) [] h = absurd cc
same_line tokens (x ∷ a) (y ∷ b) h = ap first_line h

tree_of : List Statement → Tree
tree_of xs = record { statements = xs }

left_line : (tokens rest : List Token) → line_left tokens (marks rest) ≡ line_at tokens rest
left_line tokens [] = refl
left_line tokens (x ∷ rest) = refl

module _ (room : ℕ) (ts : List Token) where
  pub found_of : (r : Result Tree ParseError) → Gives ts r (run (marks ts) (start room)) → IfOk r (λ tree. Spells room tree ts)
  found_of (Ok tree) h = file_spelled room tree.statements (marks ts) h
  found_of (Err x) h = tt

  same_tree : (a b : Tree) → a.statements ≡ b.statements → a ≡ b
  unfolding tree_of
  same_tree a b h = ap tree_of h

  ok_inj : (a b : List Statement) → run (marks ts) (start room) ≡ Ok a → run (marks ts) (start room) ≡ Ok b → a ≡ b
  ok_inj a b h k = cc

  pub only_of : (r : Result Tree ParseError) → Gives ts r (run (marks ts) (start room)) → (tree : Tree) → Spells room tree ts → IsRead tree r
  only_of (Ok found) h tree file = same_tree found tree (ok_inj found.statements tree.statements h (file_read file))
  only_of (Err (e.Grammar line)) h tree file = let a = file_read file in let b = h.2 in absurd cc
  only_of (Err (e.Deep line)) h tree file = let a = file_read file in let b = h.2 in absurd cc
  only_of (Err e.NoMemory) h tree file = refl

  pub refused_of : (r : Result Tree ParseError) → Gives ts r (run (marks ts) (start room)) → IfErr r (λ x. Refused room ts x)
  refused_of (Ok found) h = tt
  refused_of (Err (e.Grammar line)) h = let q = refused room ts Grammar (marks h.0) h.2 in (q.0, h.1 ∙ same_line ts h.0 q.0 q.1, q.2)
  refused_of (Err (e.Deep line)) h = let q = refused room ts Nested (marks h.0) h.2 in (q.0, h.1 ∙ same_line ts h.0 q.0 q.1, q.2)
  refused_of (Err e.NoMemory) h = tt

pub computed_of : (ts : List Token) (r : Result Tree ParseError) → Gives ts r (run (marks ts) (start 64)) → IsAnswer r (parsed ts)
computed_of ts (Ok tree) h = ap (given ts) h
computed_of ts (Err (e.Grammar line)) h = ap (given ts) h.2 ∙ ap (λ (l : ℕ). Err (e.Grammar l)) (left_line ts h.0 ∙ sym h.1)
computed_of ts (Err (e.Deep line)) h = ap (given ts) h.2 ∙ ap (λ (l : ℕ). Err (e.Deep l)) (left_line ts h.0 ∙ sym h.1)
computed_of ts (Err e.NoMemory) h = tt

pub one_file : (room : ℕ) (a b : Tree) (ts : List Token) → Spells room a ts → Spells room b ts → a ≡ b
one_file room a b ts h k = same_tree room ts a b (ok_inj room ts a.statements b.statements (file_read h) (file_read k))
