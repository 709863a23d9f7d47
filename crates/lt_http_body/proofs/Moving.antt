-- From where a body stands to where it stands behind the first bytes.
use Rattle.std.proofs.Common.{◌≡◌, suc, ℕ, ◌+◌, Bool, true, cond, List, [], ◌∷◌, ◌++◌, drop, refl, ap, sym, ◌∙◌, append_assoc, arith}
use Rattle.std.proofs.lemmas.List.{drop-drop}
use Rattle.lt_http_body.specs.declared.standing.Standing.{Standing}
use Rattle.lt_http_body.specs.Standings.{step, is_in_line}
use Rattle.lt_http_body.specs.Reading.{standing_after, data_in, taken_in}
use Rattle.lt_http_body.proofs.ReadingLemmas.{line_keeps, line_owns}

-- the first bytes are the body's own and carry this data, and the others are rest
pub record Goes (s : Standing) (bytes moved : List ℕ) (t : Standing) (rest : List ℕ) : Type 0 where
  pub count : ℕ
  pub left : drop count bytes ≡ rest
  pub stands : standing_after s bytes ≡ standing_after t rest
  pub reads : data_in s bytes ≡ moved ++ data_in t rest
  pub counts : taken_in s bytes ≡ count + taken_in t rest

pub goes_nowhere : (s : Standing) (bytes : List ℕ) → Goes s bytes [] s bytes
goes_nowhere s bytes = record { count = 0; left = refl; stands = refl; reads = refl; counts = omega arith }

pub goes_on : (s t u : Standing) (bytes more rest d e : List ℕ) → Goes s bytes d t more → Goes t more e u rest → Goes s bytes (d ++ e) u rest
goes_on s t u bytes more rest d e p q = record {
  count = p.count + q.count;
  left = sym (drop-drop q.count p.count bytes) ∙ ap (drop q.count) p.left ∙ q.left;
  stands = p.stands ∙ q.stands;
  reads = p.reads ∙ ap (λ (l : List ℕ). d ++ l) q.reads ∙ sym (append_assoc d e (data_in u rest));
  counts = omega (arith, p.counts, q.counts);
}

-- one byte of a line
pub line_then : (s t u : Standing) (b : ℕ) (bytes d rest : List ℕ) → is_in_line s.state ≡ true → step s b ≡ t → Goes t bytes d u rest → Goes s (b ∷ bytes) d u rest
unfolding standing_after data_in taken_in
line_then s t u b bytes d rest line is g = record {
  count = suc g.count;
  left = g.left;
  stands = ap (λ (x : Standing). standing_after x bytes) is ∙ g.stands;
  reads = ap (λ (l : List ℕ). l ++ data_in (step s b) bytes) (line_keeps s.state b line) ∙ ap (λ (x : Standing). data_in x bytes) is ∙ g.reads;
  counts = ap (λ (x : Bool). cond x 0 1 + taken_in (step s b) bytes) (line_owns s.state line) ∙ omega (arith, ap (λ (x : Standing). taken_in x bytes) is, g.counts);
}
