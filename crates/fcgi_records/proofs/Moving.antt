-- From where a stream stands to where it stands behind the first bytes.
use Rattle.std.proofs.Common.{◌≡◌, suc, ℕ, ◌+◌, ◌-◌, ◌≤◌, Bool, true, cond, List, [], ◌∷◌, ◌++◌, length, drop, refl, ap, sym, subst, ◌∙◌, append_assoc, length-append, length-drop, arith}
use Rattle.std.proofs.lemmas.List.{drop-drop}
use Rattle.std.proofs.Math.Seq.{drop-append_seam, take-append_seam}
use Rattle.fcgi_records.specs.declared.state.State.{State}
use Rattle.fcgi_records.specs.declared.state.State.TheVariants as state
use Rattle.fcgi_records.specs.States.{step, is_framing, in_padding, in_stdout, in_stderr, in_status, in_unused, in_end_padding}
use Rattle.fcgi_records.specs.Reading.{state_after, stdout_in, taken_in}
use Rattle.fcgi_records.proofs.ReadingLemmas.{framing_keeps, framing_owns, one_is_some, Gives, gives}

-- the first bytes are read and carry this content, and the others are rest
pub record Goes (s : State) (bytes moved : List ℕ) (t : State) (rest : List ℕ) : Type 0 where
  pub count : ℕ
  pub within : count ≤ length bytes
  pub left : drop count bytes ≡ rest
  pub stands : state_after s bytes ≡ state_after t rest
  pub reads : stdout_in s bytes ≡ moved ++ stdout_in t rest
  pub counts : taken_in s bytes ≡ count + taken_in t rest

pub goes_nowhere : (s : State) (bytes : List ℕ) → Goes s bytes [] s bytes
goes_nowhere s bytes = record { count = 0; within = omega arith; left = refl; stands = refl; reads = refl; counts = omega arith }

pub goes_on : (s t u : State) (bytes more rest d e : List ℕ) → Goes s bytes d t more → Goes t more e u rest → Goes s bytes (d ++ e) u rest
goes_on s t u bytes more rest d e p q = record {
  count = p.count + q.count;
  within = omega (arith, p.within, q.within, ap length p.left, length-drop p.count bytes);
  left = sym (drop-drop q.count p.count bytes) ∙ ap (drop q.count) p.left ∙ q.left;
  stands = p.stands ∙ q.stands;
  reads = p.reads ∙ ap (λ (l : List ℕ). d ++ l) q.reads ∙ sym (append_assoc d e (stdout_in u rest));
  counts = omega (arith, p.counts, q.counts);
}

-- one byte of framing
pub framing_then : (s t u : State) (b : ℕ) (bytes d rest : List ℕ) → is_framing s ≡ true → step s b ≡ t → Goes t bytes d u rest → Goes s (b ∷ bytes) d u rest
unfolding state_after stdout_in taken_in
framing_then s t u b bytes d rest framing is g = record {
  count = suc g.count;
  within = omega (arith, g.within);
  left = g.left;
  stands = ap (λ (x : State). state_after x bytes) is ∙ g.stands;
  reads = ap (λ (l : List ℕ). l ++ stdout_in (step s b) bytes) (framing_keeps s b framing) ∙ ap (λ (x : State). stdout_in x bytes) is ∙ g.reads;
  counts = ap (λ (x : Bool). cond x 0 1 + taken_in (step s b) bytes) (framing_owns s framing) ∙ omega (arith, ap (λ (x : State). taken_in x bytes) is, g.counts);
}

-- states that count bytes of framing down
pub record Counts (f : ℕ → State) : Type 0 where
  pub steps : (n b : ℕ) → step (f (suc n)) b ≡ f n
  pub framing : (n : ℕ) → is_framing (f (suc n)) ≡ true

one_less : (n : ℕ) → suc n - 1 ≡ n
one_less n = omega arith

counting : (f : ℕ → State) (g : ℕ → State) → ((n : ℕ) → f (suc n) ≡ g (suc n)) → ((n b : ℕ) → step (g (suc n)) b ≡ f (suc n - 1)) → ((n : ℕ) → is_framing (g n) ≡ true) → Counts f
counting f g is steps framing = record {
  steps = λ n b. ap (λ (s : State). step s b) (is n) ∙ steps n b ∙ ap f (one_less n);
  framing = λ n. ap is_framing (is n) ∙ framing (suc n);
}

pub padding_counts : Counts in_padding
unfolding step
padding_counts = counting in_padding (λ n. state.Padding n) (λ n. ap (λ (t : Bool). cond t state.Version (state.Padding (suc n))) (one_is_some n)) (λ n b. refl) (λ n. refl)

pub stderr_counts : (padding : ℕ) → Counts (λ n. in_stderr n padding)
unfolding step
stderr_counts padding = counting (λ n. in_stderr n padding) (λ n. state.Stderr n padding) (λ n. ap (λ (t : Bool). cond t (in_padding padding) (state.Stderr (suc n) padding)) (one_is_some n)) (λ n b. refl) (λ n. refl)

pub status_counts : (padding : ℕ) → Counts (λ n. in_status n padding)
unfolding step
status_counts padding = counting (λ n. in_status n padding) (λ n. state.Status n padding) (λ n. ap (λ (t : Bool). cond t (state.ProtocolStatus padding) (state.Status (suc n) padding)) (one_is_some n)) (λ n b. refl) (λ n. refl)

pub unused_counts : (padding : ℕ) → Counts (λ n. in_unused n padding)
unfolding step
unused_counts padding = counting (λ n. in_unused n padding) (λ n. state.Unused n padding) (λ n. ap (λ (t : Bool). cond t (in_end_padding padding) (state.Unused (suc n) padding)) (one_is_some n)) (λ n b. refl) (λ n. refl)

pub end_counts : Counts in_end_padding
unfolding step
end_counts = counting in_end_padding (λ n. state.EndPadding n) (λ n. ap (λ (t : Bool). cond t state.Whole (state.EndPadding (suc n))) (one_is_some n)) (λ n b. refl) (λ n. refl)

-- all bytes that are counted
pub counted_then : (f : ℕ → State) → Counts f → (bytes rest : List ℕ) → Goes (f (length bytes)) (bytes ++ rest) [] (f 0) rest
counted_then f c [] rest = goes_nowhere (f 0) rest
counted_then f c (b ∷ bytes) rest = framing_then (f (suc (length bytes))) (f (length bytes)) (f 0) b (bytes ++ rest) [] rest (c.framing (length bytes)) (c.steps (length bytes) b) (counted_then f c bytes rest)

-- all content of STDOUT
pub stdout_then : (padding : ℕ) (bytes rest : List ℕ) → Goes (in_stdout (length bytes) padding) (bytes ++ rest) bytes (in_padding padding) rest
stdout_then padding bytes rest =
    let n : ℕ = length bytes in
    let g : Gives (in_stdout n padding) (bytes ++ rest) n (in_stdout 0 padding) = gives padding (bytes ++ rest) n 0 n (omega arith) (omega (arith, length-append bytes rest)) in
    subst (λ (l : List ℕ). Goes (in_stdout n padding) (bytes ++ rest) bytes (in_padding padding) l) (drop-append_seam bytes rest)
    (subst (λ (l : List ℕ). Goes (in_stdout n padding) (bytes ++ rest) l (in_padding padding) (drop n (bytes ++ rest))) (take-append_seam bytes rest)
    (record { count = n; within = omega (arith, length-append bytes rest); left = refl; stands = g.stands; reads = g.reads; counts = g.counts }))
