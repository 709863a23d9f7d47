-- What bytes are to a body, part by part.
use Rattle.std.proofs.Common.{◌≡◌, zero, suc, ℕ, ◌+◌, ◌-◌, ◌<◌, ◌≤◌, ◌==◌, Bool, true, false, cond, List, [], ◌∷◌, ◌++◌, length, take, drop, get_or, Option, refl, ap, sym, subst, ◌∙◌, append_assoc, append-nil, length-append, arith}
use Rattle.std.proofs.lemmas.List.{take_more}
use Rattle.std.proofs.lemmas.Bool.Decides.{nat_tests}
use Rattle.lt_http_body.specs.declared.state.State.{State}
use Rattle.lt_http_body.specs.declared.state.State.TheVariants as state
use Rattle.lt_http_body.specs.declared.standing.Standing.{Standing}
use Rattle.lt_http_body.specs.Lines.{in_data, in_stated}
use Rattle.lt_http_body.specs.Standings.{at, step, is_over, is_in_line, left_of, kept_from, without_from}
use Rattle.lt_http_body.specs.Reading.{standing_after, data_in, taken_in, Passes}

pub after_append : (s : Standing) (bytes more : List ℕ) → standing_after s (bytes ++ more) ≡ standing_after (standing_after s bytes) more
unfolding standing_after
after_append s [] more = refl
after_append s (b ∷ bytes) more = after_append (step s b) bytes more

pub data_append : (s : Standing) (bytes more : List ℕ) → data_in s (bytes ++ more) ≡ data_in s bytes ++ data_in (standing_after s bytes) more
unfolding standing_after data_in
data_append s [] more = refl
data_append s (b ∷ bytes) more =
    ap (λ (d : List ℕ). kept_from s.state b ++ d) (data_append (step s b) bytes more) ∙ sym (append_assoc (kept_from s.state b) (data_in (step s b) bytes) (data_in (standing_after (step s b) bytes) more))

pub taken_append : (s : Standing) (bytes more : List ℕ) → taken_in s (bytes ++ more) ≡ taken_in s bytes + taken_in (standing_after s bytes) more
unfolding standing_after taken_in
taken_append s [] more = omega arith
taken_append s (b ∷ bytes) more = omega (arith, taken_append (step s b) bytes more)

-- a byte of a line is the body's own, and no data
pub line_keeps : (s : State) (b : ℕ) → is_in_line s ≡ true → kept_from s b ≡ []
line_keeps (state.Stated left) b e = cc
line_keeps (state.Data left) b e = cc
line_keeps state.Whole b e = cc
line_keeps state.BadChunk b e = cc
line_keeps state.TooLarge b e = cc
line_keeps other b e = refl

pub line_owns : (s : State) → is_in_line s ≡ true → is_over s ≡ false
line_owns (state.Stated left) e = cc
line_owns (state.Data left) e = cc
line_owns state.Whole e = cc
line_owns state.BadChunk e = cc
line_owns state.TooLarge e = cc
line_owns other e = refl

pub one_passes : (s : Standing) (b : ℕ) → is_in_line s.state ≡ true → Passes s (b ∷ []) (step s b)
unfolding standing_after data_in taken_in
one_passes s b line = record {
  stands = refl;
  none = append-nil (kept_from s.state b) ∙ line_keeps s.state b line;
  all = ap (λ (t : Bool). cond t 0 1 + 0) (line_owns s.state line);
}

pub passes_more : (s t u : Standing) (bytes more : List ℕ) → Passes s bytes t → Passes t more u → Passes s (bytes ++ more) u
passes_more s t u bytes more p q = record {
  stands = after_append s bytes more ∙ ap (λ (x : Standing). standing_after x more) p.stands ∙ q.stands;
  none = data_append s bytes more ∙ ap (λ (d : List ℕ). d ++ data_in (standing_after s bytes) more) p.none ∙ ap (λ (x : Standing). data_in x more) p.stands ∙ q.none;
  all = omega (arith, taken_append s bytes more, p.all, ap (λ (x : Standing). taken_in x more) p.stands, q.all, length-append bytes more);
}

pub passes_nothing : (s : Standing) (bytes : List ℕ) → Passes s (take 0 bytes) s
unfolding standing_after data_in taken_in
passes_nothing s bytes = record { stands = refl; none = refl; all = refl }

pub passes_turn : (s t : Standing) (bytes : List ℕ) (i b : ℕ) → Passes s (take i bytes) t → is_in_line t.state ≡ true → i < length bytes → get_or bytes i 0 ≡ b → Passes s (take (i + 1) bytes) (step t b)
passes_turn s t bytes i b p line inside is =
    let whole : take (i + 1) bytes ≡ take i bytes ++ b ∷ [] = take_more bytes i 0 inside ∙ ap (λ (x : ℕ). take i bytes ++ x ∷ []) is in
    subst (λ (l : List ℕ). Passes s l (step t b)) (sym whole) (passes_more s t (step t b) (take i bytes) (b ∷ []) p (one_passes t b line))

-- the first n bytes are data, behind which the body stands there
pub record Gives (s : Standing) (bytes : List ℕ) (n : ℕ) (behind : Standing) : Type 0 where
  pub stands : standing_after s bytes ≡ standing_after behind (drop n bytes)
  pub reads : data_in s bytes ≡ take n bytes ++ data_in behind (drop n bytes)
  pub counts : taken_in s bytes ≡ n + taken_in behind (drop n bytes)

-- states that count bytes of data down
pub record Counts (f : ℕ → State) : Type 0 where
  pub steps : (room : Option ℕ) (n b : ℕ) → step (at room (f (suc n))) b ≡ at room (f n)
  pub keeps : (n b : ℕ) → kept_from (f (suc n)) b ≡ b ∷ []
  pub owns : (n : ℕ) → is_over (f (suc n)) ≡ false

one_less : (n : ℕ) → suc n - 1 ≡ n
one_less n = omega arith

one_is_some : (n : ℕ) → (suc n == 0) ≡ false
one_is_some n = grind (arith, nat_tests)

data_is : (n : ℕ) → in_data (suc n) ≡ state.Data (suc n)
data_is n = ap (λ (t : Bool). cond t state.DataReturn (state.Data (suc n))) (one_is_some n)

stated_is : (n : ℕ) → in_stated (suc n) ≡ state.Stated (suc n)
stated_is n = ap (λ (t : Bool). cond t state.Whole (state.Stated (suc n))) (one_is_some n)

data_counts : Counts in_data
unfolding step
data_counts = record {
  steps = λ room n b. ap (λ (s : State). step (at room s) b) (data_is n) ∙ ap (λ (m : ℕ). at room (in_data m)) (one_less n);
  keeps = λ n b. ap (λ (s : State). kept_from s b) (data_is n);
  owns = λ n. ap is_over (data_is n);
}

pub stated_counts : Counts in_stated
unfolding step
stated_counts = record {
  steps = λ room n b. ap (λ (s : State). step (at room s) b) (stated_is n) ∙ ap (λ (m : ℕ). at room (in_stated m)) (one_less n);
  keeps = λ n b. ap (λ (s : State). kept_from s b) (stated_is n);
  owns = λ n. ap is_over (stated_is n);
}

pub gives : (f : ℕ → State) → Counts f → (room : Option ℕ) (bytes : List ℕ) (n left total : ℕ) → n + left ≡ total → n ≤ length bytes → Gives (at room (f total)) bytes n (at room (f left))
unfolding standing_after data_in taken_in
gives f c room bytes zero left total sum inside =
    let same : left ≡ total = omega (arith, sum) in
    subst (λ (x : ℕ). Gives (at room (f x)) bytes 0 (at room (f left))) same (record { stands = refl; reads = refl; counts = omega arith })
gives f c room [] (suc n) left total sum inside = absurd (omega arith)
gives f c room (b ∷ bytes) (suc n) left zero sum inside = absurd (omega arith)
gives f c room (b ∷ bytes) (suc n) left (suc total) sum inside =
    let rest : Gives (at room (f total)) bytes n (at room (f left)) = gives f c room bytes n left total (omega arith) (omega arith) in
    record {
      stands = ap (λ (s : Standing). standing_after s bytes) (c.steps room total b) ∙ rest.stands;
      reads = ap (λ (d : List ℕ). d ++ data_in (step (at room (f (suc total))) b) bytes) (c.keeps total b) ∙ ap (λ (s : Standing). b ∷ data_in s bytes) (c.steps room total b) ∙ ap (λ (d : List ℕ). b ∷ d) rest.reads;
      counts = ap (λ (t : Bool). cond t 0 1 + taken_in (step (at room (f (suc total))) b) bytes) (c.owns total) ∙ omega (arith, ap (λ (s : Standing). taken_in s bytes) (c.steps room total b), rest.counts);
    }

-- the first n bytes are taken, where so many bytes of data come next
pub data_gives : (room : Option ℕ) (s : State) (bytes : List ℕ) (n : ℕ) → 0 < left_of s → n ≤ left_of s → n ≤ length bytes → Gives (at room s) bytes n (at room (without_from n s))
data_gives room (state.Data zero) bytes n some within inside = absurd (omega arith)
data_gives room (state.Data (suc left)) bytes n some within inside =
    subst (λ (s : State). Gives (at room s) bytes n (at room (in_data (suc left - n)))) (data_is left) (gives in_data data_counts room bytes n (suc left - n) (suc left) (omega arith) inside)
data_gives room (state.Stated zero) bytes n some within inside = absurd (omega arith)
data_gives room (state.Stated (suc left)) bytes n some within inside =
    subst (λ (s : State). Gives (at room s) bytes n (at room (in_stated (suc left - n)))) (stated_is left) (gives in_stated stated_counts room bytes n (suc left - n) (suc left) (omega arith) inside)
data_gives room other bytes n some within inside = absurd (omega arith)

-- where no byte is the body's own
pub rests : (room : Option ℕ) (s : State) (bytes : List ℕ) → is_over s ≡ true → (standing_after (at room s) bytes ≡ at room s) × (data_in (at room s) bytes ≡ []) × (taken_in (at room s) bytes ≡ 0)
unfolding standing_after data_in taken_in step
rests room s [] over = (refl, refl, refl)
rests room state.Whole (b ∷ bytes) over = let r = rests room state.Whole bytes over in (r.0, r.1, omega (arith, r.2))
rests room state.BadChunk (b ∷ bytes) over = let r = rests room state.BadChunk bytes over in (r.0, r.1, omega (arith, r.2))
rests room state.TooLarge (b ∷ bytes) over = let r = rests room state.TooLarge bytes over in (r.0, r.1, omega (arith, r.2))
rests room other (b ∷ bytes) over = cc
