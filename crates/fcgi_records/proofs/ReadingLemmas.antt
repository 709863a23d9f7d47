-- What bytes say, part by part.
use Rattle.std.proofs.Common.{◌≡◌, zero, suc, ℕ, ◌+◌, ◌-◌, ◌<◌, ◌≤◌, ◌==◌, Bool, true, false, cond, List, [], ◌∷◌, ◌++◌, length, take, drop, get_or, refl, ap, sym, subst, ◌∙◌, append_assoc, append-nil, length-append, arith}
use Rattle.std.proofs.lemmas.List.{take_more}
use Rattle.std.proofs.lemmas.Bool.{false≢true}
use Rattle.std.proofs.lemmas.Bool.Decides.{nat_tests}
use Rattle.fcgi_records.specs.declared.state.State.{State}
use Rattle.fcgi_records.specs.declared.state.State.TheVariants as state
use Rattle.fcgi_records.specs.States.{step, is_broken, is_framing, left_of, kept_from, without_from, in_padding, in_stdout}
use Rattle.fcgi_records.specs.Reading.{state_after, stdout_in, taken_in, Passes}

pub after_append : (s : State) (bytes more : List ℕ) → state_after s (bytes ++ more) ≡ state_after (state_after s bytes) more
unfolding state_after
after_append s [] more = refl
after_append s (b ∷ bytes) more = after_append (step s b) bytes more

pub stdout_append : (s : State) (bytes more : List ℕ) → stdout_in s (bytes ++ more) ≡ stdout_in s bytes ++ stdout_in (state_after s bytes) more
unfolding state_after stdout_in
stdout_append s [] more = refl
stdout_append s (b ∷ bytes) more =
    ap (λ (d : List ℕ). kept_from s b ++ d) (stdout_append (step s b) bytes more) ∙ sym (append_assoc (kept_from s b) (stdout_in (step s b) bytes) (stdout_in (state_after (step s b) bytes) more))

pub taken_append : (s : State) (bytes more : List ℕ) → taken_in s (bytes ++ more) ≡ taken_in s bytes + taken_in (state_after s bytes) more
unfolding state_after taken_in
taken_append s [] more = omega arith
taken_append s (b ∷ bytes) more = omega (arith, taken_append (step s b) bytes more)

-- a byte of framing is read, and is none of STDOUT
pub framing_keeps : (s : State) (b : ℕ) → is_framing s ≡ true → kept_from s b ≡ []
framing_keeps (state.Stdout left padding) b e = cc
framing_keeps (state.Broken why) b e = cc
framing_keeps other b e = refl

pub framing_owns : (s : State) → is_framing s ≡ true → is_broken s ≡ false
framing_owns (state.Stdout left padding) e = cc
framing_owns (state.Broken why) e = cc
framing_owns other e = refl

pub one_passes : (s : State) (b : ℕ) → is_framing s ≡ true → Passes s (b ∷ []) (step s b)
unfolding state_after stdout_in taken_in
one_passes s b line = record {
  stands = refl;
  none = append-nil (kept_from s b) ∙ framing_keeps s b line;
  all = ap (λ (t : Bool). cond t 0 1 + 0) (framing_owns s line);
}

pub passes_more : (s t u : State) (bytes more : List ℕ) → Passes s bytes t → Passes t more u → Passes s (bytes ++ more) u
passes_more s t u bytes more p q = record {
  stands = after_append s bytes more ∙ ap (λ (x : State). state_after x more) p.stands ∙ q.stands;
  none = stdout_append s bytes more ∙ ap (λ (d : List ℕ). d ++ stdout_in (state_after s bytes) more) p.none ∙ ap (λ (x : State). stdout_in x more) p.stands ∙ q.none;
  all = omega (arith, taken_append s bytes more, p.all, ap (λ (x : State). taken_in x more) p.stands, q.all, length-append bytes more);
}

pub passes_nothing : (s : State) (bytes : List ℕ) → Passes s (take 0 bytes) s
unfolding state_after stdout_in taken_in
passes_nothing s bytes = record { stands = refl; none = refl; all = refl }

pub passes_turn : (s t : State) (bytes : List ℕ) (i b : ℕ) → Passes s (take i bytes) t → is_framing t ≡ true → i < length bytes → get_or bytes i 0 ≡ b → Passes s (take (i + 1) bytes) (step t b)
passes_turn s t bytes i b p line inside is =
    let whole : take (i + 1) bytes ≡ take i bytes ++ b ∷ [] = take_more bytes i 0 inside ∙ ap (λ (x : ℕ). take i bytes ++ x ∷ []) is in
    subst (λ (l : List ℕ). Passes s l (step t b)) (sym whole) (passes_more s t (step t b) (take i bytes) (b ∷ []) p (one_passes t b line))

-- the first n bytes are of STDOUT, behind which the stream stands there
pub record Gives (s : State) (bytes : List ℕ) (n : ℕ) (behind : State) : Type 0 where
  pub stands : state_after s bytes ≡ state_after behind (drop n bytes)
  pub reads : stdout_in s bytes ≡ take n bytes ++ stdout_in behind (drop n bytes)
  pub counts : taken_in s bytes ≡ n + taken_in behind (drop n bytes)

one_less : (n : ℕ) → suc n - 1 ≡ n
one_less n = omega arith

pub one_is_some : (n : ℕ) → (suc n == 0) ≡ false
one_is_some n = grind (arith, nat_tests)

stdout_is : (n padding : ℕ) → in_stdout (suc n) padding ≡ state.Stdout (suc n) padding
stdout_is n padding = ap (λ (t : Bool). cond t (in_padding padding) (state.Stdout (suc n) padding)) (one_is_some n)

stdout_steps : (padding n b : ℕ) → step (in_stdout (suc n) padding) b ≡ in_stdout n padding
unfolding step
stdout_steps padding n b = ap (λ (s : State). step s b) (stdout_is n padding) ∙ ap (λ (m : ℕ). in_stdout m padding) (one_less n)

stdout_keeps : (padding n b : ℕ) → kept_from (in_stdout (suc n) padding) b ≡ b ∷ []
stdout_keeps padding n b = ap (λ (s : State). kept_from s b) (stdout_is n padding)

stdout_owns : (padding n : ℕ) → is_broken (in_stdout (suc n) padding) ≡ false
stdout_owns padding n = ap is_broken (stdout_is n padding)

pub gives : (padding : ℕ) (bytes : List ℕ) (n left total : ℕ) → n + left ≡ total → n ≤ length bytes → Gives (in_stdout total padding) bytes n (in_stdout left padding)
unfolding state_after stdout_in taken_in
gives padding bytes zero left total sum inside =
    let same : left ≡ total = omega (arith, sum) in
    subst (λ (x : ℕ). Gives (in_stdout x padding) bytes 0 (in_stdout left padding)) same (record { stands = refl; reads = refl; counts = omega arith })
gives padding [] (suc n) left total sum inside = absurd (omega arith)
gives padding (b ∷ bytes) (suc n) left zero sum inside = absurd (omega arith)
gives padding (b ∷ bytes) (suc n) left (suc total) sum inside =
    let rest : Gives (in_stdout total padding) bytes n (in_stdout left padding) = gives padding bytes n left total (omega arith) (omega arith) in
    record {
      stands = ap (λ (s : State). state_after s bytes) (stdout_steps padding total b) ∙ rest.stands;
      reads = ap (λ (d : List ℕ). d ++ stdout_in (step (in_stdout (suc total) padding) b) bytes) (stdout_keeps padding total b) ∙ ap (λ (s : State). b ∷ stdout_in s bytes) (stdout_steps padding total b) ∙ ap (λ (d : List ℕ). b ∷ d) rest.reads;
      counts = ap (λ (t : Bool). cond t 0 1 + taken_in (step (in_stdout (suc total) padding) b) bytes) (stdout_owns padding total) ∙ omega (arith, ap (λ (s : State). taken_in s bytes) (stdout_steps padding total b), rest.counts);
    }

-- the first n bytes are taken, where so many bytes of STDOUT come next
pub content_gives : (s : State) (bytes : List ℕ) (n : ℕ) → 0 < left_of s → n ≤ left_of s → n ≤ length bytes → Gives s bytes n (without_from n s)
content_gives (state.Stdout zero padding) bytes n some within inside = absurd (omega arith)
content_gives (state.Stdout (suc left) padding) bytes n some within inside =
    subst (λ (s : State). Gives s bytes n (in_stdout (suc left - n) padding)) (stdout_is left padding) (gives padding bytes n (suc left - n) (suc left) (omega arith) inside)
content_gives other bytes n some within inside = absurd (omega arith)

-- where no byte is read
pub rests : (s : State) (bytes : List ℕ) → is_broken s ≡ true → (state_after s bytes ≡ s) × (stdout_in s bytes ≡ []) × (taken_in s bytes ≡ 0)
unfolding state_after stdout_in taken_in step
rests s [] broken = (refl, refl, refl)
rests (state.Broken why) (b ∷ bytes) broken = let r = rests (state.Broken why) bytes broken in (r.0, r.1, omega (arith, r.2))
rests other (b ∷ bytes) broken = cc

pub broken_cases : (s : State) (P : Type 0) → (is_broken s ≡ true → P) → (is_broken s ≡ false → P) → P
broken_cases s P one two = by (is_broken s) refl
  where
    by : (t : Bool) → is_broken s ≡ t → P
    by true e = one e
    by false e = two e

-- all bytes are read where nothing is refused
pub own_all : (s : State) (bytes : List ℕ) → is_broken (state_after s bytes) ≡ false → taken_in s bytes ≡ length bytes
unfolding state_after taken_in
own_all s [] going = refl
own_all s (b ∷ bytes) going = broken_cases s (cond (is_broken s) 0 1 + taken_in (step s b) bytes ≡ suc (length bytes))
    (λ broken. absurd (false≢true (sym going ∙ over s broken (rests s (b ∷ bytes) broken).0)))
    (λ open_is. ap (λ (x : Bool). cond x 0 1 + taken_in (step s b) bytes) open_is ∙ omega (arith, own_all (step s b) bytes going))
  where
    over : (s : State) → is_broken s ≡ true → state_after s (b ∷ bytes) ≡ s → is_broken (state_after s (b ∷ bytes)) ≡ true
    over s broken stays = ap is_broken stays ∙ broken
