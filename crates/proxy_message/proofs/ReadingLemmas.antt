-- What bytes are to an answer, part by part.
use Rattle.std.proofs.Common.{◌≡◌, ℕ, ◌+◌, ◌<◌, true, cond, List, [], ◌∷◌, ◌++◌, length, refl, ap, sym, ◌∙◌, append_assoc, arith}
use Rattle.proxy_message.specs.declared.progress.Progress.{Progress}
use Rattle.proxy_message.specs.declared.stage.Stage.{Stage}
use Rattle.proxy_message.specs.declared.stage.Stage.TheVariants as stage
use Rattle.lt_http_body.specs.declared.standing.Standing.{Standing}
use Rattle.lt_http_body.specs.Standings as body
use Rattle.lt_http_body.specs.Reading as within
use Rattle.lt_http_body.proofs.ReadingLemmas.{rests}
use Rattle.proxy_message.specs.Progress.{before, step_from, step, is_over, kept_from, with_stage}
use Rattle.proxy_message.specs.Reading.{progress_after, content_in, taken_in, Passes}

pub after_append : (p : Progress) (bytes more : List ℕ) → progress_after p (bytes ++ more) ≡ progress_after (progress_after p bytes) more
unfolding progress_after
after_append p [] more = refl
after_append p (b ∷ bytes) more = after_append (step p b) bytes more

pub content_append : (p : Progress) (bytes more : List ℕ) → content_in p (bytes ++ more) ≡ content_in p bytes ++ content_in (progress_after p bytes) more
unfolding progress_after content_in
content_append p [] more = refl
content_append p (b ∷ bytes) more =
    ap (λ (d : List ℕ). kept_from p.stage b ++ d) (content_append (step p b) bytes more) ∙ sym (append_assoc (kept_from p.stage b) (content_in (step p b) bytes) (content_in (progress_after (step p b) bytes) more))

pub taken_append : (p : Progress) (bytes more : List ℕ) → taken_in p (bytes ++ more) ≡ taken_in p bytes + taken_in (progress_after p bytes) more
unfolding progress_after taken_in
taken_append p [] more = omega arith
taken_append p (b ∷ bytes) more = omega (arith, taken_append (step p b) bytes more)

-- a body of a stated length, or in the chunked coding, is that of its own definition
pub framed_after : (p : Progress) (s : Standing) (bytes : List ℕ) → progress_after (with_stage p (stage.Framed s)) bytes ≡ with_stage p (stage.Framed (within.standing_after s bytes))
unfolding progress_after within.standing_after step
framed_after p s [] = refl
framed_after p s (b ∷ bytes) = framed_after p (body.step s b) bytes

pub framed_content : (p : Progress) (s : Standing) (bytes : List ℕ) → content_in (with_stage p (stage.Framed s)) bytes ≡ within.data_in s bytes
unfolding content_in within.data_in step
framed_content p s [] = refl
framed_content p s (b ∷ bytes) = ap (λ (d : List ℕ). body.kept_from s.state b ++ d) (framed_content p (body.step s b) bytes)

pub framed_taken : (p : Progress) (s : Standing) (bytes : List ℕ) → taken_in (with_stage p (stage.Framed s)) bytes ≡ within.taken_in s bytes
unfolding taken_in within.taken_in step
framed_taken p s [] = refl
framed_taken p s (b ∷ bytes) = ap (λ (n : ℕ). cond (body.is_over s.state) 0 1 + n) (framed_taken p (body.step s b) bytes)

-- where the answer has ended or is refused, no byte changes it
pub record Rests (p : Progress) (bytes : List ℕ) : Type 0 where
  pub stands : progress_after p bytes ≡ p
  pub none : content_in p bytes ≡ []
  pub no_own : taken_in p bytes ≡ 0

rests_done : (p : Progress) (bytes : List ℕ) → Rests (with_stage p stage.Done) bytes
unfolding progress_after content_in taken_in step
rests_done p [] = record { stands = refl; none = refl; no_own = refl }
rests_done p (b ∷ bytes) = let r = rests_done p bytes in record { stands = r.stands; none = r.none; no_own = omega (arith, r.no_own) }

rests_bad : (p : Progress) (bytes : List ℕ) → Rests (with_stage p stage.BadAnswer) bytes
unfolding progress_after content_in taken_in step
rests_bad p [] = record { stands = refl; none = refl; no_own = refl }
rests_bad p (b ∷ bytes) = let r = rests_bad p bytes in record { stands = r.stands; none = r.none; no_own = omega (arith, r.no_own) }

rests_large : (p : Progress) (bytes : List ℕ) → Rests (with_stage p stage.TooLarge) bytes
unfolding progress_after content_in taken_in step
rests_large p [] = record { stands = refl; none = refl; no_own = refl }
rests_large p (b ∷ bytes) = let r = rests_large p bytes in record { stands = r.stands; none = r.none; no_own = omega (arith, r.no_own) }

rests_at : (p : Progress) (where_to : Stage) (bytes : List ℕ) → is_over where_to ≡ true → Rests (with_stage p where_to) bytes
rests_at p (stage.Head held) bytes over = cc
rests_at p (stage.Framed s) bytes over =
    let r = rests s.room s.state bytes over in
    record {
      stands = framed_after p s bytes ∙ ap (λ (t : Standing). with_stage p (stage.Framed t)) r.0;
      none = framed_content p s bytes ∙ r.1;
      no_own = framed_taken p s bytes ∙ r.2;
    }
rests_at p (stage.ToEnd left) bytes over = cc
rests_at p stage.Done bytes over = rests_done p bytes
rests_at p stage.BadAnswer bytes over = rests_bad p bytes
rests_at p stage.TooLarge bytes over = rests_large p bytes

pub rests_over : (p : Progress) (bytes : List ℕ) → is_over p.stage ≡ true → Rests p bytes
rests_over p bytes over = rests_at p p.stage bytes over

-- ---- at a head, what is known beside it does not count

same_step : (p : Progress) (held : List ℕ) (b : ℕ) → p.stage ≡ stage.Head held → step p b ≡ step (before p.head_only (stage.Head held)) b
unfolding step
same_step p held b at = ap (step_from p b) at

pub head_passes : (p q : Progress) (held bytes : List ℕ) → p.stage ≡ stage.Head held → 0 < length bytes → Passes (before p.head_only (stage.Head held)) bytes q → Passes p bytes q
unfolding progress_after content_in taken_in
head_passes p q held [] at some passes = absurd (omega arith)
head_passes p q held (b ∷ bytes) at some passes = record {
  stands = ap (λ (s : Progress). progress_after s bytes) (same_step p held b at) ∙ passes.stands;
  none = ap (λ (s : Stage). kept_from s b ++ content_in (step p b) bytes) at ∙ ap (λ (s : Progress). content_in s bytes) (same_step p held b at) ∙ passes.none;
  all = ap (λ (s : Stage). cond (is_over s) 0 1 + taken_in (step p b) bytes) at ∙ ap (λ (s : Progress). 1 + taken_in s bytes) (same_step p held b at) ∙ passes.all;
}
