-- A rewriting pass by pass.
use Rattle.std.proofs.Common.{◌≡◌, ℕ, suc, ◌+◌, ◌-◌, ◌*◌, ◌<◌, ◌≤◌, Option, Some, None, refl, sym, ◌∙◌, ap, arith, add-one}
use Rattle.std.proofs.Math.Nat.{mul-le-mul_right, suc-mul}
use Rattle.http_target.specs.declared.read.Target.{Target}
use Rattle.rewrite.specs.declared.next.Next.{Next}
use Rattle.rewrite.specs.declared.next.Next.TheVariants as next
use Rattle.rewrite.specs.declared.rewriting.Pass.{Pass}
use Rattle.rewrite.specs.declared.rewriting.Pass.TheVariants as pass
use Rattle.rewrite.specs.declared.rewriting.Rewritten.TheVariants as answer
use Rattle.rewrite.specs.Rules.{Lists}
use Rattle.rewrite.specs.Rewriting.{next_of, new_target, Ended, answer_after, kept, taken, after, at_limit, from, rewritten}
use Rattle.rewrite.specs.Passing.{pass_by, pass_with, limit_answer}
use Rattle.rewrite.proofs.EndLaws.{passes_from}

-- one pass of the definition, while a new target may be taken
step : (lists : Target → Lists) (passes : ℕ) (target : Target) → passes < 100
    → from lists (100 - passes) passes target ≡ after passes target (next_of (lists target) target.raw) (λ new. from lists (100 - (passes + 1)) (passes + 1) new)
unfolding from
step lists passes target lt =
    let e : 100 - passes ≡ suc (100 - (passes + 1)) = omega arith in
    ap (λ (left : ℕ). from lists left passes target) e

-- so many passes were taken, and the target is this one now
pub record Reached (lists : Target → Lists) (start : Target) (passes : ℕ) (target : Target) : Type 0 where
  pub within : passes ≤ 100
  pub same : from lists 100 0 start ≡ from lists (100 - passes) passes target

pub begun : (lists : Target → Lists) (start : Target) → Reached lists start 0 start
begun lists start = record { within = omega arith; same = refl }

now : (lists : Target → Lists) (start : Target) (passes : ℕ) (target : Target) → passes < 100 → Reached lists start passes target
    → rewritten lists start ≡ after passes target (next_of (lists target) target.raw) (λ new. from lists (100 - (passes + 1)) (passes + 1) new)
unfolding rewritten
now lists start passes target lt reached = reached.same ∙ step lists passes target lt

-- what one look came to, whatever follows
other : (p q : Pass) (t u : Target) → ◌≡◌ {A = Pass × Target} (p, t) (q, u) → p ≡ q
other p q t u e = ap (λ (x : Pass × Target). x.0) e

same_target : (p q : Pass) (t u : Target) → ◌≡◌ {A = Pass × Target} (p, t) (q, u) → u ≡ t
same_target p q t u e = sym (ap (λ (x : Pass × Target). x.1) e)

kept_not : (q : Pass) (new target : Target) (t : Option Target) → (pass.Kept ≡ q → ⊥) → (pass.Kept, new) ≡ pass_with q t target → ⊥
kept_not q new target None no_kept f = absurd (cc (other pass.Kept pass.Bad new target f))
kept_not q new target (Some u) no_kept f = no_kept (other pass.Kept q new u f)

is_kept : (passes : ℕ) (target new : Target) (n : Next) (more : Target → Ended) → (pass.Kept, new) ≡ pass_by n target → after passes target n more ≡ kept passes new
is_kept passes target new next.Kept more f = ap (kept passes) (same_target pass.Kept pass.Kept new target f)
is_kept passes target new (next.Once text) more f = absurd (kept_not pass.Once new target (new_target text) (λ e. cc e) f)
is_kept passes target new (next.Repeat text) more f = absurd (kept_not pass.Repeat new target (new_target text) (λ e. cc e) f)

bad_with : (q : Pass) (passes : ℕ) (target new : Target) (t : Option Target) (more : Target → Ended) → (pass.Bad ≡ q → ⊥) → (pass.Bad, new) ≡ pass_with q t target
    → taken passes target t more ≡ record { answer = answer.Bad; target = new; passes = passes }
bad_with q passes target new None more no_bad f = ap (λ (t : Target). record { answer = answer.Bad; target = t; passes = passes }) (same_target pass.Bad pass.Bad new target f)
bad_with q passes target new (Some u) more no_bad f = absurd (no_bad (other pass.Bad q new u f))

is_bad : (passes : ℕ) (target new : Target) (n : Next) (more : Target → Ended) → (pass.Bad, new) ≡ pass_by n target → after passes target n more ≡ record { answer = answer.Bad; target = new; passes = passes }
is_bad passes target new next.Kept more f = absurd (cc (other pass.Bad pass.Kept new target f))
is_bad passes target new (next.Once text) more f = bad_with pass.Once passes target new (new_target text) (kept (passes + 1)) (λ e. cc e) f
is_bad passes target new (next.Repeat text) more f = bad_with pass.Repeat passes target new (new_target text) more (λ e. cc e) f

-- a new target that was taken goes on as it must
good_with : (q : Pass) (passes : ℕ) (target new : Target) (t : Option Target) (more : Target → Ended) → (q ≡ pass.Bad → ⊥) → (q, new) ≡ pass_with q t target → taken passes target t more ≡ more new
good_with q passes target new None more no_bad f = absurd (no_bad (other q pass.Bad new target f))
good_with q passes target new (Some u) more no_bad f = ap more (same_target q q new u f)

other_with : (p q : Pass) (target new : Target) (t : Option Target) → (p ≡ pass.Bad → ⊥) → (p ≡ q → ⊥) → (p, new) ≡ pass_with q t target → ⊥
other_with p q target new None no_bad no_q f = no_bad (other p pass.Bad new target f)
other_with p q target new (Some u) no_bad no_q f = no_q (other p q new u f)

is_once : (passes : ℕ) (target new : Target) (n : Next) (more : Target → Ended) → (pass.Once, new) ≡ pass_by n target → after passes target n more ≡ kept (passes + 1) new
is_once passes target new next.Kept more f = absurd (cc (other pass.Once pass.Kept new target f))
is_once passes target new (next.Once text) more f = good_with pass.Once passes target new (new_target text) (kept (passes + 1)) (λ e. cc e) f
is_once passes target new (next.Repeat text) more f = absurd (other_with pass.Once pass.Repeat target new (new_target text) (λ e. cc e) (λ e. cc e) f)

is_repeat : (passes : ℕ) (target new : Target) (n : Next) (more : Target → Ended) → (pass.Repeat, new) ≡ pass_by n target → after passes target n more ≡ more new
is_repeat passes target new next.Kept more f = absurd (cc (other pass.Repeat pass.Kept new target f))
is_repeat passes target new (next.Once text) more f = absurd (other_with pass.Repeat pass.Once target new (new_target text) (λ e. cc e) (λ e. cc e) f)
is_repeat passes target new (next.Repeat text) more f = good_with pass.Repeat passes target new (new_target text) more (λ e. cc e) f

pub at_kept : (lists : Target → Lists) (start : Target) (passes : ℕ) (target new : Target) → passes < 100 → Reached lists start passes target
    → (pass.Kept, new) ≡ pass_by (next_of (lists target) target.raw) target → rewritten lists start ≡ kept passes new
at_kept lists start passes target new lt reached e =
    now lists start passes target lt reached ∙ is_kept passes target new (next_of (lists target) target.raw) (λ new. from lists (100 - (passes + 1)) (passes + 1) new) e

pub at_bad : (lists : Target → Lists) (start : Target) (passes : ℕ) (target new : Target) → passes < 100 → Reached lists start passes target
    → (pass.Bad, new) ≡ pass_by (next_of (lists target) target.raw) target → rewritten lists start ≡ record { answer = answer.Bad; target = new; passes = passes }
at_bad lists start passes target new lt reached e =
    now lists start passes target lt reached ∙ is_bad passes target new (next_of (lists target) target.raw) (λ new. from lists (100 - (passes + 1)) (passes + 1) new) e

pub at_once : (lists : Target → Lists) (start : Target) (passes : ℕ) (target new : Target) → passes < 100 → Reached lists start passes target
    → (pass.Once, new) ≡ pass_by (next_of (lists target) target.raw) target → rewritten lists start ≡ kept (passes + 1) new
at_once lists start passes target new lt reached e =
    now lists start passes target lt reached ∙ is_once passes target new (next_of (lists target) target.raw) (λ new. from lists (100 - (passes + 1)) (passes + 1) new) e

pub at_repeat : (lists : Target → Lists) (start : Target) (passes : ℕ) (target new : Target) → passes < 100 → Reached lists start passes target
    → (pass.Repeat, new) ≡ pass_by (next_of (lists target) target.raw) target → Reached lists start (passes + 1) new
at_repeat lists start passes target new lt reached e = record {
  within = omega (arith, lt);
  same = reached.same ∙ step lists passes target lt ∙ is_repeat passes target new (next_of (lists target) target.raw) (λ new. from lists (100 - (passes + 1)) (passes + 1) new) e;
}

-- the last look, where no new target may be taken any more
pub at_end : (lists : Target → Lists) (start : Target) (passes : ℕ) (target : Target) → 100 ≤ passes → Reached lists start passes target
    → rewritten lists start ≡ record { answer = limit_answer (next_of (lists target) target.raw); target = target; passes = 100 }
unfolding rewritten from
at_end lists start passes target le reached =
    let hundred : passes ≡ 100 = omega (arith, reached.within, le) in
    reached.same ∙ ap (λ (n : ℕ). from lists (100 - n) n target) hundred ∙ by (next_of (lists target) target.raw)
  where
    by : (n : Next) → at_limit 100 target n ≡ record { answer = limit_answer n; target = target; passes = 100 }
    by next.Kept = refl
    by (next.Once text) = refl
    by (next.Repeat text) = refl

-- what was taken so far is no more than is taken in all
pub reached_within : (lists : Target → Lists) (start : Target) (passes : ℕ) (target : Target) → Reached lists start passes target → passes ≤ (rewritten lists start).passes
unfolding rewritten
reached_within lists start passes target reached =
    let so_far = passes_from lists (100 - passes) passes target in
    let all = ap (λ (e : Ended). e.passes) reached.same in
    omega (arith, so_far, all)

-- ---- comparisons

-- a look more, after which what was asked still counts
pub kept_cost : (new mid old asked_new asked_mid asked_old passes total most : ℕ) → mid + asked_old ≤ old + passes * most + asked_mid → new + asked_mid ≤ mid + 0 + asked_new → total ≡ passes
    → new + asked_old ≤ old + total * most + asked_new
kept_cost new mid old asked_new asked_mid asked_old passes total most before one same =
    let times : total * most ≡ passes * most = ap (λ (n : ℕ). n * most) same in
    omega (arith, before, one, times)

-- a look more, after which nothing counts any more
pub taken_cost : (new mid old asked_new asked_mid asked_old passes total most : ℕ) → mid + asked_old ≤ old + passes * most + asked_mid → new + asked_mid ≤ mid + most + asked_new → total ≡ passes + 1
    → new + asked_old ≤ old + total * most + asked_new
taken_cost new mid old asked_new asked_mid asked_old passes total most before one same =
    let times : total * most ≡ passes * most + most = ap (λ (n : ℕ). n * most) (same ∙ add-one passes) ∙ suc-mul passes most in
    omega (arith, before, one, times)

-- a look that found no memory
pub err_cost : (new mid old asked_new asked_mid asked_old passes total most : ℕ) → passes ≤ total → mid + asked_old ≤ old + passes * most + asked_mid → new + asked_mid ≤ mid + asked_new + 1
    → new + asked_old ≤ old + total * most + asked_new + 1
err_cost new mid old asked_new asked_mid asked_old passes total most few before one =
    let times : passes * most ≤ total * most = mul-le-mul_right most few in
    omega (arith, before, one, times)

pub more_cost : (new old asked_new asked_old spent : ℕ) → new + asked_old ≤ old + spent + asked_new → new + asked_old ≤ old + spent + asked_new + 1
more_cost new old asked_new asked_old spent all = omega (arith, all)

pub new_after : (passes : ℕ) → answer.New ≡ answer_after (passes + 1)
new_after passes = ap answer_after (sym (add-one passes))
