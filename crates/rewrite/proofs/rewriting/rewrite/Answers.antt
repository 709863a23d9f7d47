use Rattle.std.proofs.Common.{◌≡◌, ◌+◌, ◌*◌, refl, sym, ap, ◌∙◌, arith}
use Rattle.rewrite.specs.Rewriting.{Ended, rewritten}
use Rattle.rewrite.specs.Passing.{limit_answer}
use Rattle.rewrite.proofs.Looping.{at_kept, at_bad, at_once, at_repeat, at_end, kept_cost, taken_cost, err_cost, more_cost, new_after, reached_within}
use Rattle.rewrite.proofs.rewriting.rewrite.Goals as goal

pub returns-in-Ok-Kept-clause-answer : goal.returns-in-Ok-Kept-clause-answer
returns-in-Ok-Kept-clause-answer g c = c.answer_after.ensures ∙ sym (ap (λ (e : Ended). e.answer) (at_kept (g.C.Choices.lists c.args.choices.now) c.args.target.now c.loop-passes.passes c.loop-passes.target c.look.new.target c.loop-passes-test.true c.loop-passes.invariant.reached (rw c.in-Ok-Kept.field-0-is at c.in-Ok-Kept.ensures.pass)))

pub returns-in-Ok-Kept-clause-target : goal.returns-in-Ok-Kept-clause-target
returns-in-Ok-Kept-clause-target g c = sym (ap (λ (e : Ended). e.target) (at_kept (g.C.Choices.lists c.args.choices.now) c.args.target.now c.loop-passes.passes c.loop-passes.target c.look.new.target c.loop-passes-test.true c.loop-passes.invariant.reached (rw c.in-Ok-Kept.field-0-is at c.in-Ok-Kept.ensures.pass)))

pub returns-in-Ok-Kept-clause-steps : goal.returns-in-Ok-Kept-clause-steps
returns-in-Ok-Kept-clause-steps g c =
    kept_cost c.look.new.steps c.loop-passes.steps c.args.steps.now (g.C.Choices.asked c.look.new.conds) (g.C.Choices.asked c.loop-passes.conds) (g.C.Choices.asked c.args.conds.now) c.loop-passes.passes (rewritten (g.C.Choices.lists c.args.choices.now) c.args.target.now).passes (g.C.Choices.most c.args.choices.now)
    c.loop-passes.invariant.steps (rw c.in-Ok-Kept.field-0-is at c.in-Ok-Kept.ensures.steps) (ap (λ (e : Ended). e.passes) (at_kept (g.C.Choices.lists c.args.choices.now) c.args.target.now c.loop-passes.passes c.loop-passes.target c.look.new.target c.loop-passes-test.true c.loop-passes.invariant.reached (rw c.in-Ok-Kept.field-0-is at c.in-Ok-Kept.ensures.pass)))

pub returns-in-Ok-Kept-clause-bounded : goal.returns-in-Ok-Kept-clause-bounded
returns-in-Ok-Kept-clause-bounded g c =
    more_cost c.look.new.steps c.args.steps.now (g.C.Choices.asked c.look.new.conds) (g.C.Choices.asked c.args.conds.now) ((rewritten (g.C.Choices.lists c.args.choices.now) c.args.target.now).passes * g.C.Choices.most c.args.choices.now)
    (kept_cost c.look.new.steps c.loop-passes.steps c.args.steps.now (g.C.Choices.asked c.look.new.conds) (g.C.Choices.asked c.loop-passes.conds) (g.C.Choices.asked c.args.conds.now) c.loop-passes.passes (rewritten (g.C.Choices.lists c.args.choices.now) c.args.target.now).passes (g.C.Choices.most c.args.choices.now)
    c.loop-passes.invariant.steps (rw c.in-Ok-Kept.field-0-is at c.in-Ok-Kept.ensures.steps) (ap (λ (e : Ended). e.passes) (at_kept (g.C.Choices.lists c.args.choices.now) c.args.target.now c.loop-passes.passes c.loop-passes.target c.look.new.target c.loop-passes-test.true c.loop-passes.invariant.reached (rw c.in-Ok-Kept.field-0-is at c.in-Ok-Kept.ensures.pass))))

pub returns-in-Ok-Bad-clause-answer : goal.returns-in-Ok-Bad-clause-answer
returns-in-Ok-Bad-clause-answer g c = sym (ap (λ (e : Ended). e.answer) (at_bad (g.C.Choices.lists c.args.choices.now) c.args.target.now c.loop-passes.passes c.loop-passes.target c.look.new.target c.loop-passes-test.true c.loop-passes.invariant.reached (rw c.in-Ok-Bad.field-0-is at c.in-Ok-Bad.ensures.pass)))

pub returns-in-Ok-Bad-clause-target : goal.returns-in-Ok-Bad-clause-target
returns-in-Ok-Bad-clause-target g c = sym (ap (λ (e : Ended). e.target) (at_bad (g.C.Choices.lists c.args.choices.now) c.args.target.now c.loop-passes.passes c.loop-passes.target c.look.new.target c.loop-passes-test.true c.loop-passes.invariant.reached (rw c.in-Ok-Bad.field-0-is at c.in-Ok-Bad.ensures.pass)))

pub returns-in-Ok-Bad-clause-steps : goal.returns-in-Ok-Bad-clause-steps
returns-in-Ok-Bad-clause-steps g c =
    kept_cost c.look.new.steps c.loop-passes.steps c.args.steps.now (g.C.Choices.asked c.look.new.conds) (g.C.Choices.asked c.loop-passes.conds) (g.C.Choices.asked c.args.conds.now) c.loop-passes.passes (rewritten (g.C.Choices.lists c.args.choices.now) c.args.target.now).passes (g.C.Choices.most c.args.choices.now)
    c.loop-passes.invariant.steps (rw c.in-Ok-Bad.field-0-is at c.in-Ok-Bad.ensures.steps) (ap (λ (e : Ended). e.passes) (at_bad (g.C.Choices.lists c.args.choices.now) c.args.target.now c.loop-passes.passes c.loop-passes.target c.look.new.target c.loop-passes-test.true c.loop-passes.invariant.reached (rw c.in-Ok-Bad.field-0-is at c.in-Ok-Bad.ensures.pass)))

pub returns-in-Ok-Bad-clause-bounded : goal.returns-in-Ok-Bad-clause-bounded
returns-in-Ok-Bad-clause-bounded g c =
    more_cost c.look.new.steps c.args.steps.now (g.C.Choices.asked c.look.new.conds) (g.C.Choices.asked c.args.conds.now) ((rewritten (g.C.Choices.lists c.args.choices.now) c.args.target.now).passes * g.C.Choices.most c.args.choices.now)
    (kept_cost c.look.new.steps c.loop-passes.steps c.args.steps.now (g.C.Choices.asked c.look.new.conds) (g.C.Choices.asked c.loop-passes.conds) (g.C.Choices.asked c.args.conds.now) c.loop-passes.passes (rewritten (g.C.Choices.lists c.args.choices.now) c.args.target.now).passes (g.C.Choices.most c.args.choices.now)
    c.loop-passes.invariant.steps (rw c.in-Ok-Bad.field-0-is at c.in-Ok-Bad.ensures.steps) (ap (λ (e : Ended). e.passes) (at_bad (g.C.Choices.lists c.args.choices.now) c.args.target.now c.loop-passes.passes c.loop-passes.target c.look.new.target c.loop-passes-test.true c.loop-passes.invariant.reached (rw c.in-Ok-Bad.field-0-is at c.in-Ok-Bad.ensures.pass))))

pub returns-in-Ok-Once-clause-answer : goal.returns-in-Ok-Once-clause-answer
returns-in-Ok-Once-clause-answer g c = new_after c.loop-passes.passes ∙ sym (ap (λ (e : Ended). e.answer) (at_once (g.C.Choices.lists c.args.choices.now) c.args.target.now c.loop-passes.passes c.loop-passes.target c.look.new.target c.loop-passes-test.true c.loop-passes.invariant.reached (rw c.in-Ok-Once.field-0-is at c.in-Ok-Once.ensures.pass)))

pub returns-in-Ok-Once-clause-target : goal.returns-in-Ok-Once-clause-target
returns-in-Ok-Once-clause-target g c = sym (ap (λ (e : Ended). e.target) (at_once (g.C.Choices.lists c.args.choices.now) c.args.target.now c.loop-passes.passes c.loop-passes.target c.look.new.target c.loop-passes-test.true c.loop-passes.invariant.reached (rw c.in-Ok-Once.field-0-is at c.in-Ok-Once.ensures.pass)))

pub returns-in-Ok-Once-clause-steps : goal.returns-in-Ok-Once-clause-steps
returns-in-Ok-Once-clause-steps g c =
    taken_cost c.look.new.steps c.loop-passes.steps c.args.steps.now (g.C.Choices.asked c.look.new.conds) (g.C.Choices.asked c.loop-passes.conds) (g.C.Choices.asked c.args.conds.now) c.loop-passes.passes (rewritten (g.C.Choices.lists c.args.choices.now) c.args.target.now).passes (g.C.Choices.most c.args.choices.now)
    c.loop-passes.invariant.steps (rw c.in-Ok-Once.field-0-is at c.in-Ok-Once.ensures.steps) (ap (λ (e : Ended). e.passes) (at_once (g.C.Choices.lists c.args.choices.now) c.args.target.now c.loop-passes.passes c.loop-passes.target c.look.new.target c.loop-passes-test.true c.loop-passes.invariant.reached (rw c.in-Ok-Once.field-0-is at c.in-Ok-Once.ensures.pass)))

pub returns-in-Ok-Once-clause-bounded : goal.returns-in-Ok-Once-clause-bounded
returns-in-Ok-Once-clause-bounded g c =
    more_cost c.look.new.steps c.args.steps.now (g.C.Choices.asked c.look.new.conds) (g.C.Choices.asked c.args.conds.now) ((rewritten (g.C.Choices.lists c.args.choices.now) c.args.target.now).passes * g.C.Choices.most c.args.choices.now)
    (taken_cost c.look.new.steps c.loop-passes.steps c.args.steps.now (g.C.Choices.asked c.look.new.conds) (g.C.Choices.asked c.loop-passes.conds) (g.C.Choices.asked c.args.conds.now) c.loop-passes.passes (rewritten (g.C.Choices.lists c.args.choices.now) c.args.target.now).passes (g.C.Choices.most c.args.choices.now)
    c.loop-passes.invariant.steps (rw c.in-Ok-Once.field-0-is at c.in-Ok-Once.ensures.steps) (ap (λ (e : Ended). e.passes) (at_once (g.C.Choices.lists c.args.choices.now) c.args.target.now c.loop-passes.passes c.loop-passes.target c.look.new.target c.loop-passes-test.true c.loop-passes.invariant.reached (rw c.in-Ok-Once.field-0-is at c.in-Ok-Once.ensures.pass))))

pub returns-in-Err-clause-bounded : goal.returns-in-Err-clause-bounded
returns-in-Err-clause-bounded g c =
    err_cost c.look.new.steps c.loop-passes.steps c.args.steps.now (g.C.Choices.asked c.look.new.conds) (g.C.Choices.asked c.loop-passes.conds) (g.C.Choices.asked c.args.conds.now) c.loop-passes.passes (rewritten (g.C.Choices.lists c.args.choices.now) c.args.target.now).passes (g.C.Choices.most c.args.choices.now)
    (reached_within (g.C.Choices.lists c.args.choices.now) c.args.target.now c.loop-passes.passes c.loop-passes.target c.loop-passes.invariant.reached) c.loop-passes.invariant.steps c.in-Err.ensures.err

pub loop-passes-preserved : goal.loop-passes-preserved
loop-passes-preserved g c = record {
  reached = at_repeat (g.C.Choices.lists c.args.choices.now) c.args.target.now c.loop-passes.passes c.loop-passes.target c.look.new.target c.loop-passes-test.true c.loop-passes.invariant.reached (rw c.in-Ok-Repeat.field-0-is at c.in-Ok-Repeat.ensures.pass);
  right = c.look.ensures.right;
  steps = taken_cost c.look.new.steps c.loop-passes.steps c.args.steps.now (g.C.Choices.asked c.look.new.conds) (g.C.Choices.asked c.loop-passes.conds) (g.C.Choices.asked c.args.conds.now) c.loop-passes.passes (c.loop-passes.passes + 1) (g.C.Choices.most c.args.choices.now)
      c.loop-passes.invariant.steps (rw c.in-Ok-Repeat.field-0-is at c.in-Ok-Repeat.ensures.steps) refl;
  matchers = c.look.ensures.matchers ∙ c.loop-passes.invariant.matchers;
}

pub returns-clause-answer : goal.returns-clause-answer
returns-clause-answer g c = c.at_limit.ensures ∙ ap limit_answer c.in_ok-last.ensures.next ∙ sym (ap (λ (e : Ended). e.answer) (at_end (g.C.Choices.lists c.args.choices.now) c.args.target.now c.loop-passes.passes c.loop-passes.target c.loop-passes-test.false c.loop-passes.invariant.reached))

pub returns-clause-target : goal.returns-clause-target
returns-clause-target g c = sym (ap (λ (e : Ended). e.target) (at_end (g.C.Choices.lists c.args.choices.now) c.args.target.now c.loop-passes.passes c.loop-passes.target c.loop-passes-test.false c.loop-passes.invariant.reached))

pub returns-clause-steps : goal.returns-clause-steps
returns-clause-steps g c =
    let hundred : 100 ≡ c.loop-passes.passes = let most = c.loop-passes.invariant.reached.within in omega (arith, most, c.loop-passes-test.false) in
    let total = ap (λ (e : Ended). e.passes) (at_end (g.C.Choices.lists c.args.choices.now) c.args.target.now c.loop-passes.passes c.loop-passes.target c.loop-passes-test.false c.loop-passes.invariant.reached) in
    let one = c.in_ok-last.ensures.steps in
    kept_cost c.next.new.steps c.loop-passes.steps c.args.steps.now (g.C.Choices.asked c.next.new.conds) (g.C.Choices.asked c.loop-passes.conds) (g.C.Choices.asked c.args.conds.now)
    c.loop-passes.passes (rewritten (g.C.Choices.lists c.args.choices.now) c.args.target.now).passes (g.C.Choices.most c.args.choices.now)
    c.loop-passes.invariant.steps (omega (arith, one)) (total ∙ hundred)

pub returns-clause-bounded : goal.returns-clause-bounded
returns-clause-bounded g c =
    let hundred : 100 ≡ c.loop-passes.passes = let most = c.loop-passes.invariant.reached.within in omega (arith, most, c.loop-passes-test.false) in
    let total = ap (λ (e : Ended). e.passes) (at_end (g.C.Choices.lists c.args.choices.now) c.args.target.now c.loop-passes.passes c.loop-passes.target c.loop-passes-test.false c.loop-passes.invariant.reached) in
    let one = c.in_ok-last.ensures.steps in
    more_cost c.next.new.steps c.args.steps.now (g.C.Choices.asked c.next.new.conds) (g.C.Choices.asked c.args.conds.now) ((rewritten (g.C.Choices.lists c.args.choices.now) c.args.target.now).passes * g.C.Choices.most c.args.choices.now)
    (kept_cost c.next.new.steps c.loop-passes.steps c.args.steps.now (g.C.Choices.asked c.next.new.conds) (g.C.Choices.asked c.loop-passes.conds) (g.C.Choices.asked c.args.conds.now)
    c.loop-passes.passes (rewritten (g.C.Choices.lists c.args.choices.now) c.args.target.now).passes (g.C.Choices.most c.args.choices.now)
    c.loop-passes.invariant.steps (omega (arith, one)) (total ∙ hundred))

pub returns-in_err-last-clause-bounded : goal.returns-in_err-last-clause-bounded
returns-in_err-last-clause-bounded g c =
    err_cost c.next.new.steps c.loop-passes.steps c.args.steps.now (g.C.Choices.asked c.next.new.conds) (g.C.Choices.asked c.loop-passes.conds) (g.C.Choices.asked c.args.conds.now) c.loop-passes.passes (rewritten (g.C.Choices.lists c.args.choices.now) c.args.target.now).passes (g.C.Choices.most c.args.choices.now)
    (reached_within (g.C.Choices.lists c.args.choices.now) c.args.target.now c.loop-passes.passes c.loop-passes.target c.loop-passes.invariant.reached) c.loop-passes.invariant.steps c.next.ensures.bounded
