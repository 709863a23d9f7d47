use Rattle.std.proofs.Common.{◌≡◌, ◌<◌, ◌+◌, ℕ, suc, List, length, slice_get, Some, option_and_then, sym, ◌∙◌, ap, subst, arith}
use Rattle.std.proofs.lemmas.Option.{slice_get_within}
use Rattle.conditions.specs.Attributes.{attributes_of}
use Rattle.cond_cache.specs.declared.place.Place.{Place}
use Rattle.cond_cache.specs.declared.place.Place.TheVariants.{Unasked, Given}
use Rattle.cond_cache.specs.Truths.{standings}
use Rattle.cond_cache.specs.Kept.{Comes, asked, kept, truth_in}
use Rattle.cond_cache.proofs.Lists.{there, put_there}
use Rattle.cond_cache.proofs.Places.{above_branch, above_parent, above_global, asked_more, higher, not_kept, put, still}
use Rattle.cond_cache.proofs.finding.+find.Goals as goal

pub find-returns-in-Ok-Some-clause-comes : goal.find-returns-in-Ok-Some-clause-comes
find-returns-in-Ok-Some-clause-comes g t c =
    let blocks = c.args.config.now.blocks in
    let a = attributes_of c.args.attrs.now in
    let n = c.args.block in
    let old = c.args.places.now in
    let unasked : slice_get old n ≡ Some Unasked = not_kept old n (subst (λ (m : ℕ). n < m) (sym c.requires.right.many) c.requires.block) (sym c.kept.ensures ∙ c.in_default.is) in
    subst (Comes (suc n) blocks a old) (sym c.replace.ensures.rest)
    (put blocks a n old c.find_above.new.places c.in-Ok-Some.ensures.comes unasked (Given c.in-Ok-Some.truth) (λ b s e f. c.in-Ok-Some.ensures.above s f ∙ c.in-Ok-Some.field-0-is))

pub find-returns-in-Ok-Some-clause-found : goal.find-returns-in-Ok-Some-clause-found
find-returns-in-Ok-Some-clause-found g t c =
    let n = c.args.block in
    let old = c.args.places.now in
    let mid = c.find_above.new.places in
    let unasked : slice_get old n ≡ Some Unasked = not_kept old n (subst (λ (m : ℕ). n < m) (sym c.requires.right.many) c.requires.block) (sym c.kept.ensures ∙ c.in_default.is) in
    let within = slice_get_within mid n Unasked (still c.args.config.now.blocks (attributes_of c.args.attrs.now) n old mid c.in-Ok-Some.ensures.comes unasked) in
    ap (λ (l : List Place). kept l n) c.replace.ensures.rest ∙ ap (option_and_then truth_in) (put_there mid n (Given c.in-Ok-Some.truth) within)

pub find-returns-in-Ok-Some-clause-counts : goal.find-returns-in-Ok-Some-clause-counts
find-returns-in-Ok-Some-clause-counts g t c =
    let n = c.args.block in
    let old = c.args.places.now in
    let mid = c.find_above.new.places in
    let unasked : slice_get old n ≡ Some Unasked = not_kept old n (subst (λ (m : ℕ). n < m) (sym c.requires.right.many) c.requires.block) (sym c.kept.ensures ∙ c.in_default.is) in
    let more : length (asked c.replace.new.self) ≡ length (asked mid) + 0 =
    ap (λ (l : List Place). length (asked l)) c.replace.ensures.rest
    ∙ asked_more 0 n mid (Given c.in-Ok-Some.truth) (still c.args.config.now.blocks (attributes_of c.args.attrs.now) n old mid c.in-Ok-Some.ensures.comes unasked) in
    omega (arith, more, c.in-Ok-Some.ensures.counts)

pub find_above-returns-in-Ok-clause-comes : goal.find_above-returns-in-Ok-clause-comes
find_above-returns-in-Ok-clause-comes g t c =
    higher c.args.config.now.blocks (attributes_of c.args.attrs.now) c.args.block (suc c.in-Some.before) c.args.places.now c.find.new.places (omega (arith, c.in-Some.ensures.lower)) c.in-Ok.ensures.comes

pub find_above-returns-in-Err-clause-comes : goal.find_above-returns-in-Err-clause-comes
find_above-returns-in-Err-clause-comes g t c =
    higher c.args.config.now.blocks (attributes_of c.args.attrs.now) c.args.block (suc c.in-Some.before) c.args.places.now c.find.new.places (omega (arith, c.in-Some.ensures.lower)) c.in-Err.ensures.comes

pub find_above-returns-in-Ok-clause-above : goal.find_above-returns-in-Ok-clause-above
find_above-returns-in-Ok-clause-above g t c s at =
    let config = c.args.config.now in
    let b = there config.blocks c.args.block c.requires.block in
    above_branch (attributes_of c.args.attrs.now) config c.requires.form c.find.new.places c.in-Ok.ensures.comes.right c.args.block c.in-Some.before c.in-Ok.field-0 b.item b.is
    (sym (c.branch_before.ensures.before b.item b.is) ∙ c.in-Some.is) c.in-Ok.ensures.found s at ∙ sym c.left_at.ensures

pub find_above-returns-then-block-eq0-clause-above : goal.find_above-returns-then-block-eq0-clause-above
find_above-returns-then-block-eq0-clause-above g t c s at =
    above_global (attributes_of c.args.attrs.now) c.args.config.now c.requires.form s (ap (slice_get (standings c.args.config.now.blocks (attributes_of c.args.attrs.now))) (sym c.if-block-eq0.true) ∙ at)

pub find_above-returns-in-Ok-find-clause-comes : goal.find_above-returns-in-Ok-find-clause-comes
find_above-returns-in-Ok-find-clause-comes g t c =
    higher c.args.config.now.blocks (attributes_of c.args.attrs.now) c.args.block (suc c.parent_of-around.result) c.args.places.now c.find-2.new.places (omega (arith, c.parent_of-around.ensures.lower)) c.in-Ok-find.ensures.comes

pub find_above-returns-in-Err-find-clause-comes : goal.find_above-returns-in-Err-find-clause-comes
find_above-returns-in-Err-find-clause-comes g t c =
    higher c.args.config.now.blocks (attributes_of c.args.attrs.now) c.args.block (suc c.parent_of-around.result) c.args.places.now c.find-2.new.places (omega (arith, c.parent_of-around.ensures.lower)) c.in-Err-find.ensures.comes

pub find_above-returns-in-Ok-find-clause-above : goal.find_above-returns-in-Ok-find-clause-above
find_above-returns-in-Ok-find-clause-above g t c s at =
    let config = c.args.config.now in
    let b = there config.blocks c.args.block c.requires.block in
    let parent = c.parent_of-around.ensures.parent b.item b.is in
    above_parent (attributes_of c.args.attrs.now) config c.requires.form c.find-2.new.places c.in-Ok-find.ensures.comes.right c.args.block c.in-Ok-find.parent b.item b.is
    (sym (c.branch_before.ensures.before b.item b.is) ∙ c.in_default.is) (omega (arith, c.requires.block, c.parent_of-around.ensures.lower, parent))
    (ap (kept c.find-2.new.places) (sym parent) ∙ c.in-Ok-find.ensures.found) s at ∙ sym c.left_to_inner.ensures
