use Rattle.std.proofs.Common.{◌≡◌, ◌+◌, suc, Bool, List, length, slice_get, Some, refl, sym, ◌∙◌, ap, subst, arith, get_or}
use Rattle.std.proofs.lemmas.Option.{slice_get_read, same_Some}
use Rattle.conf_value.specs.declared.block.Block.{Block}
use Rattle.conditions.specs.Attributes.{attributes_of}
use Rattle.cond_cache.specs.declared.place.Place.{Place}
use Rattle.cond_cache.specs.declared.place.Place.TheVariants.{Bare, Compared}
use Rattle.cond_cache.specs.Kept.{Comes, asked, groups_by}
use Rattle.cond_cache.proofs.Places.{asked_more, compared_right, put, unchanged}
use Rattle.cond_cache.proofs.finding.find_itself.Goals as goal

pub returns-in_default-clause-counts : goal.returns-in_default-clause-counts
returns-in_default-clause-counts g c =
    let more : length (asked c.replace.new.self) ≡ length (asked c.args.places.now) + 0 =
    ap (λ (l : List Place). length (asked l)) c.replace.ensures.rest ∙ asked_more 0 c.args.block c.args.places.now Bare c.requires.unasked in
    omega (arith, more)

pub compare-requires : goal.compare-requires
compare-requires g c =
    let inner = c.index-as_slice-block.result in
    let blocks = c.args.config.now.blocks in
    let is : slice_get blocks c.args.block ≡ Some inner =
    slice_get_read blocks (length blocks) c.args.block inner refl c.requires.block (c.index-as_slice-block.is ∙ ap (λ (l : List Block). get_or l c.args.block inner) c.as_slice.ensures) in
    record { pattern = c.requires.patterns c.args.block inner c.in-Some.condition is c.in-Some.is }

pub returns-in-Ok-clause-comes : goal.returns-in-Ok-clause-comes
returns-in-Ok-clause-comes g c =
    let inner = c.index-as_slice-block.result in
    let blocks = c.args.config.now.blocks in
    let a = attributes_of c.args.attrs.now in
    let old = c.args.places.now in
    let is : slice_get blocks c.args.block ≡ Some inner =
    slice_get_read blocks (length blocks) c.args.block inner refl c.requires.block (c.index-as_slice-block.is ∙ ap (λ (l : List Block). get_or l c.args.block inner) c.as_slice.ensures) in
    subst (Comes (suc c.args.block) blocks a old) (sym c.replace-in-Ok.ensures.rest)
    (put blocks a c.args.block old old (unchanged blocks a c.args.block old c.requires.right) c.requires.unasked (Compared c.in-Ok.truth c.compare.new.groups)
    (λ b s e f. compared_right a inner c.in-Some.condition c.in-Ok.truth c.compare.new.groups c.in-Some.is c.in-Ok.ensures.truth
    (c.in-Ok.ensures.groups ∙ ap (λ (keep : Bool). groups_by keep (Some c.in-Some.condition) a) c.has_rules-keep.ensures) b s (same_Some inner b (sym is ∙ e)) (c.requires.above s f)))

pub returns-in-Ok-clause-counts : goal.returns-in-Ok-clause-counts
returns-in-Ok-clause-counts g c =
    let more : length (asked c.replace-in-Ok.new.self) ≡ length (asked c.args.places.now) + 1 =
    ap (λ (l : List Place). length (asked l)) c.replace-in-Ok.ensures.rest ∙ asked_more 0 c.args.block c.args.places.now (Compared c.in-Ok.truth c.compare.new.groups) c.requires.unasked in
    omega (arith, more, c.in-Ok.ensures.steps)
