use Rattle.std.proofs.Common.{◌≡◌, ◌<◌, List, length, slice_get, Some, refl, sym, ◌∙◌, ap, subst, get_or}
use Rattle.std.proofs.lemmas.Option.{slice_get_read, same_Some}
use Rattle.conf_value.specs.declared.block.Block.{Block}
use Rattle.cond_cache.proofs.Standing.{parent_lower}
use Rattle.cond_cache.proofs.finding.parent_of.Goals as goal

pub returns-clause-parent : goal.returns-clause-parent
returns-clause-parent c b e =
    let inner = c.index-as_slice-block.result in
    let blocks = c.args.config.now.blocks in
    let is : slice_get blocks c.args.block ≡ Some inner =
    slice_get_read blocks (length blocks) c.args.block inner refl c.requires.block (c.index-as_slice-block.is ∙ ap (λ (l : List Block). get_or l c.args.block inner) c.as_slice.ensures) in
    ap (λ (x : Block). x.parent) (sym c.index-as_slice-block.is ∙ same_Some inner b (sym is ∙ e))

pub returns-clause-lower : goal.returns-clause-lower
returns-clause-lower c =
    let inner = c.index-as_slice-block.result in
    let blocks = c.args.config.now.blocks in
    let is : slice_get blocks c.args.block ≡ Some inner =
    slice_get_read blocks (length blocks) c.args.block inner refl c.requires.block (c.index-as_slice-block.is ∙ ap (λ (l : List Block). get_or l c.args.block inner) c.as_slice.ensures) in
    subst (λ (x : Block). x.parent < c.args.block) c.index-as_slice-block.is (parent_lower c.args.config.now c.requires.form c.args.block inner is c.requires.inner)
