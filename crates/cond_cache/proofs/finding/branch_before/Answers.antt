use Rattle.std.proofs.Common.{◌≡◌, ◌<◌, ℕ, List, length, slice_get, Option, Some, None, IfSome, refl, sym, ◌∙◌, ap, get_or}
use Rattle.std.proofs.lemmas.Option.{slice_get_read, same_Some}
use Rattle.conf_value.specs.declared.block.Block.{Block}
use Rattle.cond_cache.proofs.Standing.{behind}
use Rattle.cond_cache.proofs.finding.branch_before.Goals as goal

pub returns-clause-before : goal.returns-clause-before
returns-clause-before c b e =
    let inner = c.index-as_slice-block.result in
    let blocks = c.args.config.now.blocks in
    let is : slice_get blocks c.args.block ≡ Some inner =
    slice_get_read blocks (length blocks) c.args.block inner refl c.requires.block (c.index-as_slice-block.is ∙ ap (λ (l : List Block). get_or l c.args.block inner) c.as_slice.ensures) in
    ap (λ (x : Block). x.chain) (sym c.index-as_slice-block.is ∙ same_Some inner b (sym is ∙ e))

-- what holds of each number that may be there
if_some : (n : ℕ) (o : Option ℕ) → ((m : ℕ) → o ≡ Some m → m < n) → IfSome o (λ m. m < n)
if_some n None h = tt
if_some n (Some m) h = h m refl

pub returns-clause-lower : goal.returns-clause-lower
returns-clause-lower c =
    let inner = c.index-as_slice-block.result in
    let blocks = c.args.config.now.blocks in
    let is : slice_get blocks c.args.block ≡ Some inner =
    slice_get_read blocks (length blocks) c.args.block inner refl c.requires.block (c.index-as_slice-block.is ∙ ap (λ (l : List Block). get_or l c.args.block inner) c.as_slice.ensures) in
    if_some c.args.block _ (λ m e. (behind c.args.config.now c.requires.form c.args.block inner is m (ap (λ (x : Block). x.chain) c.index-as_slice-block.is ∙ e)).lower)
