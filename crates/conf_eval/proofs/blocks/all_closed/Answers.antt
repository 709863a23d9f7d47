use Rattle.std.proofs.Common.{◌≡◌, ◌∙◌, ◌++◌, ◌∷◌, [], List, ap, sym, subst}
use Rattle.conf_value.specs.declared.block.Block.{Block}
use Rattle.conf_eval.specs.Sound.{AreAllGood}
use Rattle.conf_eval.proofs.Sounds.{good_push}
use Rattle.conf_eval.proofs.blocks.all_closed.Goals as goal

pub loop-one-preserved : goal.loop-one-preserved
loop-one-preserved c = record {
  blocks = c.in_ok-push.ensures.ok ∙ ap (λ (l : List Block). l ++ c.into_block.result ∷ []) c.loop-one.invariant.blocks ∙ ap (λ (b : Block). c.loop-one.yielded ++ b ∷ []) c.into_block.ensures.block;
  good = subst AreAllGood (sym c.in_ok-push.ensures.ok) (good_push c.loop-one.blocks c.into_block.result c.loop-one.invariant.good c.into_block.ensures.good);
}
