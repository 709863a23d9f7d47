use Rattle.std.proofs.Common.{List, sym, subst}
use Rattle.conf_value.specs.declared.block.Block.{Block}
use Rattle.conf_eval.specs.Patterns.{ArePatterns}
use Rattle.conf_eval.specs.Sound.{IsSound}
use Rattle.conf_eval.proofs.Sounds.{are_patterns, in_form}
use Rattle.conf_eval.proofs.blocks.Blocks.into_loaded.Goals as goal

pub returns-clause-form : goal.returns-clause-form
returns-clause-form c = in_form _ c.self.inside.patterns (subst (λ (l : List Block). IsSound (record { blocks = l; patterns = c.self.inside.patterns })) (sym c.in_ok-blocks.ensures.blocks) c.self.invariant) c.in_ok-blocks.ensures.good

pub returns-clause-patterns : goal.returns-clause-patterns
returns-clause-patterns c = subst (λ (l : List Block). ArePatterns l c.self.inside.patterns) (sym c.in_ok-blocks.ensures.blocks) (are_patterns c.self.inside.blocks.items c.self.inside.patterns c.self.invariant)
