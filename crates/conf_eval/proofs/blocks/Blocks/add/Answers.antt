use Rattle.std.proofs.Common.{◌<◌, List, length, sym, subst}
use Rattle.conditions.specs.Marked.{Marked}
use Rattle.conf_eval.specs.Built.{Built}
use Rattle.conf_eval.specs.Sound.{IsSound}
use Rattle.conf_eval.proofs.Sounds.{sound_add}
use Rattle.conf_eval.proofs.blocks.Blocks.add.Goals as goal
use Rattle.conf_eval.proofs.blocks.Blocks.add.Goals.{in-Ok, in-Err}

pub invariant_of-self : goal.invariant_of-self
invariant_of-self c = elim c.match-push.branch [
  | in-Ok w ↦ subst (λ (ps : List Marked). IsSound (record { blocks = c.self.inside.blocks.items; patterns = ps })) (sym w.in-Ok.ensures.ok)
      (sound_add c.self.inside.blocks.items c.self.inside.patterns c.new.result c.self.invariant (subst (λ (b : Built). length b.patterns < 48) (sym c.self.view_is) c.requires.few))
  | in-Err w ↦ subst (λ (ps : List Marked). IsSound (record { blocks = c.self.inside.blocks.items; patterns = ps })) (sym w.in-Err.ensures.err) c.self.invariant
]
