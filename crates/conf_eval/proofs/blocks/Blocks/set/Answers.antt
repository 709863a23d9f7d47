use Rattle.std.proofs.Common.{◌<◌, ℕ, List, length, sym, subst}
use Rattle.conf_value.specs.declared.block.Block.{Block}
use Rattle.conf_eval.specs.Built.{Built}
use Rattle.conf_eval.specs.Sound.{AreOpen, Grows, IsMade, IsSound}
use Rattle.conf_eval.proofs.Heads.{grows_set, innermost_there, length_heads}
use Rattle.conf_eval.proofs.Sounds.{sound_set}
use Rattle.conf_eval.proofs.blocks.Blocks.set.Goals as goal
use Rattle.conf_eval.proofs.blocks.Blocks.set.Goals.{in-Ok, in-Err}

pub set_in-requires-clause-at : goal.set_in-requires-clause-at
set_in-requires-clause-at c =
    subst (λ (n : ℕ). n < length c.self.inside.blocks.items) (sym c.innermost-block.ensures)
    (innermost_there c.args.scopes.now c.self.inside.blocks.items (subst (λ (b : Built). AreOpen c.args.scopes.now b.blocks) (sym c.self.view_is) c.requires.scopes)
    (subst (λ (n : ℕ). 0 < n) (length_heads c.self.inside.blocks.items) c.self.invariant.fit.some))

pub invariant_of-self : goal.invariant_of-self
invariant_of-self c = elim c.match-set_in.branch [
  | in-Ok w ↦ subst (λ (blocks : List Block). IsSound (record { blocks = blocks; patterns = c.self.inside.patterns })) (sym w.in-Ok.ensures.ok)
      (sound_set c.self.inside.blocks.items c.self.inside.patterns c.innermost-block.result c.args.setting c.self.invariant (subst (λ (b : Built). IsMade b.patterns c.args.setting) (sym c.self.view_is) c.requires.made))
  | in-Err w ↦ subst (λ (blocks : List Block). IsSound (record { blocks = blocks; patterns = c.self.inside.patterns })) (sym w.in-Err.ensures.err) c.self.invariant
]

pub returns-clause-grows : goal.returns-clause-grows
returns-clause-grows c = elim c.match-set_in.branch [
  | in-Ok w ↦ rw w.result-is (subst (λ (b : Built). Grows b.blocks c.set_in.new.blocks.items) c.self.view_is (grows_set c.self.inside.blocks.items c.set_in.new.blocks.items c.innermost-block.result c.args.setting w.in-Ok.ensures.ok))
  | in-Err w ↦ rw w.result-is tt
]
