use Rattle.std.proofs.Common.{◌≡◌, ◌<◌, ◌++◌, ◌∷◌, [], ◌∙◌, ℕ, List, Option, length, ap, sym, subst}
use Rattle.conf_value.specs.declared.block.Block.{Block}
use Rattle.conf_eval.specs.Built.{Built}
use Rattle.conf_eval.specs.Opening.{block}
use Rattle.conf_eval.specs.Sound.{AreOpen, Grows, HasOwn, IsSound, StandsBehind}
use Rattle.conf_eval.proofs.Heads.{grows_open}
use Rattle.conf_eval.proofs.Sounds.{sound_open}
use Rattle.conf_eval.proofs.blocks.Blocks.open.Goals as goal
use Rattle.conf_eval.proofs.blocks.Blocks.open.Goals.{in-Ok, in-Err}

pub invariant_of-self : goal.invariant_of-self
invariant_of-self c = elim c.match-push.branch [
  | in-Ok w ↦ subst (λ (blocks : List Block). IsSound (record { blocks = blocks; patterns = c.self.inside.patterns })) (sym (w.in-Ok.ensures.items ∙ ap (λ (b : Block). c.self.inside.blocks.items ++ b ∷ []) (c.new-opened.ensures ∙ ap (λ (n : ℕ). record { parent = n; chain = c.args.behind; condition = c.args.condition; settings = [] }) c.innermost.ensures)))
      (sound_open c.self.inside.blocks.items c.self.inside.patterns c.args.scopes.now c.args.behind c.args.condition c.self.invariant
      (subst (λ (b : Built). AreOpen c.args.scopes.now b.blocks) (sym c.self.view_is) c.requires.scopes)
      (subst (λ (b : Built). StandsBehind c.args.behind c.args.scopes.now b.blocks) (sym c.self.view_is) c.requires.behind)
      (subst (λ (b : Built). HasOwn b.patterns c.args.condition) (sym c.self.view_is) c.requires.condition) c.requires.bare
      (subst (λ (b : Built). length b.blocks < 1025) (sym c.self.view_is) c.requires.few))
  | in-Err w ↦ subst (λ (blocks : List Block). IsSound (record { blocks = blocks; patterns = c.self.inside.patterns })) (sym w.in-Err.ensures.items) c.self.invariant
]

pub returns-clause-grows : goal.returns-clause-grows
returns-clause-grows c = elim c.match-push.branch [
  | in-Ok w ↦ rw w.result-is (subst (λ (b : Built). Grows b.blocks c.push.new.self.items) c.self.view_is (grows_open c.self.inside.blocks.items c.push.new.self.items c.new-opened.result w.in-Ok.ensures.items))
  | in-Err w ↦ rw w.result-is tt
]
