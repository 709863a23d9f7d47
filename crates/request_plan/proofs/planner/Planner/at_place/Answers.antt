use Rattle.std.proofs.Common.{List, ap, subst}
use Rattle.conf_value.specs.declared.block.Block.{Block}
use Rattle.conditions.specs.Attributes.{attributes_of}
use Rattle.cond_cache.specs.Kept.{AreRight}
use Rattle.request_plan.specs.Kept.{Kept}
use Rattle.request_plan.proofs.planner.Planner.at_place.Goals as goal

pub invariant_of-self : goal.invariant_of-self
invariant_of-self c = record {
  belongs = c.self.invariant.belongs;
  places = (c.set_physical.ensures.right c.self.inside.config.now.blocks (attributes_of c.args.attrs.now) c.self.invariant.places).many;
  types = c.self.invariant.types;
  global = c.self.invariant.global;
}

pub returns-clause-right : goal.returns-clause-right
returns-clause-right c =
    subst (λ (b : List Block). AreRight b (attributes_of c.set_physical.result) c.set_physical.new.self) (ap (λ (k : Kept). k.site.blocks) c.self.view_is)
    (c.set_physical.ensures.right c.self.inside.config.now.blocks (attributes_of c.set_physical.result) c.self.invariant.places)
