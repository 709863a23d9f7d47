use Rattle.request_plan.proofs.Settling.{no_attributes}
use Rattle.request_plan.proofs.planner.Planner.begin.Goals as goal

pub invariant_of-self : goal.invariant_of-self
invariant_of-self c = record {
  belongs = c.self.invariant.belongs;
  places = (c.empty.ensures.right c.self.inside.config.now.blocks no_attributes c.self.invariant.places).many;
  types = c.self.invariant.types;
  global = c.self.invariant.global;
}
