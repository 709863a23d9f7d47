use Rattle.std.proofs.Common.{ap, sym, ◌∙◌}
use Rattle.lt_world.specs.Disk.{ends_in_slash}
use Rattle.request_plan.proofs.Slashes.{slash_at_end}
use Rattle.request_plan.proofs.target.ends_in_slash.Goals as goal

pub returns-in-Some : goal.returns-in-Some
returns-in-Some c = sym (ap ends_in_slash c.in-Some.ensures.cases.0 ∙ slash_at_end c.in-Some.field-0-1.now c.in-Some.last.now)
