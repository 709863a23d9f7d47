use Rattle.std.proofs.Common.{ap, sym, ◌∙◌}
use Rattle.lt_world.specs.Disk.{ends_in_slash}
use Rattle.files_disk.proofs.Slashes.{slash_at_end}
use Rattle.files_disk.proofs.looking.ends_in_slash.Goals as goal

pub returns : goal.returns
returns c = sym (ap ends_in_slash c.in-Some.ensures.cases.0 ∙ slash_at_end c.in-Some.field-0-1.now c.in-Some.last.now)
