use Rattle.std.proofs.Common.{arith}
use Rattle.lt_script.proofs.Fronts.{is_path_is}
use Rattle.lt_script.proofs.lines.is_path.Goals as goal

pub returns-then-first-eq47 : goal.returns-then-first-eq47
returns-then-first-eq47 c = is_path_is c.args.text.now (omega arith) c.if-first-eq47.true
