use Rattle.lt_script.proofs.Fronts.{stripped}
use Rattle.lt_script.proofs.fields.after.Goals as goal

pub returns : goal.returns
returns c = stripped c.args.front.now c.args.bytes.now c.strip_prefix.result c.strip_prefix.ensures.cases
