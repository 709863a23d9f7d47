use Rattle.script_gen.proofs.Spelled.{is_spelled}
use Rattle.script_gen.proofs.generating.generate.Goals as goal

pub returns-clause-spelled : goal.returns-clause-spelled
returns-clause-spelled c = rw (c.in_ok-files.ensures, c.new-faults.ensures, c.in_ok-steps.ensures) (is_spelled c.args.clients c.requires)
