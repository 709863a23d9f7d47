use Rattle.lt_world.specs.declared.net.Ending.TheVariants as ending
use Rattle.server_model.proofs.Running.{run_grows}
use Rattle.server_model.proofs.Endings.{run_ends}
use Rattle.server_model.proofs.laws.runs_grow.Goals as goal

pub returns-clause-grows : goal.returns-clause-grows
returns-clause-grows c = run_grows

pub returns-clause-faults : goal.returns-clause-faults
returns-clause-faults c site before after run client = run_ends site before after run client ending.FileFault

pub returns-clause-endings : goal.returns-clause-endings
returns-clause-endings c = run_ends
