use Rattle.script_gen.proofs.Sums.{of_all_writes}
use Rattle.script_gen.proofs.laws.the_bytes_are_those_of_all_writes.Goals as goal

pub returns : goal.returns
returns c = of_all_writes
