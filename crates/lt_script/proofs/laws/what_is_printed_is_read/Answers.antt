use Rattle.lt_script.proofs.Printed.{printed_is_read}
use Rattle.lt_script.proofs.laws.what_is_printed_is_read.Goals as goal

pub returns : goal.returns
returns c = printed_is_read
