use Rattle.static_files.proofs.Calendar.{read_back, left_out}
use Rattle.static_files.proofs.laws.dates_are_read_back.Goals as goal

pub returns : goal.returns
returns c = record { read = read_back; left_out = left_out }
