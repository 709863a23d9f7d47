use Rattle.static_files.proofs.RangeLaws.{range_lies}
use Rattle.static_files.proofs.laws.a_range_lies_in_the_file.Goals as goal

pub returns : goal.returns
returns c = range_lies
