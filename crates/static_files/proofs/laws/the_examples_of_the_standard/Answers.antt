use Rattle.static_files.proofs.RangeLaws.{first_500, second_500, final_500, from_9500, two_ranges}
use Rattle.static_files.proofs.laws.the_examples_of_the_standard.Goals as goal

pub returns : goal.returns
returns c = record { first_500 = first_500; second_500 = second_500; final_500 = final_500; from_9500 = from_9500; first_and_last = two_ranges }
