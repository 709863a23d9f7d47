use Rattle.mio_net.proofs.Chances.{nothing_there}
use Rattle.mio_net.proofs.families.Families.new.Goals as goal

pub invariant_of-result : goal.invariant_of-result
invariant_of-result c = record {
  behind_all = c.in_ok-behind.ensures.len;
  before_all = c.in_ok-before.ensures.len;
  behind_within = nothing_there 4096 4096 _ c.in_ok-behind.ensures.cells;
  before_within = nothing_there 4096 4096 _ c.in_ok-before.ensures.cells;
}

pub returns : goal.returns
returns c = λ i. record { behind = c.in_ok-behind.ensures.cells i; before = c.in_ok-before.ensures.cells i }
