use Rattle.std.proofs.Common.{ap, sym, ◌∙◌, arith}
use Rattle.std.specs.Prelude.{sum_by}
use Rattle.mio_net.specs.Links.{one}
use Rattle.mio_net.proofs.Chances.{nothing_there, none_counted}
use Rattle.mio_net.proofs.links.Places.new.Goals as goal

pub invariant_of-result : goal.invariant_of-result
invariant_of-result c = record {
  all = c.in_ok-places.ensures.len;
  below = nothing_there 4096 0 _ c.in_ok-places.ensures.cells;
  counted = sym (ap (sum_by one) c.in_ok-places.ensures.cells ∙ none_counted 4096);
  fits = omega arith;
}

pub returns : goal.returns
returns c = λ i. record { places = c.in_ok-places.ensures.cells i; next = 0 }
