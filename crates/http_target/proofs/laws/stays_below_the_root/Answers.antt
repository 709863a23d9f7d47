use Rattle.http_target.proofs.SegmentLemmas.{kept_below}
use Rattle.http_target.proofs.laws.stays_below_the_root.Goals as goal

pub returns : goal.returns
returns c = kept_below
