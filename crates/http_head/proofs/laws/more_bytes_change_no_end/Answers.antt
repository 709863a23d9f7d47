use Rattle.http_head.specs.declared.limits.TheConstants.{HEAD_LIMIT}
use Rattle.http_head.proofs.EndLemmas.{at_stays, too_large_stays}
use Rattle.http_head.proofs.laws.more_bytes_change_no_end.Goals as goal

pub returns : goal.returns
returns c = record { at = at_stays HEAD_LIMIT; too_large = too_large_stays HEAD_LIMIT }
