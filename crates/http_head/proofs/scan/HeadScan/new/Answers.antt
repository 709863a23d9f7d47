use Rattle.std.proofs.Common.{arith}
use Rattle.std.proofs.lemmas.Bool.{false≢true}
use Rattle.http_head.specs.declared.limits.TheConstants.{HEAD_LIMIT}
use Rattle.http_head.proofs.ScanLemmas.{nothing_seen}
use Rattle.http_head.proofs.scan.HeadScan.new.Goals as goal

pub returns : goal.returns
returns c = record { scan = record { ends = nothing_seen HEAD_LIMIT; within = omega arith; some = λ is. absurd (false≢true is) } }
