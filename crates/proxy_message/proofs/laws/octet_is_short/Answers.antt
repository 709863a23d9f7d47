use Rattle.std.proofs.Common.{arith}
use Rattle.std.proofs.lemmas.Fmt.{length-decimal-le}
use Rattle.proxy_message.proofs.laws.octet_is_short.Goals as goal

pub returns : goal.returns
returns c = length-decimal-le 3 c.args.octet (omega arith) (omega (arith, c.ranges.octet.fits)) (omega (arith, c.ranges.octet.fits))
