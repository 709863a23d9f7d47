use Rattle.std.proofs.Common.{arith}
use Rattle.std.proofs.lemmas.Fmt.{length-decimal-le}
use Rattle.cgi_text.proofs.laws.port_is_short.Goals as goal

pub returns : goal.returns
returns c = length-decimal-le 5 c.args.port (omega arith) (omega (arith, c.ranges.port.fits)) (omega (arith, c.ranges.port.fits))
