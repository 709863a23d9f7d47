use Rattle.std.proofs.Common.{◌<◌, get_or, arith}
use Rattle.std.proofs.lemmas.Grind.{get_or_default_zero}
use Rattle.lt_bytes.proofs.text.Text.bytes.Goals as goal

pub returns-clause-small : goal.returns-clause-small
returns-clause-small c = λ k d within.
    let small : get_or c.as_slice-bytes.result.now k 0 < 256 = grind arith in
    grind (arith, get_or_default_zero)
