use Rattle.std.proofs.Common.{ℕ, List, sym, subst, arith, ap, length}
use Rattle.lt_script.specs.Texts.{Spells}
use Rattle.lt_script.proofs.Printed.{printed_is_read}
use Rattle.lt_script.proofs.WholeTexts.{is_spelled, is_read, is_first, is_refused}
use Rattle.lt_script.proofs.parse.parse_script.Goals as goal

pub returns-clause-spelled : goal.returns-clause-spelled
returns-clause-spelled c = is_spelled c.read_all.result c.args.bytes.now c.read_all.ensures

pub returns-clause-read : goal.returns-clause-read
returns-clause-read c = λ script short spells. is_read c.read_all.result c.args.bytes.now script c.read_all.ensures short spells

pub returns-clause-line : goal.returns-clause-line
returns-clause-line c = is_first c.read_all.result c.args.bytes.now c.read_all.ensures

pub returns-clause-refused : goal.returns-clause-refused
returns-clause-refused c = λ number short is. is_refused c.read_all.result c.args.bytes.now number c.read_all.ensures short is

pub returns-clause-again : goal.returns-clause-again
returns-clause-again c = λ text script short spells same.
    let again = printed_is_read text script spells in
    is_read c.read_all.result c.args.bytes.now script c.read_all.ensures (omega (arith, ap length same, again.1, short)) (subst (λ (b : List ℕ). Spells b script) (sym same) again.0)
