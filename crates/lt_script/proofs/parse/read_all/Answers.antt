use Rattle.std.proofs.Common.{rules, sym, arith}
use Rattle.lt_script.proofs.Lining.{script_uncut, script_headless, given}
use Rattle.lt_script.proofs.parse.read_all.Goals as goal

pub returns-in-None : goal.returns-in-None
returns-in-None c = (omega arith, script_uncut c.args.bytes.now (sym c.in-None.ensures.value))

pub returns-then-not-is_head : goal.returns-then-not-is_head
returns-then-not-is_head c = (omega arith, script_headless c.args.bytes.now c.in-Some.head.now c.in-Some.rest.now (sym c.in-Some.ensures.value) (search rules))

pub returns-else-not-is_head : goal.returns-else-not-is_head
returns-else-not-is_head c =
    given c.read_lines.result c.args.bytes.now c.in-Some.head.now c.in-Some.rest.now (omega arith) (sym c.in-Some.ensures.value) (search rules) c.read_lines.ensures
