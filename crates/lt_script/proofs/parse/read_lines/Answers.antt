use Rattle.std.proofs.Common.{◌≡◌, rules, sym, arith}
use Rattle.lt_script.specs.Scripts.{added}
use Rattle.lt_script.proofs.Lining.{went_bad, went_on, ended_bad}
use Rattle.lt_script.proofs.parse.read_lines.Goals as goal

pub returns-in-Err-Bad : goal.returns-in-Err-Bad
returns-in-Err-Bad c = went_bad _ c.loop-line.number c.loop-line.rest.now c.in-Some.line.now c.in-Some.next.now _ c.loop-line.invariant.reads (sym c.in-Some.ensures.value) (rw c.in-Err-Bad.field-0-is at c.in-Err-Bad.ensures)

pub loop-line-preserved : goal.loop-line-preserved
loop-line-preserved c =
    let more : c.add.new.script ≡ added c.loop-line.script c.in-Ok.line = search rules in
    record {
      reads = rw more (went_on c.loop-line.script c.loop-line.number c.loop-line.rest.now c.in-Some.line.now c.in-Some.next.now c.in-Ok.line _ c.loop-line.invariant.reads (sym c.in-Some.ensures.value) c.in-Ok.ensures);
      number = omega (arith, c.in-Some.ensures.less);
    }

pub returns-then-rest-gt0 : goal.returns-then-rest-gt0
returns-then-rest-gt0 c = ended_bad _ c.loop-line.number c.loop-line.rest.now _ c.loop-line.invariant.reads (sym c.in_default.ensures.value) c.if-rest-gt0.true
