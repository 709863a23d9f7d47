use Rattle.std.proofs.Common.{◌+◌, sym, subst, arith, take, rules}
use Rattle.fcgi_records.proofs.ReadingLemmas.{passes_nothing, passes_turn}
use Rattle.fcgi_records.specs.Reading.{Passes}
use Rattle.fcgi_records.proofs.state.State.through.Goals as goal

pub loop-i-init : goal.loop-i-init
loop-i-init c = record { passes = passes_nothing c.args.self c.args.bytes.now; sound = c.requires.sound; first = λ _. c.requires.framing }

pub loop-i-preserved : goal.loop-i-preserved
loop-i-preserved c = record {
  passes = subst (λ s. Passes c.args.self (take (c.loop-i.i + 1) c.args.bytes.now) s) (sym c.step-state.ensures.next)
      (passes_turn c.args.self c.loop-i.state c.args.bytes.now c.loop-i.i _ c.loop-i.invariant.passes (search (rules, c.is_framing.ensures)) c.loop-i-test.true (search rules));
  sound = c.step-state.ensures.sound;
  first = λ e. absurd (omega arith);
}
