use Rattle.std.proofs.Common.{◌≡◌, drop}
use Rattle.lt_script.specs.declared.quoting.State.TheVariants.{Plain}
use Rattle.lt_script.specs.Quoting.{unquote, with_front}
use Rattle.lt_script.proofs.quoting.text_at.Given as goal

abbrev pub invariant-loop-i : goal.invariant-loop-i
invariant-loop-i l = with_front l.text (unquote (drop l.i l.bytes) l.state) ≡ unquote l.bytes Plain
