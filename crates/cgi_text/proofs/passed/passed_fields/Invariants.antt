use Rattle.std.proofs.Common.{◌≡◌, flat_map}
use Rattle.cgi_text.specs.Passed.{passed_line}
use Rattle.cgi_text.proofs.passed.passed_fields.Given as goal

abbrev pub invariant-loop-name : goal.invariant-loop-name
invariant-loop-name l = l.passed ≡ flat_map (λ p. passed_line (p.0.now, p.1.now.bytes)) l.yielded
