use Rattle.std.proofs.Common.{◌≡◌, ◌++◌, flat_map}
use Rattle.proxy_message.specs.Asking.{kept_line, kept_lines}
use Rattle.proxy_message.proofs.asking.push_kept.Given as goal

abbrev pub invariant-loop-name : goal.invariant-loop-name
invariant-loop-name l = l.initial.text ++ kept_lines l.fields ≡ l.text ++ flat_map (λ p. kept_line l.fields (p.0, p.1.bytes)) l.name-iterator
