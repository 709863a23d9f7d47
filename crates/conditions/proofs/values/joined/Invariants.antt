use Rattle.std.proofs.Common.{◌≡◌, ◌++◌, flat_map}
use Rattle.http_header.specs.HeaderMap.{get_all}
use Rattle.http_header.specs.Token.{lowercase}
use Rattle.conditions.specs.Attributes.{joined}
use Rattle.conditions.proofs.values.joined.Given as goal

abbrev pub invariant-loop-value : goal.invariant-loop-value
invariant-loop-value l =
    joined l.separator (get_all l.fields (lowercase l.name)) ≡ l.text ++ flat_map (λ w. l.separator ++ w.bytes) l.value-iterator
