use Rattle.std.proofs.Common.{◌≡◌, ◌++◌, length}
use Rattle.fcgi_gateway.specs.Asked.{stream}
use Rattle.fcgi_gateway.proofs.asking.push_stream.Given as goal

abbrev pub invariant-loop-rest : goal.invariant-loop-rest
invariant-loop-rest l = record {
  sum : l.text ++ stream l.kind l.rest ≡ l.initial.text ++ stream l.kind l.bytes;
}

abbrev pub decreases-loop-rest : goal.decreases-loop-rest
decreases-loop-rest l = length l.rest
