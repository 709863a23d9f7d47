use Rattle.std.proofs.Common.{◌≡◌, drop}
use Rattle.conf_parse.specs.Answers.{last_line}
use Rattle.conf_parse.specs.Machine as spec
use Rattle.conf_parse.specs.Symbols.{marks}
use Rattle.conf_parse.proofs.parser.read.Given as goal

-- What is left, read from this state, gives what the whole gives.
abbrev pub invariant-loop-token : goal.invariant-loop-token
invariant-loop-token l = record {
  reads : spec.run (marks (drop l.token-index l.tokens)) l.state ≡ spec.run (marks l.tokens) (spec.start 64);
  line : last_line l.last (drop l.token-index l.tokens) ≡ last_line 1 l.tokens;
}
