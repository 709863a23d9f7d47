use Rattle.std.proofs.Common.{◌<◌}
use Rattle.bench_answers.proofs.read_from.Given as goal

abbrev pub invariant-loop-byte : goal.invariant-loop-byte
invariant-loop-byte l = l.at < 65545
