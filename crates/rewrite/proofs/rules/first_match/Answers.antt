use Rattle.rewrite.proofs.Numbers.{pattern_at}
use Rattle.rewrite.proofs.rules.first_match.Goals as goal

pub match_of-requires : goal.match_of-requires
match_of-requires c =
    rw (c.loop-pair.invariant.same, c.loop-pair.invariant.pattern)
    (pattern_at c.args.matchers.now c.args.first_pattern c.args.pairs.now c.loop-pair.pair-index c.pair-item.result c.requires.all c.loop-pair-test.true c.pair-item.is)
