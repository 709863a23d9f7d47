use Rattle.std.proofs.Common.{◌+◌, ◌*◌}
use Rattle.cond_cache.proofs.finding.+find.Given as goal

abbrev pub decreases-find : goal.decreases-find
decreases-find g l = 2 * l.block + 1

abbrev pub decreases-find_above : goal.decreases-find_above
decreases-find_above g l = 2 * l.block
