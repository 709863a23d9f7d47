use Rattle.std.proofs.Common.{List, subst, sym}
use Rattle.conditions.specs.Marked.{Marked}
use Rattle.conf_eval.specs.Patterns.{ArePatterns}
use Rattle.lt_commands.proofs.serving.server_of.Goals as goal

pub new-requires-clause-rules : goal.new-requires-clause-rules
new-requires-clause-rules c = (subst (λ (patterns : List Marked). ArePatterns c.args.loaded.now.config.blocks patterns) (sym c.in_ok-matchers.ensures.matchers) c.requires.patterns).rules
