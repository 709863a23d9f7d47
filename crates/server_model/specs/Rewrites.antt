-- How a request's target is rewritten (lighttpd documentation, mod_rewrite): by the lists that count for it, found anew for each target that it gets.
use Rattle.std.specs.Prelude.{List, Option}
use Rattle.conf_value.specs.declared.block.Block.{Block}
use Rattle.http_target.specs.declared.read.Target.{Target}
use Rattle.conditions.specs.Attributes.{Attributes}
use Rattle.cond_cache.specs.Truths.{truth_of}
use Rattle.cond_cache.specs.Kept.{groups_at}
use Rattle.settings.specs.Used.{Values, values_where, RuleList as Counting}
use Rattle.rewrite.specs.Rules.{RuleList, Lists}
use Rattle.rewrite.specs.Rewriting.{Ended, rewritten}
use Rattle.server_model.specs.Attributes.{attributes_at}
use Rattle.server_model.specs.Request.{Head}
use Rattle.server_model.specs.World.{Arrival}

-- a list that counts, with the groups of the condition of the block that sets it
abbrev pub list_on : List Block → Attributes → Counting → RuleList
list_on blocks a rules = record { rules = rules.rules; outer = groups_at blocks a rules.block }

abbrev pub lists_by : List Block → Attributes → Values → Lists
lists_by blocks a values = record { once = list_on blocks a values.url_rewrite_once; repeat = list_on blocks a values.url_rewrite_repeat }

-- the lists that count on these attributes
abbrev pub lists_on : List Block → Attributes → Lists
lists_on blocks a = lists_by blocks a (values_where blocks (truth_of blocks a))

-- how the target of a request ends that begins with this head, and how many new targets were taken on the way
unfoldable pub rewriting : List Block → Option Arrival → Head → Ended
rewriting blocks arrival head = rewritten (λ (target : Target). lists_on blocks (attributes_at arrival head target)) head.target
