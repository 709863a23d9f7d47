-- The values of the configuration's keys for a request.
use Rattle.std.specs.Prelude.{List}
use Rattle.conf_value.specs.declared.block.Block.{Block}
use Rattle.conditions.specs.Attributes.{Attributes}
use Rattle.cond_cache.specs.Truths.{truth_of}
use Rattle.settings.specs.Used.{Values, values_where}

-- those that count where each block has its truth on these attributes
unfoldable pub values_on : List Block → Attributes → Values
values_on blocks a = values_where blocks (truth_of blocks a)
