-- The lists of rules that win for a request (lighttpd documentation, mod_rewrite), and their patterns.
use Rattle.std.specs.Prelude.{◌≡◌, ℕ, true, List, Some, slice_get}
use Rattle.conf_value.specs.declared.block.Block.{Block}
use Rattle.conf_value.specs.declared.block.Setting.{Setting}
use Rattle.conf_value.specs.declared.value.Value.{out-Value}
use Rattle.conditions.specs.Attributes.{Attributes}
use Rattle.conditions.specs.Marked.{Marked}
use Rattle.conf_value.specs.declared.block.Config.{Config}
use Rattle.cond_cache.specs.Kept.{HavePatterns, groups_at}
use Rattle.http_head.specs.declared.head.Request.{Request}
use Rattle.http_target.specs.declared.read.Target.{Target}
use Rattle.settings.specs.declared.places.Index.{Index}
use Rattle.settings.specs.InForm.{IsInForm}
use Rattle.settings.specs.Indexed.{IsIndexOf}
use Rattle.settings.specs.Keys.{is_rule_list}
use Rattle.settings.specs.Kinds.{pairs_in}
use Rattle.settings.specs.Used as settings
use Rattle.rewrite.specs.Rules.{RuleList, Lists, AreNumbered}
use Rattle.rewrite.specs.Rewriting.{Ended, rewritten}
use Rattle.request_settings.specs.declared.attributes.Arrival.{Arrival}
use Rattle.request_settings.specs.Attributes.{attributes_on}
use Rattle.request_settings.specs.Values.{values_on}

-- a list that wins, with the groups of the condition of the block that sets it
abbrev pub list_on : List Block → Attributes → settings.RuleList → RuleList
list_on blocks a rules = record { rules = rules.rules; outer = groups_at blocks a rules.block }

-- the two lists that win on these attributes
unfoldable pub lists_on : List Block → Attributes → Lists
lists_on blocks a = record {
  once = list_on blocks a (values_on blocks a).url_rewrite_once;
  repeat = list_on blocks a (values_on blocks a).url_rewrite_repeat;
}

-- the patterns of each list of rules are there, as a rule's
abbrev pub HaveRules : List Block → List Marked → Type 0
HaveRules blocks patterns = (n at : ℕ) (block : Block) (setting : Setting) → slice_get blocks n ≡ Some block
    → slice_get block.settings at ≡ Some setting → is_rule_list setting.key ≡ true
    → AreNumbered patterns setting.first_pattern (pairs_in (out-Value setting.value))

-- what a request is judged by: a configuration in form, its index, and the patterns of its conditions and rules
pub record Belongs (config : Config) (index : Index) (patterns : List Marked) : Type 0 where
  pub form : IsInForm config
  pub indexed : IsIndexOf config.blocks index
  pub conditions : HavePatterns config.blocks patterns
  pub rules : HaveRules config.blocks patterns

-- how the target of a request is rewritten: on each target by the lists that win there
unfoldable pub rewriting_on : List Block → Arrival → Request → Target → Ended
rewriting_on blocks arrival head target = rewritten (λ new. lists_on blocks (attributes_on arrival head new)) target
