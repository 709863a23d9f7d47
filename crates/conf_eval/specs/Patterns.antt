-- What the patterns that were made are to the blocks.
use Rattle.std.specs.Prelude.{◌≡◌, ℕ, ◌≤◌, true, List, length, Some, slice_get}
use Rattle.conf_value.specs.declared.block.Block.{Block}
use Rattle.conf_value.specs.declared.block.Setting.{Setting}
use Rattle.conf_value.specs.declared.condition.Condition.{Condition}
use Rattle.conf_value.specs.declared.value.Value.{out-Value}
use Rattle.conditions.specs.Marked.{Marked}
use Rattle.conditions.specs.Comparing.{HasPattern}
use Rattle.rewrite.specs.Rules.{AreNumbered}
use Rattle.settings.specs.Keys.{is_rule_list}
use Rattle.settings.specs.Kinds.{pairs_in}
use Rattle.conf_eval.specs.declared.limits.TheConstants.{MAX_PATTERNS}

-- Each condition that tries a pattern has its own, and each list of rules those of its rules, with the mark of rules.
pub record ArePatterns (blocks : List Block) (patterns : List Marked) : Type 0 where
  pub few : length patterns ≤ MAX_PATTERNS
  pub conditions : (n : ℕ) (block : Block) (condition : Condition) → slice_get blocks n ≡ Some block → block.condition ≡ Some condition → HasPattern condition patterns
  pub rules : (n at : ℕ) (block : Block) (setting : Setting) → slice_get blocks n ≡ Some block → slice_get block.settings at ≡ Some setting
      → is_rule_list setting.key ≡ true → AreNumbered patterns setting.first_pattern (pairs_in (out-Value setting.value))
