-- A device: settings and blocks as stored data, the tuples of their fields.
use Rattle.std.specs.Prelude.{ℕ, List, Option, refl}
use Rattle.std.specs.Coded.{Coded, code_by, coded×, coded_list, coded_option, coded_bool, coded_ℕ}
use Rattle.conf_value.specs.declared.value.Value.{Value}
use Rattle.conf_value.specs.declared.block.Setting.{Setting}
use Rattle.conf_value.specs.declared.block.Block.{Block}
use Rattle.conf_value.specs.declared.condition.Condition.{Condition}
use Rattle.conf_value.specs.contracts.value.Value as value
use Rattle.conf_value.specs.contracts.condition.Condition as condition
use Rattle.conditions.specs.Marked.{Marked}
use Rattle.conf_eval.specs.Built.{Built}

abbrev pub setting_code : Coded Setting
setting_code =
    code_by (List ℕ × (Value × ℕ)) (coded× (coded_list coded_ℕ) (coded× value.the_row.coded coded_ℕ)) (λ s. (s.key, (s.value, s.first_pattern)))
    (λ p. record { key = p.0; value = p.1.0; first_pattern = p.1.1 }) (λ _. refl)

abbrev pub block_code : Coded Block
block_code =
    code_by (ℕ × (Option ℕ × (Option Condition × List Setting))) (coded× coded_ℕ (coded× (coded_option coded_ℕ) (coded× (coded_option condition.the_row.coded) (coded_list setting_code))))
    (λ b. (b.parent, (b.chain, (b.condition, b.settings)))) (λ p. record { parent = p.0; chain = p.1.0; condition = p.1.1.0; settings = p.1.1.1 }) (λ _. refl)

abbrev pub built_code : Coded Built
built_code =
    code_by (List Block × List Marked) (coded× (coded_list block_code) (coded_list (coded× (coded_list coded_ℕ) coded_bool))) (λ b. (b.blocks, b.patterns))
    (λ p. record { blocks = p.0; patterns = p.1 }) (λ _. refl)
