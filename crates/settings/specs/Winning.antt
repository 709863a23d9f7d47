-- Which setting of a key counts, in the words of the lighttpd documentation, "Configuration": a later block that holds goes before
-- an earlier one.
use Rattle.std.specs.Prelude.{ℕ, ◌+◌, List, [], ◌∷◌, Option, None, Some, option_map, if◌then◌else◌}
use Rattle.conf_value.specs.declared.block.Setting.{Setting}
use Rattle.conf_value.specs.declared.block.Block.{Block}
use Rattle.conf_value.specs.declared.truth.Truth.{Truth}
use Rattle.settings.specs.declared.key.Key.{Key}
use Rattle.settings.specs.Keys.{name}
use Rattle.settings.specs.Indexed.{is_of, is_true, blocks_of, winner}
use Rattle.settings.specs.Used.{Placed, setting_at}

-- the setting of a key among those of a block
abbrev pub setting_of : List ℕ → List Setting → Option Setting
setting_of key [] = None
setting_of key (setting ∷ settings) = if is_of key setting then Some setting else setting_of key settings

-- what a block sets a key to, where it is True
abbrev pub set_by : List ℕ → Block → Truth → Option Setting
set_by key block truth = if is_true truth then setting_of key block.settings else None

-- the first where it is there, else the second
abbrev pub or_setting : Option Setting → Option Setting → Option Setting
or_setting (Some setting) other = Some setting
or_setting None other = other

-- the setting of the last block that is True and sets the key, where the first block has this number
abbrev pub last_set : List ℕ → (ℕ → Truth) → ℕ → List Block → Option Setting
last_set key truth number [] = None
last_set key truth number (block ∷ blocks) = or_setting (last_set key truth (number + 1) blocks) (set_by key block (truth number))

-- the setting that counts, by its place
abbrev pub winning_setting : List Block → (ℕ → Truth) → Key → Option Setting
winning_setting blocks truth key = option_map (λ (found : Placed). found.setting) (setting_at blocks (winner blocks truth key))

-- the setting that counts, by the documentation
abbrev pub documented_setting : List Block → (ℕ → Truth) → Key → Option Setting
documented_setting blocks truth key = last_set (name key) truth 0 (blocks_of key blocks)
