-- A device: settings of which none is set twice and each typed one has a value that it takes.
use Rattle.std.specs.Prelude.{◌≡◌, List, [], ◌∷◌, None}
use Rattle.conf_value.specs.declared.block.Setting.{Setting}
use Rattle.settings.specs.Checking.{check}
use Rattle.settings.specs.InForm.{IsTaken}
use Rattle.conf_eval.specs.Settings.{value_of}

abbrev pub AreGood : List Setting → Type 0
AreGood [] = Unit {0}
AreGood (s ∷ settings) = (value_of s.key settings ≡ None) × IsTaken (check s.key s.value) × AreGood settings
