-- What holds of the texts of scripts, by the definitions alone.
use Rattle.std.specs.Prelude.{◌≡◌, ℕ, ◌≤◌, List, length}
use Rattle.lt_script.specs.declared.script.Script.{Script}
use Rattle.lt_script.specs.Texts.{Spells}
use Rattle.lt_script.specs.Printing.{printed}

-- a text spells one script
abbrev pub OneScript : Type 0
OneScript = (bytes : List ℕ) (a b : Script) → Spells bytes a → Spells bytes b → a ≡ b

-- what is printed of a script that a text spells is a text that spells it, and none is shorter
abbrev pub PrintedIsRead : Type 0
PrintedIsRead = (bytes : List ℕ) (script : Script) → Spells bytes script → Spells (printed script) script × (length (printed script) ≤ length bytes)
