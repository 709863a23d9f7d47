-- What is put out of a configuration that was loaded (the lighttpd manual, "lighttpd -t": "Syntax OK").
use Rattle.std.specs.Prelude.{ℕ, List, ◌++◌, codes, flat_map}
use Rattle.std.specs.Fmt.{decimal}
use Rattle.conf_value.specs.declared.block.Warning.{Warning}
use Rattle.conf_eval.specs.declared.fault.Loaded.{Loaded}

-- that a key has no effect
abbrev pub unused : List ℕ → List ℕ
unused key = codes ": " ++ (key ++ codes " is not used\n")

-- the line of a warning
unfoldable pub warning_line : Warning → List ℕ
warning_line w = codes "warning: file " ++ (decimal w.file ++ (codes " line " ++ (decimal w.line ++ unused w.key)))

-- a line for each, in their order
abbrev pub lines_of : List Warning → List ℕ
lines_of warnings = flat_map warning_line warnings

abbrev pub warning_lines : Loaded → List ℕ
warning_lines loaded = lines_of loaded.config.warnings

-- what a check puts out of a configuration without a fault
abbrev pub checked : Loaded → List ℕ
checked loaded = warning_lines loaded ++ codes "Syntax OK\n"
