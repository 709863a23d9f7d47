use Rattle.std.proofs.Common.{◌≡◌, ◌++◌, take}
use Rattle.lt_script.specs.Printing.{printed_files}
use Rattle.lt_script.proofs.printing.print_files.Given as goal

abbrev pub invariant-loop-file : goal.invariant-loop-file
invariant-loop-file l = l.text ≡ l.initial.text ++ printed_files (take l.file-index l.files)
