-- A device: what the reader of a text answers.
use Rattle.std.specs.Prelude.{◌≡◌, ◌≢◌, ℕ, Result, Ok, Err}
use Rattle.conf_parse.specs.declared.tree.Tree.{Tree}
use Rattle.conf_eval.specs.declared.fault.ConfKind.{ConfKind}
use Rattle.conf_eval.specs.declared.fault.ConfKind.TheVariants as kind
use Rattle.conf_eval.specs.declared.tree.TreeError.{TreeError}
use Rattle.conf_eval.specs.declared.tree.TreeError.TheVariants as e

-- the answer is the one that is due, unless memory ran out
abbrev pub IsTree : Result Tree (ConfKind × ℕ) → Result Tree TreeError → Type 0
IsTree due (Ok tree) = due ≡ Ok tree
IsTree due (Err (e.Fault kind line)) = due ≡ Err (kind, line)
IsTree due (Err e.NoMemory) = Unit {0}

-- a text by itself is at fault, and not the reading of it
abbrev pub IsOfText : TreeError → Type 0
IsOfText (e.Fault what line) = what ≢ kind.TextFault
IsOfText e.NoMemory = Unit {0}
