-- The faults of a configuration, with their places.
use Rattle.std.specs.Prelude.{ℕ, Result, Ok, Err}
use Rattle.conf_eval.specs.declared.fault.ConfKind.{ConfKind}
use Rattle.conf_eval.specs.declared.fault.ConfKind.TheVariants as kind
use Rattle.conf_eval.specs.declared.fault.ConfFault.{ConfFault}
use Rattle.conf_eval.specs.declared.halt.Wrong.{Wrong}
use Rattle.conf_eval.specs.declared.halt.Wrong.TheVariants as wrong

-- a fault of this kind, in this file and line
abbrev pub fault : ConfKind → ℕ → ℕ → ConfFault
fault what file line = record { kind = what; file = file; line = line }

-- the kind of what is wrong with a statement
abbrev pub kind_of : Wrong → ConfKind
kind_of wrong.Duplicate = kind.Duplicate
kind_of wrong.UnknownVariable = kind.UnknownVariable
kind_of wrong.Mixed = kind.Mixed
kind_of wrong.Overflow = kind.Overflow
kind_of wrong.WrongType = kind.WrongType
kind_of wrong.BadValue = kind.BadValue
kind_of wrong.Deep = kind.Deep

-- what comes after, unless there is a fault before
abbrev pub proceed : {A B E : Type 0} → Result A E → (A → Result B E) → Result B E
proceed (Ok x) next = next x
proceed (Err e) next = Err e
