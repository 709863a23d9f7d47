-- Reads and writes that fail, and the lines that make them fail (README.md of this crate, 'How a script is played').
use Rattle.std.specs.Prelude.{◌≡◌, List, Bool, true, false}
use Rattle.std.specs.List.{list_any}
use Rattle.lt_world.specs.Trace.{Act, Entry, Failed}
use Rattle.lt_script.specs.declared.script.Step.{Step}
use Rattle.lt_script.specs.declared.script.Step.TheVariants as step

-- `rfail` or `wfail`: each later read or write of the link fails
abbrev pub makes_fail : Step → Bool
makes_fail (step.ReadFail name) = true
makes_fail (step.WriteFail name) = true
makes_fail other = false

-- no read and no write is made to fail
abbrev pub IsCalm : List Step → Type 0
IsCalm steps = list_any makes_fail steps ≡ false

-- a read or a write failed
abbrev pub is_failure : Act → Bool
is_failure (Failed way) = true
is_failure other = false

-- no read and no write failed
abbrev pub NoneFailed : List Entry → Type 0
NoneFailed trace = list_any (λ entry. is_failure entry.act) trace ≡ false
