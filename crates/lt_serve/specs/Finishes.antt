-- How a run over a net that waits finishes.
use Rattle.std.specs.Prelude.{◌≡◌, ℕ}
use Rattle.lt_world.specs.Causes.{Rose}
use Rattle.lt_world.specs.declared.net.NextKind.{NextKind}
use Rattle.lt_world.specs.declared.net.NextKind.TheVariants as kind
use Rattle.lt_serve.specs.declared.run.Finish.{Finish}
use Rattle.lt_serve.specs.declared.run.Finish.TheVariants as finish

-- by the net's last answer; a fault of waiting comes only after Idle, with a count that rose
abbrev pub FinishFits : Finish → NextKind → ℕ → ℕ → Type 0
FinishFits finish.Over last before after = last ≡ kind.Over
FinishFits finish.NoMemory last before after = last ≡ kind.NoMemory
FinishFits finish.WaitFault last before after = (last ≡ kind.Idle) × Rose before after
