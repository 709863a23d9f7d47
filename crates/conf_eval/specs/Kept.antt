-- A device: what the code keeps of a load, as what was loaded so far, and what variables are set to.
use Rattle.std.specs.Prelude.{ℕ, List, Option}
use Rattle.conf_value.specs.declared.value.Value.{Value}
use Rattle.conf_eval.specs.declared.loading.Loading.{Loading}
use Rattle.conf_eval.specs.declared.scope.Scope.{Scope}
use Rattle.conf_eval.specs.Settings.{State, nearest}

abbrev pub state_of : Loading → State
state_of l = record { blocks = l.built.blocks; warnings = l.warnings; patterns = l.built.patterns; files = l.files; room = l.room }

-- what a key is set to in these blocks, the innermost first
abbrev pub look : Scope → List ℕ → Option Value
look s = nearest s.built.now.blocks s.scopes.now
