-- Why a client may be closed: one row for each ending.
use Rattle.std.specs.Prelude.{◌≡◌, List, ◌∷◌, Bool, true, false}
use Rattle.lt_world.specs.Trace.{Act, Accepted, Read, Wrote, Close}
use Rattle.lt_world.specs.declared.net.Ending.{Ending}
use Rattle.lt_world.specs.declared.net.Ending.TheVariants as ending
use Rattle.server_model.specs.Client.{has_failed}

-- it was closed as it arrived
abbrev pub is_turned_away : List Act → Bool
is_turned_away (Close e ∷ Accepted peer local ∷ acts) = true
is_turned_away acts = false

-- it was closed behind what may want memory: bytes that came, or bytes that it took
abbrev pub is_behind_want : List Act → Bool
is_behind_want (Close e ∷ Read asked bytes ∷ acts) = true
is_behind_want (Close e ∷ Wrote offered bytes ∷ acts) = true
is_behind_want acts = false

-- a client of these acts may be closed so; `faulted` says that a call on the files failed; that at a clean end all was taken, at Full the limit reached, and at NoMemory which bytes, is in `Due`
abbrev pub IsCause : Ending → List Act → Type 0 → Type 0
IsCause ending.Clean acts faulted = has_failed acts ≡ false
IsCause ending.Full acts faulted = is_turned_away acts ≡ true
IsCause ending.NoMemory acts faulted = is_behind_want acts ≡ true
IsCause ending.ClientFault acts faulted = has_failed acts ≡ true
IsCause ending.FileFault acts faulted = faulted
IsCause ending.GatewayCut acts faulted = ⊥
IsCause ending.Gate acts faulted = ⊥
