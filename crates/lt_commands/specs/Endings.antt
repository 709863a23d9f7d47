-- How clients are closed where nothing fails.
use Rattle.std.specs.Prelude.{◌≡◌, ℕ, List, Some}
use Rattle.lt_world.specs.Acts.{ending_of}
use Rattle.lt_world.specs.declared.net.Ending.{Ending}
use Rattle.lt_world.specs.declared.net.Ending.TheVariants as ending
use Rattle.lt_world.specs.Trace.{Entry}
use Rattle.server_model.specs.Deeds.{own, ours}

-- clean, as one too many, or for want of memory
abbrev pub IsCalmEnding : Ending → Type 0
IsCalmEnding ending.Clean = Unit {0}
IsCalmEnding ending.Full = Unit {0}
IsCalmEnding ending.NoMemory = Unit {0}
IsCalmEnding other = ⊥

-- each client that was closed was closed so
abbrev pub AllEndCalmly : List Entry → Type 0
AllEndCalmly trace = (link : ℕ) (e : Ending) → ending_of (ours (own link trace)) ≡ Some e → IsCalmEnding e
