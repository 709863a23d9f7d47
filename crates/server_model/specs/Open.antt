-- How many clients are open in a trace.
use Rattle.std.specs.Prelude.{ℕ, ◌+◌, ◌-◌, List, [], ◌∷◌}
use Rattle.lt_world.specs.Trace.{Act, Entry, Accepted, Close}

abbrev pub counted : Act → ℕ → ℕ
counted (Accepted peer local) n = n + 1
counted (Close ending) n = n - 1
counted act n = n

-- those that arrived, without those that were closed
abbrev pub open_clients : List Entry → ℕ
open_clients [] = 0
open_clients (entry ∷ trace) = counted entry.act (open_clients trace)
