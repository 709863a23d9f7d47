-- Which links are clients': those that arrived. A link to a gateway is dialled.
use Rattle.std.specs.Prelude.{List, [], ◌∷◌, Bool, true, false}
use Rattle.lt_world.specs.Trace.{Act, Accepted}

-- a client arrived, by the acts of its link
abbrev pub has_arrived : List Act → Bool
has_arrived [] = false
has_arrived (Accepted peer local ∷ acts) = true
has_arrived (act ∷ acts) = has_arrived acts
