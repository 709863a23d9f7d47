-- What the acts of a link come to; the newest act stands first (README.md of this crate, 'What an object tells').
use Rattle.std.specs.Prelude.{ℕ, List, [], ◌∷◌, ◌++◌, Option, Some, None, Bool, true, false, if◌then◌else◌}
use Rattle.lt_world.specs.declared.net.Ending.{Ending}
use Rattle.lt_world.specs.Trace.{Act, Accepted, Readable, Writable, Read, Wrote, Close}

-- all bytes that came
abbrev pub input_of : List Act → List ℕ
input_of [] = []
input_of (Read asked bytes ∷ acts) = input_of acts ++ bytes
input_of (act ∷ acts) = input_of acts

-- all bytes that the peer took
abbrev pub output_of : List Act → List ℕ
output_of [] = []
output_of (Wrote offered bytes ∷ acts) = output_of acts ++ bytes
output_of (act ∷ acts) = output_of acts

-- how it was closed since it came, if it was
abbrev pub ending_of : List Act → Option Ending
ending_of [] = None
ending_of (Accepted peer local ∷ acts) = None
ending_of (Close ending ∷ acts) = Some ending
ending_of (act ∷ acts) = ending_of acts

-- that a link is ready is no deed
abbrev pub is_deed : Act → Bool
is_deed Readable = false
is_deed Writable = false
is_deed act = true

-- the acts without those that say that the link is ready
abbrev pub deeds_of : List Act → List Act
deeds_of [] = []
deeds_of (act ∷ acts) = if is_deed act then act ∷ deeds_of acts else deeds_of acts
