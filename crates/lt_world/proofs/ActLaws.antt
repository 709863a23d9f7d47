-- What the acts of a link come to is what its deeds come to.
use Rattle.std.proofs.Common.{◌≡◌, List, [], ◌∷◌, ◌++◌, refl, ap}
use Rattle.lt_world.specs.Trace.{Act, Accepted, Readable, Writable, Read, ReadEnd, NotYet, Failed, Wrote, Connect, Close}
use Rattle.lt_world.specs.Acts.{input_of, output_of, ending_of, deeds_of}
use Rattle.lt_world.specs.Laws.{DeedsTellAll}

-- the bytes that came are those that the deeds brought
pub input-deeds : (acts : List Act) → input_of (deeds_of acts) ≡ input_of acts
input-deeds [] = refl
input-deeds (Accepted peer local ∷ acts) = input-deeds acts
input-deeds (Readable ∷ acts) = input-deeds acts
input-deeds (Writable ∷ acts) = input-deeds acts
input-deeds (Read asked bytes ∷ acts) = ap (λ t. t ++ bytes) (input-deeds acts)
input-deeds (ReadEnd ∷ acts) = input-deeds acts
input-deeds (NotYet way ∷ acts) = input-deeds acts
input-deeds (Failed way ∷ acts) = input-deeds acts
input-deeds (Wrote offered bytes ∷ acts) = input-deeds acts
input-deeds (Connect owner to link ∷ acts) = input-deeds acts
input-deeds (Close ending ∷ acts) = input-deeds acts

-- the bytes that were taken are those that the deeds took
pub output-deeds : (acts : List Act) → output_of (deeds_of acts) ≡ output_of acts
output-deeds [] = refl
output-deeds (Accepted peer local ∷ acts) = output-deeds acts
output-deeds (Readable ∷ acts) = output-deeds acts
output-deeds (Writable ∷ acts) = output-deeds acts
output-deeds (Read asked bytes ∷ acts) = output-deeds acts
output-deeds (ReadEnd ∷ acts) = output-deeds acts
output-deeds (NotYet way ∷ acts) = output-deeds acts
output-deeds (Failed way ∷ acts) = output-deeds acts
output-deeds (Wrote offered bytes ∷ acts) = ap (λ t. t ++ bytes) (output-deeds acts)
output-deeds (Connect owner to link ∷ acts) = output-deeds acts
output-deeds (Close ending ∷ acts) = output-deeds acts

-- the link ended as the deeds say
pub ending-deeds : (acts : List Act) → ending_of (deeds_of acts) ≡ ending_of acts
ending-deeds [] = refl
ending-deeds (Accepted peer local ∷ acts) = refl
ending-deeds (Readable ∷ acts) = ending-deeds acts
ending-deeds (Writable ∷ acts) = ending-deeds acts
ending-deeds (Read asked bytes ∷ acts) = ending-deeds acts
ending-deeds (ReadEnd ∷ acts) = ending-deeds acts
ending-deeds (NotYet way ∷ acts) = ending-deeds acts
ending-deeds (Failed way ∷ acts) = ending-deeds acts
ending-deeds (Wrote offered bytes ∷ acts) = ending-deeds acts
ending-deeds (Connect owner to link ∷ acts) = ending-deeds acts
ending-deeds (Close ending ∷ acts) = refl

pub tell_all : DeedsTellAll
tell_all acts = (input-deeds acts, output-deeds acts, ending-deeds acts)
