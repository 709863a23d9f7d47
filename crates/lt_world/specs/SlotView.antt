-- For proofs alone: the opened files as contracts see them.
use Rattle.std.specs.Prelude.{ℕ, List, [], ◌∷◌, Option, Some, None}
use Rattle.std.specs.declared.rc.Rc.{Rc}
use Rattle.lt_world.specs.declared.slots.Slots.TheInside.{Inside}

module _ {Z : Type 0} where
  -- the bytes that a slot shares, if it is open
  abbrev pub slot_bytes : Option (Rc (List ℕ) Z) → Option (List ℕ)
  slot_bytes None = None
  slot_bytes (Some shared) = Some shared.value

  -- the bytes of each slot
  abbrev pub slots_by : List (Option (Rc (List ℕ) Z)) → List (Option (List ℕ))
  slots_by [] = []
  slots_by (slot ∷ slots) = slot_bytes slot ∷ slots_by slots

-- the slots of the list
abbrev pub slots_of : Inside → List (Option (List ℕ))
slots_of a = slots_by a.slots.items
