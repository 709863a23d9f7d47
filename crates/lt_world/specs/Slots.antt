-- For proofs alone: what opening and closing makes of the numbered files.
use Rattle.std.specs.Prelude.{◌≡◌, ℕ, List, [], ◌∷◌, ◌++◌, length, set, nat_lt, Option, Some, None, if◌then◌else◌}

-- the next number, and it gets these bytes
abbrev pub OpensSlot : Option ℕ → List ℕ → List (Option (List ℕ)) → List (Option (List ℕ)) → Type 0
OpensSlot None bytes before after = after ≡ before
OpensSlot (Some file) bytes before after = (file ≡ length before) × (after ≡ before ++ Some bytes ∷ [])

-- the slot of this number is closed, if there is one
abbrev pub closes_slot : ℕ → List (Option (List ℕ)) → List (Option (List ℕ))
closes_slot file slots = if nat_lt file (length slots) then set slots file None else slots
