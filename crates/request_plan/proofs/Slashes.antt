-- The last byte of a path.
use Rattle.std.proofs.Common.{◌≡◌, ℕ, List, [], ◌∷◌, ◌++◌, ◌==◌, refl}
use Rattle.lt_world.specs.Disk.{ends_in_slash}

pub slash_at_end : (before : List ℕ) (last : ℕ) → ends_in_slash (before ++ last ∷ []) ≡ (last == 47)
slash_at_end [] last = refl
slash_at_end (byte ∷ []) last = refl
slash_at_end (byte ∷ next ∷ before) last = slash_at_end (next ∷ before) last
