-- How many bytes a write offers.
use Rattle.std.proofs.Common.{◌≡◌, ℕ, zero, suc, List, [], ◌∷◌, ◌++◌, length, refl, ap, sym, ◌∙◌}
use Rattle.std.specs.Prelude.{Result, Ok, Err, OnOk, IsOk}
use Rattle.chunkqueue.specs.Items.{Item, Byte, FileByte, Chunk, Memory, Range, Contents, items_in, items_of, staged_in, staged_of, front_in, front_of, staging_in, staging_of}
use Rattle.connection.specs.Connection.{offers_by, offers_of}

-- where no byte of a file stands first, nothing is to be staged
idle_byte : (chunks : List Chunk) (b : ℕ) (items : List Item) → items_in chunks ≡ Byte b ∷ items → staging_in chunks ≡ length (staged_in chunks)
idle_byte [] b items is = refl
idle_byte (Memory bytes ∷ chunks) b items is = refl
idle_byte (Range file start zero [] ∷ chunks) b items is = refl
idle_byte (Range file start zero (byte ∷ staged) ∷ chunks) b items is = refl
idle_byte (Range file start (suc len) staged ∷ chunks) b items is = absurd (cc is)

idle_none : (chunks : List Chunk) → items_in chunks ≡ [] → staging_in chunks ≡ length (staged_in chunks)
idle_none [] is = refl
idle_none (Memory bytes ∷ chunks) is = refl
idle_none (Range file start zero [] ∷ chunks) is = refl
idle_none (Range file start zero (byte ∷ staged) ∷ chunks) is = refl
idle_none (Range file start (suc len) staged ∷ chunks) is = absurd (cc is)

-- where one stands first, what is staged can leave
front_file : (chunks : List Chunk) (file at : ℕ) (items : List Item) → items_in chunks ≡ FileByte file at ∷ items → front_in chunks ≡ staged_in chunks
front_file [] file at items is = absurd (cc is)
front_file (Memory [] ∷ chunks) file at items is = refl
front_file (Memory (byte ∷ bytes) ∷ chunks) file at items is = absurd (cc is)
front_file (Range from start len staged ∷ chunks) file at items is = refl

offered : (old new : Contents) → items_of new ≡ items_of old → length (staged_of new) ≡ staging_of old → (staging_of old ≡ length (staged_of old) → new ≡ old) → length (front_of new) ≡ offers_of old
offered old new same staged idle = by (items_of old) refl
  where
    by : (items : List Item) → items_of old ≡ items → length (front_of new) ≡ offers_by items old
    by [] is = ap (λ (q : Contents). length (front_of q)) (idle (idle_none old.chunks is))
    by (Byte b ∷ items) is = ap (λ (q : Contents). length (front_of q)) (idle (idle_byte old.chunks b items is))
    by (FileByte file at ∷ items) is = ap (λ (l : List ℕ). length l) (front_file new.chunks file at items (same ∙ is)) ∙ staged

-- what can leave once the range that stands first is staged
pub offered_on : {V E : Type 0} (result : Result V E) (old new : Contents) → items_of new ≡ items_of old → OnOk result (length (staged_of new) ≡ staging_of old) → (staging_of old ≡ length (staged_of old) → new ≡ old) → OnOk result (length (front_of new) ≡ offers_of old)
offered_on (Ok v) old new same staged idle = offered old new same staged idle
offered_on (Err e) old new same staged idle = tt
