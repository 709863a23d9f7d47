-- What the first chunk shows of the bytes that came.
use Rattle.std.proofs.Common.{◌≡◌, ℕ, zero, suc, ◌≤◌, true, List, [], ◌∷◌, ◌++◌, length, map, take, drop, refl, ap, sym, ◌∙◌, subst, arith}
use Rattle.std.proofs.lemmas.List.{take_all, take-append-drop, take-take}
use Rattle.chunkqueue.specs.Items.{Item, Byte, FileByte, memory_front, Leads}
use Rattle.server_model.specs.Steps.{is_in_memory}

bytes_front : (bytes : List ℕ) → memory_front (map Byte bytes) ≡ bytes
bytes_front [] = refl
bytes_front (b ∷ bytes) = ap (λ (l : List ℕ). b ∷ l) (bytes_front bytes)

front_taken : (n : ℕ) (items : List Item) → is_in_memory items ≡ true → memory_front (take n items) ≡ take n (memory_front items)
front_taken zero items is = refl
front_taken (suc n) [] is = refl
front_taken (suc n) (Byte b ∷ items) is = ap (λ (l : List ℕ). b ∷ l) (front_taken n items is)
front_taken (suc n) (FileByte file at ∷ items) is = cc

-- the bytes that can leave are the first that came
pub first_bytes : (items : List Item) (staged front : List ℕ) → Leads items staged front → is_in_memory items ≡ true → front ≡ take (length front) (memory_front items)
first_bytes [] staged front leads is = leads ∙ sym (take_all (length front) [] (omega arith))
first_bytes (Byte b ∷ items) staged front leads is =
    sym (bytes_front front) ∙ ap memory_front leads.1 ∙ front_taken (length front) (Byte b ∷ items) is
first_bytes (FileByte file at ∷ items) staged front leads is = cc

-- the first of them are the first that came
pub first_part : (items : List Item) (staged front : List ℕ) (n : ℕ) → Leads items staged front → is_in_memory items ≡ true → n ≤ length front → take n front ≡ take n (memory_front items)
first_part items staged front n leads is fits = ap (take n) (first_bytes items staged front leads is) ∙ take-take n (length front) (memory_front items) fits
