-- Items that are all bytes in memory.
use Rattle.std.proofs.Common.{◌≡◌, ℕ, zero, suc, ◌+◌, ◌≤◌, ◌-◌, true, List, [], ◌∷◌, ◌++◌, length, map, drop, refl, ap, ◌∙◌, arith}
use Rattle.std.proofs.lemmas.List.{drop-drop, length-drop}
use Rattle.chunkqueue.specs.Items.{Item, Byte, FileByte, Contents, items_of, count_of, memory_front}
use Rattle.server_model.specs.Steps.{is_in_memory}

pub memory_more : (items : List Item) (bytes : List ℕ) → is_in_memory items ≡ true → is_in_memory (items ++ map Byte bytes) ≡ true
memory_more [] [] is = refl
memory_more [] (b ∷ bytes) is = memory_more [] bytes refl
memory_more (Byte b ∷ items) bytes is = memory_more items bytes is
memory_more (FileByte file at ∷ items) bytes is = cc

pub front_more : (items : List Item) (bytes : List ℕ) → is_in_memory items ≡ true → memory_front (items ++ map Byte bytes) ≡ memory_front items ++ bytes
front_more [] [] is = refl
front_more [] (b ∷ bytes) is = ap (λ (l : List ℕ). b ∷ l) (front_more [] bytes refl)
front_more (Byte b ∷ items) bytes is = ap (λ (l : List ℕ). b ∷ l) (front_more items bytes is)
front_more (FileByte file at ∷ items) bytes is = cc

-- the bytes are as many as the items
pub front_length : (items : List Item) → is_in_memory items ≡ true → length (memory_front items) ≡ length items
front_length [] is = refl
front_length (Byte b ∷ items) is = ap suc (front_length items is)
front_length (FileByte file at ∷ items) is = cc

-- what is put into buffers is no more than what leaves the input
pub fills_less : (before after : ℕ) (was : List ℕ) (input input' : Contents) → memory_front (items_of input) ≡ was → is_in_memory (items_of input) ≡ true → is_in_memory (items_of input') ≡ true → after + count_of input' ≤ before + count_of input
    → after + length (memory_front (items_of input')) ≤ before + length was
fills_less before after was input input' is memory memory' paid = omega (arith, ap length is, front_length (items_of input) memory, front_length (items_of input') memory', paid)

pub memory_dropped : (n : ℕ) (items : List Item) → is_in_memory items ≡ true → is_in_memory (drop n items) ≡ true
memory_dropped zero items is = is
memory_dropped (suc n) [] is = refl
memory_dropped (suc n) (Byte b ∷ items) is = memory_dropped n items is
memory_dropped (suc n) (FileByte file at ∷ items) is = cc

pub front_dropped : (n : ℕ) (items : List Item) → is_in_memory items ≡ true → memory_front (drop n items) ≡ drop n (memory_front items)
front_dropped zero items is = refl
front_dropped (suc n) [] is = refl
front_dropped (suc n) (Byte b ∷ items) is = front_dropped n items is
front_dropped (suc n) (FileByte file at ∷ items) is = cc

-- n items are taken off, of which `left` were still to be taken
pub record Skipped (whole now : List Item) (n left : ℕ) : Type 0 where
  pub memory : is_in_memory now ≡ true
  pub within : left ≤ length now
  pub items : drop left now ≡ drop n whole

pub skipped : (before after whole : List Item) (taken left n : ℕ) → after ≡ drop taken before → taken ≤ left → is_in_memory before ≡ true → left ≤ length before → drop left before ≡ drop n whole
    → Skipped whole after n (left - taken)
skipped before after whole taken left n is some memory within items = record {
  memory = ap is_in_memory is ∙ memory_dropped taken before memory;
  within = omega (arith, ap (λ (l : List Item). length l) is, length-drop taken before, some, within);
  items = ap (drop (left - taken)) is ∙ drop-drop (left - taken) taken before ∙ ap (λ (m : ℕ). drop m before) (omega (arith, some)) ∙ items;
}
