-- Bytes that are read, and what they make of the queues.
use Rattle.std.proofs.Common.{◌≡◌, zero, suc, ℕ, ◌+◌, true, false, Result, Ok, Err, List, [], ◌∷◌, ◌++◌, length, map, refl, ap, sym, ◌∙◌, subst, append-nil}
use Rattle.buffer_pool.specs.State.{PoolState}
use Rattle.buffer_pool.specs.Kept.{Kept}
use Rattle.buffer_pool.proofs.Keeping.{kept_both, kept_beside}
use Rattle.chunkqueue.specs.Items.{Item, Byte, FileByte, Contents, items_of, memory_front, empty}
use Rattle.fcgi_records.specs.declared.reader.ReaderState.{ReaderState}
use Rattle.fcgi_records.specs.declared.reader.RecordFault.{RecordFault}
use Rattle.fcgi_records.specs.declared.reader.RecordFault.TheVariants as fault
use Rattle.fcgi_records.specs.Feeding.{AllInMemory, bytes_of, UnlessNoMemory}
use Rattle.fcgi_records.proofs.FeedingLemmas.{front_of_bytes, memory_of_bytes}
use Rattle.fcgi_gateway.specs.Progress.{is_told}

pub pushed : (before now : Contents) (bytes : List ℕ) → before ≡ empty → items_of now ≡ items_of before ++ map Byte bytes → items_of now ≡ map Byte bytes
pushed before now bytes none is = is ∙ ap (λ (q : Contents). items_of q ++ map Byte bytes) none

pub pushed_memory : (now : Contents) (bytes : List ℕ) → items_of now ≡ map Byte bytes → AllInMemory (items_of now)
pushed_memory now bytes is = subst AllInMemory (sym is) (memory_of_bytes bytes)

pub pushed_bytes : (now : Contents) (bytes : List ℕ) → items_of now ≡ map Byte bytes → bytes_of now ≡ bytes
pushed_bytes now bytes is = ap memory_front is ∙ front_of_bytes bytes

memory_append : (items : List Item) (bytes : List ℕ) → AllInMemory items → AllInMemory (items ++ map Byte bytes)
memory_append [] bytes h = memory_of_bytes bytes
memory_append (Byte b ∷ items) bytes h = memory_append items bytes h
memory_append (FileByte file place ∷ items) bytes h = absurd h

front_append : (items : List Item) (bytes : List ℕ) → AllInMemory items → memory_front (items ++ map Byte bytes) ≡ memory_front items ++ bytes
front_append [] bytes h = front_of_bytes bytes
front_append (Byte b ∷ items) bytes h = ap (λ (l : List ℕ). b ∷ l) (front_append items bytes h)
front_append (FileByte file place ∷ items) bytes h = absurd h

pub gained_memory : (out now : Contents) (bytes : List ℕ) → AllInMemory (items_of out) → items_of now ≡ items_of out ++ map Byte bytes → AllInMemory (items_of now)
gained_memory out now bytes h is = subst AllInMemory (sym is) (memory_append (items_of out) bytes h)

pub gained_bytes : (out now : Contents) (bytes : List ℕ) → AllInMemory (items_of out) → items_of now ≡ items_of out ++ map Byte bytes → bytes_of now ≡ bytes_of out ++ bytes
gained_bytes out now bytes h is = ap memory_front is ∙ front_append (items_of out) bytes h

pub told_is : (r : Result ReaderState RecordFault) (P : Type 0) → is_told r ≡ true → UnlessNoMemory r P → P
told_is (Err fault.NoMemory) P e p = cc
told_is (Ok answer) P e p = p
told_is (Err fault.WrongVersion) P e p = p
told_is (Err fault.WrongId) P e p = p
told_is (Err fault.WrongType) P e p = p
told_is (Err fault.WrongEnd) P e p = p
told_is (Err (fault.Refused protocol)) P e p = p
told_is (Err fault.AfterEnd) P e p = p

-- a queue of its own is filled, fed from and closed
pub fed_kept : (p q r s : PoolState) (out none input out' input' : List ℕ) → none ≡ [] → Kept p none q input → Kept q (out ++ input) r (out' ++ input') → Kept r input' s [] → Kept p out s out'
fed_kept p q r s out none input out' input' is one two three =
    let first : Kept p out q (out ++ input) = subst (λ (l : List ℕ). Kept p l q (out ++ input)) (append-nil out)
    (kept_beside p q out [] input (subst (λ (l : List ℕ). Kept p l q input) is one)) in
    let last : Kept r (out' ++ input') s out' = subst (λ (l : List ℕ). Kept r (out' ++ input') s l) (append-nil out') (kept_beside r s out' input' [] three) in
    kept_both p r s out (out' ++ input') out' (kept_both p q r out (out ++ input) (out' ++ input') first two) last
