-- Chunks that are parted after their first items.
use Rattle.std.proofs.Common.{◌≡◌, ℕ, ◌+◌, ◌-◌, ◌≤◌, ◌<◌, List, [], ◌∷◌, ◌++◌, length, take, drop, map, arith, ap, sym, ◌∙◌, subst, append_assoc}
use Rattle.std.proofs.lemmas.List.{length-append, length-drop, append-nil, take-append-le, drop-append-le, take-append-drop, take-map, drop-map}
use Rattle.std.proofs.Math.Seq.{take-add}
use Rattle.buffer_pool.specs.State.{ChunkState, PoolState}
use Rattle.buffer_pool.specs.Edits.{first_of, with_first, dropped, as_file}
use Rattle.buffer_pool.specs.Kept.{numbers, Kept}
use Rattle.buffer_pool.specs.declared.buffer.Kind.{Kind}
use Rattle.buffer_pool.specs.declared.buffer.Kind.TheVariants.{Bytes, File}
use Rattle.buffer_pool.proofs.Keeping.{numbers_append, places_append, made_between-sum}
use Rattle.chunkqueue.specs.Items.{Item, Byte, chunk_items, range, staged_behind}
use Rattle.chunkqueue.specs.Plain.{chunk_of, segment_left, AllHeld, NoneStaged}
use Rattle.chunkqueue.specs.Pooled.{segment_from, segment_of, segments_of, AllSound, AllPaired, BehindPaired, AllTight, BehindTight, AreKept, CanFollow, Gains, Moved, items_of_chunks, staged_of_chunks}
use Rattle.chunkqueue.specs.declared.segment.Segment.{Segment}
use Rattle.chunkqueue.proofs.Cutting.{take-parts, drop-parts, nothing_behind}
use Rattle.chunkqueue.proofs.Following.{items_of_chunks-append}
use Rattle.chunkqueue.proofs.Pooling.{as_memory, gains_both}
use Rattle.chunkqueue.proofs.Ranges.{length-range, take-range, drop-range}
use Rattle.chunkqueue.proofs.Segments.{length-chunk_items, NoneStaged-first, NoneStaged-staged}

-- a whole chunk more
pub moved_parts : (a b c d : List ChunkState) → c ≡ a ++ take 1 b → d ≡ drop 1 b → c ++ d ≡ a ++ b
moved_parts a b c d is rest = rw (is, rest) (append_assoc a (take 1 b) (drop 1 b) ∙ ap (λ (m : List ChunkState). a ++ m) (take-append-drop 1 b))

one_moved : (a b : List ChunkState) → 0 < length b → length (items_of_chunks (a ++ take 1 b)) ≡ length (items_of_chunks a) + segment_left (segment_of (first_of b))
one_moved a [] some = absurd (omega arith)
one_moved a (c ∷ cs) some =
    omega (arith, ap length (items_of_chunks-append a (c ∷ [])), length-append (items_of_chunks a) (items_of_chunks (c ∷ [])), ap length (append-nil (chunk_items (chunk_of (segment_of c)))), length-chunk_items (segment_of c))

pub moved_count : (a b c : List ChunkState) (len : ℕ) → c ≡ a ++ take 1 b → 0 < length b → len ≡ segment_left (segment_of (first_of b)) → length (items_of_chunks c) ≡ length (items_of_chunks a) + len
moved_count a b c len is some size = omega (arith, ap (λ (m : List ChunkState). length (items_of_chunks m)) is, one_moved a b some)

pub moved_size : (a b c d : List ChunkState) → c ≡ a ++ take 1 b → d ≡ drop 1 b → 0 < length b → (length c + length d ≡ length a + length b) × (length d < length b)
moved_size a [] c d is rest some = absurd (omega arith)
moved_size a (x ∷ b) c d is rest some = (omega (arith, ap length is, ap length rest, length-append a (x ∷ [])), omega (arith, ap length rest))

-- the first items of the first chunk
memory_first : (l : List ChunkState) (n : ℕ) → 0 < length l → (first_of l).kind ≡ Bytes → n < segment_left (segment_of (first_of l)) → take n (items_of_chunks l) ≡ map Byte (take n (first_of l).bytes)
memory_first [] n some is less = absurd (omega arith)
memory_first (c ∷ cs) n some is less =
    let now : chunk_items (chunk_of (segment_of c)) ≡ map Byte c.bytes = ap (λ (s : Segment). chunk_items (chunk_of s)) (as_memory c is) in
    take-append-le n (chunk_items (chunk_of (segment_of c))) (items_of_chunks cs) (omega (arith, length-chunk_items (segment_of c))) ∙ ap (take n) now ∙ take-map Byte n c.bytes

as_range : (c : ChunkState) (file start len : ℕ) → c.kind ≡ File file start len → chunk_items (chunk_of (segment_of c)) ≡ range file start len
as_range c file start len is = ap (λ (k : Kind). chunk_items (chunk_of (segment_from k c.bytes))) is

range_first : (l : List ChunkState) (n file start len : ℕ) → 0 < length l → (first_of l).kind ≡ File file start len → n < segment_left (segment_of (first_of l)) → take n (items_of_chunks l) ≡ range file start n
range_first [] n file start len some is less = absurd (omega arith)
range_first (c ∷ cs) n file start len some is less =
    let within : n ≤ len = omega (arith, length-chunk_items (segment_of c), ap length (as_range c file start len is), length-range file start len) in
    take-append-le n (chunk_items (chunk_of (segment_of c))) (items_of_chunks cs) (omega (arith, length-chunk_items (segment_of c))) ∙ ap (take n) (as_range c file start len is) ∙ take-range file start len n within

pub gains_memory : (front next l : List ChunkState) (n : ℕ) (bytes : List ℕ) → 0 < length l → (first_of l).kind ≡ Bytes → n < segment_left (segment_of (first_of l)) → bytes ≡ take n (first_of l).bytes
    → Gains front next (map Byte bytes) → Gains front next (take n (items_of_chunks l))
gains_memory front next l n bytes some is less same gains = subst (λ (i : List Item). Gains front next i) (ap (map Byte) same ∙ sym (memory_first l n some is less)) gains

pub gains_range : (front next l : List ChunkState) (n file start len : ℕ) → 0 < length l → (first_of l).kind ≡ File file start len → n < segment_left (segment_of (first_of l))
    → Gains front next (range file start n) → Gains front next (take n (items_of_chunks l))
gains_range front next l n file start len some is less gains = subst (λ (i : List Item). Gains front next i) (sym (range_first l n file start len some is less)) gains

-- and the others
pub memory_left : (l next : List ChunkState) (n : ℕ) → 0 < length l → (first_of l).kind ≡ Bytes → n < segment_left (segment_of (first_of l)) → next ≡ with_first l (dropped (first_of l) n) → items_of_chunks next ≡ drop n (items_of_chunks l)
memory_left [] next n some is less put = absurd (omega arith)
memory_left (c ∷ cs) next n some is less put =
    let now : chunk_items (chunk_of (segment_of c)) ≡ map Byte c.bytes = ap (λ (s : Segment). chunk_items (chunk_of s)) (as_memory c is) in
    let rest : chunk_items (chunk_of (segment_of (dropped c n))) ≡ map Byte (drop n c.bytes) = ap (λ (s : Segment). chunk_items (chunk_of s)) (as_memory (dropped c n) is) in
    ap items_of_chunks put ∙ ap (λ (i : List Item). i ++ items_of_chunks cs) (rest ∙ sym (drop-map Byte n c.bytes) ∙ ap (drop n) (sym now))
    ∙ sym (drop-append-le n (chunk_items (chunk_of (segment_of c))) (items_of_chunks cs) (omega (arith, length-chunk_items (segment_of c))))

pub range_left : (l next : List ChunkState) (n file start len : ℕ) → 0 < length l → (first_of l).kind ≡ File file start len → n < segment_left (segment_of (first_of l)) → next ≡ with_first l (as_file (first_of l) file (start + n) (len - n))
    → items_of_chunks next ≡ drop n (items_of_chunks l)
range_left [] next n file start len some is less put = absurd (omega arith)
range_left (c ∷ cs) next n file start len some is less put =
    let within : n ≤ len = omega (arith, length-chunk_items (segment_of c), ap length (as_range c file start len is), length-range file start len) in
    ap items_of_chunks put ∙ ap (λ (i : List Item). i ++ items_of_chunks cs) (sym (drop-range file start len n within) ∙ ap (drop n) (sym (as_range c file start len is)))
    ∙ sym (drop-append-le n (chunk_items (chunk_of (segment_of c))) (items_of_chunks cs) (omega (arith, length-chunk_items (segment_of c))))

-- parts of chunks are as the chunks were
held_first : (a b : List ChunkState) → AllHeld (segments_of (a ++ b)) → AllHeld (segments_of a)
held_first [] b h = tt
held_first (c ∷ a) b h = (h.0, held_first a b h.1)

held_last : (a b : List ChunkState) → AllHeld (segments_of (a ++ b)) → AllHeld (segments_of b)
held_last [] b h = h
held_last (c ∷ a) b h = held_last a b h.1

none_first : (a b : List ChunkState) → NoneStaged (segments_of (a ++ b)) → NoneStaged (segments_of a)
none_first [] b h = tt
none_first (c ∷ a) b h = (h.0, none_first a b h.1)

none_last : (a b : List ChunkState) → NoneStaged (segments_of (a ++ b)) → NoneStaged (segments_of b)
none_last [] b h = h
none_last (c ∷ a) b h = none_last a b h.1

sound_first : (a b : List ChunkState) → AllSound (a ++ b) → AllSound a
sound_first [] b h = tt
sound_first (c ∷ a) b h = (h.0, sound_first a b h.1)

sound_last : (a b : List ChunkState) → AllSound (a ++ b) → AllSound b
sound_last [] b h = h
sound_last (c ∷ a) b h = sound_last a b h.1

paired_first : (a b : List ChunkState) → AllPaired (a ++ b) → AllPaired a
paired_first [] b h = tt
paired_first (c ∷ []) b h = tt
paired_first (c ∷ d ∷ a) b h = (h.0, paired_first (d ∷ a) b h.1)

behind_first : (a b : List ChunkState) → BehindPaired (a ++ b) → BehindPaired a
behind_first [] b h = tt
behind_first (c ∷ a) b h = paired_first a b h

all_tight_first : (a b : List ChunkState) → AllTight (a ++ b) → AllTight a
all_tight_first [] b h = tt
all_tight_first (c ∷ a) b h = (h.0, all_tight_first a b h.1)

tight_first : (a b : List ChunkState) → BehindTight (a ++ b) → BehindTight a
tight_first [] b h = tt
tight_first (c ∷ a) b h = all_tight_first a b h

tight_of : (b : List ChunkState) → AllTight b → BehindTight b
tight_of [] h = tt
tight_of (c ∷ b) h = h.1

all_tight_last : (a b : List ChunkState) → AllTight (a ++ b) → AllTight b
all_tight_last [] b h = h
all_tight_last (c ∷ a) b h = all_tight_last a b h.1

tight_last : (a b : List ChunkState) → BehindTight (a ++ b) → BehindTight b
tight_last [] b h = h
tight_last (c ∷ a) b h = tight_of b (all_tight_last a b h)

tail_paired : (c : ChunkState) (b : List ChunkState) → AllPaired (c ∷ b) → AllPaired b
tail_paired c [] h = tt
tail_paired c (d ∷ b) h = h.1

behind_of : (b : List ChunkState) → AllPaired b → BehindPaired b
behind_of [] h = tt
behind_of (c ∷ b) h = tail_paired c b h

paired_last : (a b : List ChunkState) → AllPaired (a ++ b) → AllPaired b
paired_last [] b h = h
paired_last (c ∷ a) b h = paired_last a b (tail_paired c (a ++ b) h)

behind_last : (a b : List ChunkState) → BehindPaired (a ++ b) → BehindPaired b
behind_last [] b h = h
behind_last (c ∷ a) b h = behind_of b (paired_last a b h)

pub front_follows : (a b l : List ChunkState) → a ++ b ≡ l → CanFollow l → CanFollow a
front_follows a b l is can =
    let all : CanFollow (a ++ b) = subst CanFollow (sym is) can in
    record { held = held_first a b all.held; none = none_first a b all.none; sound = sound_first a b all.sound; paired = behind_first a b all.paired; tight = tight_first a b all.tight }

pub back_follows : (a b l : List ChunkState) → a ++ b ≡ l → CanFollow l → CanFollow b
back_follows a b l is can =
    let all : CanFollow (a ++ b) = subst CanFollow (sym is) can in
    record { held = held_last a b all.held; none = none_last a b all.none; sound = sound_last a b all.sound; paired = behind_last a b all.paired; tight = tight_last a b all.tight }

pub follows_kept : (l : List ChunkState) → CanFollow l → AreKept l
follows_kept l can = record { held = can.held; first = NoneStaged-first (segments_of l) can.none; sound = can.sound; paired = can.paired; tight = can.tight }

first_within : (b : List ChunkState) → 0 < length b → segment_left (segment_of (first_of b)) ≤ length (items_of_chunks b)
first_within [] some = absurd (omega arith)
first_within (c ∷ b) some = omega (arith, length-chunk_items (segment_of c), length-append (chunk_items (chunk_of (segment_of c))) (items_of_chunks b))

-- whole chunks went behind the others
pub whole_moved : (l from a b now : List ChunkState) (n left : ℕ) → CanFollow from → a ++ b ≡ from → length (items_of_chunks a) + left ≡ n → AreKept l → AreKept now → items_of_chunks now ≡ items_of_chunks l ++ items_of_chunks a
    → staged_of_chunks now ≡ staged_behind (items_of_chunks l) (staged_of_chunks l) (staged_of_chunks a) → Moved l from now b n left
whole_moved l from a b now n left can is size had still items staged =
    let k = length (items_of_chunks a) in
    record {
      some = k;
      count = size;
      gains = record {
        kept = still;
        items = items ∙ ap (λ (i : List Item). items_of_chunks l ++ i)
            (sym (ap (λ (m : List ChunkState). take k (items_of_chunks m)) (sym is) ∙ ap (take k) (items_of_chunks-append a b) ∙ take-parts (items_of_chunks a) (items_of_chunks b) k 0 (omega arith) ∙ append-nil (items_of_chunks a)));
        staged = staged ∙ ap (staged_behind (items_of_chunks l) (staged_of_chunks l)) (NoneStaged-staged (segments_of a) (front_follows a b from is can).none) ∙ nothing_behind (segments_of l) had.held;
      };
      follows = back_follows a b from is can;
      items = sym (ap (λ (m : List ChunkState). drop k (items_of_chunks m)) (sym is) ∙ ap (drop k) (items_of_chunks-append a b) ∙ drop-parts (items_of_chunks a) (items_of_chunks b) k 0 (omega arith));
    }

module _ (l from now rest : List ChunkState) (n left : ℕ) (moved : Moved l from now rest n left) where
  left_count : length (items_of_chunks rest) ≡ length (items_of_chunks from) - moved.some
  left_count = ap length moved.items ∙ length-drop moved.some (items_of_chunks from)

  -- something is left
  pub moved_some : n ≤ length (items_of_chunks from) → 0 < left → 0 < length rest
  moved_some within some = by rest (omega (arith, left_count, moved.count))
    where
      by : (m : List ChunkState) → 0 < length (items_of_chunks m) → 0 < length m
      by [] h = h
      by (c ∷ m) h = omega arith

  -- a chunk is split only where not all is moved
  pub moved_less : 0 < length rest → left < segment_left (segment_of (first_of rest)) → n < length (items_of_chunks from)
  moved_less some less = omega (arith, first_within rest some, left_count, moved.count)

  -- and then its first items went there too
  pub moved_more : (last : List ChunkState) → Gains now last (take left (items_of_chunks rest)) → Gains l last (take n (items_of_chunks from))
  moved_more last gains =
      subst (λ (i : List Item). Gains l last i)
      (ap (λ (i : List Item). take moved.some (items_of_chunks from) ++ take left i) moved.items ∙ sym (take-add moved.some left (items_of_chunks from)) ∙ ap (λ (k : ℕ). take k (items_of_chunks from)) moved.count)
      (gains_both l now last (take moved.some (items_of_chunks from)) (take left (items_of_chunks rest)) moved.gains gains)

-- the buffers of the chunks that are left, beside those that were given
pub beside_kept : (p q : PoolState) (given from front rest now last : List ℕ) → from ≡ front ++ rest → last ≡ rest → Kept p (given ++ front) q now → Kept p (given ++ from) q (now ++ last)
beside_kept p q given from front rest now last is same one = rw (is, same) (record {
  rises = one.rises;
  counts = λ n. omega (arith, one.counts n, places_append n given (front ++ rest), places_append n front rest, places_append n given front, places_append n now rest);
  total = omega (arith, one.total, length-append given (front ++ rest), length-append front rest, length-append given front, length-append now rest);
})

pub cut_numbers : (l a b : List ChunkState) → a ++ b ≡ l → numbers l ≡ numbers a ++ numbers b
cut_numbers l a b is = ap numbers (sym is) ∙ numbers_append a b

-- from an empty list on
pub as_parts : (a b l e : List ChunkState) → e ≡ [] → a ++ b ≡ e ++ l → a ++ b ≡ l
as_parts a b l e none is = is ∙ ap (λ (m : List ChunkState). m ++ l) none

pub as_count : (a e : List ChunkState) (n left : ℕ) → e ≡ [] → length (items_of_chunks a) + left ≡ length (items_of_chunks e) + n → length (items_of_chunks a) + left ≡ n
as_count a e n left none is = omega (arith, is, ap (λ (m : List ChunkState). length (items_of_chunks m)) none)

pub parts_long : (l a b : List ChunkState) → a ++ b ≡ l → length a + length b ≡ length l
parts_long l a b is = sym (length-append a b) ∙ ap length is

pub numbers_long : (l a b : List ChunkState) → a ++ b ≡ l → length (numbers a) + length (numbers b) ≡ length (numbers l)
numbers_long l a b is = sym (length-append (numbers a) (numbers b)) ∙ ap length (sym (cut_numbers l a b is))

-- two calls, of which the second is given what the first left
pub stolen_kept : (p q r : PoolState) (l from still now rest next last : List ℕ) → still ≡ from → Kept p (l ++ still) q (now ++ rest) → last ≡ rest → Kept q now r next → Kept p (l ++ from) r (next ++ last)
stolen_kept p q r l from still now rest next last e one same two = rw (← e, same) (record {
  rises = omega (arith, one.rises, two.rises);
  counts = λ n. grind (arith, one.counts n, two.counts n, places_append n now rest, places_append n next rest, made_between-sum p.made q.made r.made n one.rises two.rises);
  total = omega (arith, one.total, two.total, length-append now rest, length-append next rest);
})
