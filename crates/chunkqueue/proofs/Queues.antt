-- What the calls of a pooled queue make of its chunks.
use Rattle.std.proofs.Common.{◌≡◌, ℕ, ◌+◌, ◌*◌, ◌/◌, ◌^◌, ◌≤◌, ◌<◌, List, [], ◌∷◌, ◌++◌, length, flat_map, arith, ap, sym, ◌∙◌, refl, subst}
use Rattle.std.proofs.lemmas.List.{length-append}
use Rattle.lt_world.specs.Disk.{Disk}
use Rattle.buffer_pool.specs.State.{ChunkState}
use Rattle.buffer_pool.proofs.Keeping.{length_numbers}
use Rattle.buffer_pool.specs.declared.buffer.Kind.{Kind}
use Rattle.buffer_pool.specs.declared.buffer.Kind.TheVariants.{Bytes, File}
use Rattle.chunkqueue.specs.Items.{Item, Contents, range, items_of, count_of, staged_of, front_of, memory_front, Leads, AllLie, Shows}
use Rattle.chunkqueue.specs.Plain.{chunk_of, chunks_of, plain, front_of_segments, memory_before, segments_unstaged, first_staged, staged_by, FirstLies}
use Rattle.chunkqueue.specs.Pooled.{segment_from, segments_of, slices_from, slices_before, pooled, weight_from, weight_of, AllPaired, AreKept, IsPooled, Gains, items_of_chunks, memory_in, ranges_in, IsDense}
use Rattle.chunkqueue.proofs.Calls.{front-fits, leads, peeked}
use Rattle.chunkqueue.proofs.Following.{length-segments_of}
use Rattle.chunkqueue.proofs.Leaving.{as_plain}
use Rattle.chunkqueue.proofs.Ranges.{length-range}
use Rattle.chunkqueue.proofs.Segments.{segments-within, after_within}
use Rattle.chunkqueue.proofs.Staging.{first_lies, shows_staged}

-- each chunk has an item
chunks_within : (l : List ChunkState) → AreKept l → length l ≤ length (items_of_chunks l)
chunks_within l had = omega (arith, length-segments_of l, segments-within (segments_of l) had.held)

pub count_is : (q : Contents) (l : List ChunkState) (len : ℕ) → pooled l ≡ q → IsPooled l len → count_of q ≡ len
count_is q l len view had = ap count_of (sym view) ∙ sym had.counts

-- few chunks, so one more can be counted
pub push_room : (q : Contents) (l : List ChunkState) (len n : ℕ) → pooled l ≡ q → IsPooled l len → count_of q + n < 2 ^ 63 → length l + n < 2 ^ 64
push_room q l len n view had fits = omega (arith, count_is q l len view had, had.counts, chunks_within l had.kept)

pub join_room : (q r : Contents) (l m : List ChunkState) (len more : ℕ) → pooled l ≡ q → pooled m ≡ r → IsPooled l len → IsPooled m more → count_of q + count_of r < 2 ^ 63 → length l + length m < 2 ^ 64
join_room q r l m len more view behind had too fits = omega (arith, count_is q l len view had, count_is r m more behind too, had.counts, too.counts, chunks_within l had.kept, chunks_within m too.kept)

pub steal_room : (l m : List ChunkState) (len more : ℕ) → IsPooled l len → IsPooled m more → length l + length m + 1 < 2 ^ 64
steal_room l m len more had too = omega (arith, had.counts, had.fits, too.counts, too.fits, chunks_within l had.kept, chunks_within m too.kept)

-- the queue with items behind
pub gained_pooled : (q : Contents) (l next : List ChunkState) (len n : ℕ) (more : List Item) → pooled l ≡ q → IsPooled l len → Gains l next more → length more ≡ n → count_of q + n < 2 ^ 63 → IsPooled next (len + n)
gained_pooled q l next len n more view had gains size fits = record {
  kept = gains.kept;
  counts = omega (arith, had.counts, ap length gains.items, length-append (items_of_chunks l) more, size);
  fits = omega (arith, count_is q l len view had, fits);
}

pub range_pooled : (q : Contents) (l next : List ChunkState) (len file start n : ℕ) → pooled l ≡ q → IsPooled l len → Gains l next (range file start n) → count_of q + n < 2 ^ 63 → IsPooled next (len + n)
range_pooled q l next len file start n view had gains fits = gained_pooled q l next len n (range file start n) view had gains (length-range file start n) fits

-- what can leave
pub front_fits : (q : Contents) (l : List ChunkState) (n : ℕ) → pooled l ≡ q → n ≤ length (front_of q) → n ≤ length (front_of_segments (segments_of l))
front_fits q l n view h = front-fits (plain (segments_of l)) (segments_of l) n refl (subst (λ (c : Contents). n ≤ length (front_of c)) (sym view) h)

pub front_within : (q : Contents) (l : List ChunkState) (len n : ℕ) → pooled l ≡ q → IsPooled l len → n ≤ length (front_of q) → n ≤ len
front_within q l len n view had h = after_within n (segments_of l) len (as_plain l len had) (front_fits q l n view h)

pub pooled_leads : (q : Contents) (l : List ChunkState) (len : ℕ) (front : List ℕ) → pooled l ≡ q → IsPooled l len → front ≡ front_of_segments (segments_of l) → Leads (items_of q) (staged_of q) front
pooled_leads q l len front view had is =
    subst (λ (c : Contents). Leads (items_of c) (staged_of c) front) view (leads (plain (segments_of l)) (segments_of l) len front refl (as_plain l len had) is)

-- what a read stages
pub pooled_lies : (disk : Disk) (q : Contents) (l : List ChunkState) (len : ℕ) → pooled l ≡ q → IsPooled l len → (staged_of q ≡ [] → AllLie disk.table (items_of q)) → FirstLies disk (segments_of l)
pooled_lies disk q l len view had lies =
    first_lies disk (plain (segments_of l)) (segments_of l) refl had.kept.held (subst (λ (c : Contents). staged_of c ≡ [] → AllLie disk.table (items_of c)) (sym view) lies)

pub pooled_shows : (disk : Disk) (q : Contents) (l next : List ChunkState) (len : ℕ) → pooled l ≡ q → IsPooled l len → (staged_of q ≡ [] → AllLie disk.table (items_of q))
    → segments_unstaged (segments_of next) ≡ segments_unstaged (segments_of l) → first_staged (segments_of next) ≡ staged_by disk (segments_of l) → Shows disk.table (items_of q) (staged_of q)
    → Shows disk.table (items_of (pooled next)) (staged_of (pooled next))
pooled_shows disk q l next len view had lies same is shown =
    shows_staged disk (plain (segments_of l)) (segments_of l) (segments_of next) refl had.kept.held (subst (λ (c : Contents). staged_of c ≡ [] → AllLie disk.table (items_of c)) (sym view) lies) same is
    (subst (λ (c : Contents). Shows disk.table (items_of c) (staged_of c)) (sym view) shown)

-- bytes in memory before any range
pub pooled_peeked : (q : Contents) (l : List ChunkState) (len : ℕ) → pooled l ≡ q → IsPooled l len → memory_before (segments_of l) ≡ memory_front (items_of q)
pooled_peeked q l len view had = peeked (plain (segments_of l)) (segments_of l) len refl (as_plain l len had) ∙ ap (λ (c : Contents). memory_front (items_of c)) view

slice_joined : (k : Kind) (bytes : List ℕ) (cs : List ChunkState) → flat_map (λ (slice : List ℕ). slice) (slices_before cs) ≡ memory_before (segments_of cs)
    → flat_map (λ (slice : List ℕ). slice) (slices_from k bytes (slices_before cs)) ≡ memory_before (segment_from k bytes ∷ segments_of cs)
slice_joined Bytes bytes cs is = ap (λ (rest : List ℕ). bytes ++ rest) is
slice_joined (File file start len) bytes cs is = refl

slices_joined : (l : List ChunkState) → flat_map (λ (slice : List ℕ). slice) (slices_before l) ≡ memory_before (segments_of l)
slices_joined [] = refl
slices_joined (c ∷ cs) = slice_joined c.kind c.bytes cs (slices_joined cs)

-- the same, in the slices in which they lie
pub pooled_slices : (q : Contents) (l : List ChunkState) (len : ℕ) → pooled l ≡ q → IsPooled l len → flat_map (λ (slice : List ℕ). slice) (slices_before l) ≡ memory_front (items_of q)
pooled_slices q l len view had = slices_joined l ∙ pooled_peeked q l len view had

-- how many bytes in memory and how many ranges there are
memory_of : List ChunkState → ℕ
memory_of l = memory_in (chunks_of (segments_of l))

ranges_of : List ChunkState → ℕ
ranges_of l = ranges_in (chunks_of (segments_of l))

first_weight : List ChunkState → ℕ
first_weight [] = 0
first_weight (c ∷ cs) = weight_of c

memory_from : (k : Kind) (bytes : List ℕ) (cs : List ChunkState) → (2 * memory_in (chunk_of (segment_from k bytes) ∷ chunks_of (segments_of cs)) + 4096 * ranges_in (chunk_of (segment_from k bytes) ∷ chunks_of (segments_of cs))
    ≡ 2 * memory_in (chunks_of (segments_of cs)) + 4096 * ranges_in (chunks_of (segments_of cs)) + 2 * weight_from k bytes)
memory_from Bytes bytes cs = omega arith
memory_from (File file start len) bytes cs = omega arith

-- neighbours that are too large to be merged are few
few : (l : List ChunkState) → AllPaired l → 2048 * length l + first_weight l ≤ 2 * memory_of l + 4096 * ranges_of l + 2048
unfolding memory_of ranges_of first_weight
few [] h = omega arith
few (c ∷ []) h = omega (arith, memory_from c.kind c.bytes [])
few (c ∷ d ∷ cs) h = omega (arith, h.0, few (d ∷ cs) h.1, memory_from c.kind c.bytes (d ∷ cs))

dense_from : (n b f : ℕ) → 2048 * n ≤ 2 * b + 4096 * f + 4096 → n ≤ b / 1024 + 3 + 2 * f
dense_from n b f h = omega arith

dense : (l : List ChunkState) → AreKept l → length l ≤ memory_of l / 1024 + 3 + 2 * ranges_of l
unfolding memory_of ranges_of first_weight
dense [] had = omega arith
dense (c ∷ cs) had = dense_from (length (c ∷ cs)) (memory_of (c ∷ cs)) (ranges_of (c ∷ cs)) (omega (arith, few cs had.paired, memory_from c.kind c.bytes cs))

-- few nodes hold many bytes
pub kept_dense : (l : List ChunkState) → AreKept l → IsDense (pooled l)
unfolding memory_of ranges_of
kept_dense l had = omega (arith, dense l had, length_numbers l)

pub pooled_dense : (q : Contents) (l : List ChunkState) (len : ℕ) → pooled l ≡ q → IsPooled l len → IsDense q
pooled_dense q l len view had = subst IsDense view (kept_dense l had.kept)
