-- The chunks of a pooled queue as segments, and how they are kept.
use Rattle.std.specs.Prelude.{◌≡◌, ℕ, ◌+◌, ◌-◌, ◌*◌, ◌/◌, ◌^◌, ◌==◌, ◌≤◌, ◌<◌, List, [], ◌∷◌, ◌++◌, length, map, min, take, drop, if◌then◌else◌}
use Rattle.buffer_pool.specs.State.{ChunkState, PoolState, IsWithin}
use Rattle.buffer_pool.specs.Edits.{first_of, dropped}
use Rattle.buffer_pool.specs.Kept.{numbers}
use Rattle.buffer_pool.specs.declared.buffer.Kind.{Kind}
use Rattle.buffer_pool.specs.declared.buffer.Kind.TheVariants.{Bytes, File}
use Rattle.buffer_pool.specs.declared.buffer.TheConstants.{BUFFER_SIZE}
use Rattle.chunkqueue.specs.Items.{Item, Chunk, Memory, Range, Contents, staged_in}
use Rattle.chunkqueue.specs.Plain.{chunks_of, segment_left, segment_items, AllHeld, NoneStaged, FirstStaged}
use Rattle.chunkqueue.specs.declared.segment.Segment.{Segment}
use Rattle.chunkqueue.specs.declared.segment.Segment.TheVariants as segment
use Rattle.chunkqueue.specs.declared.merging.TheConstants.{MERGE_SIZE}

abbrev pub segment_from : Kind → List ℕ → Segment
segment_from Bytes bytes = segment.Memory bytes
segment_from (File file start len) bytes = segment.File (record { file = file; start = start; len = len; staged = bytes })

-- a chunk as a segment: its bytes, or the rest of a range with those of its bytes that are staged
abbrev pub segment_of : ChunkState → Segment
segment_of c = segment_from c.kind c.bytes

abbrev pub segments_of : List ChunkState → List Segment
segments_of = map segment_of

-- what is before the first range: a chunk's bytes, and what is in the chunks behind it
abbrev pub slices_from : Kind → List ℕ → List (List ℕ) → List (List ℕ)
slices_from Bytes bytes slices = bytes ∷ slices
slices_from (File file start len) bytes slices = []

-- the bytes of the chunks in memory before any range, a list each
abbrev pub slices_before : List ChunkState → List (List ℕ)
slices_before [] = []
slices_before (c ∷ cs) = slices_from c.kind c.bytes (slices_before cs)

-- what a queue of these chunks holds, and the numbers of their nodes
abbrev pub pooled : List ChunkState → Contents
pooled chunks = record { chunks = chunks_of (segments_of chunks); numbers = numbers chunks }

-- a range's end is a position in a file
abbrev pub Ends : Kind → Type 0
Ends Bytes = Unit {0}
Ends (File file start len) = start + len < 2 ^ 63

-- the buffer of a chunk that holds nothing has all its room
pub record IsSound (c : ChunkState) : Type 0 where
  pub within : IsWithin c
  pub roomy : length c.bytes ≡ 0 → c.room ≡ BUFFER_SIZE
  pub ends : Ends c.kind

abbrev pub AllSound : List ChunkState → Type 0
AllSound [] = Unit {0}
AllSound (c ∷ cs) = IsSound c × AllSound cs

abbrev pub weight_from : Kind → List ℕ → ℕ
weight_from Bytes bytes = length bytes
weight_from (File file start len) bytes = MERGE_SIZE

-- how much a chunk counts where neighbours are merged: the bytes in memory, and a range as if it were too large
abbrev pub weight_of : ChunkState → ℕ
weight_of c = weight_from c.kind c.bytes

-- two neighbours are too large to be merged
abbrev pub AllPaired : List ChunkState → Type 0
AllPaired [] = Unit {0}
AllPaired (c ∷ []) = Unit {0}
AllPaired (c ∷ d ∷ cs) = (MERGE_SIZE < weight_of c + weight_of d) × AllPaired (d ∷ cs)

-- neighbours behind the front
abbrev pub BehindPaired : List ChunkState → Type 0
BehindPaired [] = Unit {0}
BehindPaired (c ∷ cs) = AllPaired cs

-- all that a chunk does not hold is room
abbrev pub IsTight : ChunkState → Type 0
IsTight c = length c.bytes + c.room ≡ BUFFER_SIZE

abbrev pub AllTight : List ChunkState → Type 0
AllTight [] = Unit {0}
AllTight (c ∷ cs) = IsTight c × AllTight cs

-- bytes were taken off the front chunk alone
abbrev pub BehindTight : List ChunkState → Type 0
BehindTight [] = Unit {0}
BehindTight (c ∷ cs) = AllTight cs

-- the chunks as every call leaves them
pub record AreKept (chunks : List ChunkState) : Type 0 where
  pub held : AllHeld (segments_of chunks)
  pub first : FirstStaged (segments_of chunks)
  pub sound : AllSound chunks
  pub paired : BehindPaired chunks
  pub tight : BehindTight chunks

-- the chunks of a queue with so many items
pub record IsPooled (chunks : List ChunkState) (len : ℕ) : Type 0 where
  pub kept : AreKept chunks
  pub counts : len ≡ length (segment_items (segments_of chunks))
  pub fits : len < 2 ^ 63

abbrev pub items_of_chunks : List ChunkState → List Item
items_of_chunks chunks = segment_items (segments_of chunks)

abbrev pub staged_of_chunks : List ChunkState → List ℕ
staged_of_chunks chunks = staged_in (chunks_of (segments_of chunks))

-- items are behind the others
pub record Gains (old new : List ChunkState) (more : List Item) : Type 0 where
  pub kept : AreKept new
  pub items : items_of_chunks new ≡ items_of_chunks old ++ more
  pub staged : staged_of_chunks new ≡ staged_of_chunks old

abbrev pub cut : Kind → ℕ → Kind
cut Bytes n = Bytes
cut (File file start len) n = File file (start + n) (len - n)

-- a chunk without its first n items
abbrev pub chunk_after : ChunkState → ℕ → ChunkState
chunk_after c n = record (dropped c n) { kind = cut c.kind n }

-- chunks without their first n items, which are in the first one; a chunk that is spent is gone
abbrev pub chunks_after : ℕ → List ChunkState → List ChunkState
chunks_after n [] = []
chunks_after n (c ∷ cs) = if segment_left (segment_of (chunk_after c n)) == 0 then cs else chunk_after c n ∷ cs

-- bytes in memory that wait
abbrev pub memory_in : List Chunk → ℕ
memory_in [] = 0
memory_in (Memory bytes ∷ chunks) = length bytes + memory_in chunks
memory_in (Range file start len staged ∷ chunks) = memory_in chunks

-- ranges of files that wait
abbrev pub ranges_in : List Chunk → ℕ
ranges_in [] = 0
ranges_in (Memory bytes ∷ chunks) = ranges_in chunks
ranges_in (Range file start len staged ∷ chunks) = 1 + ranges_in chunks

-- few nodes hold many bytes
abbrev pub IsDense : Contents → Type 0
IsDense queue = length queue.numbers ≤ memory_in queue.chunks / 1024 + 3 + 2 * ranges_in queue.chunks

-- a pool in which nothing but the count of bytes changed, by n at most
pub record FillsOnly (old new : PoolState) (n : ℕ) : Type 0 where
  pub free : new.free ≡ old.free
  pub made : new.made ≡ old.made
  pub filled : new.filled ≤ old.filled + n

-- nothing of a range that isn't staged stands first
abbrev pub idle_from : Kind → List ℕ → Type 0
idle_from Bytes bytes = Unit {0}
idle_from (File file start len) bytes = 0 < length bytes

abbrev pub IsIdle : List ChunkState → Type 0
IsIdle [] = Unit {0}
IsIdle (c ∷ cs) = idle_from c.kind c.bytes

-- a range stands first of which nothing is staged, and these are the next bytes to be read
pub record Unread (chunks : List ChunkState) (file start n : ℕ) : Type 0 where
  pub some : 0 < length chunks
  pub none : (first_of chunks).bytes ≡ []
  pub len : ℕ
  pub ranged : (first_of chunks).kind ≡ File file start len
  pub next : n ≡ min len BUFFER_SIZE

abbrev pub staged_from : Kind → List ℕ → List ℕ
staged_from Bytes bytes = []
staged_from (File file start len) bytes = bytes

-- chunks that can stand behind others
pub record CanFollow (chunks : List ChunkState) : Type 0 where
  pub held : AllHeld (segments_of chunks)
  pub none : NoneStaged (segments_of chunks)
  pub sound : AllSound chunks
  pub paired : BehindPaired chunks
  pub tight : BehindTight chunks

-- the first n items but the last ones, as many as are left, went behind the others
pub record Moved (chunks from now rest : List ChunkState) (n left : ℕ) : Type 0 where
  pub some : ℕ
  pub count : some + left ≡ n
  pub gains : Gains chunks now (take some (items_of_chunks from))
  pub follows : CanFollow rest
  pub items : items_of_chunks rest ≡ drop some (items_of_chunks from)
