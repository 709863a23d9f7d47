-- The segments of a plain queue, and what its calls make of them.
use Rattle.std.specs.Prelude.{◌≡◌, ℕ, ◌+◌, ◌==◌, ◌≤◌, ◌<◌, ◌^◌, List, [], ◌∷◌, ◌++◌, map, take, drop, length, min, if◌then◌else◌}
use Rattle.lt_world.specs.Disk.{Disk, HasRange}
use Rattle.chunkqueue.specs.Ranged.{without_front, front_of_range, rest_of_range, unstaged, staged_from}
use Rattle.chunkqueue.specs.Items.{Item, Chunk, Contents, Memory, Range, items_in, staging_by}
use Rattle.buffer_pool.specs.declared.buffer.TheConstants.{BUFFER_SIZE}
use Rattle.chunkqueue.specs.declared.segment.Segment.{Segment}
use Rattle.chunkqueue.specs.declared.segment.Segment.TheVariants as segment

abbrev pub chunk_of : Segment → Chunk
chunk_of (segment.Memory bytes) = Memory bytes
chunk_of (segment.File r) = Range r.file r.start r.len r.staged

abbrev pub chunks_of : List Segment → List Chunk
chunks_of segments = map chunk_of segments

-- a queue of segments, which has no nodes
abbrev pub plain : List Segment → Contents
plain segments = record { chunks = chunks_of segments; numbers = [] }

-- the bytes that can leave a segment now
abbrev pub front_of_segment : Segment → List ℕ
front_of_segment (segment.Memory bytes) = take BUFFER_SIZE bytes
front_of_segment (segment.File r) = r.staged

-- how many items are left in a segment
abbrev pub segment_left : Segment → ℕ
segment_left (segment.Memory bytes) = length bytes
segment_left (segment.File r) = r.len

-- a segment without its first n items
abbrev pub segment_after : ℕ → Segment → Segment
segment_after n (segment.Memory bytes) = segment.Memory (drop n bytes)
segment_after n (segment.File r) = segment.File (without_front n r)

abbrev pub segment_unstaged : Segment → Segment
segment_unstaged (segment.Memory bytes) = segment.Memory bytes
segment_unstaged (segment.File r) = segment.File (unstaged r)

-- segments without their first n items, which are in the first one; a segment that is spent is gone
abbrev pub segments_after : ℕ → List Segment → List Segment
segments_after n [] = []
segments_after n (s ∷ ss) = if segment_left (segment_after n s) == 0 then ss else segment_after n s ∷ ss

-- the first is no longer staged
abbrev pub segments_unstaged : List Segment → List Segment
segments_unstaged [] = []
segments_unstaged (s ∷ ss) = segment_unstaged s ∷ ss

-- segments behind others: none of them is staged
abbrev pub segments_joined : List Segment → List Segment → List Segment
segments_joined [] more = more
segments_joined (s ∷ ss) more = (s ∷ ss) ++ segments_unstaged more

abbrev pub front_of_segments : List Segment → List ℕ
front_of_segments [] = []
front_of_segments (s ∷ ss) = front_of_segment s

-- a segment has something left, and no more is staged than is left
abbrev pub IsHeld : Segment → Type 0
IsHeld (segment.Memory bytes) = 0 < length bytes
IsHeld (segment.File r) = (0 < r.len) × (length r.staged ≤ r.len)

abbrev pub AllHeld : List Segment → Type 0
AllHeld [] = Unit {0}
AllHeld (s ∷ ss) = IsHeld s × AllHeld ss

-- what is staged of a segment
abbrev pub segment_staged : Segment → List ℕ
segment_staged (segment.Memory bytes) = []
segment_staged (segment.File r) = r.staged

-- how many bytes are, once it is staged
abbrev pub segment_staging : Segment → ℕ
segment_staging (segment.Memory bytes) = 0
segment_staging (segment.File r) = staging_by r.len r.staged

-- and which
abbrev pub segment_reads : Disk → Segment → List ℕ
segment_reads disk (segment.Memory bytes) = []
segment_reads disk (segment.File r) = staged_from disk r

-- what is read of a range that isn't staged lies in the file
abbrev pub SegmentLies : Disk → Segment → Type 0
SegmentLies disk (segment.Memory bytes) = Unit {0}
SegmentLies disk (segment.File r) = r.staged ≡ [] → HasRange disk r.file r.start (min r.len BUFFER_SIZE)

abbrev pub first_staged : List Segment → List ℕ
first_staged [] = []
first_staged (s ∷ ss) = segment_staged s

abbrev pub first_staging : List Segment → ℕ
first_staging [] = 0
first_staging (s ∷ ss) = segment_staging s

abbrev pub staged_by : Disk → List Segment → List ℕ
staged_by disk [] = []
staged_by disk (s ∷ ss) = segment_reads disk s

abbrev pub FirstLies : Disk → List Segment → Type 0
FirstLies disk [] = Unit {0}
FirstLies disk (s ∷ ss) = SegmentLies disk s

-- the items of segments
abbrev pub segment_items : List Segment → List Item
segment_items segments = items_in (chunks_of segments)

abbrev pub NoneStaged : List Segment → Type 0
NoneStaged [] = Unit {0}
NoneStaged (s ∷ ss) = (segment_staged s ≡ []) × NoneStaged ss

-- no segment but the first is staged
abbrev pub FirstStaged : List Segment → Type 0
FirstStaged [] = Unit {0}
FirstStaged (s ∷ ss) = NoneStaged ss

-- the segments of a plain queue with so many items
pub record IsPlain (segments : List Segment) (len : ℕ) : Type 0 where
  pub held : AllHeld segments
  pub first : FirstStaged segments
  pub counts : len ≡ length (segment_items segments)
  pub fits : len < 2 ^ 63

-- the bytes in memory before any range
abbrev pub memory_before : List Segment → List ℕ
memory_before [] = []
memory_before (segment.Memory bytes ∷ ss) = bytes ++ memory_before ss
memory_before (segment.File r ∷ ss) = []

-- the first n items of a segment, and the rest of it
abbrev pub segment_front : ℕ → Segment → Segment
segment_front n (segment.Memory bytes) = segment.Memory (take n bytes)
segment_front n (segment.File r) = segment.File (front_of_range n r)

abbrev pub segment_rest : ℕ → Segment → Segment
segment_rest n (segment.Memory bytes) = segment.Memory (drop n bytes)
segment_rest n (segment.File r) = segment.File (rest_of_range n r)

abbrev pub first_left : List Segment → ℕ
first_left [] = 0
first_left (s ∷ ss) = segment_left s

-- the first n items of the first segment, and the segments without them
abbrev pub part_of : ℕ → List Segment → List Segment
part_of n [] = []
part_of n (s ∷ ss) = segment_front n s ∷ []

abbrev pub rest_of : ℕ → List Segment → List Segment
rest_of n [] = []
rest_of n (s ∷ ss) = segment_rest n s ∷ ss

-- the first n items are these whole segments and so many items of the next one
pub record IsPlace (segments : List Segment) (n count left : ℕ) : Type 0 where
  pub front : List Segment
  pub back : List Segment
  pub parts : segments ≡ front ++ back
  pub size : length front ≡ count
  pub items : length (segment_items front) + left ≡ n
  pub inside : 0 < left → left < first_left back

-- the first n items are segments of their own, and nothing of the rest is staged
pub record IsPart (segments front rest : List Segment) (n : ℕ) : Type 0 where
  pub items : segment_items front ≡ take n (segment_items segments)
  pub left : segment_items rest ≡ drop n (segment_items segments)
  pub held : AllHeld front
  pub first : FirstStaged front
  pub still : AllHeld rest
  pub none : NoneStaged rest
