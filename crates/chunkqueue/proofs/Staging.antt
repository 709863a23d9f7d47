-- What a read from a file stages.
use Rattle.std.proofs.Common.{◌≡◌, ℕ, ◌<◌, min, List, [], ◌∷◌, ◌++◌, arith, ap, sym, ◌∙◌, refl}
use Rattle.std.specs.Prelude.{Result, Ok, Err, OnOk}
use Rattle.lt_world.specs.Disk.{Disk, HasRange}
use Rattle.buffer_pool.specs.declared.buffer.TheConstants.{BUFFER_SIZE}
use Rattle.chunkqueue.specs.Ranged.{bytes_staged}
use Rattle.chunkqueue.specs.Items.{Item, Contents, range, items_of, staged_of, staged_in, AllLie, Shows}
use Rattle.chunkqueue.specs.Plain.{chunks_of, plain, AllHeld, segment_items, FirstLies, first_staged, staged_by, segments_unstaged}
use Rattle.chunkqueue.specs.declared.segment.Segment.{Segment}
use Rattle.chunkqueue.specs.declared.segment.Segment.TheVariants.{Memory, File}
use Rattle.chunkqueue.proofs.Ranges.{lies-range, range_of-front}
use Rattle.chunkqueue.proofs.Segments.{segment_items-unstaged}

-- where all items lie in the files, a range has what is read of it
has_front : (disk : Disk) (file start len : ℕ) (most : ℕ) (rest : List Item) → 0 < len → AllLie disk.table (range file start len ++ rest) → HasRange disk file start (min len most)
has_front disk file start len most rest some lies =
    let has = lies-range disk.table file start len rest some lies in
    (has.0, has.1, omega (arith, has.2))

pub first_lies : (disk : Disk) (q : Contents) (segments : List Segment) → plain segments ≡ q → AllHeld segments → (staged_of q ≡ [] → AllLie disk.table (items_of q)) → FirstLies disk segments
first_lies disk q [] view held lies = tt
first_lies disk q (Memory bytes ∷ ss) view held lies = tt
first_lies disk q (File r ∷ ss) view held lies = λ none. has_front disk r.file r.start r.len BUFFER_SIZE (segment_items ss) held.0.0 ((rw (← view) at lies) none)

-- what is read is the bytes of the first items
shows_read : (disk : Disk) (file start len most : ℕ) (rest : List Item) (staged : List ℕ) → 0 < len → (staged ≡ [] → AllLie disk.table (range file start len ++ rest))
    → Shows disk.table (range file start len ++ rest) staged → Shows disk.table (range file start len ++ rest) (bytes_staged disk file start len staged)
shows_read disk file start len most rest [] some lies shown = range_of-front disk file start len (min len BUFFER_SIZE) rest (omega arith) (has_front disk file start len BUFFER_SIZE rest some (lies refl))
shows_read disk file start len most rest (byte ∷ staged) some lies shown = shown

shows_first : (disk : Disk) (segments : List Segment) → AllHeld segments → (first_staged segments ≡ [] → AllLie disk.table (segment_items segments)) → Shows disk.table (segment_items segments) (first_staged segments)
    → Shows disk.table (segment_items segments) (staged_by disk segments)
shows_first disk [] held lies shown = shown
shows_first disk (Memory bytes ∷ ss) held lies shown = shown
shows_first disk (File r ∷ ss) held lies shown = shows_read disk r.file r.start r.len BUFFER_SIZE (segment_items ss) r.staged held.0.0 lies shown

first_is : (segments : List Segment) → staged_in (chunks_of segments) ≡ first_staged segments
first_is [] = refl
first_is (Memory bytes ∷ ss) = refl
first_is (File r ∷ ss) = refl

-- and the items are as they were
pub restaged_items : (segments next : List Segment) → segments_unstaged next ≡ segments_unstaged segments → segment_items next ≡ segment_items segments
restaged_items segments next same = sym (segment_items-unstaged next) ∙ ap segment_items same ∙ segment_items-unstaged segments

same_shows : (disk : Disk) (items more : List Item) (staged read : List ℕ) → more ≡ items → read ≡ staged → Shows disk.table items staged → Shows disk.table more read
same_shows disk items more staged read p q shown = rw (p, q) shown

shows_plain : (disk : Disk) (segments next : List Segment) → AllHeld segments → (staged_in (chunks_of segments) ≡ [] → AllLie disk.table (segment_items segments)) → segments_unstaged next ≡ segments_unstaged segments
    → first_staged next ≡ staged_by disk segments → Shows disk.table (segment_items segments) (staged_in (chunks_of segments)) → Shows disk.table (segment_items next) (staged_in (chunks_of next))
shows_plain disk segments next held lies same is shown =
    same_shows disk (segment_items segments) (segment_items next) (staged_by disk segments) (staged_in (chunks_of next)) (restaged_items segments next same) (first_is next ∙ is)
    (shows_first disk segments held (λ none. lies (first_is segments ∙ none)) (same_shows disk (segment_items segments) (segment_items segments) (staged_in (chunks_of segments)) (first_staged segments) refl (sym (first_is segments)) shown))

pub shows_staged : (disk : Disk) (q : Contents) (segments next : List Segment) → plain segments ≡ q → AllHeld segments → (staged_of q ≡ [] → AllLie disk.table (items_of q)) → segments_unstaged next ≡ segments_unstaged segments
    → first_staged next ≡ staged_by disk segments → Shows disk.table (items_of q) (staged_of q) → Shows disk.table (segment_items next) (staged_in (chunks_of next))
shows_staged disk q segments next view held lies same is shown = shows_plain disk segments next held (rw (← view) at lies) same is (rw (← view) at shown)

pub OnOk-map : {T E P Q : Type 0} → (r : Result T E) → (P → Q) → OnOk r P → OnOk r Q
OnOk-map (Ok value) f h = f h
OnOk-map (Err error) f h = tt
