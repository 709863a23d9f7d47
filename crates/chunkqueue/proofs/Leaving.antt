-- Chunks without their first items.
use Rattle.std.proofs.Common.{◌≡◌, ℕ, ◌+◌, ◌-◌, ◌==◌, ◌≤◌, List, [], ◌∷◌, length, drop, Bool, true, false, nat_lt, if◌then◌else◌, arith, ap, ◌∙◌, refl}
use Rattle.std.proofs.lemmas.Bool.Decides.{nat_tests}
use Rattle.std.proofs.lemmas.List.{length-take, length-drop}
use Rattle.buffer_pool.specs.State.{ChunkState}
use Rattle.buffer_pool.specs.Edits.{first_of}
use Rattle.buffer_pool.specs.declared.buffer.Kind.{Kind}
use Rattle.buffer_pool.specs.declared.buffer.Kind.TheVariants.{Bytes, File}
use Rattle.buffer_pool.specs.declared.buffer.TheConstants.{BUFFER_SIZE}
use Rattle.chunkqueue.specs.Plain.{front_of_segment, front_of_segments, segment_left, segment_after, segments_after, IsHeld, chunks_of, segment_items, IsPlain}
use Rattle.chunkqueue.specs.Items.{staged_in}
use Rattle.chunkqueue.specs.Pooled.{segment_from, segment_of, segments_of, Ends, IsSound, AllSound, AllPaired, BehindPaired, AllTight, BehindTight, AreKept, IsPooled, cut, chunk_after, chunks_after, items_of_chunks, staged_of_chunks}
use Rattle.chunkqueue.specs.declared.segment.Segment.{Segment}
use Rattle.chunkqueue.proofs.Segments.{segment_items-after, staged_in-after, after_plain}

front_from : (k : Kind) (bytes : List ℕ) → length (front_of_segment (segment_from k bytes)) ≤ length bytes
front_from Bytes bytes = omega (arith, length-take BUFFER_SIZE bytes)
front_from (File file start len) bytes = omega arith

-- what can leave are bytes of the first chunk
pub front_held : (l : List ChunkState) (n : ℕ) → n ≤ length (front_of_segments (segments_of l)) → n ≤ length (first_of l).bytes
front_held [] n h = h
front_held (c ∷ cs) n h = omega (arith, front_from c.kind c.bytes)

after_from : (k : Kind) (bytes : List ℕ) (n : ℕ) → segment_from (cut k n) (drop n bytes) ≡ segment_after n (segment_from k bytes)
after_from Bytes bytes n = refl
after_from (File file start len) bytes n = refl

same_choice : (b : Bool) (x y : Segment) (ss : List ChunkState) (c : ChunkState) → segment_of c ≡ y → segments_of (if b then ss else c ∷ ss) ≡ (if b then segments_of ss else y ∷ segments_of ss)
same_choice true x y ss c e = refl
same_choice false x y ss c e = ap (λ (s : Segment). s ∷ segments_of ss) e

-- as segments
pub segments_of-after : (n : ℕ) (l : List ChunkState) → segments_of (chunks_after n l) ≡ segments_after n (segments_of l)
segments_of-after n [] = refl
segments_of-after n (c ∷ cs) =
    let e = after_from c.kind c.bytes n in
    same_choice (segment_left (segment_of (chunk_after c n)) == 0) (segment_of c) (segment_after n (segment_of c)) cs (chunk_after c n) e
    ∙ ap (λ (s : Segment). if segment_left s == 0 then segments_of cs else segment_after n (segment_of c) ∷ segments_of cs) e

room_after : (n : ℕ) (c : ChunkState) (b : Bool) → b ≡ nat_lt n (length c.bytes) → IsSound c → length (drop n c.bytes) + (if b then c.room else BUFFER_SIZE) ≤ BUFFER_SIZE
room_after n c true e was = omega (arith, was.within, length-drop n c.bytes)
room_after n c false e was = grind (arith, nat_tests, length-drop n c.bytes)

roomy_after : (n : ℕ) (c : ChunkState) (b : Bool) → b ≡ nat_lt n (length c.bytes) → length (drop n c.bytes) ≡ 0 → (if b then c.room else BUFFER_SIZE) ≡ BUFFER_SIZE
roomy_after n c true e none = absurd (grind (arith, nat_tests, length-drop n c.bytes))
roomy_after n c false e none = refl

ends_after : (k : Kind) (bytes : List ℕ) (n : ℕ) → IsHeld (segment_from k bytes) → n ≤ length bytes → Ends k → Ends (cut k n)
ends_after Bytes bytes n held h e = tt
ends_after (File file start len) bytes n held h e = omega (arith, held.1)

sound_after : (n : ℕ) (c : ChunkState) → IsHeld (segment_of c) → n ≤ length c.bytes → IsSound c → IsSound (chunk_after c n)
sound_after n c held h was = record {
  within = room_after n c (nat_lt n (length c.bytes)) refl was;
  roomy = roomy_after n c (nat_lt n (length c.bytes)) refl;
  ends = ends_after c.kind c.bytes n held h was.ends;
}

pub behind : (cs : List ChunkState) → AllPaired cs → BehindPaired cs
behind [] h = tt
behind (c ∷ []) h = tt
behind (c ∷ d ∷ cs) h = h.1

sound-unless_spent : (b : Bool) (c : ChunkState) (cs : List ChunkState) → IsSound c → AllSound cs → AllSound (if b then cs else c ∷ cs)
sound-unless_spent true c cs s h = h
sound-unless_spent false c cs s h = (s, h)

paired-unless_spent : (b : Bool) (c : ChunkState) (cs : List ChunkState) → AllPaired cs → BehindPaired (if b then cs else c ∷ cs)
paired-unless_spent true c cs h = behind cs h
paired-unless_spent false c cs h = h

tight-unless_spent : (b : Bool) (c : ChunkState) (cs : List ChunkState) → AllTight cs → BehindTight (if b then cs else c ∷ cs)
tight-unless_spent true c [] h = tt
tight-unless_spent true c (d ∷ cs) h = h.1
tight-unless_spent false c cs h = h

BehindTight-after : (n : ℕ) (l : List ChunkState) → AreKept l → BehindTight (chunks_after n l)
BehindTight-after n [] had = tt
BehindTight-after n (c ∷ cs) had = tight-unless_spent (segment_left (segment_of (chunk_after c n)) == 0) (chunk_after c n) cs had.tight

AllSound-after : (n : ℕ) (l : List ChunkState) → AreKept l → n ≤ length (first_of l).bytes → AllSound (chunks_after n l)
AllSound-after n [] had h = tt
AllSound-after n (c ∷ cs) had h = sound-unless_spent (segment_left (segment_of (chunk_after c n)) == 0) (chunk_after c n) cs (sound_after n c had.held.0 h had.sound.0) had.sound.1

BehindPaired-after : (n : ℕ) (l : List ChunkState) → AreKept l → BehindPaired (chunks_after n l)
BehindPaired-after n [] had = tt
BehindPaired-after n (c ∷ cs) had = paired-unless_spent (segment_left (segment_of (chunk_after c n)) == 0) (chunk_after c n) cs had.paired

pub as_plain : (l : List ChunkState) (len : ℕ) → IsPooled l len → IsPlain (segments_of l) len
as_plain l len had = record { held = had.kept.held; first = had.kept.first; counts = had.counts; fits = had.fits }

pub of_plain : (l : List ChunkState) (len : ℕ) → IsPlain (segments_of l) len → AllSound l → BehindPaired l → BehindTight l → IsPooled l len
of_plain l len had sound paired tight = record { kept = record { held = had.held; first = had.first; sound = sound; paired = paired; tight = tight }; counts = had.counts; fits = had.fits }

pub after_pooled : (n : ℕ) (l next : List ChunkState) (len : ℕ) → IsPooled l len → n ≤ length (front_of_segments (segments_of l)) → next ≡ chunks_after n l → IsPooled next (len - n)
after_pooled n l next len had h is = rw is (of_plain (chunks_after n l) (len - n)
    (after_plain n (segments_of l) (segments_of (chunks_after n l)) len (as_plain l len had) h (segments_of-after n l))
    (AllSound-after n l had.kept (front_held l n h)) (BehindPaired-after n l had.kept) (BehindTight-after n l had.kept))

pub items-after : (n : ℕ) (l next : List ChunkState) → AreKept l → n ≤ length (front_of_segments (segments_of l)) → next ≡ chunks_after n l → items_of_chunks next ≡ drop n (items_of_chunks l)
items-after n l next had h is = ap items_of_chunks is ∙ ap segment_items (segments_of-after n l) ∙ segment_items-after n (segments_of l) had.held h

pub staged-after : (n : ℕ) (l next : List ChunkState) → AreKept l → n ≤ length (front_of_segments (segments_of l)) → next ≡ chunks_after n l → staged_of_chunks next ≡ drop n (staged_of_chunks l)
staged-after n l next had h is =
    ap staged_of_chunks is ∙ ap (λ (s : List Segment). staged_in (chunks_of s)) (segments_of-after n l) ∙ staged_in-after n (segments_of l) had.held had.first h
