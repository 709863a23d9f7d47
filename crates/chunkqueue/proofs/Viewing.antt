-- What a view of a chunk says of the segments.
use Rattle.std.proofs.Common.{◌≡◌, ℕ, ◌≤◌, ◌<◌, List, [], ◌∷◌, ◌++◌, length, arith, ap, sym, ◌∙◌, refl}
use Rattle.std.proofs.lemmas.List.{take_all}
use Rattle.buffer_pool.specs.State.{ChunkState, IsWithin}
use Rattle.buffer_pool.specs.Edits.{first_of}
use Rattle.buffer_pool.specs.declared.buffer.Kind.{Kind}
use Rattle.buffer_pool.specs.declared.buffer.Kind.TheVariants.{Bytes, File}
use Rattle.buffer_pool.specs.declared.buffer.TheConstants.{BUFFER_SIZE}
use Rattle.chunkqueue.specs.Plain.{front_of_segment, front_of_segments, memory_before}
use Rattle.chunkqueue.specs.Pooled.{segment_from, segments_of}

front_bytes : (k : Kind) (bytes : List ℕ) → length bytes ≤ BUFFER_SIZE → bytes ≡ front_of_segment (segment_from k bytes)
front_bytes Bytes bytes h = sym (take_all BUFFER_SIZE bytes h)
front_bytes (File file start len) bytes h = refl

-- the bytes of the first chunk can leave
pub front_shown : (l : List ChunkState) (x : ChunkState) → 0 < length l → x ≡ first_of l → IsWithin x → x.bytes ≡ front_of_segments (segments_of l)
front_shown [] x some e within = absurd (omega arith)
front_shown (c ∷ cs) x some e within =
    let small : length c.bytes ≤ BUFFER_SIZE = omega (arith, ap (λ (y : ChunkState). length y.bytes) e) in
    ap (λ (y : ChunkState). y.bytes) e ∙ front_bytes c.kind c.bytes small

-- bytes that stand before any range
pub before_view : (l rest : List ChunkState) (x : ChunkState) → l ≡ x ∷ rest → x.kind ≡ Bytes → memory_before (segments_of l) ≡ x.bytes ++ memory_before (segments_of rest)
before_view l rest x is e = ap (λ (m : List ChunkState). memory_before (segments_of m)) is ∙ ap (λ (k : Kind). memory_before (segment_from k x.bytes ∷ segments_of rest)) e
