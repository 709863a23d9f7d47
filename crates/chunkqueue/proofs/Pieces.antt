-- Bytes that are put behind others, piece by piece.
use Rattle.std.proofs.Common.{◌≡◌, ℕ, ◌+◌, ◌-◌, ◌*◌, ◌^◌, ◌≤◌, ◌<◌, List, ◌++◌, length, map, take, drop, arith, ap, sym, ◌∙◌, append_assoc}
use Rattle.std.proofs.lemmas.List.{length-take, length-drop, take-append-drop}
use Rattle.buffer_pool.specs.State.{ChunkState, PoolState}
use Rattle.buffer_pool.specs.Kept.{numbers, Kept}
use Rattle.buffer_pool.specs.declared.buffer.TheConstants.{BUFFER_SIZE}
use Rattle.buffer_pool.proofs.Keeping.{kept_both}
use Rattle.chunkqueue.specs.Items.{Byte}
use Rattle.chunkqueue.specs.Pooled.{Gains}
use Rattle.chunkqueue.proofs.Pooling.{map-joined, gains_both}

-- so far the front of the bytes stands behind the chunks
pub record Appending (chunks : List ChunkState) (pool : PoolState) (bytes : List ℕ) (now : List ChunkState) (left : PoolState) (rest : List ℕ) : Type 0 where
  pub front : List ℕ
  pub parts : bytes ≡ front ++ rest
  pub gains : Gains chunks now (map Byte front)
  pub kept : Kept pool (numbers chunks) left (numbers now)
  pub spare : length rest ≤ BUFFER_SIZE * length left.free
  pub some : 0 < length rest
  pub countable : length now + length rest < 2 ^ 64
  pub filled : left.filled + length rest ≤ pool.filled + length bytes

both : (l m n : List ChunkState) (a b : List ℕ) → Gains l m (map Byte a) → Gains m n (map Byte b) → Gains l n (map Byte (a ++ b))
both l m n a b one two = rw (map-joined a b) (gains_both l m n (map Byte a) (map Byte b) one two)

-- a whole piece more
pub appending_more : (l : List ChunkState) (p : PoolState) (bytes : List ℕ) (m n : List ChunkState) (q r : PoolState) (rest piece more : List ℕ) → Appending l p bytes m q rest → BUFFER_SIZE < length rest
    → piece ≡ take BUFFER_SIZE rest → more ≡ drop BUFFER_SIZE rest → Gains m n (map Byte piece) → length n ≤ length m + 1 → length q.free ≤ length r.free + 1 → r.filled ≤ q.filled + length piece
    → Kept q (numbers m) r (numbers n) → Appending l p bytes n r more
appending_more l p bytes m n q r rest piece more had long is others one count spare filled kept =
    let size : length piece ≡ BUFFER_SIZE = omega (arith, ap length is, length-take BUFFER_SIZE rest) in
    let left : length more ≡ length rest - BUFFER_SIZE = ap length others ∙ length-drop BUFFER_SIZE rest in
    let whole : rest ≡ piece ++ more = sym (take-append-drop BUFFER_SIZE rest) ∙ (λ i. sym is i ++ sym others i) in
    record {
      front = had.front ++ piece;
      parts = had.parts ∙ ap (λ (x : List ℕ). had.front ++ x) whole ∙ sym (append_assoc had.front piece more);
      gains = both l m n had.front piece had.gains one;
      kept = kept_both p q r (numbers l) (numbers m) (numbers n) had.kept kept;
      spare = omega (arith, had.spare, left, spare);
      some = omega (arith, left, long);
      countable = omega (arith, had.countable, left, count, long);
      filled = omega (arith, had.filled, left, filled, size, long);
    }
