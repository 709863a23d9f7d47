-- The laws on what is answered.
use Rattle.std.proofs.Common.{◌≡◌, suc, ℕ, ◌+◌, ◌-◌, ◌<◌, ◌≤◌, ◌==◌, true, false, List, [], ◌∷◌, ◌++◌, length, take, drop, Option, Some, Bool, Ok, Err, refl, ap, sym, ◌∙◌, subst, length-append, length-take, append-nil, take_all, drop_of_length-le, arith}
use Rattle.std.proofs.lemmas.Bool.{ltb-false, le-ltb, ne_eqb, cond-false, cond-true}
use Rattle.std.specs.Str.Parse.{digits_value}
use Rattle.std.proofs.Math.Seq.{drop-append_seam}
use Rattle.lt_http_body.specs.declared.limits.TheConstants.{TRAILER_LIMIT}
use Rattle.http_head.specs.declared.framing.Framing.TheVariants.{Length, Chunked}
use Rattle.lt_http_body.specs.declared.body.BodyState.TheVariants.{NeedMore, Done}
use Rattle.lt_http_body.specs.declared.body.BodyRefusal.TheVariants.{BadChunk, TooLarge}
use Rattle.lt_http_body.specs.declared.state.State.{State}
use Rattle.lt_http_body.specs.declared.state.State.TheVariants as state
use Rattle.lt_http_body.specs.declared.standing.Standing.{Standing}
use Rattle.lt_http_body.specs.Lines.{in_stated}
use Rattle.lt_http_body.specs.Standings.{at, begin, limit_of, is_above, less, is_over, after_size_line, answer_from}
use Rattle.lt_http_body.specs.Reading.{standing_after, data_in, taken_in}
use Rattle.lt_http_body.specs.Grammar.{Chunk, ChunkedBody, IsChunk, AreChunks, IsChunkedBody, print_size, print_chunk, print_chunks, print_lines, print_end, print, data_of, Fits, room_behind}
use Rattle.lt_http_body.specs.Laws.{answer_of, body_of, size_of, Spells, Begins, Exceeds}
use Rattle.lt_http_body.proofs.ReadingLemmas.{taken_append, rests, Gives, gives, stated_counts}
use Rattle.lt_http_body.proofs.Moving.{Goes, goes_on}
use Rattle.lt_http_body.proofs.Printed.{body_then, chunks_then, size_then}
use Rattle.lt_http_body.proofs.Stepping.{no_digits}
use Rattle.lt_http_body.proofs.Whole.{whole_next}
use Rattle.lt_http_body.proofs.Refusing.{Over, over_at, begins, reads_whole, bad_begins_none, large_begins_none, on_holds_none, on_without}

-- the answer tells the state
done_whole : (s : State) → answer_from s ≡ Ok Done → s ≡ state.Whole
done_whole state.Whole e = refl
done_whole state.BadChunk e = cc
done_whole state.TooLarge e = cc
done_whole other e = cc

bad_state : (s : State) → answer_from s ≡ Err BadChunk → s ≡ state.BadChunk
bad_state state.Whole e = cc
bad_state state.BadChunk e = refl
bad_state state.TooLarge e = cc
bad_state other e = cc

large_state : (s : State) → answer_from s ≡ Err TooLarge → s ≡ state.TooLarge
large_state state.Whole e = cc
large_state state.BadChunk e = cc
large_state state.TooLarge e = refl
large_state other e = cc

more_on : (s : State) → answer_from s ≡ Ok NeedMore → is_over s ≡ false
more_on state.Whole e = cc
more_on state.BadChunk e = cc
more_on state.TooLarge e = cc
more_on other e = refl

-- what is spelled is read
pub spelled_answer : (limit : ℕ) (body : ChunkedBody) (rest : List ℕ) → IsChunkedBody body → Fits (limit_of limit) body.chunks → answer_of Chunked limit (print body rest) ≡ Ok Done
spelled_answer limit body rest is fits = ap answer_from (reads_whole (limit_of limit) body rest is fits)

pub spelled_data : (limit : ℕ) (body : ChunkedBody) (rest : List ℕ) → IsChunkedBody body → Fits (limit_of limit) body.chunks → body_of Chunked limit (print body rest) ≡ data_of body.chunks
spelled_data limit body rest is fits =
    let g = body_then (limit_of limit) body rest is fits in
    let r = rests (room_behind (limit_of limit) body.chunks) state.Whole rest refl in
    g.reads ∙ ap (λ (l : List ℕ). data_of body.chunks ++ l) r.1 ∙ append-nil (data_of body.chunks)

pub spelled_rest : (limit : ℕ) (body : ChunkedBody) (rest : List ℕ) → IsChunkedBody body → Fits (limit_of limit) body.chunks → drop (size_of Chunked limit (print body rest)) (print body rest) ≡ rest
spelled_rest limit body rest is fits =
    let g = body_then (limit_of limit) body rest is fits in
    let r = rests (room_behind (limit_of limit) body.chunks) state.Whole rest refl in
    let count : size_of Chunked limit (print body rest) ≡ g.count = omega (arith, g.counts, r.2) in
    ap (λ (n : ℕ). drop n (print body rest)) count ∙ g.left

-- what is read is spelled
pub read_spelled : (limit : ℕ) (bytes : List ℕ) → answer_of Chunked limit bytes ≡ Ok Done → Spells limit bytes
read_spelled limit bytes done =
    let n = whole_next (limit_of limit) bytes (done_whole (standing_after (begin Chunked limit) bytes).state done) in
    record { body = n.body; is = n.is; fits = n.fits; spelled = n.spelled; carries = n.carries }

over_here : (limit : ℕ) (bytes : List ℕ) (s : State) → (standing_after (begin Chunked limit) bytes).state ≡ s → is_over s ≡ true → Over (limit_of limit) (state.Size 0 0) bytes
over_here limit bytes s is over = over_at (limit_of limit) (state.Size 0 0) bytes no_digits refl (ap is_over is ∙ over)

-- a bad chunk
pub bad_none : (limit : ℕ) (bytes more rest : List ℕ) (body : ChunkedBody) → answer_of Chunked limit bytes ≡ Err BadChunk → IsChunkedBody body → take (size_of Chunked limit bytes) bytes ++ more ≡ print body rest → ⊥
bad_none limit bytes more rest body bad is same =
    let e : (standing_after (begin Chunked limit) bytes).state ≡ state.BadChunk = bad_state (standing_after (begin Chunked limit) bytes).state bad in
    let o = over_here limit bytes state.BadChunk e refl in
    let front : (standing_after (begin Chunked limit) (take (size_of Chunked limit bytes) bytes)).state ≡ state.BadChunk =
    ap (λ (n : ℕ). (standing_after (begin Chunked limit) (take n bytes)).state) o.taken ∙ ap (λ (s : Standing). s.state) o.stands ∙ e in
    bad_begins_none (limit_of limit) (take (size_of Chunked limit bytes) bytes) more rest body front is same

pub bad_some : (limit : ℕ) (bytes : List ℕ) → answer_of Chunked limit bytes ≡ Err BadChunk → (0 < size_of Chunked limit bytes) × Begins (take (size_of Chunked limit bytes - 1) bytes)
bad_some limit bytes bad =
    let e : (standing_after (begin Chunked limit) bytes).state ≡ state.BadChunk = bad_state (standing_after (begin Chunked limit) bytes).state bad in
    let o = over_here limit bytes state.BadChunk e refl in
    let before : o.before ≡ size_of Chunked limit bytes - 1 = omega (arith, o.taken) in
    (omega (arith, o.taken), subst (λ (n : ℕ). Begins (take n bytes)) before (begins (take o.before bytes) (on_without (limit_of limit) (take o.before bytes) o.on)))

-- too large
pub large_none : (limit : ℕ) (bytes more rest : List ℕ) (body : ChunkedBody) → answer_of Chunked limit bytes ≡ Err TooLarge → IsChunkedBody body → Fits (limit_of limit) body.chunks
    → take (size_of Chunked limit bytes) bytes ++ more ≡ print body rest → ⊥
large_none limit bytes more rest body large is fits same =
    let e : (standing_after (begin Chunked limit) bytes).state ≡ state.TooLarge = large_state (standing_after (begin Chunked limit) bytes).state large in
    let o = over_here limit bytes state.TooLarge e refl in
    let front : (standing_after (begin Chunked limit) (take (size_of Chunked limit bytes) bytes)).state ≡ state.TooLarge =
    ap (λ (n : ℕ). (standing_after (begin Chunked limit) (take n bytes)).state) o.taken ∙ ap (λ (s : Standing). s.state) o.stands ∙ e in
    large_begins_none (limit_of limit) (take (size_of Chunked limit bytes) bytes) more rest body front is same fits

pub large_some : (limit : ℕ) (bytes : List ℕ) → answer_of Chunked limit bytes ≡ Err TooLarge → Begins (take (size_of Chunked limit bytes) bytes)
large_some limit bytes large =
    let e : (standing_after (begin Chunked limit) bytes).state ≡ state.TooLarge = large_state (standing_after (begin Chunked limit) bytes).state large in
    let o = over_here limit bytes state.TooLarge e refl in
    subst (λ (n : ℕ). Begins (take n bytes)) (sym o.taken) (begins (take (suc o.before) bytes) (o.large e))

-- the first chunk that takes the sum above the limit
record Excess (room : Option ℕ) (chunks : List Chunk) (tail : List ℕ) : Type 0 where
  front : List Chunk
  chunk : Chunk
  rest : List ℕ
  are : AreChunks front
  is : IsChunk chunk
  fits : Fits room front
  above : is_above (length chunk.bytes) (room_behind room front) ≡ true
  spelled : print_chunks chunks tail ≡ print_chunks front (print_size chunk.line rest)

excess : (room : Option ℕ) (chunks : List Chunk) (tail : List ℕ) → AreChunks chunks → (Fits room chunks → ⊥) → Excess room chunks tail
excess room [] tail are none = absurd (none tt)
excess room (chunk ∷ chunks) tail are none =
    by (is_above (length chunk.bytes) room) refl (λ fits. excess (less room (length chunk.bytes)) chunks tail are.1 (λ others. none (fits, others)))
  where
    by : (t : Bool) → is_above (length chunk.bytes) room ≡ t → (is_above (length chunk.bytes) room ≡ false → Excess (less room (length chunk.bytes)) chunks tail) → Excess room (chunk ∷ chunks) tail
    by true above next = record { front = []; chunk = chunk; rest = chunk.bytes ++ 13 ∷ 10 ∷ print_chunks chunks tail; are = tt; is = are.0; fits = tt; above = above; spelled = refl }
    by false fits next =
        let x = next fits in
        record {
          front = chunk ∷ x.front;
          chunk = x.chunk;
          rest = x.rest;
          are = (are.0, x.are);
          is = x.is;
          fits = (fits, x.fits);
          above = x.above;
          spelled = ap (print_chunk chunk) x.spelled;
        }

-- it is refused behind its size line
excess_goes : (room : Option ℕ) (front : List Chunk) (chunk : Chunk) (rest : List ℕ) → AreChunks front → Fits room front → IsChunk chunk → is_above (length chunk.bytes) (room_behind room front) ≡ true
    → Goes (at room (state.Size 0 0)) (print_chunks front (print_size chunk.line rest)) (data_of front ++ []) (at (room_behind room front) state.TooLarge) rest
excess_goes room front chunk rest are fits is above =
    let more : Option ℕ = room_behind room front in
    let tail : List ℕ = print_size chunk.line rest in
    let other : (length chunk.bytes == 0) ≡ false = ne_eqb (length chunk.bytes) 0 (λ e. omega (arith, e, is.some)) in
    let large : after_size_line more (digits_value 16 chunk.line.digits) ≡ at more state.TooLarge =
    ap (after_size_line more) is.size ∙ cond-false (length chunk.bytes == 0) (at more (state.Trailer TRAILER_LIMIT)) _ other ∙ cond-true (is_above (length chunk.bytes) more) (at more state.TooLarge) _ above in
    goes_on (at room (state.Size 0 0)) (at more (state.Size 0 0)) (at more state.TooLarge) (print_chunks front tail) tail rest (data_of front) [] (chunks_then room front tail are fits)
    (subst (λ (s : Standing). Goes (at more (state.Size 0 0)) tail [] s rest) large (size_then more chunk.line rest is.line))

large_rest : (limit : ℕ) (bytes more rest : List ℕ) (front : List Chunk) (chunk : Chunk) → answer_of Chunked limit bytes ≡ Err TooLarge → AreChunks front → Fits (limit_of limit) front → IsChunk chunk
    → is_above (length chunk.bytes) (room_behind (limit_of limit) front) ≡ true → take (size_of Chunked limit bytes) bytes ++ more ≡ print_chunks front (print_size chunk.line rest) → more ≡ rest
large_rest limit bytes more rest front chunk large are fits is above whole =
    let room : Option ℕ = limit_of limit in
    let n : ℕ = size_of Chunked limit bytes in
    let e : (standing_after (begin Chunked limit) bytes).state ≡ state.TooLarge = large_state (standing_after (begin Chunked limit) bytes).state large in
    let o = over_here limit bytes state.TooLarge e refl in
    let g = excess_goes room front chunk rest are fits is above in
    let mine : taken_in (begin Chunked limit) (take n bytes) ≡ n = subst (λ (m : ℕ). taken_in (begin Chunked limit) (take m bytes) ≡ m) (sym o.taken) o.own in
    let here : (standing_after (begin Chunked limit) (take n bytes)).state ≡ state.TooLarge =
    ap (λ (m : ℕ). (standing_after (begin Chunked limit) (take m bytes)).state) o.taken ∙ ap (λ (s : Standing). s.state) o.stands ∙ e in
    let over : is_over (standing_after (begin Chunked limit) (take n bytes)).state ≡ true = ap is_over here in
    let none = rests (standing_after (begin Chunked limit) (take n bytes)).room (standing_after (begin Chunked limit) (take n bytes)).state more over in
    let done = rests (room_behind room front) state.TooLarge rest refl in
    let count : g.count ≡ n = omega (arith, g.counts, done.2, sym (ap (taken_in (begin Chunked limit)) whole), taken_append (begin Chunked limit) (take n bytes) more, mine, none.2) in
    let long : length (take n bytes) ≡ n = omega (arith, length-take n bytes, o.taken, o.inside) in
    sym (drop-append_seam (take n bytes) more) ∙ ap (λ (m : ℕ). drop m (take n bytes ++ more)) (long ∙ sym count) ∙ ap (drop g.count) whole ∙ g.left

pub large_line : (limit : ℕ) (bytes : List ℕ) → answer_of Chunked limit bytes ≡ Err TooLarge → Exceeds limit (take (size_of Chunked limit bytes) bytes)
large_line limit bytes large =
    let room : Option ℕ = limit_of limit in
    let n : ℕ = size_of Chunked limit bytes in
    let begun : Begins (take n bytes) = large_some limit bytes large in
    let x : Excess room begun.body.chunks (print_size begun.body.last (print_lines begun.body.lines (print_end begun.body.ending []))) =
    excess room begun.body.chunks (print_size begun.body.last (print_lines begun.body.lines (print_end begun.body.ending []))) begun.is.chunks
    (λ fits. large_none limit bytes begun.more [] begun.body large begun.is fits begun.spelled) in
    let whole : take n bytes ++ begun.more ≡ print_chunks x.front (print_size x.chunk.line x.rest) = begun.spelled ∙ x.spelled in
    let same : begun.more ≡ x.rest = large_rest limit bytes begun.more x.rest x.front x.chunk large x.are x.fits x.is x.above whole in
    record {
      chunks = x.front;
      line = x.chunk.line;
      are = x.are;
      is = x.is.line;
      fits = x.fits;
      above = ap (λ (m : ℕ). is_above m (room_behind room x.front)) x.is.size ∙ x.above;
      more = begun.more;
      spelled = whole ∙ ap (λ (l : List ℕ). print_chunks x.front (print_size x.chunk.line l)) (sym same);
    }

-- more is needed
pub more_none : (limit : ℕ) (bytes rest : List ℕ) (body : ChunkedBody) → answer_of Chunked limit bytes ≡ Ok NeedMore → IsChunkedBody body → bytes ≡ print body rest → ⊥
more_none limit bytes rest body more is same = on_holds_none (limit_of limit) bytes rest body (more_on (standing_after (begin Chunked limit) bytes).state more) is same

pub more_some : (limit : ℕ) (bytes : List ℕ) → answer_of Chunked limit bytes ≡ Ok NeedMore → Begins bytes
more_some limit bytes more = begins bytes (on_without (limit_of limit) bytes (more_on (standing_after (begin Chunked limit) bytes).state more))

-- the limit
pub within_sum : (most : ℕ) (chunks : List Chunk) → Fits (Some most) chunks → length (data_of chunks) ≤ most
within_sum most [] fits = omega arith
within_sum most (chunk ∷ chunks) fits =
    let low : length chunk.bytes ≤ most = ltb-false most (length chunk.bytes) fits.0 in
    omega (arith, low, within_sum (most - length chunk.bytes) chunks fits.1, length-append chunk.bytes (data_of chunks))

pub sum_within : (most : ℕ) (chunks : List Chunk) → length (data_of chunks) ≤ most → Fits (Some most) chunks
sum_within most [] sum = tt
sum_within most (chunk ∷ chunks) sum =
    let all : length (data_of (chunk ∷ chunks)) ≡ length chunk.bytes + length (data_of chunks) = length-append chunk.bytes (data_of chunks) in
    (le-ltb most (length chunk.bytes) (omega (arith, sum, all)), sum_within (most - length chunk.bytes) chunks (omega (arith, sum, all)))

-- a stated length
stated_begins : (n limit : ℕ) → is_above n (limit_of limit) ≡ false → begin (Length n) limit ≡ at (limit_of limit) (in_stated n)
stated_begins n limit fits = ap (at (limit_of limit)) (cond-false (is_above n (limit_of limit)) state.TooLarge (in_stated n) fits)

stated_gives : (n limit k left : ℕ) (bytes : List ℕ) → is_above n (limit_of limit) ≡ false → k + left ≡ n → k ≤ length bytes → Gives (begin (Length n) limit) bytes k (at (limit_of limit) (in_stated left))
stated_gives n limit k left bytes fits sum inside =
    subst (λ (s : Standing). Gives s bytes k (at (limit_of limit) (in_stated left))) (sym (stated_begins n limit fits)) (gives in_stated stated_counts (limit_of limit) bytes k left n sum inside)

pub stated_whole : (n limit : ℕ) (bytes : List ℕ) → is_above n (limit_of limit) ≡ false → n ≤ length bytes
    → (answer_of (Length n) limit bytes ≡ Ok Done) × (body_of (Length n) limit bytes ≡ take n bytes) × (size_of (Length n) limit bytes ≡ n)
stated_whole n limit bytes fits inside =
    let g : Gives (begin (Length n) limit) bytes n (at (limit_of limit) state.Whole) = stated_gives n limit n 0 bytes fits (omega arith) inside in
    let r = rests (limit_of limit) state.Whole (drop n bytes) refl in (
      ap (λ (s : Standing). answer_from s.state) (g.stands ∙ r.0),
      g.reads ∙ ap (λ (l : List ℕ). take n bytes ++ l) r.1 ∙ append-nil (take n bytes),
      omega (arith, g.counts, r.2),
    )

pub stated_part : (n limit : ℕ) (bytes : List ℕ) → is_above n (limit_of limit) ≡ false → length bytes < n → (answer_of (Length n) limit bytes ≡ Ok NeedMore) × (body_of (Length n) limit bytes ≡ bytes)
unfolding standing_after data_in
stated_part n limit bytes fits few =
    let k : ℕ = length bytes in
    let left : ℕ = n - k in
    let g : Gives (begin (Length n) limit) bytes k (at (limit_of limit) (in_stated left)) = stated_gives n limit k left bytes fits (omega (arith, few)) (omega arith) in
    let none : drop k bytes ≡ [] = drop_of_length-le bytes {i = k} (omega arith) in
    let some : (left == 0) ≡ false = ne_eqb left 0 (λ e. omega (arith, e, few)) in
    let stands : standing_after (begin (Length n) limit) bytes ≡ at (limit_of limit) (in_stated left) = g.stands ∙ ap (standing_after (at (limit_of limit) (in_stated left))) none in (
      ap (λ (s : Standing). answer_from s.state) stands ∙ ap answer_from (cond-false (left == 0) state.Whole (state.Stated left) some),
      g.reads ∙ ap (λ (l : List ℕ). take k bytes ++ data_in (at (limit_of limit) (in_stated left)) l) none ∙ append-nil (take k bytes) ∙ take_all k bytes (omega arith),
    )

pub stated_above : (n limit : ℕ) (bytes : List ℕ) → is_above n (limit_of limit) ≡ true → (answer_of (Length n) limit bytes ≡ Err TooLarge) × (body_of (Length n) limit bytes ≡ []) × (size_of (Length n) limit bytes ≡ 0)
stated_above n limit bytes above =
    let begins_large : begin (Length n) limit ≡ at (limit_of limit) state.TooLarge = ap (at (limit_of limit)) (cond-true (is_above n (limit_of limit)) state.TooLarge (in_stated n) above) in
    let r = rests (limit_of limit) state.TooLarge bytes refl in (
      ap (λ (s : Standing). answer_from (standing_after s bytes).state) begins_large ∙ ap (λ (s : Standing). answer_from s.state) r.0,
      ap (λ (s : Standing). data_in s bytes) begins_large ∙ r.1,
      ap (λ (s : Standing). taken_in s bytes) begins_large ∙ r.2,
    )
