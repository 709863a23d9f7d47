-- What the grammar prints is read as it says.
use Rattle.std.proofs.Common.{◌≡◌, ◌≢◌, ℕ, ◌+◌, ◌-◌, ◌*◌, ◌<◌, ◌≤◌, ◌==◌, nat_lt, false, List, [], ◌∷◌, ◌++◌, length, take, drop, Option, Some, None, refl, ap, ◌∙◌, subst, append-nil, length-append, arith}
use Rattle.std.proofs.lemmas.Bool.{cond-true, cond-false, lt-ltb, le-ltb, ne_eqb}
use Rattle.std.proofs.Math.Seq.{drop-append_seam, take-append_seam}
use Rattle.std.specs.Char.{digit_value}
use Rattle.std.specs.Str.Parse.{AllDigits, digits_value, digits_value_after}
use Rattle.lt_http_body.specs.declared.state.State.{State}
use Rattle.lt_http_body.specs.declared.state.State.TheVariants as state
use Rattle.lt_http_body.specs.declared.standing.Standing.{Standing}
use Rattle.lt_http_body.specs.declared.limits.TheConstants.{SIZE_DIGITS, EXTENSION_LIMIT, TRAILER_LIMIT}
use Rattle.lt_http_body.specs.Lines.{in_data}
use Rattle.lt_http_body.specs.Standings.{at, step, is_above, less, after_size_line}
use Rattle.lt_http_body.specs.Grammar.{SizeLine, Chunk, LineEnd, Crlf, Lf, FieldLine, ChunkedBody, IsText, IsExtension, IsSizeLine, IsChunk, AreChunks, AreFieldLines, IsChunkedBody, end_size, lines_size, print_extension, print_size, print_chunk, print_chunks, print_end, print_lines, print, data_of, Fits, room_behind}
use Rattle.lt_http_body.proofs.ReadingLemmas.{Gives, data_gives}
use Rattle.lt_http_body.proofs.Moving.{Goes, goes_nowhere, goes_on, line_then}

-- a size line
pub digit_step : (room : Option ℕ) (d v b : ℕ) → digit_value b < 16 → d < 15 → step (at room (state.Size d v)) b ≡ at room (state.Size (d + 1) (v * 16 + digit_value b))
unfolding step
digit_step room d v b hex few =
    ap (at room) (cond-true (nat_lt (digit_value b) 16) _ _ (lt-ltb (digit_value b) 16 hex) ∙ cond-true (nat_lt d SIZE_DIGITS) _ _ (lt-ltb d SIZE_DIGITS few))

digits_then : (room : Option ℕ) (ds : List ℕ) (d v n : ℕ) (rest : List ℕ) → AllDigits 16 ds → d + length ds ≡ n → n ≤ 15 → Goes (at room (state.Size d v)) (ds ++ rest) [] (at room (state.Size n (digits_value_after 16 v ds))) rest
digits_then room [] d v n rest hex sum few =
    let same : d ≡ n = omega (arith, sum) in
    subst (λ (m : ℕ). Goes (at room (state.Size d v)) rest [] (at room (state.Size m v)) rest) same (goes_nowhere (at room (state.Size d v)) rest)
digits_then room (b ∷ ds) d v n rest hex sum few =
    line_then (at room (state.Size d v)) (at room (state.Size (d + 1) (v * 16 + digit_value b))) (at room (state.Size n (digits_value_after 16 (v * 16 + digit_value b) ds))) b (ds ++ rest) [] rest refl
    (digit_step room d v b hex.0 (omega (arith, sum, few)))
    (digits_then room ds (d + 1) (v * 16 + digit_value b) n rest hex.1 (omega (arith, sum)) few)

some_digits : (d : ℕ) → 0 < d → (d == 0) ≡ false
some_digits d some = ne_eqb d 0 (λ e. omega (arith, e))

pub size_return : (room : Option ℕ) (d v : ℕ) → 0 < d → step (at room (state.Size d v)) 13 ≡ at room (state.SizeFeed v)
unfolding step
size_return room d v some = ap (at room) (cond-false (d == 0) _ _ (some_digits d some))

size_semicolon : (room : Option ℕ) (d v : ℕ) → 0 < d → step (at room (state.Size d v)) 59 ≡ at room (state.Extension EXTENSION_LIMIT v)
unfolding step
size_semicolon room d v some = ap (at room) (cond-false (d == 0) _ _ (some_digits d some))

extension_step : (room : Option ℕ) (left v b : ℕ) → b ≢ 13 → b ≢ 10 → 0 < left → step (at room (state.Extension left v)) b ≡ at room (state.Extension (left - 1) v)
unfolding step
extension_step room left v b one two some =
    ap (at room) (cond-false (b == 13) _ _ (ne_eqb b 13 one) ∙ cond-false (b == 10) _ _ (ne_eqb b 10 two) ∙ cond-false (left == 0) _ _ (some_digits left some))

pub extension_return : (room : Option ℕ) (left v : ℕ) → step (at room (state.Extension left v)) 13 ≡ at room (state.SizeFeed v)
unfolding step
extension_return room left v = refl

extension_then : (room : Option ℕ) (text : List ℕ) (left n v : ℕ) (rest : List ℕ) → IsText text → length text + n ≡ left → Goes (at room (state.Extension left v)) (text ++ rest) [] (at room (state.Extension n v)) rest
extension_then room [] left n v rest is sum =
    let same : left ≡ n = omega (arith, sum) in
    subst (λ (m : ℕ). Goes (at room (state.Extension left v)) rest [] (at room (state.Extension m v)) rest) same (goes_nowhere (at room (state.Extension left v)) rest)
extension_then room (b ∷ text) left n v rest is sum =
    line_then (at room (state.Extension left v)) (at room (state.Extension (left - 1) v)) (at room (state.Extension n v)) b (text ++ rest) [] rest refl
    (extension_step room left v b is.0 is.1 (omega (arith, sum)))
    (extension_then room text (left - 1) n v rest is.2 (omega (arith, sum)))

to_feed : (room : Option ℕ) (extension : Option (List ℕ)) (d v : ℕ) (rest : List ℕ) → 0 < d → IsExtension extension → Goes (at room (state.Size d v)) (print_extension extension (13 ∷ rest)) [] (at room (state.SizeFeed v)) rest
to_feed room None d v rest some is =
    line_then (at room (state.Size d v)) (at room (state.SizeFeed v)) (at room (state.SizeFeed v)) 13 rest [] rest refl (size_return room d v some) (goes_nowhere (at room (state.SizeFeed v)) rest)
to_feed room (Some text) d v rest some is =
    let left : ℕ = EXTENSION_LIMIT - length text in
    line_then (at room (state.Size d v)) (at room (state.Extension EXTENSION_LIMIT v)) (at room (state.SizeFeed v)) 59 (text ++ 13 ∷ rest) [] rest refl (size_semicolon room d v some)
    (goes_on (at room (state.Extension EXTENSION_LIMIT v)) (at room (state.Extension left v)) (at room (state.SizeFeed v)) (text ++ 13 ∷ rest) (13 ∷ rest) rest [] []
    (extension_then room text EXTENSION_LIMIT left v (13 ∷ rest) is.1 (omega (arith, is.0)))
    (line_then (at room (state.Extension left v)) (at room (state.SizeFeed v)) (at room (state.SizeFeed v)) 13 rest [] rest refl (extension_return room left v) (goes_nowhere (at room (state.SizeFeed v)) rest)))

pub size_feed : (room : Option ℕ) (v : ℕ) → step (at room (state.SizeFeed v)) 10 ≡ after_size_line room v
unfolding step
size_feed room v = refl

pub size_then : (room : Option ℕ) (line : SizeLine) (rest : List ℕ) → IsSizeLine line → Goes (at room (state.Size 0 0)) (print_size line rest) [] (after_size_line room (digits_value 16 line.digits)) rest
size_then room line rest is =
    let n : ℕ = length line.digits in
    let v : ℕ = digits_value 16 line.digits in
    let tail : List ℕ = print_extension line.extension (13 ∷ 10 ∷ rest) in
    goes_on (at room (state.Size 0 0)) (at room (state.Size n v)) (after_size_line room v) (line.digits ++ tail) tail rest [] []
    (digits_then room line.digits 0 0 n tail is.digits (omega arith) is.few)
    (goes_on (at room (state.Size n v)) (at room (state.SizeFeed v)) (after_size_line room v) tail (10 ∷ rest) rest [] []
    (to_feed room line.extension n v (10 ∷ rest) is.some is.extension)
    (line_then (at room (state.SizeFeed v)) (after_size_line room v) (after_size_line room v) 10 rest [] rest refl (size_feed room v) (goes_nowhere (after_size_line room v) rest)))

-- a chunk
pub gives_goes : (s t : Standing) (bytes : List ℕ) (n : ℕ) → Gives s bytes n t → Goes s bytes (take n bytes) t (drop n bytes)
gives_goes s t bytes n g = record { count = n; left = refl; stands = g.stands; reads = g.reads; counts = g.counts }

data_begins : (room : Option ℕ) (n : ℕ) → 0 < n → is_above n room ≡ false → after_size_line room n ≡ at (less room n) (state.Data n)
data_begins room n some fits = cond-false (n == 0) _ _ (some_digits n some) ∙ cond-false (is_above n room) _ _ fits

pub data_then : (room : Option ℕ) (bytes rest : List ℕ) → 0 < length bytes → Goes (at room (state.Data (length bytes))) (bytes ++ rest) bytes (at room state.DataReturn) rest
data_then room bytes rest some =
    let n : ℕ = length bytes in
    let none : n - n ≡ 0 = omega arith in
    let behind : in_data (n - n) ≡ state.DataReturn = ap in_data none in
    let g : Gives (at room (state.Data n)) (bytes ++ rest) n (at room state.DataReturn) = subst (λ (s : State). Gives (at room (state.Data n)) (bytes ++ rest) n (at room s)) behind
    (data_gives room (state.Data n) (bytes ++ rest) n some (omega arith) (omega (arith, length-append bytes rest))) in
    subst (λ (l : List ℕ). Goes (at room (state.Data n)) (bytes ++ rest) bytes (at room state.DataReturn) l) (drop-append_seam bytes rest)
    (subst (λ (l : List ℕ). Goes (at room (state.Data n)) (bytes ++ rest) l (at room state.DataReturn) (drop n (bytes ++ rest))) (take-append_seam bytes rest)
    (gives_goes (at room (state.Data n)) (at room state.DataReturn) (bytes ++ rest) n g))

data_return : (room : Option ℕ) → step (at room state.DataReturn) 13 ≡ at room state.DataFeed
unfolding step
data_return room = refl

pub data_feed : (room : Option ℕ) → step (at room state.DataFeed) 10 ≡ at room (state.Size 0 0)
unfolding step
data_feed room = refl

pub line_end_then : (room : Option ℕ) (rest : List ℕ) → Goes (at room state.DataReturn) (13 ∷ 10 ∷ rest) [] (at room (state.Size 0 0)) rest
line_end_then room rest =
    line_then (at room state.DataReturn) (at room state.DataFeed) (at room (state.Size 0 0)) 13 (10 ∷ rest) [] rest refl (data_return room)
    (line_then (at room state.DataFeed) (at room (state.Size 0 0)) (at room (state.Size 0 0)) 10 rest [] rest refl (data_feed room) (goes_nowhere (at room (state.Size 0 0)) rest))

chunk_then : (room : Option ℕ) (chunk : Chunk) (rest : List ℕ) → IsChunk chunk → is_above (length chunk.bytes) room ≡ false
    → Goes (at room (state.Size 0 0)) (print_chunk chunk rest) chunk.bytes (at (less room (length chunk.bytes)) (state.Size 0 0)) rest
chunk_then room chunk rest is fits =
    let n : ℕ = length chunk.bytes in
    let more : Option ℕ = less room n in
    let tail : List ℕ = chunk.bytes ++ 13 ∷ 10 ∷ rest in
    let begins : after_size_line room (digits_value 16 chunk.line.digits) ≡ at more (state.Data n) = ap (after_size_line room) is.size ∙ data_begins room n is.some fits in
    let front : Goes (at room (state.Size 0 0)) (print_chunk chunk rest) [] (at more (state.Data n)) tail =
    subst (λ (s : Standing). Goes (at room (state.Size 0 0)) (print_chunk chunk rest) [] s tail) begins (size_then room chunk.line tail is.line) in
    let back : Goes (at more (state.Data n)) tail (chunk.bytes ++ []) (at more (state.Size 0 0)) rest =
    goes_on (at more (state.Data n)) (at more state.DataReturn) (at more (state.Size 0 0)) tail (13 ∷ 10 ∷ rest) rest chunk.bytes [] (data_then more chunk.bytes (13 ∷ 10 ∷ rest) is.some) (line_end_then more rest) in
    goes_on (at room (state.Size 0 0)) (at more (state.Data n)) (at more (state.Size 0 0)) (print_chunk chunk rest) tail rest [] chunk.bytes front
    (subst (λ (l : List ℕ). Goes (at more (state.Data n)) tail l (at more (state.Size 0 0)) rest) (append-nil chunk.bytes) back)

pub chunks_then : (room : Option ℕ) (chunks : List Chunk) (rest : List ℕ) → AreChunks chunks → Fits room chunks → Goes (at room (state.Size 0 0)) (print_chunks chunks rest) (data_of chunks) (at (room_behind room chunks) (state.Size 0 0)) rest
chunks_then room [] rest are fits = goes_nowhere (at room (state.Size 0 0)) rest
chunks_then room (chunk ∷ chunks) rest are fits =
    let more : Option ℕ = less room (length chunk.bytes) in
    goes_on (at room (state.Size 0 0)) (at more (state.Size 0 0)) (at (room_behind more chunks) (state.Size 0 0)) (print_chunk chunk (print_chunks chunks rest)) (print_chunks chunks rest) rest chunk.bytes (data_of chunks)
    (chunk_then room chunk (print_chunks chunks rest) are.0 fits.0) (chunks_then more chunks rest are.1 fits.1)

-- the trailer
enough : (left n : ℕ) → n ≤ left → nat_lt left n ≡ false
enough left n h = le-ltb left n h

text_step : (room : Option ℕ) (left b : ℕ) → b ≢ 13 → b ≢ 10 → 3 ≤ left → step (at room (state.TrailerLine left)) b ≡ at room (state.TrailerLine (left - 1))
unfolding step
text_step room left b one two fits =
    ap (at room) (cond-false (b == 10) _ _ (ne_eqb b 10 two) ∙ cond-false (b == 13) _ _ (ne_eqb b 13 one) ∙ cond-false (nat_lt left 3) _ _ (enough left 3 fits))

first_step : (room : Option ℕ) (left b : ℕ) → b ≢ 13 → b ≢ 10 → 3 ≤ left → step (at room (state.Trailer left)) b ≡ at room (state.TrailerLine (left - 1))
unfolding step
first_step room left b one two fits =
    ap (at room) (cond-false (b == 10) _ _ (ne_eqb b 10 two) ∙ cond-false (b == 13) _ _ (ne_eqb b 13 one) ∙ cond-false (nat_lt left 3) _ _ (enough left 3 fits))

line_return_step : (room : Option ℕ) (left : ℕ) → 3 ≤ left → step (at room (state.TrailerLine left)) 13 ≡ at room (state.TrailerFeed (left - 1))
unfolding step
line_return_step room left fits = ap (at room) (cond-false (nat_lt left 3) _ _ (enough left 3 fits))

line_feed_step : (room : Option ℕ) (left n : ℕ) → left ≡ n + 1 → step (at room (state.TrailerLine left)) 10 ≡ at room (state.Trailer n)
unfolding step
line_feed_step room left n is = let same : left - 1 ≡ n = omega (arith, is) in ap (λ (m : ℕ). at room (state.Trailer m)) same

pub trailer_feed_step : (room : Option ℕ) (left n : ℕ) → left ≡ n + 1 → step (at room (state.TrailerFeed left)) 10 ≡ at room (state.Trailer n)
unfolding step
trailer_feed_step room left n is = let same : left - 1 ≡ n = omega (arith, is) in ap (λ (m : ℕ). at room (state.Trailer m)) same

text_then : (room : Option ℕ) (text : List ℕ) (left n : ℕ) (rest : List ℕ) → IsText text → length text + n ≡ left → 2 ≤ n → Goes (at room (state.TrailerLine left)) (text ++ rest) [] (at room (state.TrailerLine n)) rest
text_then room [] left n rest is sum fits =
    let same : left ≡ n = omega (arith, sum) in
    subst (λ (m : ℕ). Goes (at room (state.TrailerLine left)) rest [] (at room (state.TrailerLine m)) rest) same (goes_nowhere (at room (state.TrailerLine left)) rest)
text_then room (b ∷ text) left n rest is sum fits =
    line_then (at room (state.TrailerLine left)) (at room (state.TrailerLine (left - 1))) (at room (state.TrailerLine n)) b (text ++ rest) [] rest refl
    (text_step room left b is.0 is.1 (omega (arith, sum, fits)))
    (text_then room text (left - 1) n rest is.2 (omega (arith, sum)) fits)

pub end_then : (room : Option ℕ) (ending : LineEnd) (left n : ℕ) (rest : List ℕ) → end_size ending + n ≡ left → 1 ≤ n → Goes (at room (state.TrailerLine left)) (print_end ending rest) [] (at room (state.Trailer n)) rest
end_then room Crlf left n rest sum fits =
    line_then (at room (state.TrailerLine left)) (at room (state.TrailerFeed (left - 1))) (at room (state.Trailer n)) 13 (10 ∷ rest) [] rest refl (line_return_step room left (omega (arith, sum, fits)))
    (line_then (at room (state.TrailerFeed (left - 1))) (at room (state.Trailer n)) (at room (state.Trailer n)) 10 rest [] rest refl (trailer_feed_step room (left - 1) n (omega (arith, sum))) (goes_nowhere (at room (state.Trailer n)) rest))
end_then room Lf left n rest sum fits =
    line_then (at room (state.TrailerLine left)) (at room (state.Trailer n)) (at room (state.Trailer n)) 10 rest [] rest refl (line_feed_step room left n (omega (arith, sum))) (goes_nowhere (at room (state.Trailer n)) rest)

pub end_some : (e : LineEnd) → 1 ≤ end_size e
end_some Crlf = omega arith
end_some Lf = omega arith

field_then : (room : Option ℕ) (text : List ℕ) (ending : LineEnd) (left n : ℕ) (rest : List ℕ) → 0 < length text → IsText text → length text + end_size ending + n ≡ left → 1 ≤ n
    → Goes (at room (state.Trailer left)) (text ++ print_end ending rest) [] (at room (state.Trailer n)) rest
field_then room [] ending left n rest some is sum fits = absurd (omega arith)
field_then room (b ∷ text) ending left n rest some is sum fits =
    let size : 1 ≤ end_size ending = end_some ending in
    line_then (at room (state.Trailer left)) (at room (state.TrailerLine (left - 1))) (at room (state.Trailer n)) b (text ++ print_end ending rest) [] rest refl
    (first_step room left b is.0 is.1 (omega (arith, sum, fits, size)))
    (goes_on (at room (state.TrailerLine (left - 1))) (at room (state.TrailerLine (end_size ending + n))) (at room (state.Trailer n)) (text ++ print_end ending rest) (print_end ending rest) rest [] []
    (text_then room text (left - 1) (end_size ending + n) (print_end ending rest) is.2 (omega (arith, sum)) (omega (arith, size, fits)))
    (end_then room ending (end_size ending + n) n rest refl fits))

lines_then : (room : Option ℕ) (lines : List FieldLine) (left n : ℕ) (rest : List ℕ) → AreFieldLines lines → lines_size lines + n ≡ left → 1 ≤ n → Goes (at room (state.Trailer left)) (print_lines lines rest) [] (at room (state.Trailer n)) rest
lines_then room [] left n rest are sum fits =
    let same : left ≡ n = omega (arith, sum) in
    subst (λ (m : ℕ). Goes (at room (state.Trailer left)) rest [] (at room (state.Trailer m)) rest) same (goes_nowhere (at room (state.Trailer left)) rest)
lines_then room (line ∷ lines) left n rest are sum fits =
    let more : ℕ = lines_size lines + n in
    goes_on (at room (state.Trailer left)) (at room (state.Trailer more)) (at room (state.Trailer n)) (print_lines (line ∷ lines) rest) (print_lines lines rest) rest [] []
    (field_then room line.text line.ending left more (print_lines lines rest) are.0 are.1 (omega (arith, sum)) (omega (arith, fits)))
    (lines_then room lines more n rest are.2 refl fits)

pub last_feed : (room : Option ℕ) → step (at room state.LastFeed) 10 ≡ at room state.Whole
unfolding step
last_feed room = refl

empty_feed : (room : Option ℕ) (left : ℕ) → step (at room (state.Trailer left)) 10 ≡ at room state.Whole
unfolding step
empty_feed room left = refl

empty_return : (room : Option ℕ) (left : ℕ) → 2 ≤ left → step (at room (state.Trailer left)) 13 ≡ at room state.LastFeed
unfolding step
empty_return room left fits = ap (at room) (cond-false (nat_lt left 2) _ _ (enough left 2 fits))

pub last_then : (room : Option ℕ) (ending : LineEnd) (left : ℕ) (rest : List ℕ) → end_size ending ≤ left → Goes (at room (state.Trailer left)) (print_end ending rest) [] (at room state.Whole) rest
last_then room Crlf left rest fits =
    line_then (at room (state.Trailer left)) (at room state.LastFeed) (at room state.Whole) 13 (10 ∷ rest) [] rest refl (empty_return room left fits)
    (line_then (at room state.LastFeed) (at room state.Whole) (at room state.Whole) 10 rest [] rest refl (last_feed room) (goes_nowhere (at room state.Whole) rest))
last_then room Lf left rest fits =
    line_then (at room (state.Trailer left)) (at room state.Whole) (at room state.Whole) 10 rest [] rest refl (empty_feed room left) (goes_nowhere (at room state.Whole) rest)

trailer_begins : (room : Option ℕ) (n : ℕ) → n ≡ 0 → after_size_line room n ≡ at room (state.Trailer TRAILER_LIMIT)
trailer_begins room n none = ap (after_size_line room) none

-- a whole body
pub body_then : (room : Option ℕ) (body : ChunkedBody) (rest : List ℕ) → IsChunkedBody body → Fits room body.chunks
    → Goes (at room (state.Size 0 0)) (print body rest) (data_of body.chunks) (at (room_behind room body.chunks) state.Whole) rest
body_then room body rest is fits =
    let more : Option ℕ = room_behind room body.chunks in
    let ends : List ℕ = print_end body.ending rest in
    let lines : List ℕ = print_lines body.lines ends in
    let last : List ℕ = print_size body.last lines in
    let left : ℕ = TRAILER_LIMIT - lines_size body.lines in
    let trailer : Goes (at more (state.Size 0 0)) last [] (at more (state.Trailer TRAILER_LIMIT)) lines =
    subst (λ (s : Standing). Goes (at more (state.Size 0 0)) last [] s lines) (trailer_begins more (digits_value 16 body.last.digits) is.zero_size) (size_then more body.last lines is.last) in
    let fields : Goes (at more (state.Trailer TRAILER_LIMIT)) lines [] (at more (state.Trailer left)) ends =
    lines_then more body.lines TRAILER_LIMIT left ends is.lines (omega (arith, is.room)) (omega (arith, is.room, end_some body.ending)) in
    let ended : Goes (at more (state.Trailer left)) ends [] (at more state.Whole) rest = last_then more body.ending left rest (omega (arith, is.room)) in
    let back : Goes (at more (state.Size 0 0)) last [] (at more state.Whole) rest =
    goes_on (at more (state.Size 0 0)) (at more (state.Trailer TRAILER_LIMIT)) (at more state.Whole) last lines rest [] [] trailer
    (goes_on (at more (state.Trailer TRAILER_LIMIT)) (at more (state.Trailer left)) (at more state.Whole) lines ends rest [] [] fields ended) in
    subst (λ (l : List ℕ). Goes (at room (state.Size 0 0)) (print body rest) l (at more state.Whole) rest) (append-nil (data_of body.chunks))
    (goes_on (at room (state.Size 0 0)) (at more (state.Size 0 0)) (at more state.Whole) (print body rest) last rest (data_of body.chunks) [] (chunks_then room body.chunks last is.chunks fits) back)
