-- A body carries no more than its limit.
use Rattle.std.proofs.Common.{◌≡◌, ℕ, zero, suc, ◌+◌, ◌-◌, ◌*◌, ◌<◌, ◌≤◌, ◌==◌, nat_lt, List, [], ◌∷◌, length, Bool, true, false, if◌then◌else◌, Some, refl, ap, arith, length-append}
use Rattle.std.proofs.lemmas.Bool.Decides.{nat_tests}
use Rattle.std.specs.Char.{digit_value}
use Rattle.lt_http_body.specs.declared.limits.TheConstants.{SIZE_DIGITS, EXTENSION_LIMIT, TRAILER_LIMIT}
use Rattle.lt_http_body.specs.declared.standing.Standing.{Standing}
use Rattle.lt_http_body.specs.declared.state.State.{State}
use Rattle.lt_http_body.specs.declared.state.State.TheVariants as state
use Rattle.lt_http_body.specs.Lines.{after_size, after_extension, after_trailer, after_trailer_line, line_byte, line_return, in_data, in_stated}
use Rattle.lt_http_body.specs.Standings.{at, only, after_size_line, step, kept_from}
use Rattle.lt_http_body.specs.Reading.{data_in}

-- data that may still come, at most, where so much is left for further chunks
abbrev budget : State → ℕ → ℕ
budget (state.Stated left) most = left + 1 + most
budget (state.Data zero) most = 1 + most
budget (state.Data (suc left)) most = suc left + most
budget other most = most

-- a byte further, no more may come than before
record Steps (s : Standing) (b : ℕ) (kept : List ℕ) (bound : ℕ) : Type 0 where
  most : ℕ
  to : State
  is : step s b ≡ at (Some most) to
  le : length kept + budget to most ≤ bound

-- no data comes next
abbrev NoData : State → Type 0
NoData s = (most : ℕ) → budget s most ≡ most

on_if : (t : Bool) (a b : State) → NoData a → NoData b → NoData (if t then a else b)
on_if true a b one two = one
on_if false a b one two = two

size_plain : (digits size b : ℕ) → NoData (after_size digits size b)
size_plain digits size b =
    on_if (nat_lt (digit_value b) 16) (if nat_lt digits SIZE_DIGITS then state.Size (digits + 1) (size * 16 + digit_value b) else state.BadChunk) _
    (on_if (nat_lt digits SIZE_DIGITS) (state.Size (digits + 1) (size * 16 + digit_value b)) state.BadChunk (λ most. refl) (λ most. refl))
    (on_if (digits == 0) state.BadChunk (if b == 13 then state.SizeFeed size else (if b == 59 then state.Extension EXTENSION_LIMIT size else state.BadChunk)) (λ most. refl)
    (on_if (b == 13) (state.SizeFeed size) (if b == 59 then state.Extension EXTENSION_LIMIT size else state.BadChunk) (λ most. refl)
    (on_if (b == 59) (state.Extension EXTENSION_LIMIT size) state.BadChunk (λ most. refl) (λ most. refl))))

extension_plain : (left size b : ℕ) → NoData (after_extension left size b)
extension_plain left size b =
    on_if (b == 13) (state.SizeFeed size) (if b == 10 then state.BadChunk else (if left == 0 then state.BadChunk else state.Extension (left - 1) size)) (λ most. refl)
    (on_if (b == 10) state.BadChunk (if left == 0 then state.BadChunk else state.Extension (left - 1) size) (λ most. refl)
    (on_if (left == 0) state.BadChunk (state.Extension (left - 1) size) (λ most. refl) (λ most. refl)))

byte_plain : (left : ℕ) → NoData (line_byte left)
byte_plain left = on_if (nat_lt left 3) state.BadChunk (state.TrailerLine (left - 1)) (λ most. refl) (λ most. refl)

return_plain : (left : ℕ) → NoData (line_return left)
return_plain left = on_if (nat_lt left 3) state.BadChunk (state.TrailerFeed (left - 1)) (λ most. refl) (λ most. refl)

trailer_plain : (left b : ℕ) → NoData (after_trailer left b)
trailer_plain left b =
    on_if (b == 10) state.Whole (if b == 13 then (if nat_lt left 2 then state.BadChunk else state.LastFeed) else line_byte left) (λ most. refl)
    (on_if (b == 13) (if nat_lt left 2 then state.BadChunk else state.LastFeed) (line_byte left)
    (on_if (nat_lt left 2) state.BadChunk state.LastFeed (λ most. refl) (λ most. refl)) (byte_plain left))

trailer_line_plain : (left b : ℕ) → NoData (after_trailer_line left b)
trailer_line_plain left b =
    on_if (b == 10) (state.Trailer (left - 1)) (if b == 13 then line_return left else line_byte left) (λ most. refl)
    (on_if (b == 13) (line_return left) (line_byte left) (return_plain left) (byte_plain left))

only_plain : (wanted b : ℕ) (next : State) → NoData next → NoData (only wanted b next)
only_plain wanted b next plain = on_if (b == wanted) next state.BadChunk plain (λ most. refl)

-- from a state with no data to one with none
plain_step : (most : ℕ) (s to : State) (b : ℕ) → step (at (Some most) s) b ≡ at (Some most) to → NoData to → Steps (at (Some most) s) b [] most
plain_step most s to b is plain = record { most = most; to = to; is = is; le = omega (arith, plain most) }

-- behind a size line
line_step : (most size b : ℕ) → Steps (at (Some most) (state.SizeFeed size)) b [] most
unfolding step
line_step most size b = by (b == 10) refl (size == 0) refl (nat_lt most size) refl
  where
    by : (t : Bool) → (b == 10) ≡ t → (u : Bool) → (size == 0) ≡ u → (v : Bool) → nat_lt most size ≡ v → Steps (at (Some most) (state.SizeFeed size)) b [] most
    by false feed u none v above = record { most = most; to = state.BadChunk; is = ap (λ (t : Bool). if t then after_size_line (Some most) size else at (Some most) state.BadChunk) feed; le = omega arith }
    by true feed true none v above = record {
      most = most;
      to = state.Trailer TRAILER_LIMIT;
      is = (λ i. if feed i then (if none i then at (Some most) (state.Trailer TRAILER_LIMIT) else (if nat_lt most size then at (Some most) state.TooLarge else at (Some (most - size)) (state.Data size))) else at (Some most) state.BadChunk);
      le = omega arith;
    }
    by true feed false none true above = record {
      most = most;
      to = state.TooLarge;
      is = (λ i. if feed i then (if none i then at (Some most) (state.Trailer TRAILER_LIMIT) else (if above i then at (Some most) state.TooLarge else at (Some (most - size)) (state.Data size))) else at (Some most) state.BadChunk);
      le = omega arith;
    }
    by true feed false none false above = record {
      most = most - size;
      to = state.Data size;
      is = (λ i. if feed i then (if none i then at (Some most) (state.Trailer TRAILER_LIMIT) else (if above i then at (Some most) state.TooLarge else at (Some (most - size)) (state.Data size))) else at (Some most) state.BadChunk);
      le = omega (arith, within size none above);
    }
      where
        within : (n : ℕ) → (n == 0) ≡ false → nat_lt most n ≡ false → budget (state.Data n) (most - n) ≤ most
        within zero none above = grind (arith, nat_tests, none)
        within (suc n) none above = grind (arith, nat_tests, above)

-- within a chunk's data
data_step : (most left b : ℕ) → Steps (at (Some most) (state.Data left)) b (b ∷ []) (budget (state.Data left) most)
unfolding step
data_step most left b = record { most = most; to = in_data (left - 1); is = refl; le = by left }
  where
    inner : (n : ℕ) → budget (in_data n) most ≡ n + most
    inner zero = omega arith
    inner (suc n) = ap (λ (t : Bool). budget (if t then state.DataReturn else state.Data (suc n)) most) (is_some n)
      where
        is_some : (m : ℕ) → (suc m == 0) ≡ false
        is_some m = grind (arith, nat_tests)

    by : (n : ℕ) → 1 + budget (in_data (n - 1)) most ≤ budget (state.Data n) most
    by zero = omega arith
    by (suc n) = omega (arith, inner (suc n - 1))

stated_step : (most left b : ℕ) → Steps (at (Some most) (state.Stated left)) b (b ∷ []) (left + 1 + most)
unfolding step
stated_step most left b = record { most = most; to = in_stated (left - 1); is = refl; le = by (left - 1 == 0) refl }
  where
    by : (t : Bool) → (left - 1 == 0) ≡ t → 1 + budget (in_stated (left - 1)) most ≤ left + 1 + most
    by true none = omega (arith, ap (λ (t : Bool). budget (if t then state.Whole else state.Stated (left - 1)) most) none)
    by false some =
        let positive : 0 < left - 1 = grind (arith, nat_tests, some) in
        omega (arith, ap (λ (t : Bool). budget (if t then state.Whole else state.Stated (left - 1)) most) some, positive)

one_step : (most : ℕ) (s : State) (b : ℕ) → Steps (at (Some most) s) b (kept_from s b) (budget s most)
unfolding step
one_step most (state.Stated left) b = stated_step most left b
one_step most (state.Size digits size) b = plain_step most (state.Size digits size) (after_size digits size b) b refl (size_plain digits size b)
one_step most (state.Extension left size) b = plain_step most (state.Extension left size) (after_extension left size b) b refl (extension_plain left size b)
one_step most (state.SizeFeed size) b = line_step most size b
one_step most (state.Data left) b = data_step most left b
one_step most state.DataReturn b = plain_step most state.DataReturn (only 13 b state.DataFeed) b refl (only_plain 13 b state.DataFeed (λ most. refl))
one_step most state.DataFeed b = plain_step most state.DataFeed (only 10 b (state.Size 0 0)) b refl (only_plain 10 b (state.Size 0 0) (λ most. refl))
one_step most (state.Trailer left) b = plain_step most (state.Trailer left) (after_trailer left b) b refl (trailer_plain left b)
one_step most (state.TrailerLine left) b = plain_step most (state.TrailerLine left) (after_trailer_line left b) b refl (trailer_line_plain left b)
one_step most (state.TrailerFeed left) b = plain_step most (state.TrailerFeed left) (only 10 b (state.Trailer (left - 1))) b refl (only_plain 10 b (state.Trailer (left - 1)) (λ most. refl))
one_step most state.LastFeed b = plain_step most state.LastFeed (only 10 b state.Whole) b refl (only_plain 10 b state.Whole (λ most. refl))
one_step most state.Whole b = plain_step most state.Whole state.Whole b refl (λ most. refl)
one_step most state.BadChunk b = plain_step most state.BadChunk state.BadChunk b refl (λ most. refl)
one_step most state.TooLarge b = plain_step most state.TooLarge state.TooLarge b refl (λ most. refl)

-- so much data comes at most
data_within : (most : ℕ) (s : State) (bytes : List ℕ) → length (data_in (at (Some most) s) bytes) ≤ budget s most
unfolding data_in
data_within most s [] = omega arith
data_within most s (b ∷ bytes) =
    let o = one_step most s b in
    let rest : length (data_in (at (Some o.most) o.to) bytes) ≤ budget o.to o.most = data_within o.most o.to bytes in
    omega (arith, length-append (kept_from s b) (data_in (step (at (Some most) s) b) bytes), ap (λ (x : Standing). length (data_in x bytes)) o.is, rest, o.le)

-- a body in chunks
pub chunks_within : (most : ℕ) (bytes : List ℕ) → length (data_in (at (Some most) (state.Size 0 0)) bytes) ≤ most
chunks_within most bytes = data_within most (state.Size 0 0) bytes
