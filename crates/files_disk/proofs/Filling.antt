-- The front of a buffer after one read more.
use Rattle.std.proofs.Common.{◌≡◌, ℕ, ◌+◌, ◌≤◌, List, ◌++◌, length, take, drop, sym, ◌∙◌, ap, arith, drop-drop, length-take}
use Rattle.std.proofs.lemmas.List.{take_at, drop_at, take-append-le}
use Rattle.std.proofs.Math.Seq.{take-add}

-- where k bytes are those from `start` on, and the next n those from there on, all of them are those from `start` on
pub filled_on : (k n start : ℕ) (old next rest bytes : List ℕ) → k ≤ length old → n ≤ length next
    → take k old ≡ take k (drop start bytes) → take n next ≡ take n (drop (start + k) bytes)
    → take (k + n) (take k old ++ (next ++ rest)) ≡ take (k + n) (drop start bytes)
filled_on k n start old next rest bytes fits there front more =
    let whole = take k old ++ (next ++ rest) in
    let long : length (take k old) ≡ k = omega (arith, length-take k old, fits) in
    let first : take k whole ≡ take k (drop start bytes) = take_at (take k old) (next ++ rest) k long ∙ front in
    let second : take n (drop k whole) ≡ take n (drop k (drop start bytes)) =
    ap (take n) (drop_at (take k old) (next ++ rest) k long) ∙ take-append-le n next rest there ∙ more ∙ ap (take n) (sym (drop-drop k start bytes)) in
    take-add k n whole ∙ ap (λ l. l ++ take n (drop k whole)) first ∙ ap (λ l. take k (drop start bytes) ++ l) second ∙ sym (take-add k n (drop start bytes))
