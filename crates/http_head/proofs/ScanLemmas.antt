-- A scan goes on over bytes as the definitions do over all of them.
use Rattle.std.proofs.Common.{◌≡◌, ◌≢◌, ◌⊎◌, ℕ, zero, suc, ◌+◌, ◌-◌, ◌<◌, ◌≤◌, min, Bool, true, false, cond, ◌&&◌, eqb, leb, List, [], ◌∷◌, ◌++◌, length, get_or, take, drop, Option, Some, None, refl, sym, ap, ◌∙◌, arith, inl, inr}
use Rattle.std.specs.Prelude.{option_map}
use Rattle.std.proofs.lemmas.Bool.{eq-eqb, le-leb, leb-true, leb-false, lt-leb}
use Rattle.std.proofs.lemmas.List.{append-nil, append_assoc, length-append, length-take, drop_more, drop-drop, drop_all}
use Rattle.std.proofs.Math.Seq.{take-nil}
use Rattle.http_head.specs.Lines.{after_blank, length_to_end, end_of}
use Rattle.http_head.specs.Ends.{head_end, head_end_at, head_end_in}
use Rattle.http_head.specs.Scan.{is_ended, place_after, behind_line, behind_line_return, behind_return, end_behind, end_from_in, IsScan}
use Rattle.http_head.specs.declared.ends.HeadEnd.TheVariants.{At, NotYet, TooLarge}
use Rattle.http_head.specs.declared.limits.TheConstants.{HEAD_LIMIT}
use Rattle.http_head.specs.declared.scan.HeadScan.{HeadScan}
use Rattle.http_head.specs.declared.scan.Place.{Place}
use Rattle.http_head.specs.declared.scan.Place.TheVariants.{Start, StartReturn, Line, LineEnd, LineEndReturn, Ended}
use Rattle.http_head.proofs.LineLemmas.{length_to_end_other}

none_added : (o : Option ℕ) → o ≡ option_map (λ m. 0 + m) o
none_added None = refl
none_added (Some m) = ap Some (let e : m ≡ 0 + m = omega arith in e)

one_added : (o : Option ℕ) (n : ℕ) → option_map suc (option_map (λ m. n + m) o) ≡ option_map (λ m. suc n + m) o
one_added None n = refl
one_added (Some m) n = ap Some (let e : suc (n + m) ≡ suc n + m = omega arith in e)

both_added : (o : Option ℕ) (i n : ℕ) → option_map (λ m. i + m) (option_map (λ m. n + m) o) ≡ option_map (λ m. i + n + m) o
both_added None i n = refl
both_added (Some m) i n = ap Some (let e : i + (n + m) ≡ i + n + m = omega arith in e)

added_one : (o : Option ℕ) → option_map suc o ≡ option_map (λ m. 1 + m) o
added_one None = refl
added_one (Some m) = ap Some (let e : suc m ≡ 1 + m = omega arith in e)

-- ---- one byte

-- the empty lines at the front are not longer than the bytes
blank_within : (xs : List ℕ) → length (after_blank xs) ≤ length xs
blank_within [] = omega arith
blank_within (a ∷ []) = by (eqb a 10)
  where
    by : (t : Bool) → length (cond t [] (a ∷ [])) ≤ 1
    by true = omega arith
    by false = omega arith
blank_within (a ∷ b ∷ rest) = by (eqb a 10) (eqb a 13) (eqb b 10) (blank_within (b ∷ rest)) (blank_within rest)
  where
    by : (t u v : Bool) → length (after_blank (b ∷ rest)) ≤ length (b ∷ rest) → length (after_blank rest) ≤ length rest
        → length (cond t (after_blank (b ∷ rest)) (cond (u && v) (after_blank rest) (a ∷ b ∷ rest))) ≤ suc (suc (length rest))
    by true u v one two = omega (arith, one)
    by false true true one two = omega (arith, two)
    by false true false one two = omega arith
    by false false v one two = omega arith

one_less : (o : Option ℕ) (len rest : ℕ) → rest ≤ len → option_map (λ n. n + (suc len - rest)) o ≡ option_map suc (option_map (λ n. n + (len - rest)) o)
one_less None len rest h = refl
one_less (Some n) len rest h = ap Some (let e : n + (suc len - rest) ≡ suc (n + (len - rest)) = omega (arith, h) in e)

nothing_less : (o : Option ℕ) (len : ℕ) → option_map (λ n. n + (len - len)) o ≡ o
nothing_less None len = refl
nothing_less (Some n) len = ap Some (let e : n + (len - len) ≡ n = omega arith in e)

line_other : (b : ℕ) (rest : List ℕ) → eqb b 10 ≡ false → length_to_end (b ∷ rest) ≡ option_map suc (length_to_end rest)
line_other b rest is = rw is refl

start_fed : (b : ℕ) (rest : List ℕ) → eqb b 10 ≡ true → end_of (b ∷ rest) ≡ option_map suc (end_of rest)
start_fed b [] is = rw is refl
start_fed b (r ∷ rest) is = rw is (one_less (length_to_end (after_blank (r ∷ rest))) (length (r ∷ rest)) (length (after_blank (r ∷ rest))) (blank_within (r ∷ rest)))

-- with no empty line at the front
end_plain : (xs : List ℕ) → after_blank xs ≡ xs → end_of xs ≡ length_to_end xs
end_plain xs is = ap (λ (l : List ℕ). option_map (λ n. n + (length xs - length l)) (length_to_end l)) is ∙ nothing_less (length_to_end xs) (length xs)

other_stays : (b : ℕ) (rest : List ℕ) → eqb b 10 ≡ false → eqb b 13 ≡ false → after_blank (b ∷ rest) ≡ b ∷ rest
other_stays b [] is not = rw is refl
other_stays b (r ∷ rest) is not = rw (is, not) refl

start_other : (b : ℕ) (rest : List ℕ) → eqb b 10 ≡ false → eqb b 13 ≡ false → end_of (b ∷ rest) ≡ option_map suc (length_to_end rest)
start_other b rest is not = end_plain (b ∷ rest) (other_stays b rest is not) ∙ line_other b rest is

return_stays : (b r : ℕ) (rest : List ℕ) → eqb b 10 ≡ false → eqb r 10 ≡ false → after_blank (b ∷ r ∷ rest) ≡ b ∷ r ∷ rest
return_stays b r rest not other = by (eqb b 13)
  where
    by : (t : Bool) → cond (eqb b 10) (after_blank (r ∷ rest)) (cond (t && eqb r 10) (after_blank rest) (b ∷ r ∷ rest)) ≡ b ∷ r ∷ rest
    by true = rw (not, other) refl
    by false = rw not refl

start_returned : (b : ℕ) (rest : List ℕ) → eqb b 10 ≡ false → eqb b 13 ≡ true → end_of (b ∷ rest) ≡ option_map suc (behind_return rest)
start_returned b [] not is = end_plain (b ∷ []) (rw not refl) ∙ line_other b [] not
start_returned b (r ∷ rest) not is = by (eqb r 10) refl
  where
    fed : eqb r 10 ≡ true → after_blank (b ∷ r ∷ rest) ≡ after_blank rest
    fed ends = rw (not, is, ends) refl

    behind : (t : Bool) → eqb r 10 ≡ t → behind_return (r ∷ rest) ≡ cond t (option_map suc (end_of rest)) (option_map suc (length_to_end rest))
    behind t ends = ap (λ (t : Bool). cond t (option_map suc (end_of rest)) (option_map suc (length_to_end rest))) ends

    by : (t : Bool) → eqb r 10 ≡ t → end_of (b ∷ r ∷ rest) ≡ option_map suc (behind_return (r ∷ rest))
    by true ends =
        ap (λ (l : List ℕ). option_map (λ n. n + (length (b ∷ r ∷ rest) - length l)) (length_to_end l)) (fed ends)
        ∙ one_less (length_to_end (after_blank rest)) (suc (length rest)) (length (after_blank rest)) (omega (arith, blank_within rest))
        ∙ ap (option_map suc) (one_less (length_to_end (after_blank rest)) (length rest) (length (after_blank rest)) (blank_within rest) ∙ sym (behind true ends))
    by false other =
        end_plain (b ∷ r ∷ rest) (return_stays b r rest not other) ∙ line_other b (r ∷ rest) not
        ∙ ap (option_map suc) (line_other r rest other ∙ sym (behind false other))

line_fed : (rest : List ℕ) (b : ℕ) → eqb b 10 ≡ true → length_to_end (b ∷ rest) ≡ option_map suc (behind_line rest)
line_fed [] b is = rw is refl
line_fed (r ∷ rest) b is = by (eqb r 10) (eqb r 13) refl refl
  where
    by : (t u : Bool) → eqb r 10 ≡ t → eqb r 13 ≡ u → length_to_end (b ∷ r ∷ rest) ≡ option_map suc (behind_line (r ∷ rest))
    by true u fed other = rw (is, fed) refl
    by false false not other = rw (is, not, other) refl
    by false true not returned = behind rest
      where
        behind : (l : List ℕ) → length_to_end (b ∷ r ∷ l) ≡ option_map suc (behind_line (r ∷ l))
        behind [] = rw (is, not, returned) refl
        behind (s ∷ l) = last (eqb s 10) refl
          where
            last : (t : Bool) → eqb s 10 ≡ t → length_to_end (b ∷ r ∷ s ∷ l) ≡ option_map suc (behind_line (r ∷ s ∷ l))
            last true end = rw (is, not, returned, end) refl
            last false on = rw (is, not, returned, on) refl

stepped : (p : Place) (b : ℕ) (rest : List ℕ) → is_ended p ≡ false → end_behind p (b ∷ rest) ≡ option_map suc (end_behind (place_after p b) rest)
stepped Start b rest going = by (eqb b 10) (eqb b 13) refl refl
  where
    by : (t u : Bool) → eqb b 10 ≡ t → eqb b 13 ≡ u → end_of (b ∷ rest) ≡ option_map suc (end_behind (cond t Start (cond u StartReturn Line)) rest)
    by true u is other = start_fed b rest is
    by false true not is = start_returned b rest not is
    by false false not other = start_other b rest not other
stepped StartReturn b rest going = by (eqb b 10)
  where
    by : (t : Bool) → cond t (option_map suc (end_of rest)) (option_map suc (length_to_end rest)) ≡ option_map suc (end_behind (cond t Start Line) rest)
    by true = refl
    by false = refl
stepped Line b rest going = by (eqb b 10) refl
  where
    by : (t : Bool) → eqb b 10 ≡ t → length_to_end (b ∷ rest) ≡ option_map suc (end_behind (cond t LineEnd Line) rest)
    by true is = line_fed rest b is
    by false not = line_other b rest not
stepped LineEnd b rest going = by (eqb b 10) (eqb b 13)
  where
    by : (t u : Bool) → cond t (Some 1) (cond u (option_map suc (behind_line_return rest)) (option_map suc (length_to_end rest)))
        ≡ option_map suc (end_behind (cond t Ended (cond u LineEndReturn Line)) rest)
    by true u = refl
    by false true = refl
    by false false = refl
stepped LineEndReturn b rest going = by (eqb b 10)
  where
    by : (t : Bool) → cond t (Some 1) (option_map suc (length_to_end rest)) ≡ option_map suc (end_behind (cond t Ended Line) rest)
    by true = refl
    by false = refl
stepped Ended b rest going = cc

-- a byte of the bytes
pub byte_passed : (p : Place) (bytes : List ℕ) (next : Place) → 0 < length bytes → is_ended p ≡ false → next ≡ place_after p (get_or bytes 0 0)
    → (more : List ℕ) → end_behind p (bytes ++ more) ≡ option_map (λ n. 1 + n) (end_behind next (drop 1 bytes ++ more))
byte_passed p [] next some going is more = absurd (omega (arith, some))
byte_passed p (b ∷ rest) next some going is more =
    stepped p b (rest ++ more) going ∙ added_one (end_behind (place_after p b) (rest ++ more))
    ∙ ap (λ (q : Place). option_map (λ n. 1 + n) (end_behind q (rest ++ more))) (sym is)

-- ---- a part of a line

-- so many bytes have no line feed
abbrev pub HasNone : List ℕ → ℕ → Type 0
HasNone xs n = (k : ℕ) → 0 ≤ k → k < n → ¬ (eqb (get_or xs k 0) 10 ≡ true)

line_part : (xs more : List ℕ) (n : ℕ) → n ≤ length xs → HasNone xs n → length_to_end (xs ++ more) ≡ option_map (λ m. n + m) (length_to_end (drop n xs ++ more))
line_part xs more zero h none = none_added (length_to_end (xs ++ more))
line_part [] more (suc n) h none = absurd (omega arith)
line_part (x ∷ xs) more (suc n) h none =
    let other : x ≢ 10 = λ e. none 0 (omega arith) (omega arith) (eq-eqb x 10 e) in
    length_to_end_other x (xs ++ more) other
    ∙ ap (option_map suc) (line_part xs more n (omega arith) (λ k low high. none (suc k) (omega arith) (omega arith)))
    ∙ one_added (length_to_end (drop n xs ++ more)) n

-- up to the line feed
pub line_passed : (bytes : List ℕ) (n : ℕ) → n < length bytes → HasNone bytes n → eqb (get_or bytes n 0) 10 ≡ true
    → (more : List ℕ) → length_to_end (bytes ++ more) ≡ option_map (λ m. n + 1 + m) (behind_line (drop (n + 1) bytes ++ more))
line_passed bytes n high none is more =
    let rest : List ℕ = drop (n + 1) bytes ++ more in
    line_part bytes more n (omega (arith, high)) none
    ∙ ap (λ (l : List ℕ). option_map (λ m. n + m) (length_to_end (l ++ more))) (drop_more bytes n 0 high)
    ∙ ap (option_map (λ m. n + m)) (line_fed rest (get_or bytes n 0) is ∙ added_one (behind_line rest))
    ∙ both_added (behind_line rest) n 1

-- all of them
pub line_on : (bytes : List ℕ) → HasNone bytes (length bytes)
    → (more : List ℕ) → length_to_end (bytes ++ more) ≡ option_map (λ m. length bytes + m) (length_to_end (drop (length bytes) bytes ++ more))
line_on bytes none more = line_part bytes more (length bytes) (omega arith) none

-- ---- all bytes

-- as far as the place that was reached
pub behind_start : (p : Place) (bytes : List ℕ) (more : List ℕ) → end_behind p (bytes ++ more) ≡ option_map (λ n. 0 + n) (end_behind p (bytes ++ more))
behind_start p bytes more = none_added (end_behind p (bytes ++ more))

pub behind_next : (first place next : Place) (bytes rest : List ℕ) (at n : ℕ) → rest ≡ drop at bytes
    → ((more : List ℕ) → end_behind first (bytes ++ more) ≡ option_map (λ m. at + m) (end_behind place (drop at bytes ++ more)))
    → ((more : List ℕ) → end_behind place (rest ++ more) ≡ option_map (λ m. n + m) (end_behind next (drop n rest ++ more)))
    → (more : List ℕ) → end_behind first (bytes ++ more) ≡ option_map (λ m. at + n + m) (end_behind next (drop (at + n) bytes ++ more))
behind_next first place next bytes rest at n is so_far on more =
    let cut : drop n rest ≡ drop (at + n) bytes = ap (drop n) is ∙ drop-drop n at bytes ∙ ap (λ m. drop m bytes) (omega arith) in
    so_far more ∙ ap (λ (l : List ℕ). option_map (λ m. at + m) (end_behind place (l ++ more))) (sym is)
    ∙ ap (option_map (λ m. at + m)) (on more)
    ∙ both_added (end_behind next (drop n rest ++ more)) at n
    ∙ ap (λ (l : List ℕ). option_map (λ m. at + n + m) (end_behind next (l ++ more))) cut

-- behind the end nothing counts
ended_alike : (p : Place) (xs ys : List ℕ) → is_ended p ≡ true → end_behind p xs ≡ end_behind p ys
ended_alike Ended xs ys is = refl
ended_alike Start xs ys is = cc
ended_alike StartReturn xs ys is = cc
ended_alike Line xs ys is = cc
ended_alike LineEnd xs ys is = cc
ended_alike LineEndReturn xs ys is = cc

pub behind_all : (first place : Place) (bytes : List ℕ) (at : ℕ) → ((is_ended place ≡ true) ⊎ (at ≡ length bytes))
    → ((more : List ℕ) → end_behind first (bytes ++ more) ≡ option_map (λ m. at + m) (end_behind place (drop at bytes ++ more)))
    → (more : List ℕ) → end_behind first (bytes ++ more) ≡ option_map (λ m. at + m) (end_behind place more)
behind_all first place bytes at (inl ended) so_far more = so_far more ∙ ap (option_map (λ m. at + m)) (ended_alike place (drop at bytes ++ more) more ended)
behind_all first place bytes at (inr whole) so_far more =
    so_far more ∙ ap (λ (l : List ℕ). option_map (λ m. at + m) (end_behind place (l ++ more))) (drop_all at bytes (omega (arith, whole)))

-- ---- within the limit

take_both : (n : ℕ) (xs ys : List ℕ) → take n (xs ++ ys) ≡ take n xs ++ take (n - length xs) ys
take_both zero xs ys = ap (λ m. take m ys) (let e : 0 ≡ 0 - length xs = omega arith in e)
take_both (suc n) [] ys = ap (λ m. take m ys) (let e : suc n ≡ suc n - 0 = omega arith in e)
take_both (suc n) (x ∷ xs) ys = ap (λ (l : List ℕ). x ∷ l) (take_both n xs ys ∙ ap (λ m. take n xs ++ take m ys) (omega arith))

ended_there : (p : Place) (xs : List ℕ) → is_ended p ≡ true → end_behind p xs ≡ Some 0
ended_there Ended xs is = refl
ended_there Start xs is = cc
ended_there StartReturn xs is = cc
ended_there Line xs is = cc
ended_there LineEnd xs is = cc
ended_there LineEndReturn xs is = cc

nothing_there : (p : Place) → is_ended p ≡ false → end_behind p [] ≡ None
nothing_there Start going = refl
nothing_there StartReturn going = refl
nothing_there Line going = refl
nothing_there LineEnd going = refl
nothing_there LineEndReturn going = refl
nothing_there Ended going = cc

-- how many bytes there are counts only against the limit
same_test : (most a b : ℕ) → ((a ≡ b) ⊎ ((most ≤ a) × (most ≤ b))) → leb most a ≡ leb most b
same_test most a b (inl same) = ap (leb most) same
same_test most a b (inr long) = le-leb most a long.0 ∙ sym (le-leb most b long.1)

at_alike : (most a b : ℕ) (o : Option ℕ) → leb most a ≡ leb most b → head_end_at most a o ≡ head_end_at most b o
at_alike most a b (Some k) same = refl
at_alike most a b None same = ap (λ (t : Bool). cond t TooLarge NotYet) same

-- looking at more bytes changes no answer
pub seen_on : (most : ℕ) (p q : Place) (seen n : ℕ) (bytes part : List ℕ) → part ≡ take (most - seen) bytes → ((is_ended q ≡ true) ⊎ (n ≡ length part))
    → ((more : List ℕ) → end_behind p (part ++ more) ≡ option_map (λ m. n + m) (end_behind q more))
    → (more : List ℕ) → end_from_in most (record { seen = seen + n; place = q }) more ≡ end_from_in most (record { seen = seen; place = p }) (bytes ++ more)
seen_on most p q seen n bytes part is whole on more =
    let left : ℕ = most - seen - length bytes in
    let front : take (most - seen) (bytes ++ more) ≡ part ++ take left more = take_both (most - seen) bytes more ∙ ap (λ (l : List ℕ). l ++ take left more) (sym is) in
    let ends : option_map (λ m. seen + m) (end_behind p (take (most - seen) (bytes ++ more))) ≡ option_map (λ m. seen + n + m) (end_behind q (take left more)) =
    ap (λ (l : List ℕ). option_map (λ m. seen + m) (end_behind p l)) front ∙ ap (option_map (λ m. seen + m)) (on (take left more)) ∙ both_added (end_behind q (take left more)) seen n in
    by left whole ∙ ap (head_end_at most (seen + length (bytes ++ more))) (sym ends)
  where
    by : (left : ℕ) → ((is_ended q ≡ true) ⊎ (n ≡ length part))
        → head_end_at most (seen + n + length more) (option_map (λ m. seen + n + m) (end_behind q (take (most - (seen + n)) more)))
        ≡ head_end_at most (seen + length (bytes ++ more)) (option_map (λ m. seen + n + m) (end_behind q (take (most - seen - length bytes) more)))
    by left (inl ended) =
        ap (λ o. head_end_at most (seen + n + length more) (option_map (λ m. seen + n + m) o)) (ended_there q (take (most - (seen + n)) more) ended)
        ∙ sym (ap (λ o. head_end_at most (seen + length (bytes ++ more)) (option_map (λ m. seen + n + m) o)) (ended_there q (take (most - seen - length bytes) more) ended))
    by left (inr all) =
        let size : n ≡ min (most - seen) (length bytes) = all ∙ ap (λ (l : List ℕ). length l) is ∙ length-take (most - seen) bytes in
        let rest : most - (seen + n) ≡ most - seen - length bytes = omega (arith, size) in
        let grown : length (bytes ++ more) ≡ length bytes + length more = length-append bytes more in
        let test : leb most (seen + n + length more) ≡ leb most (seen + length (bytes ++ more)) =
        same_test most (seen + n + length more) (seen + length (bytes ++ more)) (long (leb (length bytes) (most - seen)) refl size grown) in
        ap (λ m. head_end_at most (seen + n + length more) (option_map (λ k. seen + n + k) (end_behind q (take m more)))) rest
        ∙ at_alike most (seen + n + length more) (seen + length (bytes ++ more)) (option_map (λ m. seen + n + m) (end_behind q (take (most - seen - length bytes) more))) test
      where
        long : (t : Bool) → leb (length bytes) (most - seen) ≡ t → n ≡ min (most - seen) (length bytes) → length (bytes ++ more) ≡ length bytes + length more
            → (seen + n + length more ≡ seen + length (bytes ++ more)) ⊎ ((most ≤ seen + n + length more) × (most ≤ seen + length (bytes ++ more)))
        long true few size grown = inl (omega (arith, leb-true (length bytes) (most - seen) few, size, grown))
        long false many size grown = inr (omega (arith, leb-false (length bytes) (most - seen) many, size), omega (arith, leb-false (length bytes) (most - seen) many, grown))

pub nothing_seen : (most : ℕ) (more : List ℕ) → end_from_in most (record { seen = 0; place = Start }) more ≡ head_end_in most more
nothing_seen most more =
    ap (λ m. head_end_at most (0 + length more) (option_map (λ n. 0 + n) (end_of (take m more)))) (let e : most - 0 ≡ most = omega arith in e)
    ∙ ap (head_end_at most (0 + length more)) (sym (none_added (end_of (take most more))))
    ∙ ap (λ m. head_end_at most m (end_of (take most more))) (let e : 0 + length more ≡ length more = omega arith in e)

-- what follows is no byte
pub end_there : (most : ℕ) (scan : HeadScan) → is_ended scan.place ≡ true → At scan.seen ≡ end_from_in most scan []
end_there most scan is =
    ap At (let e : scan.seen ≡ scan.seen + 0 = omega arith in e)
    ∙ sym (ap (λ o. head_end_at most (scan.seen + 0) (option_map (λ n. scan.seen + n) o)) (ended_there scan.place (take (most - scan.seen) []) is))

none_there : (most : ℕ) (scan : HeadScan) → is_ended scan.place ≡ false → end_behind scan.place (take (most - scan.seen) []) ≡ None
none_there most scan going = ap (end_behind scan.place) (take-nil (most - scan.seen)) ∙ nothing_there scan.place going

pub end_large : (most : ℕ) (scan : HeadScan) → is_ended scan.place ≡ false → most ≤ scan.seen → TooLarge ≡ end_from_in most scan []
end_large most scan going full =
    ap (λ (t : Bool). cond t TooLarge NotYet) (sym (le-leb most (scan.seen + 0) (omega (arith, full))))
    ∙ sym (ap (λ o. head_end_at most (scan.seen + 0) (option_map (λ n. scan.seen + n) o)) (none_there most scan going))

pub end_open : (most : ℕ) (scan : HeadScan) → is_ended scan.place ≡ false → scan.seen < most → NotYet ≡ end_from_in most scan []
end_open most scan going short =
    ap (λ (t : Bool). cond t TooLarge NotYet) (sym (lt-leb most (scan.seen + 0) (omega (arith, short))))
    ∙ sym (ap (λ o. head_end_at most (scan.seen + 0) (option_map (λ n. scan.seen + n) o)) (none_there most scan going))

pub end_is : (bytes : List ℕ) (scan : HeadScan) → IsScan bytes scan → end_from_in HEAD_LIMIT scan [] ≡ head_end bytes
end_is bytes scan s = s.ends [] ∙ ap (λ (l : List ℕ). head_end l) (append-nil bytes)

-- a scan goes on
pub scan_on : (p q : Place) (seen n : ℕ) (before bytes part : List ℕ) → IsScan before (record { seen = seen; place = p }) → part ≡ take (HEAD_LIMIT - seen) bytes → n ≤ length part
    → ((is_ended q ≡ true) ⊎ (n ≡ length part)) → (is_ended p ≡ false → is_ended q ≡ true → 0 < n)
    → ((more : List ℕ) → end_behind p (part ++ more) ≡ option_map (λ m. n + m) (end_behind q more))
    → IsScan (before ++ bytes) (record { seen = seen + n; place = q })
scan_on p q seen n before bytes part s is within whole some on = record {
  ends = λ more. seen_on HEAD_LIMIT p q seen n bytes part is whole on more ∙ s.ends (bytes ++ more) ∙ ap (λ (l : List ℕ). head_end l) (sym (append_assoc before bytes more));
  within = omega (arith, within, s.within, ap (λ (l : List ℕ). length l) is, length-take (HEAD_LIMIT - seen) bytes, length-append before bytes);
  some = λ ended. by (is_ended p) refl ended;
}
  where
    by : (t : Bool) → is_ended p ≡ t → is_ended q ≡ true → 0 < seen + n
    by true is ended = omega (arith, s.some is)
    by false going ended = omega (arith, some going ended)

-- ---- once the end is known

over_alike : (most : ℕ) (scan : HeadScan) (xs ys : List ℕ) → ((is_ended scan.place ≡ true) ⊎ (most ≤ scan.seen)) → end_from_in most scan xs ≡ end_from_in most scan ys
over_alike most scan xs ys (inl ended) =
    ap (λ o. head_end_at most (scan.seen + length xs) (option_map (λ n. scan.seen + n) o)) (ended_there scan.place (take (most - scan.seen) xs) ended)
    ∙ sym (ap (λ o. head_end_at most (scan.seen + length ys) (option_map (λ n. scan.seen + n) o)) (ended_there scan.place (take (most - scan.seen) ys) ended))
over_alike most scan xs ys (inr full) =
    let none : most - scan.seen ≡ 0 = omega (arith, full) in
    let left : (zs : List ℕ) → option_map (λ n. scan.seen + n) (end_behind scan.place (take (most - scan.seen) zs)) ≡ option_map (λ n. scan.seen + n) (end_behind scan.place []) =
    λ zs. ap (λ m. option_map (λ n. scan.seen + n) (end_behind scan.place (take m zs))) none in
    ap (head_end_at most (scan.seen + length xs)) (left xs)
    ∙ at_alike most (scan.seen + length xs) (scan.seen + length ys) (option_map (λ n. scan.seen + n) (end_behind scan.place []))
    (same_test most (scan.seen + length xs) (scan.seen + length ys) (inr (omega (arith, full), omega (arith, full))))
    ∙ sym (ap (head_end_at most (scan.seen + length ys)) (left ys))

is_over : (bytes : List ℕ) (scan : HeadScan) → IsScan bytes scan → (head_end bytes ≡ NotYet → ⊥) → (is_ended scan.place ≡ true) ⊎ (HEAD_LIMIT ≤ scan.seen)
is_over bytes scan s over = by (is_ended scan.place) (leb HEAD_LIMIT scan.seen) refl refl
  where
    by : (t u : Bool) → is_ended scan.place ≡ t → leb HEAD_LIMIT scan.seen ≡ u → (is_ended scan.place ≡ true) ⊎ (HEAD_LIMIT ≤ scan.seen)
    by true u ended full = inl ended
    by false true going full = inr (leb-true HEAD_LIMIT scan.seen full)
    by false false going short = absurd (over (sym (end_open HEAD_LIMIT scan going (leb-false HEAD_LIMIT scan.seen short) ∙ end_is bytes scan s)))

-- more bytes change nothing
pub over_stays : (bytes more : List ℕ) (scan : HeadScan) → IsScan bytes scan → (head_end bytes ≡ NotYet → ⊥) → IsScan (bytes ++ more) scan
over_stays bytes more scan s over = record {
  ends = λ later. over_alike HEAD_LIMIT scan later (more ++ later) (is_over bytes scan s over) ∙ s.ends (more ++ later) ∙ ap (λ (l : List ℕ). head_end l) (sym (append_assoc bytes more later));
  within = omega (arith, s.within, length-append bytes more);
  some = s.some;
}
