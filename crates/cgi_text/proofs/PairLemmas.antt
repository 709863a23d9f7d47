-- Pairs are read back from what is written.
use Rattle.std.proofs.Common.{◌≡◌, ℕ, zero, suc, ◌+◌, ◌-◌, ◌*◌, ◌/◌, ◌%◌, ◌^◌, ◌<◌, ◌≤◌, Bool, true, false, cond, leb, List, [], ◌∷◌, ◌++◌, length, All, Some, refl, ap, ◌∙◌, arith, append_assoc, length-append}
use Rattle.std.specs.Prelude.{option_map}
use Rattle.std.proofs.lemmas.Bool.{lt-ltb, le-ltb, le-leb, leb-true}
use Rattle.std.proofs.lemmas.List.Elements.{All-head, All-tail, All-nil, All-cons}
use Rattle.std.proofs.Math.Seq.{take-append_seam, drop-append_seam}
use Rattle.cgi_text.specs.Pairs.{PairList, IsShort, length_bytes, pair_bytes, pairs_bytes, read_length, cut_pair, read_value, read_name, read_pair, with_more, read_at_most, read_pairs}

-- four bytes give the number again
hundreds : (n : ℕ) → n / 256 / 256 ≡ n / 65536
hundreds n = omega arith

thousands : (n : ℕ) → n / 65536 / 256 ≡ n / 16777216
thousands n = omega arith

four : (n : ℕ) → n < 2 ^ 31 → (128 + n / 16777216 % 128 - 128) * 16777216 + (n / 65536 % 256 * 65536 + (n / 256 % 256 * 256 + n % 256)) ≡ n
four n small =
    let q : n / 16777216 % 128 ≡ n / 16777216 = omega arith in
    omega (arith, q, hundreds n, thousands n)

length_read : (n : ℕ) (rest : List ℕ) → n < 2 ^ 31 → read_length (length_bytes n ++ rest) ≡ Some (n, rest)
unfolding length_bytes
length_read n rest small = by (leb n 127) refl
  where
    by : (t : Bool) → leb n 127 ≡ t
        → read_length (cond t (n ∷ []) ((128 + n / 16777216 % 128) ∷ (n / 65536 % 256) ∷ (n / 256 % 256) ∷ (n % 256) ∷ []) ++ rest) ≡ Some (n, rest)
    by true e = rw (lt-ltb n 128 (omega (arith, leb-true n 127 e))) refl
    by false e = rw (le-ltb (128 + n / 16777216 % 128) 128 (omega arith)) (ap (λ k. Some (k, rest)) (four n small))

cut : (name value rest : List ℕ) → cut_pair (length name) (length value) (name ++ (value ++ rest)) ≡ Some ((name, value), rest)
cut name value rest =
    rw (le-leb (length name + length value) (length (name ++ (value ++ rest))) (omega (arith, length-append name (value ++ rest), length-append value rest)))
    (rw (take-append_seam name (value ++ rest), drop-append_seam name (value ++ rest)) (rw (take-append_seam value rest, drop-append_seam value rest) refl))

regroup : (a b c d e : List ℕ) → (a ++ (b ++ (c ++ d))) ++ e ≡ a ++ (b ++ (c ++ (d ++ e)))
regroup a b c d e = simp append_assoc

pair_read : (p : List ℕ × List ℕ) (rest : List ℕ) → IsShort p → read_pair (pair_bytes p ++ rest) ≡ Some (p, rest)
unfolding read_pair pair_bytes
pair_read p rest short =
    let tail : List ℕ = p.0 ++ (p.1 ++ rest) in
    ap (λ b. read_name (read_length b)) (regroup (length_bytes (length p.0)) (length_bytes (length p.1)) p.0 p.1 rest)
    ∙ ap read_name (length_read (length p.0) (length_bytes (length p.1) ++ tail) short.name)
    ∙ ap (read_value (length p.0)) (length_read (length p.1) tail short.value)
    ∙ cut p.0 p.1 rest

one_more : (n : ℕ) (bytes rest : List ℕ) (p : List ℕ × List ℕ) → read_pair bytes ≡ Some (p, rest)
    → read_at_most (suc n) bytes ≡ option_map (λ pairs. p ∷ pairs) (read_at_most n rest)
unfolding read_pair read_at_most
one_more n [] rest p e = cc
one_more n (b ∷ bytes) rest p e = ap (λ r. with_more r (read_at_most n)) e

none_more : (n : ℕ) → read_at_most n [] ≡ Some []
unfolding read_at_most
none_more zero = refl
none_more (suc n) = refl

many_read : (n : ℕ) (pairs : PairList) → length pairs ≤ n → All IsShort pairs → read_at_most n (pairs_bytes pairs) ≡ Some pairs
many_read n [] room short = none_more n
many_read zero (p ∷ pairs) room short = absurd (omega arith)
many_read (suc n) (p ∷ pairs) room short =
    one_more n (pairs_bytes (p ∷ pairs)) (pairs_bytes pairs) p (pair_read p (pairs_bytes pairs) (All-head IsShort p pairs short))
    ∙ ap (option_map (λ (ps : PairList). p ∷ ps)) (many_read n pairs (omega arith) (All-tail IsShort p pairs short))

length_there : (n : ℕ) → 0 < length (length_bytes n)
unfolding length_bytes
length_there n = by (leb n 127)
  where
    by : (t : Bool) → 0 < length (cond t (n ∷ []) ((128 + n / 16777216 % 128) ∷ (n / 65536 % 256) ∷ (n / 256 % 256) ∷ (n % 256) ∷ []))
    by true = omega arith
    by false = omega arith

pair_there : (p : List ℕ × List ℕ) → 0 < length (pair_bytes p)
unfolding pair_bytes
pair_there p =
    omega (arith, length_there (length p.0), length-append (length_bytes (length p.0)) (length_bytes (length p.1) ++ (p.0 ++ p.1)))

pairs_fit : (pairs : PairList) → length pairs ≤ length (pairs_bytes pairs)
pairs_fit [] = omega arith
pairs_fit (p ∷ pairs) = omega (arith, pair_there p, pairs_fit pairs, length-append (pair_bytes p) (pairs_bytes pairs))

-- what is written is read back
pub pairs_read : (pairs : PairList) → All IsShort pairs → read_pairs (pairs_bytes pairs) ≡ Some pairs
unfolding read_pairs
pairs_read pairs short = many_read (length (pairs_bytes pairs)) pairs (pairs_fit pairs) short

-- what is written has the bytes of the name and of the value
pair_holds : (p : List ℕ × List ℕ) → length p.0 + length p.1 ≤ length (pair_bytes p)
unfolding pair_bytes
pair_holds p =
    omega (
      arith,
      length-append (length_bytes (length p.0)) (length_bytes (length p.1) ++ (p.0 ++ p.1)),
      length-append (length_bytes (length p.1)) (p.0 ++ p.1),
      length-append p.0 p.1,
    )

-- pairs that are written in so few bytes are short
all_short : (pairs : PairList) → length (pairs_bytes pairs) < 2 ^ 31 → All IsShort pairs
all_short [] few = All-nil IsShort
all_short (p ∷ pairs) few =
    let size = length-append (pair_bytes p) (pairs_bytes pairs) in
    All-cons IsShort p pairs (record { name = omega (arith, few, size, pair_holds p); value = omega (arith, few, size, pair_holds p) })
    (all_short pairs (omega (arith, few, size)))

pub few_bytes_read : (pairs : PairList) → length (pairs_bytes pairs) < 2 ^ 31 → read_pairs (pairs_bytes pairs) ≡ Some pairs
few_bytes_read pairs few = pairs_read pairs (all_short pairs few)
