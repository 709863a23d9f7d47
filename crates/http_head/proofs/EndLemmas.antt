-- Where a head ends within the limit.
use Rattle.std.proofs.Common.{◌≡◌, ℕ, zero, suc, ◌+◌, ◌-◌, ◌≤◌, Bool, true, false, cond, leb, List, [], ◌∷◌, ◌++◌, length, take, Option, Some, None, refl, ap, ◌∙◌, arith}
use Rattle.std.proofs.lemmas.Bool.{leb-true, le-leb}
use Rattle.std.proofs.lemmas.List.{take-append-le, length-append}
use Rattle.std.proofs.Math.Seq.{take-append-add}
use Rattle.httparse.specs.Grammar.{RequestHead, ReadsRequest, print_request}
use Rattle.http_head.specs.Lines.{end_of}
use Rattle.http_head.specs.Ends.{head_end_at, head_end_in}
use Rattle.http_head.specs.declared.ends.HeadEnd.TheVariants.{At, NotYet, TooLarge}
use Rattle.http_head.proofs.GrammarLemmas.{end_of_head}
use Rattle.http_head.proofs.StableLemmas.{end_of-more}

take_grows : (n : ℕ) (xs more : List ℕ) → (rest : List ℕ) × (take n (xs ++ more) ≡ take n xs ++ rest)
take_grows zero xs more = ([], refl)
take_grows (suc n) [] more = (take (suc n) more, refl)
take_grows (suc n) (x ∷ xs) more = let r = take_grows n xs more in (r.0, ap (λ t. x ∷ t) r.1)

ends_at : (most len n : ℕ) (o : Option ℕ) → head_end_at most len o ≡ At n → o ≡ Some n
ends_at most len n None e = by (leb most len) e
  where
    by : (t : Bool) → cond t TooLarge NotYet ≡ At n → None ≡ Some n
    by true e = cc
    by false e = cc
ends_at most len n (Some k) e = cc

pub at_stays : (most : ℕ) (bytes more : List ℕ) (n : ℕ) → head_end_in most bytes ≡ At n → head_end_in most (bytes ++ more) ≡ At n
at_stays most bytes more n e =
    let grown = take_grows most bytes more in
    let end : end_of (take most bytes) ≡ Some n = ends_at most (length bytes) n (end_of (take most bytes)) e in
    ap (head_end_at most (length (bytes ++ more))) (ap end_of grown.1 ∙ end_of-more (take most bytes) grown.0 n end)

abbrev no_end : Option ℕ
no_end = None

is_too_large : (most len : ℕ) (o : Option ℕ) → head_end_at most len o ≡ TooLarge → (o ≡ no_end) × (most ≤ len)
is_too_large most len (Some n) e = cc
is_too_large most len None e = (refl, by (leb most len) refl e)
  where
    by : (t : Bool) → leb most len ≡ t → cond t TooLarge NotYet ≡ TooLarge → most ≤ len
    by true h e = leb-true most len h
    by false h e = cc

pub too_large_stays : (most : ℕ) (bytes more : List ℕ) → head_end_in most bytes ≡ TooLarge → head_end_in most (bytes ++ more) ≡ TooLarge
too_large_stays most bytes more e =
    let p = is_too_large most (length bytes) (end_of (take most bytes)) e in
    let long : most ≤ length (bytes ++ more) = omega (arith, p.1, length-append bytes more) in
    ap (λ t. head_end_at most (length (bytes ++ more)) (end_of t)) (take-append-le most bytes more p.1)
    ∙ ap (head_end_at most (length (bytes ++ more))) p.0
    ∙ ap (λ t. cond t TooLarge NotYet) (le-leb most (length (bytes ++ more)) long)

-- a head of the grammar that the limit holds
pub read_ends_at : (most : ℕ) (bytes : List ℕ) (h : RequestHead) (rest : List ℕ) → ReadsRequest bytes h rest → length (print_request h) ≤ most
    → head_end_in most bytes ≡ At (length (print_request h))
read_ends_at most bytes h rest r within =
    let text : List ℕ = print_request h in
    let room : ℕ = most - length text in
    let size : most ≡ length text + room = omega (arith, within) in
    let front : take most bytes ≡ text ++ take room rest =
    ap (take most) r.1 ∙ ap (λ n. take n (text ++ rest)) size ∙ take-append-add text rest room in
    ap (head_end_at most (length bytes)) (ap end_of front ∙ end_of_head (text ++ take room rest) h (take room rest) (r.0, refl))
