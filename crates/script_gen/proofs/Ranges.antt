-- Numbers in a row, with one more at their end.
use Rattle.std.proofs.Common.{◌≡◌, ℕ, zero, suc, ◌+◌, ◌-◌, ◌^◌, ◌≤◌, min, Bool, true, false, cond, List, [], ◌∷◌, ◌++◌, flat_map, refl, ap, ◌∙◌, arith, append-nil}
use Rattle.std.specs.List.{range_with_len, sum_by, count_by}
use Rattle.std.specs.Int.{from_bool}
use Rattle.std.proofs.lemmas.Grind.{flat_map-append}
use Rattle.std.proofs.lemmas.List.Sums.{sum_by_push}
use Rattle.lt_script.specs.declared.script.Step.{Step}
use Rattle.lt_world.specs.Trace.{Act, Entry, own}
use Rattle.script_gen.specs.Draws.{after, drawn}
use Rattle.script_gen.specs.Generated.{client, clients_below}
use Rattle.script_gen.specs.Totals.{bytes_below, client_bytes, counted}

range_push : (a n last : ℕ) → a + n ≡ last → range_with_len a (suc n) ≡ range_with_len a n ++ last ∷ []
range_push a zero last is = let e : a ≡ last = omega (arith, is) in ap (λ (k : ℕ). k ∷ []) e
range_push a (suc n) last is = ap (λ ks. a ∷ ks) (range_push (a + 1) n last (omega (arith, is)))

one_more : (n : ℕ) → n + 1 ≡ suc n
one_more n = omega arith

range_more : (n : ℕ) → range_with_len 0 (n + 1) ≡ range_with_len 0 n ++ n ∷ []
range_more n = ap (range_with_len 0) (one_more n) ∙ range_push 0 n n (omega arith)

-- one draw more
pub drawn_more : (clients k : ℕ) → drawn clients (k + 1) ≡ after (drawn clients k)
drawn_more clients k = ap (drawn clients) (one_more k)

-- one client more
pub clients_more : (clients k : ℕ) → clients_below clients (k + 1) ≡ clients_below clients k ++ client k (drawn clients (k + 1))
clients_more clients k =
    let one : ℕ → List Step = λ number. client number (drawn clients (number + 1)) in
    ap (flat_map one) (range_more k) ∙ flat_map-append one (range_with_len 0 k) (k ∷ [])
    ∙ ap (λ steps. flat_map one (range_with_len 0 k) ++ steps) (append-nil (one k))

-- one link more
pub count_more : (test : List Act → Bool) (trace : List Entry) (link : ℕ) → count_by (λ at. test (own at trace)) (range_with_len 0 (link + 1)) ≡ count_by (λ at. test (own at trace)) (range_with_len 0 link) + cond (test (own link trace)) 1 0
count_more test trace link =
    let one : ℕ → ℕ = λ at. cond (test (own at trace)) 1 0 in
    ap (sum_by one) (range_more link) ∙ sum_by_push one (range_with_len 0 link) link

bytes_more : (trace : List Entry) (link : ℕ) → bytes_below (link + 1) trace ≡ bytes_below link trace + client_bytes (own link trace)
bytes_more trace link =
    let one : ℕ → ℕ = λ at. client_bytes (own at trace) in
    ap (sum_by one) (range_more link) ∙ sum_by_push one (range_with_len 0 link) link

-- a count that stood still stands still
pub counted_more : (trace : List Entry) (link : ℕ) → counted (bytes_below (link + 1) trace) ≡ min (counted (bytes_below link trace) + client_bytes (own link trace)) (2 ^ 64 - 1)
counted_more trace link = ap counted (bytes_more trace link) ∙ omega arith

-- a truth as a number

pub as_counted : (b : Bool) → from_bool b ≡ cond b 1 0
as_counted true = refl
as_counted false = refl

pub at_most_one : (b : Bool) → from_bool b ≤ 1
at_most_one true = omega arith
at_most_one false = omega arith
