-- Records of a stream, one after another.
use Rattle.std.proofs.Common.{◌≡◌, zero, suc, ℕ, ◌+◌, ◌-◌, ◌<◌, ◌≤◌, List, [], ◌∷◌, ◌++◌, length, take, drop, min, refl, ap, sym, ◌∙◌, ◌⊎◌, inl, inr, append_assoc, append-nil, length-drop, length-take, arith}
use Rattle.std.proofs.lemmas.List.{take_all, drop_all}
use Rattle.std.specs.Prelude.{Result, Ok, Err, OnOk}
use Rattle.lt_bytes.specs.declared.memory.NoMemory.{NoMemory}
use Rattle.std.proofs.lemmas.Bool.{cases_lt}
use Rattle.fcgi_records.specs.Encoded.{header_of, begin_request}
use Rattle.fcgi_records.specs.declared.kinds.TheConstants.{PARAMS, STDIN}
use Rattle.cgi_text.specs.Request.{RequestParts}
use Rattle.cgi_text.specs.Params.{params}
use Rattle.fcgi_gateway.specs.Asked.{record_of, records_in, stream, asked, lead_of}
use Rattle.fcgi_gateway.specs.Sending.{content_and_more, behind_header}
use Rattle.fcgi_gateway.specs.declared.sending.TheConstants.{RECORD_SIZE}

-- how many records there may be doesn't matter where they are enough
enough : (n m kind : ℕ) (bytes : List ℕ) → length bytes ≤ n → length bytes ≤ m → records_in n kind bytes ≡ records_in m kind bytes
unfolding records_in
enough zero zero kind bytes a b = refl
enough zero (suc m) kind [] a b = refl
enough zero (suc m) kind (x ∷ bytes) a b = absurd (omega arith)
enough (suc n) zero kind [] a b = refl
enough (suc n) zero kind (x ∷ bytes) a b = absurd (omega arith)
enough (suc n) (suc m) kind [] a b = refl
enough (suc n) (suc m) kind (x ∷ bytes) a b =
    let less : length (drop RECORD_SIZE (x ∷ bytes)) ≡ suc (length bytes) - RECORD_SIZE = length-drop RECORD_SIZE (x ∷ bytes) in
    ap (λ (l : List ℕ). record_of kind (take RECORD_SIZE (x ∷ bytes)) ++ l)
    (enough n m kind (drop RECORD_SIZE (x ∷ bytes)) (omega (arith, a, less)) (omega (arith, b, less)))

pub stream_none : (kind : ℕ) → stream kind [] ≡ header_of kind 0
unfolding records_in
stream_none kind = refl

stream_cons : (kind x : ℕ) (bytes : List ℕ) → stream kind (x ∷ bytes) ≡ record_of kind (take RECORD_SIZE (x ∷ bytes)) ++ stream kind (drop RECORD_SIZE (x ∷ bytes))
unfolding records_in
stream_cons kind x bytes =
    let less : length (drop RECORD_SIZE (x ∷ bytes)) ≡ suc (length bytes) - RECORD_SIZE = length-drop RECORD_SIZE (x ∷ bytes) in
    ap (λ (l : List ℕ). record_of kind (take RECORD_SIZE (x ∷ bytes)) ++ l)
    (enough (length bytes) (length (drop RECORD_SIZE (x ∷ bytes))) kind (drop RECORD_SIZE (x ∷ bytes)) (omega (arith, less)) (omega arith))

pub stream_more : (kind : ℕ) (bytes : List ℕ) → 0 < length bytes → stream kind bytes ≡ record_of kind (take RECORD_SIZE bytes) ++ stream kind (drop RECORD_SIZE bytes)
stream_more kind [] some = absurd (omega arith)
stream_more kind (x ∷ bytes) some = stream_cons kind x bytes

length_within : (n : ℕ) (xs : List ℕ) → length (take n xs) ≡ min (length xs) n
length_within n xs = omega (arith, length-take n xs)

pub take_within : (n : ℕ) (xs : List ℕ) → take (min (length xs) n) xs ≡ take n xs
take_within n xs = by (cases_lt n (length xs))
  where
    by : (n < length xs) ⊎ (length xs ≤ n) → take (min (length xs) n) xs ≡ take n xs
    by (inl less) = let e : min (length xs) n ≡ n = omega (arith, less) in ap (λ (m : ℕ). take m xs) e
    by (inr most) =
        let e : min (length xs) n ≡ length xs = omega (arith, most) in
        ap (λ (m : ℕ). take m xs) e ∙ take_all (length xs) xs (omega arith) ∙ sym (take_all n xs most)

pub drop_within : (n : ℕ) (xs : List ℕ) → drop (min (length xs) n) xs ≡ drop n xs
drop_within n xs = by (cases_lt n (length xs))
  where
    by : (n < length xs) ⊎ (length xs ≤ n) → drop (min (length xs) n) xs ≡ drop n xs
    by (inl less) = let e : min (length xs) n ≡ n = omega (arith, less) in ap (λ (m : ℕ). drop m xs) e
    by (inr most) =
        let e : min (length xs) n ≡ length xs = omega (arith, most) in
        ap (λ (m : ℕ). drop m xs) e ∙ drop_all (length xs) xs (omega arith) ∙ sym (drop_all n xs most)

-- a body's stream begins with the header of its first record
pub stream_splits : (body : List ℕ) → stream STDIN body ≡ header_of STDIN (min (length body) RECORD_SIZE) ++ behind_header body
stream_splits [] = stream_none STDIN
stream_splits (b ∷ body) =
    let xs : List ℕ = b ∷ body in
    let long : length (take RECORD_SIZE xs) ≡ min (length xs) RECORD_SIZE = length_within RECORD_SIZE xs in
    stream_cons STDIN b body
    ∙ ap (λ (m : ℕ). (header_of STDIN m ++ take RECORD_SIZE xs) ++ stream STDIN (drop RECORD_SIZE xs)) long
    ∙ append_assoc (header_of STDIN (min (length xs) RECORD_SIZE)) (take RECORD_SIZE xs) (stream STDIN (drop RECORD_SIZE xs))
    ∙ ap (λ (l : List ℕ). header_of STDIN (min (length xs) RECORD_SIZE) ++ (l ++ stream STDIN (drop RECORD_SIZE xs))) (sym (take_within RECORD_SIZE xs))
    ∙ ap (λ (l : List ℕ). header_of STDIN (min (length xs) RECORD_SIZE) ++ (take (min (length xs) RECORD_SIZE) xs ++ stream STDIN l)) (sym (drop_within RECORD_SIZE xs))

-- all that is asked is what comes before the content of the body, and the rest
pub asked_splits : (r : RequestParts) (body : List ℕ) → asked r body ≡ lead_of (params r) (length body) ++ behind_header body
unfolding asked lead_of
asked_splits r body =
    ap (λ (l : List ℕ). begin_request ++ (stream PARAMS (params r) ++ l)) (stream_splits body)
    ∙ ap (λ (l : List ℕ). begin_request ++ l) (sym (append_assoc (stream PARAMS (params r)) (header_of STDIN (min (length body) RECORD_SIZE)) (behind_header body)))
    ∙ sym (append_assoc begin_request (stream PARAMS (params r) ++ header_of STDIN (min (length body) RECORD_SIZE)) (behind_header body))

-- a record more
pub stream_step : (kind : ℕ) (rest piece more text text' : List ℕ) (n : ℕ) → n ≡ min (length rest) RECORD_SIZE → 0 < length rest → piece ≡ take n rest → more ≡ drop n rest
    → text' ≡ text ++ (header_of kind (length piece) ++ piece) → text' ++ stream kind more ≡ text ++ stream kind rest
stream_step kind rest piece more text text' n size some front back is =
    let piece_is : piece ≡ take RECORD_SIZE rest = front ∙ ap (λ (m : ℕ). take m rest) size ∙ take_within RECORD_SIZE rest in
    let more_is : more ≡ drop RECORD_SIZE rest = back ∙ ap (λ (m : ℕ). drop m rest) size ∙ drop_within RECORD_SIZE rest in
    ap (λ (l : List ℕ). l ++ stream kind more) is
    ∙ append_assoc text (header_of kind (length piece) ++ piece) (stream kind more)
    ∙ ap (λ (l : List ℕ). text ++ (record_of kind l ++ stream kind more)) piece_is
    ∙ ap (λ (l : List ℕ). text ++ (record_of kind (take RECORD_SIZE rest) ++ stream kind l)) more_is
    ∙ ap (λ (l : List ℕ). text ++ l) (sym (stream_more kind rest some))

none_left : (xs : List ℕ) → length xs ≡ 0 → xs ≡ []
none_left [] e = refl
none_left (x ∷ xs) e = absurd (omega (arith, e))

-- the record that ends a stream
pub stream_ends : (kind : ℕ) (rest text text' whole : List ℕ) → length rest ≡ 0 → text' ≡ text ++ header_of kind 0 → text ++ stream kind rest ≡ whole → text' ≡ whole
stream_ends kind rest text text' whole none is sum =
    is ∙ ap (λ (l : List ℕ). text ++ l) (sym (ap (stream kind) (none_left rest none) ∙ stream_none kind)) ∙ sum

pub on_ok : (r : Result (Unit {0}) NoMemory) (P Q : Type 0) → OnOk r P → (P → Q) → OnOk r Q
on_ok (Ok v) P Q p f = f p
on_ok (Err e) P Q p f = tt

-- what comes before the content of the body, part by part
pub lead_is : (params : List ℕ) (size k : ℕ) (one two three : List ℕ) → one ≡ begin_request → two ≡ one ++ stream PARAMS params → three ≡ two ++ header_of STDIN k → k ≡ min size RECORD_SIZE → three ≡ lead_of params size
unfolding lead_of
lead_is params size k one two three first second third count =
    third ∙ ap (λ (m : ℕ). two ++ header_of STDIN m) count
    ∙ ap (λ (l : List ℕ). l ++ header_of STDIN (min size RECORD_SIZE)) (second ∙ ap (λ (l : List ℕ). l ++ stream PARAMS params) first)
    ∙ append_assoc begin_request (stream PARAMS params) (header_of STDIN (min size RECORD_SIZE))
