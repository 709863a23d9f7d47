-- The first 8,192 bytes tell where a head ends and what it says.
use Rattle.std.proofs.Common.{◌≡◌, zero, suc, ℕ, ◌+◌, ◌-◌, ◌<◌, ◌≤◌, Bool, true, false, cond, ◌&&◌, eqb, ltb, leb, List, [], ◌∷◌, ◌++◌, length, take, drop, replicate, min, Option, Some, None, refl, ap, sym, ◌∙◌, ◌⊎◌, inl, inr, subst, Result, Err, length-take, length-drop, arith}
use Rattle.std.specs.Prelude.{option_map}
use Rattle.std.proofs.lemmas.List.{take_all, take-take, length-replicate}
use Rattle.std.proofs.lemmas.Bool.{cases_lt, le-leb, le-ltb}
use Rattle.http_head.specs.Lines.{empty_line, after_blank, length_to_end, end_of}
use Rattle.http_head.specs.Ends.{head_end_at, head_end_in, head_end}
use Rattle.http_head.specs.declared.limits.TheConstants.{HEAD_LIMIT, FIELD_LINE_LIMIT}
use Rattle.http_head.specs.Read.{read_section}
use Rattle.http_head.specs.declared.ends.HeadEnd.{HeadEnd}
use Rattle.http_head.specs.declared.ends.HeadEnd.TheVariants.{At, NotYet, TooLarge}
use Rattle.cgi_text.specs.Head.{section_end, cgi_head, head_at, head_read}
use Rattle.cgi_text.specs.declared.head.CgiHead.{CgiHead}
use Rattle.cgi_text.specs.declared.head.CgiRefusal.{CgiRefusal}
use Rattle.cgi_text.specs.declared.head.CgiRefusal.TheVariants.{NoMemory}
use Rattle.cgi_text.specs.Attempts.{Breaks}
use Rattle.fcgi_gateway.specs.Heard.{start_at, body_of, is_too_long, judged}
use Rattle.fcgi_gateway.specs.declared.hearing.TheConstants.{ANSWER_LIMIT}

empty_front : (m : ℕ) (xs : List ℕ) → empty_line (take (suc (suc m)) xs) ≡ empty_line xs
empty_front m [] = refl
empty_front m (a ∷ []) = refl
empty_front m (a ∷ b ∷ xs) = refl

-- both counts reach the limit
both_large : (most a b : ℕ) (o : Option ℕ) → most ≤ a → most ≤ b → head_end_at most a o ≡ head_end_at most b o
both_large most a b (Some n) x y = refl
both_large most a b None x y = ap (λ (t : Bool). cond t TooLarge NotYet) (le-leb most a x ∙ sym (le-leb most b y))

end_front : (most : ℕ) (xs : List ℕ) → most ≤ length xs → head_end_in most (take most xs) ≡ head_end_in most xs
end_front most xs long =
    ap (λ (l : List ℕ). head_end_at most (length (take most xs)) (end_of l)) (take_all most (take most xs) (omega (arith, length-take most xs)))
    ∙ both_large most (length (take most xs)) (length xs) (end_of (take most xs)) (omega (arith, long, length-take most xs)) long

empty_within : (xs : List ℕ) → empty_line xs ≤ length xs
empty_within [] = omega arith
empty_within (a ∷ []) = by (eqb a 10) (eqb a 13)
  where
    by : (x y : Bool) → cond x 1 (cond y 0 0) ≤ 1
    by true y = omega arith
    by false true = omega arith
    by false false = omega arith
empty_within (a ∷ b ∷ rest) = by (eqb a 10) (eqb a 13) (eqb b 10)
  where
    by : (x y z : Bool) → cond x 1 (cond y (cond z 2 0) 0) ≤ suc (suc (length rest))
    by true y z = omega arith
    by false true true = omega arith
    by false true false = omega arith
    by false false z = omega arith

some_suc : (o : Option ℕ) (n : ℕ) → option_map suc o ≡ Some n → (k : ℕ) × (o ≡ Some k) × (suc k ≡ n)
some_suc None n e = cc
some_suc (Some k) n e = (k, refl, cc)

to_end_within : (xs : List ℕ) (n : ℕ) → length_to_end xs ≡ Some n → n ≤ length xs
to_end_within [] n e = cc
to_end_within (b ∷ xs) n e = by (eqb b 10 && ltb 0 (empty_line xs)) (to_end_within xs) e
  where
    by : (t : Bool) → ((k : ℕ) → length_to_end xs ≡ Some k → k ≤ length xs) → cond t (Some (empty_line xs + 1)) (option_map suc (length_to_end xs)) ≡ Some n → n ≤ suc (length xs)
    by true less e = let z : empty_line xs + 1 ≡ n = cc in omega (arith, z, empty_within xs)
    by false less e = let k = some_suc (length_to_end xs) n e in omega (arith, k.2, less k.0 k.1)

blank_less : (xs : List ℕ) → length (after_blank xs) ≤ length xs
blank_less [] = omega arith
blank_less (a ∷ []) = by (eqb a 10)
  where
    by : (x : Bool) → length (cond x [] (a ∷ [])) ≤ 1
    by true = omega arith
    by false = omega arith
blank_less (a ∷ b ∷ rest) = by (eqb a 10) (eqb a 13 && eqb b 10) (blank_less (b ∷ rest)) (blank_less rest)
  where
    by : (x y : Bool) → length (after_blank (b ∷ rest)) ≤ suc (length rest) → length (after_blank rest) ≤ length rest
        → length (cond x (after_blank (b ∷ rest)) (cond y (after_blank rest) (a ∷ b ∷ rest))) ≤ suc (suc (length rest))
    by true y one two = omega (arith, one)
    by false true one two = omega (arith, two)
    by false false one two = omega arith

some_plus : (o : Option ℕ) (d n : ℕ) → option_map (λ m. m + d) o ≡ Some n → (k : ℕ) × (o ≡ Some k) × (k + d ≡ n)
some_plus None d n e = cc
some_plus (Some k) d n e = (k, refl, cc)

end_within : (xs : List ℕ) (n : ℕ) → end_of xs ≡ Some n → n ≤ length xs
end_within xs n e =
    let k = some_plus (length_to_end (after_blank xs)) (length xs - length (after_blank xs)) n e in
    omega (arith, k.2, to_end_within (after_blank xs) k.0 k.1, blank_less xs)

at_is : (most len n : ℕ) (o : Option ℕ) → head_end_at most len o ≡ At n → o ≡ Some n
at_is most len n None e = by (leb most len) e
  where
    by : (t : Bool) → cond t TooLarge NotYet ≡ At n → None ≡ Some n
    by true e = cc
    by false e = cc
at_is most len n (Some k) e = cc

-- where a head ends is within the bytes and the limit
at_below : (bytes : List ℕ) (n : ℕ) → section_end bytes ≡ At n → n ≤ HEAD_LIMIT
at_below bytes n e = by (ltb 0 (empty_line bytes)) e
  where
    few : (m : ℕ) → empty_line bytes ≤ suc (suc m)
    few m = omega (arith, sym (empty_front m bytes), empty_within (take (suc (suc m)) bytes), length-take (suc (suc m)) bytes)

    by : (t : Bool) → cond t (At (empty_line bytes)) (head_end bytes) ≡ At n → n ≤ HEAD_LIMIT
    by true e = let z : empty_line bytes ≡ n = cc in omega (arith, z, few 8190)
    by false e = omega (arith, end_within (take HEAD_LIMIT bytes) n (at_is HEAD_LIMIT (length bytes) n (end_of (take HEAD_LIMIT bytes)) e), length-take HEAD_LIMIT bytes)

long_front : (xs : List ℕ) → HEAD_LIMIT ≤ length xs → section_end (take HEAD_LIMIT xs) ≡ section_end xs
long_front xs long =
    ap (λ (k : ℕ). cond (ltb 0 k) (At k) (head_end (take HEAD_LIMIT xs))) (empty_front 8190 xs)
    ∙ ap (λ (h : HeadEnd). cond (ltb 0 (empty_line xs)) (At (empty_line xs)) h) (end_front HEAD_LIMIT xs long)

-- the first bytes are all, or as many as a head may have
front_cases : (n : ℕ) (xs : List ℕ) (P : List ℕ → Type 0) → n ≡ min HEAD_LIMIT (length xs) → P xs → (HEAD_LIMIT ≤ length xs → P (take HEAD_LIMIT xs)) → P (take n xs)
front_cases n xs P is all long = by (cases_lt (length xs) HEAD_LIMIT)
  where
    by : (length xs < HEAD_LIMIT) ⊎ (HEAD_LIMIT ≤ length xs) → P (take n xs)
    by (inl less) = subst P (sym (take_all n xs (omega (arith, less, is)))) all
    by (inr most) = let e : HEAD_LIMIT ≡ n = omega (arith, most, is) in subst (λ (m : ℕ). P (take m xs)) e (long most)

pub section_front : (n : ℕ) (xs : List ℕ) → n ≡ min HEAD_LIMIT (length xs) → section_end (take n xs) ≡ section_end xs
section_front n xs is = front_cases n xs (λ (l : List ℕ). section_end l ≡ section_end xs) is refl (long_front xs)

head_front : (xs : List ℕ) → HEAD_LIMIT ≤ length xs → (h : HeadEnd) → section_end xs ≡ h → head_at (take HEAD_LIMIT xs) h ≡ head_at xs h
head_front xs long (At n) e =
    ap (λ (l : List ℕ). head_read n (read_section (suc FIELD_LINE_LIMIT) l)) (take-take n HEAD_LIMIT xs (at_below xs n e))
head_front xs long NotYet e = refl
head_front xs long TooLarge e = refl

pub cgi_front : (n : ℕ) (xs : List ℕ) → n ≡ min HEAD_LIMIT (length xs) → cgi_head (take n xs) ≡ cgi_head xs
cgi_front n xs is = front_cases n xs (λ (l : List ℕ). cgi_head l ≡ cgi_head xs) is refl
    (λ long. ap (head_at (take HEAD_LIMIT xs)) (long_front xs long) ∙ head_front xs long (section_end xs) refl)

-- a buffer with room for a head was filled
pub count_is : (n : ℕ) (buffer xs : List ℕ) → n ≡ min (length buffer) (length xs) → length buffer ≡ HEAD_LIMIT → n ≡ min HEAD_LIMIT (length xs)
count_is n buffer xs is long = is ∙ ap (λ (k : ℕ). min k (length xs)) long

-- an answer whose head is refused is no good one
pub refused : (stdout : List ℕ) (front : Result CgiHead CgiRefusal) (r : CgiRefusal) → front ≡ cgi_head stdout → (r ≡ NoMemory) ⊎ (front ≡ Err r) → (r ≡ NoMemory → ⊥) → Breaks ≡ judged stdout (cgi_head stdout)
refused stdout front r is (inl none) memory = absurd (memory none)
refused stdout front r is (inr e) memory = ap (judged stdout) (sym (sym is ∙ e))

pub short_enough : (stdout : List ℕ) → length stdout ≤ ANSWER_LIMIT → false ≡ is_too_long stdout
short_enough stdout short = sym (le-ltb ANSWER_LIMIT (length (body_of stdout)) (omega (arith, short, length-drop (start_at (section_end stdout)) stdout)))

pub left_is : (stdout : List ℕ) (count start left : ℕ) → count ≡ length stdout → start ≡ start_at (section_end stdout) → left ≡ count - start → ltb ANSWER_LIMIT left ≡ is_too_long stdout
left_is stdout count start left long at is = ap (ltb ANSWER_LIMIT) (omega (arith, long, at, is, length-drop (start_at (section_end stdout)) stdout))

-- the buffer into which a head is copied
pub room : length (replicate {A = ℕ} HEAD_LIMIT 0) ≡ HEAD_LIMIT
room = length-replicate {A = ℕ} HEAD_LIMIT 0
