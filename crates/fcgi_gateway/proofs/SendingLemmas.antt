-- What is still to be sent, once more was taken.
use Rattle.std.proofs.Common.{◌≡◌, zero, suc, ℕ, ◌+◌, ◌-◌, ◌<◌, ◌≤◌, Bool, true, false, cond, ltb, List, [], ◌∷◌, ◌++◌, length, take, drop, min, refl, ap, sym, ◌∙◌, subst, append_assoc, length-drop, length-take, arith}
use Rattle.std.proofs.lemmas.List.{drop-drop, drop-append-le, drop_all, drop-take, take_all, take-append-drop}
use Rattle.std.proofs.lemmas.Bool.{ltb-true, ltb-false}
use Rattle.fcgi_records.specs.Encoded.{header_of}
use Rattle.fcgi_records.specs.declared.kinds.TheConstants.{STDIN}
use Rattle.fcgi_gateway.specs.Asked.{stream}
use Rattle.fcgi_gateway.specs.Sending.{content_and_more, behind_header, unsent_of, offer_of, body_after, behind_header_at, header_before, sending_after, IsSoundSending}
use Rattle.fcgi_gateway.specs.declared.sending.Sending.{Sending}
use Rattle.fcgi_gateway.specs.declared.sending.Sending.TheVariants as next
use Rattle.fcgi_gateway.specs.declared.sending.TheConstants.{RECORD_SIZE}
use Rattle.fcgi_records.proofs.ReadingLemmas.{one_is_some}
use Rattle.fcgi_gateway.proofs.AskedLemmas.{stream_splits}

-- all of the first bytes, and none of the others, are gone
drop_first : (n : ℕ) (xs ys : List ℕ) → length xs ≡ n → drop n (xs ++ ys) ≡ ys
drop_first n xs ys long = drop-append-le n xs ys (omega (arith, long)) ∙ ap (λ (l : List ℕ). l ++ ys) (drop_all n xs (omega (arith, long)))

behind_is : (lead body : List ℕ) → unsent_of lead body (behind_header_at (length body)) ≡ behind_header body
behind_is lead [] = refl
behind_is lead (b ∷ body) = ap (λ (t : Bool). unsent_of lead (b ∷ body) (cond t next.Done (next.Content (min (suc (length body)) RECORD_SIZE)))) (one_is_some (length body))

-- bytes that lie together
bytes_sent : (taken n : ℕ) (xs ys : List ℕ) → n ≤ length (drop taken xs) → drop (taken + n) xs ++ ys ≡ drop n (drop taken xs ++ ys)
bytes_sent taken n xs ys within = sym (drop-append-le n (drop taken xs) ys within ∙ ap (λ (l : List ℕ). l ++ ys) (drop-drop n taken xs))

-- how many bytes of what is sent next may be taken
abbrev pub room_of : List ℕ → Sending → ℕ
room_of lead (next.Lead taken) = length lead - taken
room_of lead (next.Content left) = left
room_of lead (next.Header header taken) = 8 - taken
room_of lead next.Done = 0

pub sent_unsent : (s : Sending) (lead body : List ℕ) (n : ℕ) → IsSoundSending lead body s → n ≤ room_of lead s
    → unsent_of lead (body_after n body s) (sending_after n (length lead) (length (body_after n body s)) s) ≡ drop n (unsent_of lead body s)
sent_unsent (next.Lead taken) lead body n sound within = by (ltb n (length lead - taken)) refl
  where
    by : (t : Bool) → ltb n (length lead - taken) ≡ t → unsent_of lead body (cond t (next.Lead (taken + n)) (behind_header_at (length body))) ≡ drop n (drop taken lead ++ behind_header body)
    by true e = bytes_sent taken n lead (behind_header body) (omega (arith, within, length-drop taken lead))
    by false e = behind_is lead body ∙ sym (drop_first n (drop taken lead) (behind_header body) (omega (arith, within, length-drop taken lead, ltb-false n (length lead - taken) e)))
sent_unsent (next.Content left) lead body n sound within = by (ltb n left) refl
  where
    by : (t : Bool) → ltb n left ≡ t
        → unsent_of lead (drop n body) (cond t (next.Content (left - n)) (header_before (length (drop n body)))) ≡ drop n (content_and_more left body)
    by true e =
        let sum : n + (left - n) ≡ left = omega (arith, within) in
        let long : n ≤ length (take left body) = omega (arith, within, sound.1, length-take left body) in
        let front : drop n (take left body) ≡ take (left - n) (drop n body) = ap (λ (m : ℕ). drop n (take m body)) (sym sum) ∙ drop-take n (left - n) body in
        let rest : drop (left - n) (drop n body) ≡ drop left body = drop-drop (left - n) n body ∙ ap (λ (m : ℕ). drop m body) sum in
        ap (λ (l : List ℕ). take (left - n) (drop n body) ++ stream STDIN l) rest
        ∙ ap (λ (l : List ℕ). l ++ stream STDIN (drop left body)) (sym front)
        ∙ sym (drop-append-le n (take left body) (stream STDIN (drop left body)) long)
    by false e =
        let same : n ≡ left = omega (arith, within, ltb-false n left e) in
        let long : length (take left body) ≡ n = omega (arith, same, sound.1, length-take left body) in
        sym (stream_splits (drop n body))
        ∙ ap (λ (m : ℕ). stream STDIN (drop m body)) same
        ∙ sym (drop_first n (take left body) (stream STDIN (drop left body)) long)
sent_unsent (next.Header header taken) lead body n sound within = by (ltb n (8 - taken)) refl
  where
    by : (t : Bool) → ltb n (8 - taken) ≡ t → unsent_of lead body (cond t (next.Header header (taken + n)) (behind_header_at (length body))) ≡ drop n (drop taken header ++ behind_header body)
    by true e = bytes_sent taken n header (behind_header body) (omega (arith, within, sound.0, length-drop taken header))
    by false e = behind_is lead body ∙ sym (drop_first n (drop taken header) (behind_header body) (omega (arith, within, sound.0, length-drop taken header, ltb-false n (8 - taken) e)))
sent_unsent next.Done lead body n sound within = sym (drop_all n [] (omega arith))

behind_sound : (lead body : List ℕ) → IsSoundSending lead body (behind_header_at (length body))
behind_sound lead [] = tt
behind_sound lead (b ∷ body) =
    subst (λ (t : Bool). IsSoundSending lead (b ∷ body) (cond t next.Done (next.Content (min (suc (length body)) RECORD_SIZE)))) (sym (one_is_some (length body)))
    (some_within (length body), least (length body))
  where
    some_within : (n : ℕ) → 0 < min (suc n) RECORD_SIZE
    some_within n = omega arith

    least : (n : ℕ) → min (suc n) RECORD_SIZE ≤ suc n
    least n = omega arith

pub sent_sound : (s : Sending) (lead body : List ℕ) (n : ℕ) → IsSoundSending lead body s → n ≤ room_of lead s
    → IsSoundSending lead (body_after n body s) (sending_after n (length lead) (length (body_after n body s)) s)
sent_sound (next.Lead taken) lead body n sound within = by (ltb n (length lead - taken)) refl
  where
    by : (t : Bool) → ltb n (length lead - taken) ≡ t → IsSoundSending lead body (cond t (next.Lead (taken + n)) (behind_header_at (length body)))
    by true e = omega (arith, ltb-true n (length lead - taken) e)
    by false e = behind_sound lead body
sent_sound (next.Content left) lead body n sound within = by (ltb n left) refl
  where
    by : (t : Bool) → ltb n left ≡ t → IsSoundSending lead (drop n body) (cond t (next.Content (left - n)) (header_before (length (drop n body))))
    by true e = (omega (arith, ltb-true n left e), omega (arith, sound.1, length-drop n body, ltb-true n left e))
    by false e = (refl, omega arith)
sent_sound (next.Header header taken) lead body n sound within = by (ltb n (8 - taken)) refl
  where
    by : (t : Bool) → ltb n (8 - taken) ≡ t → IsSoundSending lead body (cond t (next.Header header (taken + n)) (behind_header_at (length body)))
    by true e = (sound.0, omega (arith, ltb-true n (8 - taken) e))
    by false e = behind_sound lead body
sent_sound next.Done lead body n sound within = tt
