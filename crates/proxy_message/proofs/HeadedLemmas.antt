-- The first bytes of a head, taken in one piece.
use Rattle.std.proofs.Common.{◌≡◌, ℕ, suc, ◌+◌, ◌-◌, ◌<◌, ◌≤◌, Bool, true, false, cond, ltb, List, [], ◌∷◌, ◌++◌, length, take, drop, Option, Some, None, refl, sym, ap, ◌∙◌, subst, arith, length-take, length-append, append_assoc}
use Rattle.std.proofs.lemmas.List.{take-take, take_all, take-append-drop}
use Rattle.std.proofs.Math.Seq.{take-append-add}
use Rattle.std.specs.Prelude.{codes}
use Rattle.lt_bytes.specs.Numbers.{number_of}
use Rattle.lt_bytes.specs.declared.numbers.Number.{Number}
use Rattle.lt_bytes.specs.declared.numbers.Number.TheVariants as number
use Rattle.httparse.specs.Grammar.{ResponseHead, status_code}
use Rattle.http_header.specs.FieldValue.{FieldValue}
use Rattle.http_header.specs.HeaderMap.{Entries, get_all}
use Rattle.http_head.specs.Framing.{is_chunked}
use Rattle.http_head.specs.Ends.{head_end}
use Rattle.http_head.specs.declared.ends.HeadEnd.TheVariants.{At, NotYet, TooLarge}
use Rattle.cgi_text.specs.Head.{fields_of}
use Rattle.proxy_message.specs.declared.progress.Progress.{Progress}
use Rattle.proxy_message.specs.declared.stage.Stage.{Stage}
use Rattle.proxy_message.specs.declared.stage.Stage.TheVariants as stage
use Rattle.proxy_message.specs.declared.limits.TheConstants.{BODY_LIMIT}
use Rattle.proxy_message.specs.Responses.{read_response}
use Rattle.proxy_message.specs.Stages.{is_interim, is_final, has_no_body, of_length, stated_by, by_lengths, by_codings, content_of}
use Rattle.proxy_message.specs.Progress.{before, begin, behind_head, head_of, by_status, by_response, judged, headed_by, headed, step}
use Rattle.proxy_message.specs.Reading.{progress_after, content_in, taken_in, Passes}
use Rattle.proxy_message.specs.Feeding.{IsSoundStage, IsHeaded}
use Rattle.proxy_message.proofs.EndLemmas.{not_yet_short, is_at, goes_before, goes_to_end, goes_to_limit, ends_behind}

-- ---- behind a whole head no bytes of a head are held, or none came of the next

sound_by : (b : Bool) (x y : Stage) → IsSoundStage x → IsSoundStage y → IsSoundStage (cond b x y)
sound_by true x y one two = one
sound_by false x y one two = two

length_sound : (n : ℕ) → IsSoundStage (of_length n)
length_sound n = sound_by (ltb BODY_LIMIT n) _ _ tt tt

stated_sound : (n : Number) → IsSoundStage (stated_by n)
stated_sound (number.Value n) = length_sound n
stated_sound number.Overflow = tt
stated_sound number.NotANumber = tt

lengths_sound : (ls : List FieldValue) → IsSoundStage (by_lengths ls)
lengths_sound [] = tt
lengths_sound (l ∷ []) = stated_sound (number_of 10 l.bytes)
lengths_sound (l ∷ m ∷ ls) = tt

codings_sound : (ts ls : List FieldValue) → IsSoundStage (by_codings ts ls)
codings_sound [] ls = lengths_sound ls
codings_sound (t ∷ []) ls = sound_by (is_chunked t.bytes) _ _ tt tt
codings_sound (t ∷ u ∷ ts) ls = tt

content_sound : (head_only : Bool) (status : ℕ) (fields : Entries FieldValue) → IsSoundStage (content_of head_only status fields)
content_sound head_only status fields =
    sound_by (has_no_body head_only status) stage.Done (by_codings (get_all fields (codes "transfer-encoding")) (get_all fields (codes "content-length"))) tt
    (codings_sound (get_all fields (codes "transfer-encoding")) (get_all fields (codes "content-length")))

sound_at : (b : Bool) (p q : Progress) → IsSoundStage p.stage → IsSoundStage q.stage → IsSoundStage (cond b p q).stage
sound_at true p q one two = one
sound_at false p q one two = two

status_sound : (head_only : Bool) (size status : ℕ) (fields : Entries FieldValue) → IsSoundStage (by_status head_only size status fields).stage
status_sound head_only size status fields =
    let answered : Progress = behind_head head_only (head_of size status fields) (content_of head_only status fields) in
    sound_at (is_interim status) (begin head_only) (cond (is_final status) answered (before head_only stage.BadAnswer)) refl
    (sound_at (is_final status) answered (before head_only stage.BadAnswer) (content_sound head_only status fields) tt)

response_sound : (head_only : Bool) (size : ℕ) (o : Option (ResponseHead × List ℕ)) → IsSoundStage (by_response head_only size o).stage
response_sound head_only size None = tt
response_sound head_only size (Some p) =
    sound_at (ltb 64 (length p.0.fields)) (before head_only stage.BadAnswer) (by_status head_only size (status_code p.0) (fields_of p.0.fields)) tt
    (status_sound head_only size (status_code p.0) (fields_of p.0.fields))

-- ---- byte by byte

headed_on : (head_only : Bool) (held more : List ℕ) → 0 < length more → ((m : ℕ) → m < length more → head_end (held ++ take m more) ≡ NotYet)
    → Passes (before head_only (stage.Head held)) more (headed head_only (held ++ more))
unfolding progress_after content_in taken_in step
headed_on head_only held [] some going = absurd (omega arith)
headed_on head_only held (b ∷ []) some going = record { stands = refl; none = refl; all = refl }
headed_on head_only held (b ∷ c ∷ more) some going =
    let next : head_end (held ++ b ∷ []) ≡ NotYet = going 1 (omega arith) in
    let on : headed head_only (held ++ b ∷ []) ≡ before head_only (stage.Head (held ++ b ∷ [])) = ap (headed_by head_only (held ++ b ∷ [])) next in
    let rest = headed_on head_only (held ++ b ∷ []) (c ∷ more) (omega arith)
    (λ m less. ap head_end (append_assoc held (b ∷ []) (take m (c ∷ more))) ∙ going (suc m) (omega (arith, less))) in
    record {
      stands = ap (λ (p : Progress). progress_after p (c ∷ more)) on ∙ rest.stands ∙ ap (headed head_only) (append_assoc held (b ∷ []) (c ∷ more));
      none = ap (λ (p : Progress). content_in p (c ∷ more)) on ∙ rest.none;
      all = omega (arith, ap (λ (p : Progress). taken_in p (c ∷ more)) on, rest.all);
    }

-- ---- in one piece

-- fewer of the bytes are the first of more
prefix_of : (held bytes : List ℕ) (m room : ℕ) → m ≤ room → (rest : List ℕ) × (held ++ take room bytes ≡ (held ++ take m bytes) ++ rest)
prefix_of held bytes m room within =
    let part : List ℕ = take room bytes in
    (drop m part, ap (λ (l : List ℕ). held ++ l) (sym (take-append-drop m part)) ∙ sym (append_assoc held (take m part) (drop m part)) ∙ ap (λ (l : List ℕ). (held ++ l) ++ drop m part) (take-take m room bytes within))

piece : (head_only : Bool) (held bytes : List ℕ) (k : ℕ) (p : Progress) → 0 < k → k ≤ length bytes → ((m : ℕ) → m < k → head_end (held ++ take m bytes) ≡ NotYet)
    → p ≡ headed head_only (held ++ take k bytes) → IsSoundStage p.stage → IsHeaded head_only held bytes p k
piece head_only held bytes k p some within going is sound =
    let long : length (take k bytes) ≡ k = omega (arith, length-take k bytes, within) in
    record {
      some = some;
      within = within;
      passes = subst (Passes (before head_only (stage.Head held)) (take k bytes)) (sym is)
          (headed_on head_only held (take k bytes) (omega (arith, some, long))
          (λ m less. ap (λ (l : List ℕ). head_end (held ++ l)) (take-take m k bytes (omega (arith, less, long))) ∙ going m (omega (arith, less, long))));
      sound = sound;
    }

-- the bytes that there is room for
abbrev pub with_part : List ℕ → List ℕ → List ℕ
with_part held bytes = held ++ take (8192 - length held) bytes

-- the head ends
pub ends_piece : (head_only : Bool) (held bytes : List ℕ) (n : ℕ) (p : Progress) → head_end held ≡ NotYet → head_end (with_part held bytes) ≡ At n
    → p ≡ judged head_only (take n (with_part held bytes)) → IsHeaded head_only held bytes p (n - length held)
ends_piece head_only held bytes n p going end is =
    let room : ℕ = 8192 - length held in
    let k : ℕ = n - length held in
    let at = is_at 8192 (with_part held bytes) n end in
    let behind : length held < n = ends_behind 8192 held (take room bytes) n going end in
    let size : n ≡ length held + k = omega (arith, behind) in
    let below : k ≤ room = omega (arith, at.below, behind) in
    let cut : take n (with_part held bytes) ≡ held ++ take k bytes =
    ap (λ (m : ℕ). take m (with_part held bytes)) size ∙ take-append-add held (take room bytes) k ∙ ap (λ (l : List ℕ). held ++ l) (take-take k room bytes below) in
    let judges : headed head_only (take n (with_part held bytes)) ≡ judged head_only (take n (with_part held bytes)) =
    ap (headed_by head_only (take n (with_part held bytes))) at.itself in
    piece head_only held bytes k p (omega (arith, behind)) (omega (arith, at.within, length-append held (take room bytes), length-take room bytes, behind))
    (λ m less.
    let pre = prefix_of held bytes m room (omega (arith, less, below)) in
    goes_to_end 8192 (held ++ take m bytes) pre.0 n (ap head_end (sym pre.1) ∙ end) (omega (arith, length-append held (take m bytes), length-take m bytes, less, size)))
    (is ∙ sym judges ∙ ap (headed head_only) cut)
    (subst (λ (q : Progress). IsSoundStage q.stage) (sym is) (response_sound head_only (length (take n (with_part held bytes))) (read_response (take n (with_part held bytes)))))

whole_part : (held bytes : List ℕ) → take (length (take (8192 - length held) bytes)) bytes ≡ take (8192 - length held) bytes
whole_part held bytes =
    let room : ℕ = 8192 - length held in
    sym (take-take (length (take room bytes)) room bytes (omega (arith, length-take room bytes))) ∙ take_all (length (take room bytes)) (take room bytes) (omega arith)

-- the head goes on
pub open_piece : (head_only : Bool) (held bytes : List ℕ) (p : Progress) → head_end held ≡ NotYet → 0 < length bytes → head_end (with_part held bytes) ≡ NotYet
    → p ≡ before head_only (stage.Head (with_part held bytes)) → IsHeaded head_only held bytes p (length (take (8192 - length held) bytes))
open_piece head_only held bytes p going some on is =
    let room : ℕ = 8192 - length held in
    let short : length held < 8192 = not_yet_short 8192 held going in
    piece head_only held bytes (length (take room bytes)) p (omega (arith, length-take room bytes, some, short)) (omega (arith, length-take room bytes))
    (λ m less.
    let pre = prefix_of held bytes m room (omega (arith, less, length-take room bytes)) in
    goes_before 8192 (held ++ take m bytes) pre.0 (ap head_end (sym pre.1) ∙ on))
    (is ∙ sym (ap (headed_by head_only (with_part held bytes)) on) ∙ ap (λ (l : List ℕ). headed head_only (held ++ l)) (sym (whole_part held bytes)))
    (subst (λ (q : Progress). IsSoundStage q.stage) (sym is) on)

-- the head is too large
pub large_piece : (head_only : Bool) (held bytes : List ℕ) (p : Progress) → head_end held ≡ NotYet → 0 < length bytes → head_end (with_part held bytes) ≡ TooLarge
    → p ≡ before head_only stage.BadAnswer → IsHeaded head_only held bytes p (length (take (8192 - length held) bytes))
large_piece head_only held bytes p going some large is =
    let room : ℕ = 8192 - length held in
    let short : length held < 8192 = not_yet_short 8192 held going in
    piece head_only held bytes (length (take room bytes)) p (omega (arith, length-take room bytes, some, short)) (omega (arith, length-take room bytes))
    (λ m less.
    let pre = prefix_of held bytes m room (omega (arith, less, length-take room bytes)) in
    goes_to_limit 8192 (held ++ take m bytes) pre.0 (ap head_end (sym pre.1) ∙ large) (omega (arith, length-append held (take m bytes), length-take m bytes, less, length-take room bytes, short)))
    (is ∙ sym (ap (headed_by head_only (with_part held bytes)) large) ∙ ap (λ (l : List ℕ). headed head_only (held ++ l)) (sym (whole_part held bytes)))
    (subst (λ (q : Progress). IsSoundStage q.stage) (sym is) tt)

-- ---- over the bytes joined

pub ends_of : (head_only : Bool) (held bytes whole : List ℕ) (n : ℕ) (p : Progress) → head_end held ≡ NotYet → whole ≡ with_part held bytes → head_end whole ≡ At n
    → p ≡ judged head_only (take n whole) → IsHeaded head_only held bytes p (n - length held)
ends_of head_only held bytes whole n p going joined end is =
    ends_piece head_only held bytes n p going (ap head_end (sym joined) ∙ end) (is ∙ ap (λ (l : List ℕ). judged head_only (take n l)) joined)

rest_of : (held bytes whole : List ℕ) (k : ℕ) → whole ≡ with_part held bytes → k ≡ length whole - length held → length (take (8192 - length held) bytes) ≡ k
rest_of held bytes whole k joined size = omega (arith, ap length joined, length-append held (take (8192 - length held) bytes), size)

pub open_of : (head_only : Bool) (held bytes whole : List ℕ) (k : ℕ) (p : Progress) → head_end held ≡ NotYet → 0 < length bytes → whole ≡ with_part held bytes → head_end whole ≡ NotYet
    → p ≡ before head_only (stage.Head whole) → k ≡ length whole - length held → IsHeaded head_only held bytes p k
open_of head_only held bytes whole k p going some joined on is size =
    subst (IsHeaded head_only held bytes p) (rest_of held bytes whole k joined size)
    (open_piece head_only held bytes p going some (ap head_end (sym joined) ∙ on) (is ∙ ap (λ (l : List ℕ). before head_only (stage.Head l)) joined))

pub large_of : (head_only : Bool) (held bytes whole : List ℕ) (k : ℕ) (p : Progress) → head_end held ≡ NotYet → 0 < length bytes → whole ≡ with_part held bytes → head_end whole ≡ TooLarge
    → p ≡ before head_only stage.BadAnswer → k ≡ length whole - length held → IsHeaded head_only held bytes p k
large_of head_only held bytes whole k p going some joined large is size =
    subst (IsHeaded head_only held bytes p) (rest_of held bytes whole k joined size)
    (large_piece head_only held bytes p going some (ap head_end (sym joined) ∙ large) is)

-- a head that goes on has room for a byte
pub held_short : (held : List ℕ) → head_end held ≡ NotYet → length held < 8192
held_short held going = not_yet_short 8192 held going

-- where it ends lies behind what came before
pub end_behind : (held bytes whole : List ℕ) (n : ℕ) → head_end held ≡ NotYet → whole ≡ with_part held bytes → head_end whole ≡ At n → length held ≤ n
end_behind held bytes whole n going joined end = omega (arith, ends_behind 8192 held (take (8192 - length held) bytes) n going (ap head_end (sym joined) ∙ end))
