-- The function reads just what the grammar says of a response.
use Rattle.std.proofs.Common.{◌≡◌, ℕ, suc, ◌+◌, Bool, true, false, cond, ◌&&◌, eqb, List, [], ◌∷◌, ◌++◌, length, Option, Some, None, sym, refl, ap, ◌∙◌, arith, subst}
use Rattle.std.specs.Prelude.{codes, IsTrue}
use Rattle.std.specs.Char.{is_ascii_digit}
use Rattle.std.proofs.lemmas.List.{append_assoc}
use Rattle.std.proofs.lemmas.Option.{same_Some}
use Rattle.std.proofs.lemmas.Bool.{eqb-true}
use Rattle.std.proofs.lemmas.List.Elements.{All-head, All-tail, All-cons, All-nil}
use Rattle.httparse.specs.Grammar.{is_value_byte, AllPass, LineEnd, crlf, lf, print_end, print_blank, print_version, print_section, print_reason, reason_phrase, ResponseHead, print_response, IsResponseHead, ReadsResponse}
use Rattle.http_head.specs.Read.{run, after_run, read_byte, read_bytes, read_end, read_section, read_blank, read_minor}
use Rattle.http_head.proofs.GrammarLemmas.{Starts}
use Rattle.http_head.proofs.ReadLemmas.{end_at, raw_at, section_at, blank_at, minor_at, fields_short, bind_some, run_split, run_passes, byte_sound, bytes_sound, end_sound, section_sound, blank_sound, minor_sound}
use Rattle.proxy_message.specs.Responses.{read_code, read_reason, read_response}

-- ---- what is printed is read

code_at : (digits ys : List ℕ) → length digits ≡ 3 → AllPass is_ascii_digit digits → read_code (digits ++ ys) ≡ Some (digits, ys)
code_at [] ys long pass = absurd (omega arith)
code_at (a ∷ []) ys long pass = absurd (omega arith)
code_at (a ∷ b ∷ []) ys long pass = absurd (omega arith)
code_at (a ∷ b ∷ c ∷ []) ys long pass =
    let one = All-head (λ x. IsTrue (is_ascii_digit x)) a (b ∷ c ∷ []) pass in
    let rest = All-tail (λ x. IsTrue (is_ascii_digit x)) a (b ∷ c ∷ []) pass in
    let two = All-head (λ x. IsTrue (is_ascii_digit x)) b (c ∷ []) rest in
    let three = All-head (λ x. IsTrue (is_ascii_digit x)) c [] (All-tail (λ x. IsTrue (is_ascii_digit x)) b (c ∷ []) rest) in
    ap (λ (t : Bool). cond (t && (is_ascii_digit b && is_ascii_digit c)) (Some (a ∷ b ∷ c ∷ [], ys)) None) one
    ∙ ap (λ (t : Bool). cond (t && is_ascii_digit c) (Some (a ∷ b ∷ c ∷ [], ys)) None) two
    ∙ ap (λ (t : Bool). cond t (Some (a ∷ b ∷ c ∷ [], ys)) None) three
code_at (a ∷ b ∷ c ∷ d ∷ more) ys long pass = absurd (omega arith)

reason_at : (reason : Option (List ℕ)) (e : LineEnd) (ys : List ℕ) → AllPass is_value_byte (reason_phrase reason) → read_reason (print_reason reason ++ (print_end e ++ ys)) ≡ (reason, print_end e ++ ys)
reason_at None crlf ys pass = refl
reason_at None lf ys pass = refl
reason_at (Some phrase) e ys pass = let r = raw_at phrase e ys pass in rw (r.0, r.1) refl

response_assoc : (b v d r e s t : List ℕ) → (((((b ++ v) ++ d) ++ r) ++ e) ++ s) ++ t ≡ b ++ (v ++ (d ++ (r ++ (e ++ (s ++ t)))))
response_assoc b v d r e s t = simp append_assoc

-- behind the empty lines
abbrev pub status_on : ResponseHead → List ℕ → List ℕ
status_on h rest = print_version h.minor ++ (32 ∷ (h.digits ++ (print_reason h.reason ++ (print_end h.line_end ++ (print_section h.fields h.last ++ rest)))))

pub response_split : (h : ResponseHead) (rest : List ℕ) → print_response h ++ rest ≡ print_blank h.blank ++ status_on h rest
unfolding print_response
response_split h rest = response_assoc (print_blank h.blank) (print_version h.minor) (32 ∷ h.digits) (print_reason h.reason) (print_end h.line_end) (print_section h.fields h.last) rest

pub version_starts : Starts 72
version_starts = (λ e. absurd (omega arith), λ e. absurd (omega arith))

response_at : (h : ResponseHead) (rest : List ℕ) → IsResponseHead h → read_response (print_response h ++ rest) ≡ Some (h, rest)
unfolding read_response
response_at h rest v =
    let text : List ℕ = print_section h.fields h.last ++ rest in
    let tail : List ℕ = print_end h.line_end ++ text in
    let after : List ℕ = print_reason h.reason ++ tail in
    let b = blank_at h.blank 72 (84 ∷ 84 ∷ 80 ∷ 47 ∷ 49 ∷ 46 ∷ (48 + h.minor) ∷ 32 ∷ (h.digits ++ after)) version_starts in
    let s = section_at (suc (length text)) h.fields h.last rest (omega (arith, fields_short h.fields h.last rest v.fields)) v.fields in
    rw (response_split h rest, b) (rw (minor_at h.minor (32 ∷ (h.digits ++ after)) v.minor) (rw (code_at h.digits after v.digits.0 v.digits.1) (rw (reason_at h.reason h.line_end text v.reason) (rw (end_at h.line_end text) (rw s refl)))))

pub response_found : (bytes : List ℕ) (h : ResponseHead) (rest : List ℕ) → ReadsResponse bytes h rest → read_response bytes ≡ Some (h, rest)
response_found bytes h rest r = ap read_response r.1 ∙ response_at h rest r.0

-- ---- what is read is printed so

record IsCodeIn (xs : List ℕ) (p : List ℕ × List ℕ) : Type 0 where
  pub long : length p.0 ≡ 3
  pub passes : AllPass is_ascii_digit p.0
  pub split : xs ≡ p.0 ++ p.1

code_sound : (xs : List ℕ) (p : List ℕ × List ℕ) → read_code xs ≡ Some p → IsCodeIn xs p
code_sound [] p e = cc
code_sound (a ∷ []) p e = cc
code_sound (a ∷ b ∷ []) p e = cc
code_sound (a ∷ b ∷ c ∷ rest) p e = by (is_ascii_digit a) (is_ascii_digit b) (is_ascii_digit c) refl refl refl e
  where
    by : (x y z : Bool) → is_ascii_digit a ≡ x → is_ascii_digit b ≡ y → is_ascii_digit c ≡ z → cond (x && (y && z)) (Some (a ∷ b ∷ c ∷ [], rest)) None ≡ Some p → IsCodeIn (a ∷ b ∷ c ∷ rest) p
    by true true true ex ey ez e =
        subst (IsCodeIn (a ∷ b ∷ c ∷ rest)) (same_Some (a ∷ b ∷ c ∷ [], rest) p e) (record {
          long = refl;
          passes = All-cons (λ t. IsTrue (is_ascii_digit t)) a (b ∷ c ∷ []) ex (All-cons (λ t. IsTrue (is_ascii_digit t)) b (c ∷ []) ey (All-cons (λ t. IsTrue (is_ascii_digit t)) c [] ez (All-nil (λ t. IsTrue (is_ascii_digit t)))));
          split = refl;
        })
    by true true false ex ey ez e = cc
    by true false z ex ey ez e = cc
    by false y z ex ey ez e = cc

record IsReasonIn (xs : List ℕ) (p : Option (List ℕ) × List ℕ) : Type 0 where
  pub passes : AllPass is_value_byte (reason_phrase p.0)
  pub split : xs ≡ print_reason p.0 ++ p.1

reason_sound : (xs : List ℕ) → IsReasonIn xs (read_reason xs)
reason_sound [] = record { passes = All-nil (λ t. IsTrue (is_value_byte t)); split = refl }
reason_sound (b ∷ bs) = by (eqb b 32) refl
  where
    by : (t : Bool) → eqb b 32 ≡ t → IsReasonIn (b ∷ bs) (cond t (Some (run is_value_byte bs), after_run is_value_byte bs) (None, b ∷ bs))
    by true e = record { passes = run_passes is_value_byte bs; split = ap (λ k. k ∷ bs) (eqb-true b 32 e) ∙ ap (λ r. 32 ∷ r) (sym (run_split is_value_byte bs)) }
    by false e = record { passes = All-nil (λ t. IsTrue (is_value_byte t)); split = refl }

abbrev ReadsPair : List ℕ → ResponseHead × List ℕ → Type 0
ReadsPair xs p = ReadsResponse xs p.0 p.1

pub response_sound : (xs : List ℕ) (h : ResponseHead) (rest : List ℕ) → read_response xs ≡ Some (h, rest) → ReadsResponse xs h rest
unfolding read_response
response_sound xs h rest e =
    let b = read_blank xs in
    let v = bind_some (read_bytes (codes "HTTP/1.") b.1) _ (h, rest) e in
    let n = bind_some (read_minor v.0) _ (h, rest) v.2 in
    let p = bind_some (read_byte 32 n.0.1) _ (h, rest) n.2 in
    let c = bind_some (read_code p.0) _ (h, rest) p.2 in
    let r = read_reason c.0.1 in
    let d = bind_some (read_end r.1) _ (h, rest) c.2 in
    let s = bind_some (read_section (suc (length d.0.1)) d.0.1) _ (h, rest) d.2 in
    let ns = minor_sound v.0 n.0 n.1 in
    let cs = code_sound p.0 c.0 c.1 in
    let rs = reason_sound c.0.1 in
    let ss = section_sound (suc (length d.0.1)) d.0.1 s.0 s.1 in
    let k : ResponseHead = record { blank = b.0; minor = n.0.0; digits = c.0.0; reason = r.0; line_end = d.0.0; fields = s.0.0.0; last = s.0.0.1 } in
    let u : (k, s.0.1) ≡ (h, rest) = same_Some (k, s.0.1) (h, rest) s.2 in
    let valid : IsResponseHead k = record { minor = ns.0; digits = (cs.long, cs.passes); reason = rs.passes; fields = ss.valid } in
    let text : List ℕ = print_section s.0.0.0 s.0.0.1 ++ s.0.1 in
    let ending : c.0.1 ≡ print_reason r.0 ++ (print_end d.0.0 ++ text) =
    rs.split ∙ ap (λ l. print_reason r.0 ++ l) (end_sound r.1 d.0 d.1 ∙ ap (λ l. print_end d.0.0 ++ l) ss.split) in
    let code : n.0.1 ≡ 32 ∷ (c.0.0 ++ (print_reason r.0 ++ (print_end d.0.0 ++ text))) =
    byte_sound 32 n.0.1 p.0 p.1 ∙ ap (λ l. 32 ∷ l) (cs.split ∙ ap (λ l. c.0.0 ++ l) ending) in
    let line : b.1 ≡ status_on k s.0.1 =
    bytes_sound (codes "HTTP/1.") b.1 v.0 v.1 ∙ ap (λ l. codes "HTTP/1." ++ l) (ns.1 ∙ ap (λ l. (48 + n.0.0) ∷ l) code) in
    let split : xs ≡ print_response k ++ s.0.1 =
    blank_sound xs ∙ ap (λ l. print_blank b.0 ++ l) line ∙ sym (response_split k s.0.1) in
    subst (ReadsPair xs) u (valid, split)
