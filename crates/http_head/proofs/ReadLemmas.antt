-- The function reads just what the grammar says.
use Rattle.std.proofs.Common.{◌≡◌, ℕ, zero, suc, ◌+◌, ◌<◌, ◌≤◌, Bool, true, false, cond, ◌&&◌, eqb, List, [], ◌∷◌, ◌++◌, length, All, Option, Some, None, sym, refl, ap, ◌∙◌, arith, subst}
use Rattle.std.specs.Prelude.{option_map, option_and_then, codes, IsTrue}
use Rattle.std.specs.List.{flat_map}
use Rattle.std.specs.Str.{is_utf8}
use Rattle.std.proofs.lemmas.List.{append_assoc, length-append}
use Rattle.std.proofs.lemmas.Option.{same_Some}
use Rattle.std.proofs.lemmas.Str.{IsUtf8-from_is_utf8, is_utf8-from_IsUtf8}
use Rattle.std.proofs.lemmas.Bool.{eq-eqb, eqb-true, ne_eqb}
use Rattle.std.proofs.lemmas.List.Elements.{All-head, All-tail, All-cons, All-nil}
use Rattle.httparse.specs.Grammar.{is_token_byte, is_uri_byte, is_value_byte, AllPass, LineEnd, crlf, lf, print_end, print_blank, print_version, Field, print_field, IsField, print_section, RequestHead, print_request, IsRequestHead, ReadsRequest}
use Rattle.httparse.proofs.PieceLemmas.{space_ends_token, colon_ends_token}
use Rattle.http_head.proofs.GrammarLemmas.{Starts, token_starts, run_of, section_split, head_split, rest_of_line}
use Rattle.http_head.specs.Read.{run, after_run, read_byte, read_bytes, read_end, word_by, read_word, read_field, Section, section_by, read_section, with_end, read_blank, read_minor, read_request}

-- ---- what is printed is read

run_at : (test : ℕ → Bool) (w : List ℕ) (stop : ℕ) (ys : List ℕ) → AllPass test w → test stop ≡ false → run test (w ++ stop ∷ ys) ≡ w
run_at test [] stop ys h n = rw n refl
run_at test (b ∷ w) stop ys h n = rw (All-head (λ b. IsTrue (test b)) b w h) (ap (λ t. b ∷ t) (run_at test w stop ys (All-tail (λ b. IsTrue (test b)) b w h) n))

after_run_at : (test : ℕ → Bool) (w : List ℕ) (stop : ℕ) (ys : List ℕ) → AllPass test w → test stop ≡ false → after_run test (w ++ stop ∷ ys) ≡ stop ∷ ys
after_run_at test [] stop ys h n = rw n refl
after_run_at test (b ∷ w) stop ys h n = rw (All-head (λ b. IsTrue (test b)) b w h) (after_run_at test w stop ys (All-tail (λ b. IsTrue (test b)) b w h) n)

word_at : (test : ℕ → Bool) (w : List ℕ) (stop : ℕ) (ys : List ℕ) → 0 < length w → AllPass test w → test stop ≡ false → read_word test stop (w ++ stop ∷ ys) ≡ Some (w, ys)
unfolding read_word
word_at test [] stop ys some h n = absurd (omega arith)
word_at test (b ∷ w) stop ys some h n =
    rw (run_at test (b ∷ w) stop ys h n, after_run_at test (b ∷ w) stop ys h n) (rw (eq-eqb stop stop refl) refl)

pub end_at : (e : LineEnd) (ys : List ℕ) → read_end (print_end e ++ ys) ≡ Some (e, ys)
end_at crlf ys = refl
end_at lf ys = refl

pub raw_at : (raw : List ℕ) (e : LineEnd) (ys : List ℕ) → AllPass is_value_byte raw → (run is_value_byte (raw ++ (print_end e ++ ys)) ≡ raw) × (after_run is_value_byte (raw ++ (print_end e ++ ys)) ≡ print_end e ++ ys)
raw_at raw crlf ys h = (run_at is_value_byte raw 13 (10 ∷ ys) h refl, after_run_at is_value_byte raw 13 (10 ∷ ys) h refl)
raw_at raw lf ys h = (run_at is_value_byte raw 10 ys h refl, after_run_at is_value_byte raw 10 ys h refl)

field_at : (f : Field) (ys : List ℕ) → IsField f → read_field (run_of f ++ (print_end f.end ++ ys)) ≡ Some (f, ys)
unfolding read_field
field_at f ys v =
    let tail : List ℕ = f.raw ++ (print_end f.end ++ ys) in
    let e : run_of f ++ (print_end f.end ++ ys) ≡ f.name ++ 58 ∷ tail = append_assoc f.name (58 ∷ f.raw) (print_end f.end ++ ys) in
    let r = raw_at f.raw f.end ys v.raw in
    rw (e, word_at is_token_byte f.name 58 tail v.name.0 v.name.1 colon_ends_token) (rw (r.1, r.0) (rw (end_at f.end ys) refl))

no_end : (m : ℕ) (ms : List ℕ) → Starts m → read_end (m ∷ ms) ≡ None
no_end m ms s = rw (ne_eqb m 10 s.0, ne_eqb m 13 s.1) refl

no_end_field : (name more : List ℕ) → 0 < length name → AllPass is_token_byte name → read_end (name ++ more) ≡ None
no_end_field [] more h pass = absurd (omega arith)
no_end_field (m ∷ ms) more h pass = no_end m (ms ++ more) (token_starts m (All-head (λ b. IsTrue (is_token_byte b)) m ms pass))

pub section_at : (n : ℕ) (fields : List Field) (last : LineEnd) (rest : List ℕ) → length fields < n → All IsField fields → read_section n (print_section fields last ++ rest) ≡ Some ((fields, last), rest)
unfolding read_section
section_at zero fields last rest room valid = absurd (omega arith)
section_at (suc n) [] last rest room valid = rw (end_at last rest) refl
section_at (suc n) (f ∷ fs) last rest room valid =
    let v = All-head IsField f fs valid in
    let tail : List ℕ = print_section fs last ++ rest in
    let none : read_end (run_of f ++ (print_end f.end ++ tail)) ≡ None =
    ap read_end (append_assoc f.name (58 ∷ f.raw) (print_end f.end ++ tail)) ∙ no_end_field f.name (58 ∷ (f.raw ++ (print_end f.end ++ tail))) v.name.0 v.name.1 in
    rw (section_split f fs last rest, none, field_at f tail v) (rw (section_at n fs last rest (omega arith) (All-tail IsField f fs valid)) refl)

pub blank_here : (m : ℕ) (ms : List ℕ) → Starts m → read_blank (m ∷ ms) ≡ ([], m ∷ ms)
blank_here m [] s = rw (ne_eqb m 10 s.0) refl
blank_here m (x ∷ ms) s = rw (ne_eqb m 10 s.0, ne_eqb m 13 s.1) refl

blank_lf : (xs : List ℕ) → read_blank (10 ∷ xs) ≡ with_end lf (read_blank xs)
blank_lf [] = refl
blank_lf (x ∷ xs) = refl

pub blank_at : (ends : List LineEnd) (m : ℕ) (ms : List ℕ) → Starts m → read_blank (print_blank ends ++ (m ∷ ms)) ≡ (ends, m ∷ ms)
blank_at [] m ms s = blank_here m ms s
blank_at (crlf ∷ ends) m ms s = ap (with_end crlf) (blank_at ends m ms s)
blank_at (lf ∷ ends) m ms s = blank_lf (print_blank ends ++ (m ∷ ms)) ∙ ap (with_end lf) (blank_at ends m ms s)

blank_token : (ends : List LineEnd) (name more : List ℕ) → 0 < length name → AllPass is_token_byte name → read_blank (print_blank ends ++ (name ++ more)) ≡ (ends, name ++ more)
blank_token ends [] more h pass = absurd (omega arith)
blank_token ends (m ∷ ms) more h pass = blank_at ends m (ms ++ more) (token_starts m (All-head (λ b. IsTrue (is_token_byte b)) m ms pass))

pub minor_at : (n : ℕ) (ys : List ℕ) → n ≤ 1 → read_minor ((48 + n) ∷ ys) ≡ Some (n, ys)
minor_at zero ys h = refl
minor_at (suc zero) ys h = refl
minor_at (suc (suc n)) ys h = absurd (omega arith)

pub fields_short : (fields : List Field) (last : LineEnd) (rest : List ℕ) → All IsField fields → length fields ≤ length (print_section fields last ++ rest)
fields_short [] last rest valid = omega arith
fields_short (f ∷ fs) last rest valid =
    let v = All-head IsField f fs valid in
    let tail : List ℕ = print_section fs last ++ rest in
    let ih : length fs ≤ length tail = fields_short fs last rest (All-tail IsField f fs valid) in
    let e : length (print_section (f ∷ fs) last ++ rest) ≡ length (run_of f ++ (print_end f.end ++ tail)) = ap length (section_split f fs last rest) in
    omega (arith, length-append (run_of f) (print_end f.end ++ tail), length-append (print_end f.end) tail, length-append f.name (58 ∷ f.raw), v.name.0)

line_split : (h : RequestHead) (tail : List ℕ) → rest_of_line h ++ tail ≡ 32 ∷ (h.target ++ 32 ∷ (print_version h.minor ++ tail))
line_split h tail = ap (λ r. 32 ∷ r) (append_assoc h.target (32 ∷ print_version h.minor) tail)

request_at : (h : RequestHead) (rest : List ℕ) → IsRequestHead h → read_request (print_request h ++ rest) ≡ Some (h, rest)
unfolding read_request
request_at h rest v =
    let text : List ℕ = print_section h.fields h.last ++ rest in
    let tail : List ℕ = print_end h.line_end ++ text in
    let line : List ℕ = h.target ++ 32 ∷ (print_version h.minor ++ tail) in
    let e : print_request h ++ rest ≡ print_blank h.blank ++ (h.method ++ 32 ∷ line) = head_split h rest ∙ ap (λ r. print_blank h.blank ++ (h.method ++ r)) (line_split h tail) in
    let b = blank_token h.blank h.method (32 ∷ line) v.method.0 v.method.1 in
    let m = word_at is_token_byte h.method 32 line v.method.0 v.method.1 space_ends_token in
    let t = word_at is_uri_byte h.target 32 (print_version h.minor ++ tail) v.target.0 v.target.1 refl in
    let s = section_at (suc (length text)) h.fields h.last rest (omega (arith, fields_short h.fields h.last rest v.fields)) v.fields in
    rw (e, b) (rw m (rw t (rw (minor_at h.minor tail v.minor, end_at h.line_end text) (rw s (rw (is_utf8-from_IsUtf8 h.target v.target_text) refl)))))

pub read_complete : (bytes : List ℕ) (h : RequestHead) (rest : List ℕ) → ReadsRequest bytes h rest → read_request bytes ≡ Some (h, rest)
read_complete bytes h rest r = ap read_request r.1 ∙ request_at h rest r.0

-- ---- what is read is printed so

pub bind_some : {A B : Type 0} (o : Option A) (f : A → Option B) (y : B) → option_and_then f o ≡ Some y → (x : A) × (o ≡ Some x) × (f x ≡ Some y)
bind_some None f y e = cc
bind_some (Some x) f y e = (x, refl, e)

pub map_some : {A B : Type 0} (o : Option A) (f : A → B) (y : B) → option_map f o ≡ Some y → (x : A) × (o ≡ Some x) × (f x ≡ y)
map_some None f y e = cc
map_some (Some x) f y e = (x, refl, same_Some (f x) y e)

pub run_split : (test : ℕ → Bool) (xs : List ℕ) → run test xs ++ after_run test xs ≡ xs
run_split test [] = refl
run_split test (b ∷ bs) = by (test b) (run_split test bs)
  where
    by : (t : Bool) → run test bs ++ after_run test bs ≡ bs → cond t (b ∷ run test bs) [] ++ cond t (after_run test bs) (b ∷ bs) ≡ b ∷ bs
    by true e = ap (λ r. b ∷ r) e
    by false e = refl

pub run_passes : (test : ℕ → Bool) (xs : List ℕ) → AllPass test (run test xs)
run_passes test [] = All-nil (λ b. IsTrue (test b))
run_passes test (b ∷ bs) = by (test b) refl (run_passes test bs)
  where
    by : (t : Bool) → test b ≡ t → AllPass test (run test bs) → AllPass test (cond t (b ∷ run test bs) [])
    by true e h = All-cons (λ b. IsTrue (test b)) b (run test bs) e h
    by false e h = All-nil (λ b. IsTrue (test b))

pub byte_sound : (c : ℕ) (xs r : List ℕ) → read_byte c xs ≡ Some r → xs ≡ c ∷ r
byte_sound c [] r e = cc
byte_sound c (b ∷ bs) r e = by (eqb b c) refl e
  where
    by : (t : Bool) → eqb b c ≡ t → cond t (Some bs) None ≡ Some r → b ∷ bs ≡ c ∷ r
    by true t e = ap (λ k. k ∷ bs) (eqb-true b c t) ∙ ap (λ s. c ∷ s) (same_Some bs r e)
    by false t e = cc

pub bytes_sound : (cs xs r : List ℕ) → read_bytes cs xs ≡ Some r → xs ≡ cs ++ r
bytes_sound [] xs r e = same_Some xs r e
bytes_sound (c ∷ cs) xs r e =
    let b = bind_some (read_byte c xs) (read_bytes cs) r e in
    byte_sound c xs b.0 b.1 ∙ ap (λ s. c ∷ s) (bytes_sound cs b.0 r b.2)

word_by_sound : (w : List ℕ) (o : Option (List ℕ)) (p : List ℕ × List ℕ) → word_by w o ≡ Some p → (0 < length w) × (w ≡ p.0) × (o ≡ Some p.1)
word_by_sound [] o p e = cc
word_by_sound (b ∷ bs) o p e =
    let m = map_some o (λ s. (b ∷ bs, s)) p e in
    (omega arith, ap (λ (q : List ℕ × List ℕ). q.0) m.2, m.1 ∙ ap (λ (q : List ℕ × List ℕ). Some q.1) m.2)

pub record IsWordIn (test : ℕ → Bool) (stop : ℕ) (xs : List ℕ) (p : List ℕ × List ℕ) : Type 0 where
  pub some : 0 < length p.0
  pub passes : AllPass test p.0
  pub split : xs ≡ p.0 ++ stop ∷ p.1

word_sound : (test : ℕ → Bool) (stop : ℕ) (xs : List ℕ) (p : List ℕ × List ℕ) → read_word test stop xs ≡ Some p → IsWordIn test stop xs p
unfolding read_word
word_sound test stop xs p e =
    let w = word_by_sound (run test xs) (read_byte stop (after_run test xs)) p e in
    record {
      some = subst (λ (r : List ℕ). 0 < length r) w.1 w.0;
      passes = subst (AllPass test) w.1 (run_passes test xs);
      split = sym (run_split test xs) ∙ ap (λ r. r ++ after_run test xs) w.1 ∙ ap (λ r. p.0 ++ r) (byte_sound stop (after_run test xs) p.1 w.2);
    }

pub end_sound : (xs : List ℕ) (p : LineEnd × List ℕ) → read_end xs ≡ Some p → xs ≡ print_end p.0 ++ p.1
end_sound [] p e = cc
end_sound (b ∷ bs) p e = by (eqb b 10) (eqb b 13) refl refl e
  where
    by : (x y : Bool) → eqb b 10 ≡ x → eqb b 13 ≡ y → cond x (Some (lf, bs)) (cond y (option_map (λ r. (crlf, r)) (read_byte 10 bs)) None) ≡ Some p → b ∷ bs ≡ print_end p.0 ++ p.1
    by true y ex ey e =
        let q : (lf, bs) ≡ p = same_Some (lf, bs) p e in
        ap (λ k. k ∷ bs) (eqb-true b 10 ex) ∙ ap (λ (r : LineEnd × List ℕ). print_end r.0 ++ r.1) q
    by false true ex ey e =
        let m = map_some (read_byte 10 bs) (λ r. (crlf, r)) p e in
        ap (λ k. k ∷ bs) (eqb-true b 13 ey) ∙ ap (λ r. 13 ∷ r) (byte_sound 10 bs m.0 m.1) ∙ ap (λ (r : LineEnd × List ℕ). print_end r.0 ++ r.1) m.2
    by false false ex ey e = cc

pub record IsFieldIn (xs : List ℕ) (p : Field × List ℕ) : Type 0 where
  pub valid : IsField p.0
  pub split : xs ≡ print_field p.0 ++ p.1

field_sound : (xs : List ℕ) (p : Field × List ℕ) → read_field xs ≡ Some p → IsFieldIn xs p
unfolding read_field
field_sound xs p e =
    let n = bind_some (read_word is_token_byte 58 xs) _ p e in
    let w = word_sound is_token_byte 58 xs n.0 n.1 in
    let d = bind_some (read_end (after_run is_value_byte n.0.1)) _ p n.2 in
    let raw : List ℕ = run is_value_byte n.0.1 in
    let f : Field = record { name = n.0.0; raw = raw; end = d.0.0 } in
    let q : (f, d.0.1) ≡ p = same_Some (f, d.0.1) p d.2 in
    let split : xs ≡ print_field f ++ d.0.1 =
    w.split ∙ ap (λ r. n.0.0 ++ 58 ∷ r) (sym (run_split is_value_byte n.0.1) ∙ ap (λ r. raw ++ r) (end_sound (after_run is_value_byte n.0.1) d.0 d.1))
    ∙ sym (append_assoc (n.0.0 ++ 58 ∷ raw) (print_end d.0.0) d.0.1 ∙ append_assoc n.0.0 (58 ∷ raw) (print_end d.0.0 ++ d.0.1)) in
    subst (IsFieldIn xs) q (record { valid = record { name = (w.some, w.passes); raw = run_passes is_value_byte n.0.1 }; split = split })

pub record IsSectionIn (xs : List ℕ) (p : Section) : Type 0 where
  pub valid : All IsField p.0.0
  pub split : xs ≡ print_section p.0.0 p.0.1 ++ p.1

assoc3 : (a b c d : List ℕ) → ((a ++ b) ++ c) ++ d ≡ a ++ ((b ++ c) ++ d)
assoc3 a b c d = simp append_assoc

pub section_sound : (n : ℕ) (xs : List ℕ) (p : Section) → read_section n xs ≡ Some p → IsSectionIn xs p
unfolding read_section
section_sound zero xs p e = cc
section_sound (suc n) xs p e = by (read_end xs) (read_field xs) (λ d. end_sound xs d) (λ f. field_sound xs f) (section_sound n) e
  where
    by : (o : Option (LineEnd × List ℕ)) (g : Option (Field × List ℕ)) → ((d : LineEnd × List ℕ) → o ≡ Some d → xs ≡ print_end d.0 ++ d.1) → ((f : Field × List ℕ) → g ≡ Some f → IsFieldIn xs f)
        → ((ys : List ℕ) (q : Section) → read_section n ys ≡ Some q → IsSectionIn ys q) → section_by o g (read_section n) ≡ Some p → IsSectionIn xs p
    by (Some d) g end field next e =
        subst (IsSectionIn xs) (same_Some (([], d.0), d.1) p e) (record { valid = All-nil IsField; split = end d refl })
    by None None end field next e = cc
    by None (Some f) end field next e =
        let m = map_some (read_section n f.1) (λ s. ((f.0 ∷ s.0.0, s.0.1), s.1)) p e in
        let i = field f refl in
        let s = next f.1 m.0 m.1 in
        subst (IsSectionIn xs) m.2 (record {
          valid = All-cons IsField f.0 m.0.0.0 i.valid s.valid;
          split = i.split ∙ ap (λ r. print_field f.0 ++ r) s.split ∙ sym (assoc3 (print_field f.0) (flat_map print_field m.0.0.0) (print_end m.0.0.1) m.0.1);
        })

abbrev pub IsBlankIn : List ℕ → List LineEnd × List ℕ → Type 0
IsBlankIn xs p = xs ≡ print_blank p.0 ++ p.1

pub blank_sound : (xs : List ℕ) → IsBlankIn xs (read_blank xs)
blank_sound [] = refl
blank_sound (a ∷ []) = by (eqb a 10) refl
  where
    by : (t : Bool) → eqb a 10 ≡ t → IsBlankIn (a ∷ []) (cond t (lf ∷ [], []) ([], a ∷ []))
    by true e = ap (λ k. k ∷ []) (eqb-true a 10 e)
    by false e = refl
blank_sound (a ∷ b ∷ rest) = by (eqb a 10) (eqb a 13) (eqb b 10) refl refl refl (blank_sound (b ∷ rest)) (blank_sound rest)
  where
    by : (x y z : Bool) → eqb a 10 ≡ x → eqb a 13 ≡ y → eqb b 10 ≡ z → IsBlankIn (b ∷ rest) (read_blank (b ∷ rest)) → IsBlankIn rest (read_blank rest)
        → IsBlankIn (a ∷ b ∷ rest) (cond x (with_end lf (read_blank (b ∷ rest))) (cond (y && z) (with_end crlf (read_blank rest)) ([], a ∷ b ∷ rest)))
    by true y z ex ey ez one two = ap (λ k. k ∷ b ∷ rest) (eqb-true a 10 ex) ∙ ap (λ r. 10 ∷ r) one
    by false true true ex ey ez one two = ap (λ k. k ∷ b ∷ rest) (eqb-true a 13 ey) ∙ ap (λ k. 13 ∷ k ∷ rest) (eqb-true b 10 ez) ∙ ap (λ r. 13 ∷ 10 ∷ r) two
    by false true false ex ey ez one two = refl
    by false false z ex ey ez one two = refl

pub minor_sound : (xs : List ℕ) (p : ℕ × List ℕ) → read_minor xs ≡ Some p → (p.0 ≤ 1) × (xs ≡ (48 + p.0) ∷ p.1)
minor_sound [] p e = cc
minor_sound (b ∷ bs) p e = by (eqb b 48) (eqb b 49) refl refl e
  where
    by : (x y : Bool) → eqb b 48 ≡ x → eqb b 49 ≡ y → cond x (Some (zero, bs)) (cond y (Some (suc zero, bs)) None) ≡ Some p → (p.0 ≤ 1) × (b ∷ bs ≡ (48 + p.0) ∷ p.1)
    by true y ex ey e =
        subst (λ (q : ℕ × List ℕ). (q.0 ≤ 1) × (b ∷ bs ≡ (48 + q.0) ∷ q.1)) (same_Some (zero, bs) p e) (omega arith, ap (λ k. k ∷ bs) (eqb-true b 48 ex))
    by false true ex ey e =
        subst (λ (q : ℕ × List ℕ). (q.0 ≤ 1) × (b ∷ bs ≡ (48 + q.0) ∷ q.1)) (same_Some (suc zero, bs) p e) (omega arith, ap (λ k. k ∷ bs) (eqb-true b 49 ey))
    by false false ex ey e = cc

abbrev ReadsPair : List ℕ → RequestHead × List ℕ → Type 0
ReadsPair xs p = ReadsRequest xs p.0 p.1

utf8_by : {A : Type 0} (t : List ℕ) (x y : A) → cond (is_utf8 t) (Some x) None ≡ Some y → (is_utf8 t ≡ true) × (x ≡ y)
utf8_by t x y e = by (is_utf8 t) refl e
  where
    by : (b : Bool) → is_utf8 t ≡ b → cond b (Some x) None ≡ Some y → (is_utf8 t ≡ true) × (x ≡ y)
    by true h e = (h, same_Some x y e)
    by false h e = cc

pub read_sound : (xs : List ℕ) (h : RequestHead) (rest : List ℕ) → read_request xs ≡ Some (h, rest) → ReadsRequest xs h rest
unfolding read_request print_request
read_sound xs h rest e =
    let b = read_blank xs in
    let m = bind_some (read_word is_token_byte 32 b.1) _ (h, rest) e in
    let t = bind_some (read_word is_uri_byte 32 m.0.1) _ (h, rest) m.2 in
    let v = bind_some (read_bytes (codes "HTTP/1.") t.0.1) _ (h, rest) t.2 in
    let n = bind_some (read_minor v.0) _ (h, rest) v.2 in
    let d = bind_some (read_end n.0.1) _ (h, rest) n.2 in
    let s = bind_some (read_section (suc (length d.0.1)) d.0.1) _ (h, rest) d.2 in
    let mw = word_sound is_token_byte 32 b.1 m.0 m.1 in
    let tw = word_sound is_uri_byte 32 m.0.1 t.0 t.1 in
    let ns = minor_sound v.0 n.0 n.1 in
    let ss = section_sound (suc (length d.0.1)) d.0.1 s.0 s.1 in
    let k : RequestHead = record { blank = b.0; method = m.0.0; target = t.0.0; minor = n.0.0; line_end = d.0.0; fields = s.0.0.0; last = s.0.0.1 } in
    let u = utf8_by t.0.0 (k, s.0.1) (h, rest) s.2 in
    let valid : IsRequestHead k = record { method = (mw.some, mw.passes); target = (tw.some, tw.passes); target_text = IsUtf8-from_is_utf8 t.0.0 u.0; minor = ns.0; fields = ss.valid } in
    let after : t.0.1 ≡ print_version n.0.0 ++ (print_end d.0.0 ++ (print_section s.0.0.0 s.0.0.1 ++ s.0.1)) =
    bytes_sound (codes "HTTP/1.") t.0.1 v.0 v.1
    ∙ ap (λ r. codes "HTTP/1." ++ r) (ns.1 ∙ ap (λ r. (48 + n.0.0) ∷ r) (end_sound n.0.1 d.0 d.1 ∙ ap (λ r. print_end d.0.0 ++ r) ss.split)) in
    let line : b.1 ≡ m.0.0 ++ 32 ∷ (t.0.0 ++ 32 ∷ (print_version n.0.0 ++ (print_end d.0.0 ++ (print_section s.0.0.0 s.0.0.1 ++ s.0.1)))) =
    mw.split ∙ ap (λ r. m.0.0 ++ 32 ∷ r) (tw.split ∙ ap (λ r. t.0.0 ++ 32 ∷ r) after) in
    let split : xs ≡ print_request k ++ s.0.1 =
    blank_sound xs ∙ ap (λ r. print_blank b.0 ++ r) line
    ∙ sym (head_split k s.0.1 ∙ ap (λ r. print_blank b.0 ++ (m.0.0 ++ r)) (line_split k (print_end d.0.0 ++ (print_section s.0.0.0 s.0.0.1 ++ s.0.1)))) in
    subst (ReadsPair xs) u.1 (valid, split)
