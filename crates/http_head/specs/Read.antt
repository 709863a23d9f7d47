-- The head that the grammar of RFC 9112, sections 2 to 5, reads at the front, as a function of the
-- bytes: lines, words and fields in their order.
use Rattle.std.specs.Prelude.{ℕ, zero, suc, Bool, ◌&&◌, ◌==◌, List, [], ◌∷◌, length, Option, Some, None, option_map, option_and_then, if◌then◌else◌, codes}
use Rattle.std.specs.Str.{is_utf8}
use Rattle.httparse.specs.Grammar.{is_token_byte, is_uri_byte, is_value_byte, LineEnd, crlf, lf, Field, RequestHead}

infixl 10 ◌>>=◌
abbrev ◌>>=◌ : {A B : Type 0} → Option A → (A → Option B) → Option B
o >>= f = option_and_then f o

-- the bytes at the front that pass, and what follows them
abbrev pub run : (ℕ → Bool) → List ℕ → List ℕ
run test [] = []
run test (b ∷ bs) = if test b then b ∷ run test bs else []

abbrev pub after_run : (ℕ → Bool) → List ℕ → List ℕ
after_run test [] = []
after_run test (b ∷ bs) = if test b then after_run test bs else b ∷ bs

abbrev pub read_byte : ℕ → List ℕ → Option (List ℕ)
read_byte c [] = None
read_byte c (b ∷ bs) = if b == c then Some bs else None

abbrev pub read_bytes : List ℕ → List ℕ → Option (List ℕ)
read_bytes [] xs = Some xs
read_bytes (c ∷ cs) xs = option_and_then (read_bytes cs) (read_byte c xs)

abbrev pub read_end : List ℕ → Option (LineEnd × List ℕ)
read_end [] = None
read_end (b ∷ bs) = if b == 10 then Some (lf, bs) else (if b == 13 then option_map (λ r. (crlf, r)) (read_byte 10 bs) else None)

abbrev pub word_by : List ℕ → Option (List ℕ) → Option (List ℕ × List ℕ)
word_by [] r = None
word_by (b ∷ bs) r = option_map (λ s. (b ∷ bs, s)) r

-- one or more bytes that pass, and the byte that ends them
unfoldable pub read_word : (ℕ → Bool) → ℕ → List ℕ → Option (List ℕ × List ℕ)
read_word test stop xs = word_by (run test xs) (read_byte stop (after_run test xs))

unfoldable pub read_field : List ℕ → Option (Field × List ℕ)
read_field xs = do
  name ← read_word is_token_byte 58 xs
  end ← read_end (after_run is_value_byte name.1)
  Some (record { name = name.0; raw = run is_value_byte name.1; end = end.0 }, end.1)

abbrev pub Section : Type 0
Section = (List Field × LineEnd) × List ℕ

abbrev pub section_by : Option (LineEnd × List ℕ) → Option (Field × List ℕ) → (List ℕ → Option Section) → Option Section
section_by (Some e) f next = Some (([], e.0), e.1)
section_by None None next = None
section_by None (Some f) next = option_map (λ s. ((f.0 ∷ s.0.0, s.0.1), s.1)) (next f.1)

-- at most n lines
unfoldable pub read_section : ℕ → List ℕ → Option Section
read_section zero xs = None
read_section (suc n) xs = section_by (read_end xs) (read_field xs) (read_section n)

abbrev pub with_end : LineEnd → List LineEnd × List ℕ → List LineEnd × List ℕ
with_end e p = (e ∷ p.0, p.1)

abbrev pub read_blank : List ℕ → List LineEnd × List ℕ
read_blank [] = ([], [])
read_blank (a ∷ []) = if a == 10 then (lf ∷ [], []) else ([], a ∷ [])
read_blank (a ∷ b ∷ rest) = if a == 10 then with_end lf (read_blank (b ∷ rest)) else (if (a == 13) && (b == 10) then with_end crlf (read_blank rest) else ([], a ∷ b ∷ rest))

abbrev pub read_minor : List ℕ → Option (ℕ × List ℕ)
read_minor [] = None
read_minor (b ∷ bs) = if b == 48 then Some (0, bs) else (if b == 49 then Some (1, bs) else None)

-- the head at the front, and what follows it
unfoldable pub read_request : List ℕ → Option (RequestHead × List ℕ)
read_request xs = do
  method ← read_word is_token_byte 32 (read_blank xs).1
  target ← read_word is_uri_byte 32 method.1
  version ← read_bytes (codes "HTTP/1.") target.1
  minor ← read_minor version
  end ← read_end minor.1
  section ← read_section (suc (length end.1)) end.1
  if is_utf8 target.0
      then Some (record { blank = (read_blank xs).0; method = method.0; target = target.0; minor = minor.0; line_end = end.0; fields = section.0.0; last = section.0.1 }, section.1)
      else None
