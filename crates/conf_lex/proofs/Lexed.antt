-- What every token of a text is, and that it is read again where it is written out.
use Rattle.std.proofs.Common.{◌≡◌, ◌≢◌, ℕ, ◌^◌, ◌<◌, ◌≤◌, ◌++◌, List, [], ◌∷◌, length, Bool, true, false, ◌==◌, Some, pos, refl, ◌∙◌, sym, ap, subst, lit<, arith}
use Rattle.std.specs.Fmt.{decimal}
use Rattle.std.specs.Str.{IsUtf8}
use Rattle.std.specs.Str.Parse.{digits_value, AllDigits}
use Rattle.std.proofs.lemmas.Bool.{ne_eqb, eqb-false}
use Rattle.std.proofs.lemmas.Fmt.{decimal_is_IsNumeral, length-decimal-le}
use Rattle.std.proofs.lemmas.Int.Digits.{digits_value-lt}
use Rattle.std.proofs.lemmas.Str.{IsUtf8-nil}
use Rattle.std.proofs.lemmas.Str.Parse.{digit_from_value}
use Rattle.std.proofs.Math.Nat.{pow-le-pow_right}
use Rattle.conf_lex.specs.declared.class.Class.{Class}
use Rattle.conf_lex.specs.declared.class.Class.TheVariants as c
use Rattle.conf_lex.specs.declared.token.TokenKind.{TokenKind}
use Rattle.conf_lex.specs.declared.token.TokenKind.TheVariants as k
use Rattle.conf_lex.specs.declared.token.Token.{Token}
use Rattle.conf_lex.specs.Class.{class, in_word, is_digit, off_feed, is_quote, alone, double}
use Rattle.conf_lex.specs.Spelling.{escaped, inside}
use Rattle.conf_lex.specs.Tokens.{Text, at, line_after, line_behind, Ends, Run, stop, go, Inside, closes, escaped as escape, backslash, plain, Reads, here, blank, feed, comment, word, number, text, short_sign, long_sign}
use Rattle.conf_lex.proofs.Bytes.{low_class, low_sort, quote_34, backslash_92, digit_small, digit_class, tail_utf8, front_utf8, back_utf8}
use Rattle.conf_lex.proofs.Classes.{same_line, is_a_digit}

-- ---- words

abbrev pub AllOf : (Class → Bool) → Text → Type 0
AllOf sort [] = Unit {0}
AllOf sort (b ∷ w) = (sort (class b) ≡ true) × AllOf sort w

pub run_all : {sort : Class → Bool} {w bs mid : List ℕ} → Run sort w bs mid → AllOf sort w
run_all (stop e) = tt
run_all (go e q) = (e, run_all q)

pub all_run : (sort : Class → Bool) (w bs : List ℕ) → AllOf sort w → Ends sort bs → Run sort w (w ++ bs) bs
all_run sort [] bs h e = stop e
all_run sort (b ∷ w) bs h e = go h.0 (all_run sort w bs h.1 e)

abbrev pub IsWord : Text → Type 0
IsWord [] = ⊥
IsWord (b ∷ w) = (class b ≡ c.Letter) × AllOf in_word w

-- ---- texts

-- a text between quotation marks ends in no backslash
abbrev pub IsClosed : Text → Type 0
IsClosed [] = Unit {0}
IsClosed (b ∷ []) = class b ≢ c.Backslash
IsClosed (b ∷ d ∷ t) = IsClosed (d ∷ t)

closed_more : (b : ℕ) (t : Text) → t ≢ [] → IsClosed t → IsClosed (b ∷ t)
closed_more b [] n h = absurd (n refl)
closed_more b (d ∷ t) n h = h

no_close : {n m : ℕ} {bs r : List ℕ} → Ends is_quote bs → Inside n [] bs m r → ⊥
no_close e (closes f) = let z = ap is_quote f in cc

not_empty : {n m : ℕ} {t bs r : List ℕ} → Ends is_quote bs → Inside n t bs m r → t ≢ []
not_empty {n = n} {m = m} {bs = bs} {r = r} e q = λ z. no_close e (subst (λ (y : Text). Inside n y bs m r) z q)

inside_closed : {n m : ℕ} {t bs r : List ℕ} → Inside n t bs m r → IsClosed t
inside_closed (closes e) = tt
inside_closed (escape {t = []} e f q) = λ z. cc
inside_closed (escape {t = d ∷ t} e f q) = inside_closed q
inside_closed (backslash {t = t} e f q) = closed_more 92 t (not_empty f q) (inside_closed q)
inside_closed (plain {t = []} e f q) = f
inside_closed (plain {t = d ∷ t} e f q) = inside_closed q

plain_escaped : (b : ℕ) → b ≢ 34 → escaped b ≡ b ∷ []
plain_escaped b n = rw (ne_eqb b 34 n) refl

not_34 : (b : ℕ) → class b ≢ c.Quote → b ≢ 34
not_34 b n e = n (ap class e)

-- what stands between the quotation marks is the text as it is written
inside_is : {n m : ℕ} {t bs r : List ℕ} → Inside n t bs m r → bs ≡ inside t ++ (34 ∷ r)
inside_is {r = r} (closes {b = b} e) = ap (λ (y : ℕ). y ∷ r) (quote_34 b e)
inside_is (escape {b = b} {d = d} e f q) = let p = backslash_92 b e in let s = quote_34 d f in rw (p, s, inside_is q) refl
inside_is (backslash {b = b} e f q) = let p = backslash_92 b e in rw (p, inside_is q) refl
inside_is {r = r} (plain {b = b} {t = t} e f q) = rw (plain_escaped b (not_34 b e), inside_is q) refl

-- ---- numbers

digits_all : (ds : Text) → AllOf is_digit ds → AllDigits 10 ds
digits_all [] h = tt
digits_all (b ∷ ds) h = (digit_small b (is_a_digit (class b) h.0), digits_all ds h.1)

all_digits : (ds : Text) → AllDigits 10 ds → AllOf is_digit ds
all_digits [] h = tt
all_digits (b ∷ ds) h = let q = digit_from_value b h.0 in (ap is_digit (digit_class b q.0 q.1), all_digits ds h.1)

-- ---- tokens

unfoldable pub IsLexed : TokenKind → Type 0
IsLexed (k.Word w) = IsWord w
IsLexed (k.Text t) = IsClosed t × IsUtf8 (inside t)
IsLexed (k.Number z) = (n : ℕ) × (z ≡ pos n) × (n < 10 ^ 18)
IsLexed (k.Sign s) = Unit {0}

abbrev pub AllLexed : List Token → Type 0
AllLexed [] = Unit {0}
AllLexed (t ∷ ts) = IsLexed t.kind × AllLexed ts

run_utf8 : (sort : Class → Bool) → sort c.Other ≡ false → {w bs mid : List ℕ} → Run sort w bs mid → IsUtf8 bs → IsUtf8 mid
run_utf8 sort o (stop e) u = u
run_utf8 sort o (go {b = b} {bs = bs} e q) u = run_utf8 sort o q (tail_utf8 b bs (low_sort sort o b e) u)

run_is : {sort : Class → Bool} {w bs mid : List ℕ} → Run sort w bs mid → bs ≡ w ++ mid
run_is (stop e) = refl
run_is (go {b = b} e q) = ap (λ (y : List ℕ). b ∷ y) (run_is q)

run_ends : {sort : Class → Bool} {w bs mid : List ℕ} → Run sort w bs mid → Ends sort mid
run_ends (stop e) = e
run_ends (go e q) = run_ends q

feed_low : (b : ℕ) → off_feed (class b) ≡ false → b < 128
feed_low b e = low_class b (λ z. let q = ap off_feed z in absurd cc)

comment_utf8 : (w : Text) (mid : List ℕ) → Ends off_feed mid → IsUtf8 (w ++ mid) → IsUtf8 mid
comment_utf8 w [] e u = IsUtf8-nil
comment_utf8 w (b ∷ mid) e u = back_utf8 w b mid (feed_low b e) u

number_small : (b : ℕ) (ds : Text) → class b ≡ c.Digit → AllOf is_digit ds → length ds < 18 → digits_value 10 (b ∷ ds) < 10 ^ 18
number_small b ds e h lt = let small = digits_value-lt 10 (b ∷ ds) (digits_all (b ∷ ds) (ap is_digit e, h)) in
    let top : 10 ^ length (b ∷ ds) ≤ 10 ^ 18 = pow-le-pow_right {n = 10} (lit< tt) {i = length (b ∷ ds)} {j = 18} (omega arith) in omega (arith, small, top)

-- every token of a text is lexed
pub reads_lexed : {n m : ℕ} {bs r : List ℕ} {ts : List Token} → Reads n bs ts m r → IsUtf8 bs → AllLexed ts
unfolding IsLexed
reads_lexed here u = tt
reads_lexed (blank {b = b} {bs = bs} e q) u = reads_lexed q (tail_utf8 b bs (low_class b (λ z. cc)) u)
reads_lexed (feed {b = b} {bs = bs} e q) u = reads_lexed q (tail_utf8 b bs (low_class b (λ z. cc)) u)
reads_lexed (comment {b = b} {cs = cs} {bs = bs} {mid = mid} e p q) u = reads_lexed q (comment_utf8 cs mid (run_ends p) (subst IsUtf8 (run_is p) (tail_utf8 b bs (low_class b (λ z. cc)) u)))
reads_lexed (word {b = b} {bs = bs} e p q) u = ((e, run_all p), reads_lexed q (run_utf8 in_word refl p (tail_utf8 b bs (low_class b (λ z. cc)) u)))
reads_lexed (number {b = b} {ds = ds} {bs = bs} e p lt q) u = ((digits_value 10 (b ∷ ds), refl, number_small b ds e (run_all p) lt), reads_lexed q (run_utf8 is_digit refl p (tail_utf8 b bs (low_class b (λ z. cc)) u)))
reads_lexed (text {b = b} {t = t} {bs = bs} {mid = mid} e p q) u = let v = subst IsUtf8 (inside_is p) (tail_utf8 b bs (low_class b (λ z. cc)) u) in
    ((inside_closed p, front_utf8 (inside t) 34 mid (lit< tt) v), reads_lexed q (tail_utf8 34 mid (lit< tt) (back_utf8 (inside t) 34 mid (lit< tt) v)))
reads_lexed (short_sign {b = b} {s = s} {bs = bs} e f q) u = (tt, reads_lexed q (tail_utf8 b bs (low_class b (λ z. let y = ap alone z in absurd cc)) u))
reads_lexed (long_sign {b = b} {d = d} {s = s} {bs = bs} e q) u = (tt, reads_lexed q (tail_utf8 d bs (double_low b d s e) (tail_utf8 b (d ∷ bs) (low_class b (λ z. let y = ap (λ x. double x (class d)) z in absurd cc)) u))) where
  double_other : (x : Class) (s : ℕ) → double x c.Other ≡ Some s → ⊥
  double_other c.Equal s e = cc
  double_other c.Plus s e = cc
  double_other c.Not s e = cc
  double_other _ s e = cc

  double_low : (b d s : ℕ) → double (class b) (class d) ≡ Some s → d < 128
  double_low b d s e = low_class d (λ z. double_other (class b) s (sym (ap (double (class b)) z) ∙ e))

-- ---- written out

-- what is written behind a backslash begins with no quotation mark
starts : (b : ℕ) (t r : List ℕ) → Ends is_quote (inside (b ∷ t) ++ r)
starts b t r = starts_by (b == 34) refl where
  starts_by : (y : Bool) → (b == 34) ≡ y → Ends is_quote (inside (b ∷ t) ++ r)
  starts_by true e = rw e refl
  starts_by false e = rw e (no_quote (class b) refl) where
    no_quote : (x : Class) → class b ≡ x → is_quote (class b) ≡ false
    no_quote c.Quote f = absurd (eqb-false b 34 e (quote_34 b f))
    no_quote x f = ap is_quote f

closed_tail : (b : ℕ) (t : Text) → IsClosed (b ∷ t) → IsClosed t
closed_tail b [] h = tt
closed_tail b (d ∷ t) h = h

behind_backslash : (b : ℕ) (t r : List ℕ) → class b ≡ c.Backslash → IsClosed (b ∷ t) → Ends is_quote (inside t ++ r)
behind_backslash b [] r e h = absurd (h e)
behind_backslash b (d ∷ t) r e h = starts d t r

inside_by : (x : Class) (b n : ℕ) (t r : List ℕ) → class b ≡ x → IsClosed (b ∷ t) → ((m : ℕ) → Inside m t (inside t ++ (34 ∷ r)) (line_behind m t) r)
    → Inside n (b ∷ t) (inside (b ∷ t) ++ (34 ∷ r)) (line_behind n (b ∷ t)) r
inside_by c.Quote b n t r e h ih = let p = quote_34 b e in let sl = same_line c.Quote n b e refl in rw (sl, p) (escape refl refl (ih n))
inside_by c.Backslash b n t r e h ih = let p = backslash_92 b e in let sl = same_line c.Backslash n b e refl in let ne : b ≢ 34 = not_34 b (λ z. cc) in
    rw (sl, plain_escaped b ne) (subst (λ (y : ℕ). Inside n (b ∷ t) (y ∷ (inside t ++ (34 ∷ r))) (line_behind n t) r) (sym p)
    (subst (λ (y : ℕ). Inside n (y ∷ t) (92 ∷ (inside t ++ (34 ∷ r))) (line_behind n t) r) (sym p) (backslash refl (behind_backslash b t (34 ∷ r) e h) (ih n))))
inside_by x b n t r e h ih = let no_quote : class b ≢ c.Quote = λ z. cc in let no_backslash : class b ≢ c.Backslash = λ z. cc in
    rw (plain_escaped b (not_34 b no_quote)) (plain no_quote no_backslash (ih (line_after b n)))

-- A text that is closed is read again between quotation marks.
pub inside_again : (t : Text) (n : ℕ) (r : List ℕ) → IsClosed t → Inside n t (inside t ++ (34 ∷ r)) (line_behind n t) r
inside_again [] n r h = closes refl
inside_again (b ∷ t) n r h = inside_by (class b) b n t r refl h (λ m. inside_again t m r (closed_tail b t h))

abbrev first_digit : Text → Type 0
first_digit [] = ⊥
first_digit (b ∷ ds) = (class b ≡ c.Digit) × AllOf is_digit ds

first_of : (ds : Text) → 0 < length ds → AllOf is_digit ds → first_digit ds
first_of [] lt h = absurd (omega arith)
first_of (b ∷ ds) lt h = (is_a_digit (class b) h.0, h.1)

number_by : (ds : Text) (n : ℕ) → first_digit ds → length ds ≤ 18 → digits_value 10 ds ≡ n → (l m : ℕ) (bs r : List ℕ) (ts : List Token) → Ends is_digit bs → Reads l bs ts m r → Reads l (ds ++ bs) (at (k.Number (pos n)) l ∷ ts) m r
number_by [] n h lt v l m bs r ts e q = absurd h
number_by (b ∷ ds) n h lt v l m bs r ts e q = subst (λ (y : ℕ). Reads l ((b ∷ ds) ++ bs) (at (k.Number (pos y)) l ∷ ts) m r) v (number h.0 (all_run is_digit ds bs h.1 e) (omega arith) q)

pub number_again : (n l m : ℕ) (bs r : List ℕ) (ts : List Token) → n < 10 ^ 18 → Ends is_digit bs → Reads l bs ts m r → Reads l (decimal n ++ bs) (at (k.Number (pos n)) l ∷ ts) m r
number_again n l m bs r ts lt e q = let fits : n < 2 ^ 64 = omega arith in let d = decimal_is_IsNumeral n fits in
    number_by (decimal n) n (first_of (decimal n) d.0.0 (all_digits (decimal n) d.0.1)) (length-decimal-le 18 n (lit< tt) lt fits) d.1 l m bs r ts e q

pub word_again : (w : Text) (l m : ℕ) (bs r : List ℕ) (ts : List Token) → IsWord w → Ends in_word bs → Reads l bs ts m r → Reads l (w ++ bs) (at (k.Word w) l ∷ ts) m r
word_again [] l m bs r ts h e q = absurd h
word_again (b ∷ w) l m bs r ts h e q = word h.0 (all_run in_word w bs h.1 e) q
