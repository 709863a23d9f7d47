-- Where the tokens of a text stand.
use Rattle.std.proofs.Common.{◌≡◌, ℕ, ◌+◌, ◌++◌, ◌==◌, List, [], ◌∷◌, count_by, Bool, true, false, cond, refl, ◌∙◌, sym, ap, subst, append_assoc, append-nil, arith}
use Rattle.std.specs.Prelude.{All}
use Rattle.std.proofs.lemmas.Bool.{eqb-false}
use Rattle.std.proofs.lemmas.List.Elements.{All-cons}
use Rattle.std.proofs.lemmas.List.Sums.{sum_by-append}
use Rattle.conf_lex.specs.declared.class.Class.{Class}
use Rattle.conf_lex.specs.declared.class.Class.TheVariants as c
use Rattle.conf_lex.specs.declared.token.Token.{Token}
use Rattle.conf_lex.specs.Class.{class, is_feed}
use Rattle.conf_lex.specs.Lines.{line_of, StandsIn}
use Rattle.conf_lex.specs.Tokens.{Text, line_after, line_by, line_behind, Run, stop, go, Inside, closes, escaped, backslash, plain, Reads, here, blank, feed, comment, word, number, text, short_sign, long_sign}
use Rattle.conf_lex.proofs.Bytes.{feed_10}
use Rattle.conf_lex.proofs.Classes.{same_line, no_feed, word_feed, digit_feed, sign_feed, alone_begins, double_begins, double_feed}

-- ---- lines by counting

a_feed : (x : Class) → is_feed x ≡ true → x ≡ c.Feed
a_feed c.Feed e = refl
a_feed _ e = cc

no_feed_by : (b : ℕ) (y : Bool) → is_feed (class b) ≡ y → (b == 10) ≡ false → is_feed (class b) ≡ false
no_feed_by b true f e = absurd (eqb-false b 10 e (feed_10 b (a_feed (class b) f)))
no_feed_by b false f e = f

-- a byte is a line feed where it is the byte 10
feed_is : (b : ℕ) (y : Bool) → (b == 10) ≡ y → is_feed (class b) ≡ y
feed_is b true e = rw e refl
feed_is b false e = no_feed_by b (is_feed (class b)) refl e

line_step_by : (front : Text) (b : ℕ) (y : Bool) → (b == 10) ≡ y → line_of (front ++ b ∷ []) ≡ line_by y (line_of front)
line_step_by front b true e = let n : count_by (λ d. d == 10) (front ++ b ∷ []) ≡ count_by (λ d. d == 10) front + count_by (λ d. d == 10) (b ∷ []) = sum_by-append (λ d. cond (d == 10) 1 0) front (b ∷ []) in let one : count_by (λ d. d == 10) (b ∷ []) ≡ 1 = rw e refl in omega (arith, n, one)
line_step_by front b false e = let n : count_by (λ d. d == 10) (front ++ b ∷ []) ≡ count_by (λ d. d == 10) front + count_by (λ d. d == 10) (b ∷ []) = sum_by-append (λ d. cond (d == 10) 1 0) front (b ∷ []) in let none : count_by (λ d. d == 10) (b ∷ []) ≡ 0 = rw e refl in omega (arith, n, none)

line_step : (front : Text) (b : ℕ) → line_of (front ++ b ∷ []) ≡ line_after b (line_of front)
line_step front b = line_step_by front b (b == 10) refl ∙ ap (λ (y : Bool). line_by y (line_of front)) (sym (feed_is b (b == 10) refl))

line_steps : (bs front : Text) → line_of (front ++ bs) ≡ line_behind (line_of front) bs
line_steps [] front = ap line_of (append-nil front)
line_steps (b ∷ bs) front = ap line_of (sym (append_assoc front (b ∷ []) bs)) ∙ line_steps bs (front ++ b ∷ []) ∙ ap (λ (n : ℕ). line_behind n bs) (line_step front b)

pub lines_counted : (bs : List ℕ) → line_behind 1 bs ≡ line_of bs
lines_counted bs = sym (line_steps bs [])

-- ---- what is passed over

abbrev NoFeed : Text → Type 0
NoFeed [] = Unit {0}
NoFeed (b ∷ bs) = (is_feed (class b) ≡ false) × NoFeed bs

stays : (bs : Text) (n : ℕ) → NoFeed bs → line_behind n bs ≡ n
stays [] n h = refl
stays (b ∷ bs) n h = ap (λ (m : ℕ). line_behind m bs) (same_line (class b) n b refl h.0) ∙ stays bs n h.1

run_passed : {sort : Class → Bool} {w bs mid : List ℕ} → Run sort w bs mid → bs ≡ w ++ mid
run_passed (stop e) = refl
run_passed (go {b = b} e q) = ap (λ (y : List ℕ). b ∷ y) (run_passed q)

run_feed : {sort : Class → Bool} {w bs mid : List ℕ} → ((x : Class) → sort x ≡ true → is_feed x ≡ false) → Run sort w bs mid → NoFeed w
run_feed f (stop e) = tt
run_feed f (go {b = b} e q) = (f (class b) e, run_feed f q)

-- the bytes between quotation marks, with the closing one
data Passed (n : ℕ) (bs : List ℕ) (m : ℕ) (r : List ℕ) : Type 0 where
  passed : (w : Text) → bs ≡ w ++ r → m ≡ line_behind n w → Passed n bs m r

passed_one : {n m b : ℕ} {bs r : List ℕ} → Passed (line_after b n) bs m r → Passed n (b ∷ bs) m r
passed_one {b = b} (passed w e l) = passed (b ∷ w) (ap (λ (y : List ℕ). b ∷ y) e) l

passed_same : {n m b : ℕ} {bs r : List ℕ} (x : Class) → class b ≡ x → is_feed x ≡ false → Passed n bs m r → Passed n (b ∷ bs) m r
passed_same {n = n} {m = m} {b = b} {bs = bs} {r = r} x e f h = passed_one (subst (λ (y : ℕ). Passed y bs m r) (sym (same_line x n b e f)) h)

inside_passed : {n m : ℕ} {t bs r : List ℕ} → Inside n t bs m r → Passed n bs m r
inside_passed {n = n} {r = r} (closes {b = b} e) = passed_same c.Quote e refl (passed [] refl refl)
inside_passed (escaped e f q) = passed_same c.Backslash e refl (passed_same c.Quote f refl (inside_passed q))
inside_passed (backslash e f q) = passed_same c.Backslash e refl (inside_passed q)
inside_passed (plain e f q) = passed_one (inside_passed q)

-- ---- the tokens

module _ (whole : Text) where
  abbrev Stand : List Token → Type 0
  Stand ts = All (StandsIn whole) ts

  none_stand : Stand []
  none_stand k d lt = absurd (omega arith)

  -- a token that stands in front of a rest, and the ones behind it
  one_stands : (front rest : Text) (t : Token) (ts : List Token) (m : ℕ) → whole ≡ front ++ rest → t.line ≡ line_of front → Reads t.line rest (t ∷ ts) m [] → Stand ts → Stand (t ∷ ts)
  one_stands front rest t ts m split line first h = All-cons (StandsIn whole) t ts (record { front = front; rest = rest; split = split; line = line; others = ts; last_line = m; first = first }) h

  split_on : (front w rest : Text) → whole ≡ front ++ (w ++ rest) → whole ≡ (front ++ w) ++ rest
  split_on front w rest e = e ∙ sym (append_assoc front w rest)

  -- the line behind bytes with no line feed among them, and behind any
  line_stays : (front w : Text) (n : ℕ) → n ≡ line_of front → NoFeed w → n ≡ line_of (front ++ w)
  line_stays front w n e h = e ∙ sym (stays w (line_of front) h) ∙ sym (line_steps w front)

  line_goes : (front w : Text) (n m : ℕ) → n ≡ line_of front → m ≡ line_behind n w → m ≡ line_of (front ++ w)
  line_goes front w n m e h = h ∙ ap (λ (y : ℕ). line_behind y w) e ∙ sym (line_steps w front)

  ends_at : {r : List ℕ} {n m : ℕ} {bs : List ℕ} {ts : List Token} → r ≡ [] → Reads n bs ts m r → Reads n bs ts m []
  ends_at {n = n} {m = m} {bs = bs} {ts = ts} e q = subst (λ (y : List ℕ). Reads n bs ts m y) e q

  text_behind : {n o : ℕ} {bs mid : List ℕ} (ts : List Token) (front : Text) → whole ≡ front ++ bs → n ≡ line_of front → Passed n bs o mid
      → ((w : Text) → whole ≡ (front ++ w) ++ mid → o ≡ line_of (front ++ w) → Stand ts) → Stand ts
  text_behind {n = n} {o = o} {mid = mid} ts front e l (passed w s g) k = k w (split_on front w mid (e ∙ ap (λ (y : List ℕ). front ++ y) s)) (line_goes front w n o l g)

  stand : {n m : ℕ} {bs r : List ℕ} {ts : List Token} → Reads n bs ts m r → r ≡ [] → (front : Text) → whole ≡ front ++ bs → n ≡ line_of front → Stand ts
  stand here z front e l = none_stand
  stand {n = n} (blank {b = b} {bs = bs} f q) z front e l = stand q z (front ++ b ∷ []) (split_on front (b ∷ []) bs e) (line_stays front (b ∷ []) n l (ap is_feed f, tt))
  stand {n = n} (feed {b = b} {bs = bs} f q) z front e l = stand q z (front ++ b ∷ []) (split_on front (b ∷ []) bs e) (ap (line_after b) l ∙ sym (line_step front b))
  stand {n = n} (comment {b = b} {cs = cs} {mid = mid} f p q) z front e l = stand q z (front ++ b ∷ cs) (split_on front (b ∷ cs) mid (e ∙ ap (λ (y : List ℕ). front ++ b ∷ y) (run_passed p)))
      (line_stays front (b ∷ cs) n l (ap is_feed f, run_feed no_feed p))
  stand {n = n} {m = m} (word {b = b} {w = w} {bs = bs} {mid = mid} {ts = ts} f p q) z front e l = one_stands front (b ∷ bs) _ ts m e l (ends_at z (word f p q))
      (stand q z (front ++ b ∷ w) (split_on front (b ∷ w) mid (e ∙ ap (λ (y : List ℕ). front ++ b ∷ y) (run_passed p))) (line_stays front (b ∷ w) n l (ap is_feed f, run_feed word_feed p)))
  stand {n = n} {m = m} (number {b = b} {ds = ds} {bs = bs} {mid = mid} {ts = ts} f p lt q) z front e l = one_stands front (b ∷ bs) _ ts m e l (ends_at z (number {b = b} f p lt q))
      (stand q z (front ++ b ∷ ds) (split_on front (b ∷ ds) mid (e ∙ ap (λ (y : List ℕ). front ++ b ∷ y) (run_passed p))) (line_stays front (b ∷ ds) n l (ap is_feed f, run_feed digit_feed p)))
  stand {n = n} {m = m} (text {o = o} {b = b} {bs = bs} {mid = mid} {ts = ts} f p q) z front e l = one_stands front (b ∷ bs) _ ts m e l (ends_at z (text f p q)) (text_behind ts front e l (passed_same c.Quote f refl (inside_passed p)) (λ w s g. stand q z (front ++ w) s g))
  stand {n = n} {m = m} (short_sign {b = b} {s = s} {bs = bs} {ts = ts} f g q) z front e l = one_stands front (b ∷ bs) _ ts m e l (ends_at z (short_sign f g q))
      (stand q z (front ++ b ∷ []) (split_on front (b ∷ []) bs e) (line_stays front (b ∷ []) n l (sign_feed (class b) (alone_begins (class b) s f), tt)))
  stand {n = n} {m = m} (long_sign {b = b} {d = d} {s = s} {bs = bs} {ts = ts} f q) z front e l = one_stands front (b ∷ d ∷ bs) _ ts m e l (ends_at z (long_sign f q))
      (stand q z (front ++ b ∷ d ∷ []) (split_on front (b ∷ d ∷ []) bs e) (line_stays front (b ∷ d ∷ []) n l (sign_feed (class b) (double_begins (class b) (class d) s f), (double_feed (class b) (class d) s f, tt))))

pub tokens_stand : (whole : Text) (ts : List Token) (m : ℕ) → Reads 1 whole ts m [] → All (StandsIn whole) ts
tokens_stand whole ts m q = stand whole q refl [] refl refl
