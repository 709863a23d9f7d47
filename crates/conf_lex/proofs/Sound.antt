-- What is read is what the text has, and a refusal names the line where it is stuck.
use Rattle.std.proofs.Common.{◌≡◌, ◌≢◌, ℕ, ◌+◌, ◌<◌, ◌++◌, List, [], ◌∷◌, length, Bool, true, false, nat_lt, Option, Some, None, Ok, Err, pos, refl, ◌∙◌, sym, ap, subst, append_assoc, append-nil, arith}
use Rattle.std.specs.Str.Parse.{digits_value_after}
use Rattle.std.proofs.lemmas.Bool.{ltb-true, ltb-false}
use Rattle.conf_lex.specs.declared.class.Class.{Class}
use Rattle.conf_lex.specs.declared.class.Class.TheVariants as c
use Rattle.conf_lex.specs.declared.token.TokenKind.TheVariants as k
use Rattle.conf_lex.specs.declared.token.Token.{Token}
use Rattle.conf_lex.specs.declared.held.Held.{Held}
use Rattle.conf_lex.specs.declared.held.Held.TheVariants as h
use Rattle.conf_lex.specs.Class.{class, in_word, is_digit, is_feed, off_feed, is_quote, alone, double}
use Rattle.conf_lex.specs.Machine as mach
use Rattle.conf_lex.specs.Machine.{run, step, next, behind, begin, ended, Reply, Step, hold, more_digits, Digits, one_more, finish_sign}
use Rattle.conf_lex.specs.Tokens.{Text, at, line_after, NoDouble, Run, stop, go, Inside, closes, escaped, backslash, plain, Reads, here, blank, feed, comment, word, number, text, short_sign, long_sign, Reading}
use Rattle.conf_lex.proofs.Classes.{word_feed, digit_feed, is_a_quote, begins_sign, alone_begins, double_begins, double_feed, same_line}
use Rattle.conf_lex.proofs.Complete.{behind_none, next_ended, backslash_step}

-- ---- where nothing can be read

-- a byte that begins nothing
abbrev is_stray : Class → Bool
is_stray c.Joint = true
is_stray c.Backslash = true
is_stray c.Greater = true
is_stray c.Tilde = true
is_stray c.Caret = true
is_stray c.Other = true
is_stray _ = false

stray_sign : (x : Class) → is_stray x ≡ true → begins_sign x ≡ true → ⊥
stray_sign c.Equal s e = cc
stray_sign c.Plus s e = cc
stray_sign c.Not s e = cc
stray_sign c.Dollar s e = cc
stray_sign (c.Single t) s e = cc
stray_sign _ s e = cc

stray_none : {n m b : ℕ} {bs r : List ℕ} {ts : List Token} → is_stray (class b) ≡ true → Reads n (b ∷ bs) ts m r → r ≡ b ∷ bs
stray_none s here = refl
stray_none s (blank e q) = let z = ap is_stray e in absurd cc
stray_none s (feed e q) = let z = ap is_stray e in absurd cc
stray_none s (comment e p q) = let z = ap is_stray e in absurd cc
stray_none s (word e p q) = let z = ap is_stray e in absurd cc
stray_none s (number e p lt q) = let z = ap is_stray e in absurd cc
stray_none s (text e p q) = let z = ap is_stray e in absurd cc
stray_none {b = b} s (short_sign {s = t} e f q) = absurd (stray_sign (class b) s (alone_begins (class b) t e))
stray_none {b = b} s (long_sign {d = d} {s = t} e q) = absurd (stray_sign (class b) s (double_begins (class b) (class d) t e))

abbrev Unclosed : ℕ → List ℕ → Type 0
Unclosed n bs = (t : Text) (m : ℕ) (r : List ℕ) → Inside n t bs m r → ⊥

quote_none : {n m b : ℕ} {bs r : List ℕ} {ts : List Token} → class b ≡ c.Quote → Unclosed n bs → Reads n (b ∷ bs) ts m r → r ≡ b ∷ bs
quote_none s u here = refl
quote_none s u (blank e q) = cc
quote_none s u (feed e q) = cc
quote_none s u (comment e p q) = cc
quote_none s u (word e p q) = cc
quote_none s u (number e p lt q) = cc
quote_none s u (text e p q) = absurd (u _ _ _ p)
quote_none {b = b} s u (short_sign {s = t} e f q) = let y = alone_begins (class b) t e in let z = ap begins_sign s in absurd cc
quote_none {b = b} s u (long_sign {d = d} {s = t} e q) = let y = double_begins (class b) (class d) t e in let z = ap begins_sign s in absurd cc

-- the longest run is one
run_one : {sort : Class → Bool} {cs ds bs r s : List ℕ} → Run sort cs bs r → Run sort ds bs s → cs ≡ ds
run_one (stop e) (stop f) = refl
run_one (stop e) (go f q) = cc
run_one (go e p) (stop f) = cc
run_one (go {b = b} e p) (go f q) = ap (λ (y : Text). b ∷ y) (run_one p q)

long_none : {n m b : ℕ} {ds bs mid r : List ℕ} {ts : List Token} → class b ≡ c.Digit → Run is_digit ds bs mid → 17 < length ds → Reads n (b ∷ bs) ts m r → r ≡ b ∷ bs
long_none s p lt here = refl
long_none s p lt (blank e q) = cc
long_none s p lt (feed e q) = cc
long_none s p lt (comment e o q) = cc
long_none s p lt (word e o q) = cc
long_none s p lt (number e o few q) = let same : length _ ≡ length _ = ap length (run_one o p) in absurd (omega arith)
long_none s p lt (text e o q) = cc
long_none {b = b} s p lt (short_sign {s = t} e f q) = let y = alone_begins (class b) t e in let z = ap begins_sign s in absurd cc
long_none {b = b} s p lt (long_sign {d = d} {s = t} e q) = let y = double_begins (class b) (class d) t e in let z = ap begins_sign s in absurd cc

-- the first byte of a sign that is no sign alone, with no second one
bare_none : {n m b : ℕ} {bs r : List ℕ} {ts : List Token} → begins_sign (class b) ≡ true → alone (class b) ≡ None → NoDouble (class b) bs → Reads n (b ∷ bs) ts m r → r ≡ b ∷ bs
bare_none s a u here = refl
bare_none s a u (blank e q) = let z = ap begins_sign e in absurd cc
bare_none s a u (feed e q) = let z = ap begins_sign e in absurd cc
bare_none s a u (comment e p q) = let z = ap begins_sign e in absurd cc
bare_none s a u (word e p q) = let z = ap begins_sign e in absurd cc
bare_none s a u (number e p lt q) = let z = ap begins_sign e in absurd cc
bare_none s a u (text e p q) = let z = ap begins_sign e in absurd cc
bare_none s a u (short_sign e f q) = absurd cc
bare_none s a u (long_sign e q) = absurd cc

-- ---- what is still to come, for what is held

data RestWord (l : ℕ) (v : Text) (n : ℕ) (bs : List ℕ) : Reply → Type 0 where
  rest_word : (w mid : List ℕ) (rep : Reply) → Run in_word w bs mid → Reading n mid rep → RestWord l v n bs (behind (at (k.Word (v ++ w)) l ∷ []) rep)

data RestNumber (l : ℕ) (v : Digits) (n : ℕ) (bs : List ℕ) : Reply → Type 0 where
  rest_number : (w mid : List ℕ) (rep : Reply) → Run is_digit w bs mid → v.0 + length w < 19 → Reading n mid rep
      → RestNumber l v n bs (behind (at (k.Number (pos (digits_value_after 10 v.1 w))) l ∷ []) rep)
  too_long : (w mid : List ℕ) → Run is_digit w bs mid → 18 < v.0 + length w → RestNumber l v n bs (Err l)

data RestQuote (l : ℕ) (v : Text) (n : ℕ) (bs : List ℕ) : Reply → Type 0 where
  rest_quote : (t mid : List ℕ) (m : ℕ) (rep : Reply) → Inside n t bs m mid → Reading m mid rep → RestQuote l v n bs (behind (at (k.Text (v ++ t)) l ∷ []) rep)
  unclosed : Unclosed n bs → RestQuote l v n bs (Err l)

data RestComment (n : ℕ) (bs : List ℕ) : Reply → Type 0 where
  rest_comment : (w mid : List ℕ) (rep : Reply) → Run off_feed w bs mid → Reading n mid rep → RestComment n bs rep

abbrev Rest : Held → ℕ → List ℕ → Reply → Type 0
Rest h.Nothing n bs rep = Reading n bs rep
Rest h.Comment n bs rep = RestComment n bs rep
Rest (h.Word l v) n bs rep = RestWord l v n bs rep
Rest (h.Number l v) n bs rep = v.0 < 19 → RestNumber l v n bs rep
Rest (h.Quote l v) n bs rep = RestQuote l v n bs rep
Rest (h.Backslash l v) n bs rep = (b : ℕ) → class b ≡ c.Backslash → RestQuote l v n (b ∷ bs) rep
Rest (h.Sign l x) n bs rep = (b : ℕ) → class b ≡ x → begins_sign x ≡ true → l ≡ n → Reading n (b ∷ bs) rep

reading_map : {p n : ℕ} {us ws : List ℕ} → ((ts : List Token) (m : ℕ) (r : List ℕ) → Reads p us ts m r → Reads n ws ts m r) → (rep : Reply) → Reading p us rep → Reading n ws rep
reading_map f (Ok ts) q = (q.0, f ts q.0 [] q.1)
reading_map f (Err l) q = (q.0, q.1, f q.0 l q.1 q.2, q.3)

reading_behind : {p n : ℕ} {us ws : List ℕ} (t : Token) → ((ts : List Token) (m : ℕ) (r : List ℕ) → Reads p us ts m r → Reads n ws (t ∷ ts) m r) → (rep : Reply) → Reading p us rep → Reading n ws (behind (t ∷ []) rep)
reading_behind t f (Ok ts) q = (q.0, f ts q.0 [] q.1)
reading_behind t f (Err l) q = (t ∷ q.0, q.1, f q.0 l q.1 q.2, q.3)

-- ---- the end of the text

no_inside : {n m : ℕ} {t r : List ℕ} → Inside n t [] m r → ⊥
no_inside q = elim q [ ]

backslash_end : {n m b : ℕ} {t r : List ℕ} → class b ≡ c.Backslash → Inside n t (b ∷ []) m r → ⊥
backslash_end s (closes e) = cc
backslash_end s (backslash e f q) = no_inside q
backslash_end s (plain e f q) = f s

sign_end : (l n b : ℕ) (a : Option ℕ) → alone (class b) ≡ a → begins_sign (class b) ≡ true → l ≡ n → Reading n (b ∷ []) (finish_sign a l)
sign_end l n b (Some s) e i p = subst (λ (y : ℕ). Reading n (b ∷ []) (Ok (at (k.Sign s) y ∷ []))) (sym p) (n, short_sign e tt here)
sign_end l n b None e i p = subst (λ (y : ℕ). Reading n (b ∷ []) (Err y)) (sym p) ([], b ∷ [], here, record { some = λ y. cc; none = λ ts m r q. bare_none i e tt q })

sign_end_by : (x : Class) (l n b : ℕ) → class b ≡ x → begins_sign x ≡ true → l ≡ n → Reading n (b ∷ []) (finish_sign (alone x) l)
sign_end_by x l n b e i p = sign_end l n b (alone x) (ap alone e) (ap begins_sign e ∙ i) p

end_back : (held : Held) (n : ℕ) → Rest held n [] (mach.finish held)
end_back h.Nothing n = (n, here)
end_back h.Comment n = rest_comment [] [] _ (stop tt) (n, here)
end_back (h.Word l v) n = subst (λ (y : Text). RestWord l v n [] (Ok (at (k.Word y) l ∷ []))) (append-nil v) (rest_word [] [] (Ok []) (stop tt) (n, here))
end_back (h.Number l v) n = λ lt. rest_number [] [] (Ok []) (stop tt) (omega arith) (n, here)
end_back (h.Quote l v) n = unclosed (λ t m r q. no_inside q)
end_back (h.Backslash l v) n = λ b e. unclosed (λ t m r q. backslash_end e q)
end_back (h.Sign l x) n = λ b e i p. sign_end_by x l n b e i p

-- ---- a byte

plain_not : {n m b : ℕ} {t bs r : List ℕ} → class b ≢ c.Quote → class b ≢ c.Backslash → Unclosed (line_after b n) bs → Inside n t (b ∷ bs) m r → ⊥
plain_not e f u (closes g) = e g
plain_not e f u (escaped g i q) = f g
plain_not e f u (backslash g i q) = f g
plain_not e f u (plain g i q) = u _ _ _ q

escaped_not : {n m a b : ℕ} {t bs r : List ℕ} → class a ≡ c.Backslash → class b ≡ c.Quote → Unclosed n bs → Inside n t (a ∷ b ∷ bs) m r → ⊥
escaped_not s e u (closes g) = cc
escaped_not s e u (escaped g i q) = u _ _ _ q
escaped_not s e u (backslash g i q) = let z = ap is_quote e in cc
escaped_not s e u (plain g i q) = i s

alone_not : {n m a b : ℕ} {t bs r : List ℕ} → class a ≡ c.Backslash → is_quote (class b) ≡ false → Unclosed n (b ∷ bs) → Inside n t (a ∷ b ∷ bs) m r → ⊥
alone_not s e u (closes g) = cc
alone_not s e u (escaped g i q) = let z = ap is_quote i in cc
alone_not s e u (backslash g i q) = u _ _ _ q
alone_not s e u (plain g i q) = i s

module _ (b : ℕ) (bs : List ℕ) (n : ℕ) (ih : (m : ℕ) (held : Held) → Rest held m bs (run bs m held)) where
  abbrev on : Held → Reply
  on held = run bs (line_after b n) held

  ihn : (x : Class) → class b ≡ x → is_feed x ≡ false → (held : Held) → Rest held n bs (on held)
  ihn x e nl held = subst (λ (m : ℕ). Rest held m bs (on held)) (same_line x n b e nl) (ih (line_after b n) held)

  quiet : (P : Reply → Type 0) (rep : Reply) → P rep → P (behind [] rep)
  quiet P rep p = subst P (sym (behind_none rep)) p

  word_start : (rep : Reply) → class b ≡ c.Letter → RestWord n (b ∷ []) n bs rep → Reading n (b ∷ bs) rep
  word_start rep e (rest_word w mid r p q) = reading_behind _ (λ ts m s o. word e p o) r q

  number_start : (rep : Reply) → class b ≡ c.Digit → RestNumber n (one_more (0, 0) b) n bs rep → Reading n (b ∷ bs) rep
  number_start rep e (rest_number w mid r p lt q) = reading_behind _ (λ ts m s o. number {b = b} e p (omega arith) o) r q
  number_start rep e (too_long w mid p lt) = ([], b ∷ bs, here, record { some = λ y. cc; none = λ ts m r q. long_none e p (omega arith) q })

  quote_start : (rep : Reply) → class b ≡ c.Quote → RestQuote n [] n bs rep → Reading n (b ∷ bs) rep
  quote_start rep e (rest_quote t mid m r p q) = reading_behind _ (λ ts m s o. text e p o) r q
  quote_start rep e (unclosed u) = ([], b ∷ bs, here, record { some = λ y. cc; none = λ ts m r q. quote_none e u q })

  comment_start : (rep : Reply) → class b ≡ c.Hash → RestComment n bs rep → Reading n (b ∷ bs) rep
  comment_start rep e (rest_comment w mid r p q) = reading_map (λ ts m s o. comment e p o) r q

  stray_start : is_stray (class b) ≡ true → Reading n (b ∷ bs) (Err n)
  stray_start s = ([], b ∷ bs, here, record { some = λ y. cc; none = λ ts m r q. stray_none s q })

  sign_start : (x : Class) → class b ≡ x → begins_sign x ≡ true → is_feed x ≡ false → Reading n (b ∷ bs) (behind [] (on (h.Sign n x)))
  sign_start x e i f = quiet (Reading n (b ∷ bs)) _ (ihn x e f (h.Sign n x) b e i refl)

  begin_back : (x : Class) → class b ≡ x → Reading n (b ∷ bs) (next (begin x b n) on)
  begin_back c.Blank e = quiet (Reading n (b ∷ bs)) _ (reading_map (λ ts m r q. blank e q) _ (ihn c.Blank e refl h.Nothing))
  begin_back c.Feed e = quiet (Reading n (b ∷ bs)) _ (reading_map (λ ts m r q. feed e q) _ (ih (line_after b n) h.Nothing))
  begin_back c.Hash e = quiet (Reading n (b ∷ bs)) _ (comment_start _ e (ihn c.Hash e refl h.Comment))
  begin_back c.Letter e = quiet (Reading n (b ∷ bs)) _ (word_start _ e (ihn c.Letter e refl (h.Word n (b ∷ []))))
  begin_back c.Digit e = quiet (Reading n (b ∷ bs)) _ (number_start _ e (ihn c.Digit e refl (h.Number n (one_more (0, 0) b)) (omega arith)))
  begin_back c.Quote e = quiet (Reading n (b ∷ bs)) _ (quote_start _ e (ihn c.Quote e refl (h.Quote n [])))
  begin_back c.Equal e = sign_start c.Equal e refl refl
  begin_back c.Plus e = sign_start c.Plus e refl refl
  begin_back c.Not e = sign_start c.Not e refl refl
  begin_back c.Dollar e = sign_start c.Dollar e refl refl
  begin_back (c.Single s) e = sign_start (c.Single s) e refl refl
  begin_back c.Joint e = stray_start (ap is_stray e)
  begin_back c.Backslash e = stray_start (ap is_stray e)
  begin_back c.Greater e = stray_start (ap is_stray e)
  begin_back c.Tilde e = stray_start (ap is_stray e)
  begin_back c.Caret e = stray_start (ap is_stray e)
  begin_back c.Other e = stray_start (ap is_stray e)

  start : Reading n (b ∷ bs) (next (begin (class b) b n) on)
  start = begin_back (class b) refl

  -- behind a token that ended before this byte
  started : (t : Token) → (P : Reply → Type 0) → P (behind (t ∷ []) (next (begin (class b) b n) on)) → P (next (ended t (begin (class b) b n)) on)
  started t P p = subst P (sym (next_ended t (begin (class b) b n) on)) p

  word_on : (l : ℕ) (v : Text) (rep : Reply) → in_word (class b) ≡ true → RestWord l (v ++ b ∷ []) n bs rep → RestWord l v n (b ∷ bs) rep
  word_on l v rep e (rest_word w mid r p q) = subst (λ (y : Text). RestWord l v n (b ∷ bs) (behind (at (k.Word y) l ∷ []) r)) (sym (append_assoc v (b ∷ []) w)) (rest_word (b ∷ w) mid r (go e p) q)

  word_back : (l : ℕ) (v : Text) (y : Bool) → in_word (class b) ≡ y → RestWord l v n (b ∷ bs) (next (mach.word y l v (class b) b n) on)
  word_back l v true e = quiet (RestWord l v n (b ∷ bs)) _ (word_on l v _ e (ihn (class b) refl (word_feed (class b) e) (h.Word l (v ++ b ∷ []))))
  word_back l v false e = started (at (k.Word v) l) (RestWord l v n (b ∷ bs))
      (subst (λ (y : Text). RestWord l v n (b ∷ bs) (behind (at (k.Word y) l ∷ []) (next (begin (class b) b n) on))) (append-nil v) (rest_word [] (b ∷ bs) _ (stop e) start))

  number_on : (l : ℕ) (v : Digits) (rep : Reply) → is_digit (class b) ≡ true → RestNumber l (one_more v b) n bs rep → RestNumber l v n (b ∷ bs) rep
  number_on l v rep e (rest_number w mid r p lt q) = rest_number (b ∷ w) mid r (go e p) (omega arith) q
  number_on l v rep e (too_long w mid p lt) = too_long (b ∷ w) mid (go e p) (omega arith)

  -- the run of digits goes on to some end
  digits : (us : List ℕ) → (w : List ℕ) × (mid : List ℕ) × Run is_digit w us mid
  digits [] = ([], [], stop tt)
  digits (x ∷ us) = digits_by x us (is_digit (class x)) refl (digits us) where
    digits_by : (x : ℕ) (us : List ℕ) (y : Bool) → is_digit (class x) ≡ y → ((w : List ℕ) × (mid : List ℕ) × Run is_digit w us mid) → (w : List ℕ) × (mid : List ℕ) × Run is_digit w (x ∷ us) mid
    digits_by x us true e q = (x ∷ q.0, q.1, go e q.2)
    digits_by x us false e q = ([], x ∷ us, stop e)

  digit_back : (l : ℕ) (v : Digits) (y : Bool) → is_digit (class b) ≡ true → nat_lt v.0 18 ≡ y → v.0 < 19 → RestNumber l v n (b ∷ bs) (next (more_digits y l v b) on)
  digit_back l v true e few lt = quiet (RestNumber l v n (b ∷ bs)) _ (number_on l v _ e (ihn (class b) refl (digit_feed (class b) e) (h.Number l (one_more v b))
      (let lv = ltb-true v.0 18 few in omega arith)))
  digit_back l v false e few lt = let d = digits bs in let many = ltb-false v.0 18 few in too_long (b ∷ d.0) d.1 (go e d.2) (omega arith)

  number_back : (l : ℕ) (v : Digits) (y : Bool) → is_digit (class b) ≡ y → v.0 < 19 → RestNumber l v n (b ∷ bs) (next (mach.number y l v (class b) b n) on)
  number_back l v true e lt = digit_back l v (nat_lt v.0 18) e refl lt
  number_back l v false e lt = started (at (k.Number (pos v.1)) l) (RestNumber l v n (b ∷ bs)) (rest_number [] (b ∷ bs) _ (stop e) (omega arith) start)

  comment_on : (rep : Reply) → off_feed (class b) ≡ true → RestComment n bs rep → RestComment n (b ∷ bs) rep
  comment_on rep e (rest_comment w mid r p q) = rest_comment (b ∷ w) mid r (go e p) q

  comment_back : (x : Class) → class b ≡ x → RestComment n (b ∷ bs) (next (mach.comment (is_feed x)) on)
  comment_back c.Feed e = rest_comment [] (b ∷ bs) _ (stop (ap off_feed e)) (begin_back c.Feed e)
  comment_back x e = quiet (RestComment n (b ∷ bs)) _ (comment_on _ (ap off_feed e) (ihn x e refl h.Comment))

  -- texts
  quote_plain : (l : ℕ) (v : Text) (rep : Reply) → class b ≢ c.Quote → class b ≢ c.Backslash → RestQuote l (v ++ b ∷ []) (line_after b n) bs rep → RestQuote l v n (b ∷ bs) rep
  quote_plain l v rep e f (rest_quote t mid m r p q) = subst (λ (y : Text). RestQuote l v n (b ∷ bs) (behind (at (k.Text y) l ∷ []) r)) (sym (append_assoc v (b ∷ []) t)) (rest_quote (b ∷ t) mid m r (plain e f p) q)
  quote_plain l v rep e f (unclosed u) = unclosed (λ t m r q. plain_not e f u q)

  quote_closed : (l : ℕ) (v : Text) (rep : Reply) → class b ≡ c.Quote → Reading n bs rep → RestQuote l v n (b ∷ bs) (behind (at (k.Text v) l ∷ []) rep)
  quote_closed l v rep e q = subst (λ (y : Text). RestQuote l v n (b ∷ bs) (behind (at (k.Text y) l ∷ []) rep)) (append-nil v) (rest_quote [] bs n rep (closes e) q)

  quote_back : (l : ℕ) (v : Text) (x : Class) → class b ≡ x → RestQuote l v n (b ∷ bs) (next (mach.quote x l v b) on)
  quote_back l v c.Quote e = quote_closed l v _ e (ihn c.Quote e refl h.Nothing)
  quote_back l v c.Backslash e = quiet (RestQuote l v n (b ∷ bs)) _ (ihn c.Backslash e refl (h.Backslash l v) b e)
  quote_back l v x e = quiet (RestQuote l v n (b ∷ bs)) _ (quote_plain l v _ (λ y. cc) (λ y. cc) (ih (line_after b n) (h.Quote l (v ++ b ∷ []))))

  -- behind a backslash `a`
  module _ (a : ℕ) (s : class a ≡ c.Backslash) where
    backslash_quote : (l : ℕ) (v : Text) (rep : Reply) → class b ≡ c.Quote → RestQuote l (v ++ 34 ∷ []) n bs rep → RestQuote l v n (a ∷ b ∷ bs) rep
    backslash_quote l v rep e (rest_quote t mid m r p q) = subst (λ (y : Text). RestQuote l v n (a ∷ b ∷ bs) (behind (at (k.Text y) l ∷ []) r)) (sym (append_assoc v (34 ∷ []) t)) (rest_quote (34 ∷ t) mid m r (escaped s e p) q)
    backslash_quote l v rep e (unclosed u) = unclosed (λ t m r q. escaped_not s e u q)

    -- a backslash that stands for itself
    backslash_alone : (l : ℕ) (v : Text) (rep : Reply) → is_quote (class b) ≡ false → RestQuote l (v ++ 92 ∷ []) n (b ∷ bs) rep → RestQuote l v n (a ∷ b ∷ bs) rep
    backslash_alone l v rep e (rest_quote t mid m r p q) = subst (λ (y : Text). RestQuote l v n (a ∷ b ∷ bs) (behind (at (k.Text y) l ∷ []) r)) (sym (append_assoc v (92 ∷ []) t)) (rest_quote (92 ∷ t) mid m r (backslash s e p) q)
    backslash_alone l v rep e (unclosed u) = unclosed (λ t m r q. alone_not s e u q)

    backslash_quoted : (l : ℕ) (v : Text) → class b ≡ c.Quote → RestQuote l v n (a ∷ b ∷ bs) (next (mach.backslash (class b) l v b) on)
    backslash_quoted l v e = subst (λ (y : Class). RestQuote l v n (a ∷ b ∷ bs) (next (mach.backslash y l v b) on)) (sym e)
        (quiet (RestQuote l v n (a ∷ b ∷ bs)) _ (backslash_quote l v _ e (ihn c.Quote e refl (h.Quote l (v ++ 34 ∷ [])))))

    backslash_by : (l : ℕ) (v : Text) (y : Bool) → is_quote (class b) ≡ y → RestQuote l v n (a ∷ b ∷ bs) (next (mach.backslash (class b) l v b) on)
    backslash_by l v true e = backslash_quoted l v (is_a_quote (class b) e)
    backslash_by l v false e = subst (λ (y : Step). RestQuote l v n (a ∷ b ∷ bs) (next y on)) (sym (backslash_step (class b) e l v b)) (backslash_alone l v _ e (quote_back l (v ++ 92 ∷ []) (class b) refl))

  -- behind the first byte `a` of a sign
  module _ (a : ℕ) (i : begins_sign (class a) ≡ true) where
    sign_by : (l : ℕ) → l ≡ n → (two one : Option ℕ) → double (class a) (class b) ≡ two → alone (class a) ≡ one → Reading n (a ∷ b ∷ bs) (next (mach.sign two one l (class b) b n) on)
    sign_by l p (Some s) one e f = subst (λ (y : ℕ). Reading n (a ∷ b ∷ bs) (behind (at (k.Sign s) y ∷ []) (on h.Nothing))) (sym p)
        (reading_behind _ (λ ts m r q. long_sign e q) _ (ihn (class b) refl (double_feed (class a) (class b) s e) h.Nothing))
    sign_by l p None (Some s) e f = subst (λ (y : ℕ). Reading n (a ∷ b ∷ bs) (next (ended (at (k.Sign s) y) (begin (class b) b n)) on)) (sym p)
        (started (at (k.Sign s) n) (Reading n (a ∷ b ∷ bs)) (reading_behind {p = n} {us = b ∷ bs} _ (λ ts m r q. short_sign f e q) _ start))
    sign_by l p None None e f = subst (λ (y : ℕ). Reading n (a ∷ b ∷ bs) (Err y)) (sym p) ([], a ∷ b ∷ bs, here, record { some = λ y. cc; none = λ ts m r q. bare_none i f e q })

  sign_back : (l a : ℕ) (x : Class) → class a ≡ x → begins_sign x ≡ true → l ≡ n → Reading n (a ∷ b ∷ bs) (next (mach.sign (double x (class b)) (alone x) l (class b) b n) on)
  sign_back l a x e i p = sign_by a (ap begins_sign e ∙ i) l p (double x (class b)) (alone x) (ap (λ (y : Class). double y (class b)) e) (ap alone e)

  step_back : (held : Held) → Rest held n (b ∷ bs) (next (step held (class b) b n) on)
  step_back h.Nothing = start
  step_back h.Comment = comment_back (class b) refl
  step_back (h.Word l v) = word_back l v (in_word (class b)) refl
  step_back (h.Number l v) = λ lt. number_back l v (is_digit (class b)) refl lt
  step_back (h.Quote l v) = quote_back l v (class b) refl
  step_back (h.Backslash l v) = λ a s. backslash_by a s l v (is_quote (class b)) refl
  step_back (h.Sign l x) = λ a e i p. sign_back l a x e i p

run_back : (bs : List ℕ) (n : ℕ) (held : Held) → Rest held n bs (run bs n held)
run_back [] n held = end_back held n
run_back (b ∷ bs) n held = step_back b bs n (run_back bs) held

-- The machine's answer is what the text has.
pub run_reads : (bs : List ℕ) (n : ℕ) → Reading n bs (run bs n h.Nothing)
run_reads bs n = run_back bs n h.Nothing
