-- What the text has is read.
use Rattle.std.proofs.Common.{◌≡◌, ◌≢◌, ℕ, ◌+◌, ◌*◌, ◌<◌, ◌++◌, List, [], ◌∷◌, length, true, false, nat_lt, Some, Ok, Err, pos, refl, ◌∙◌, sym, ap, append_assoc, append-nil, arith}
use Rattle.std.specs.Char.{digit_value}
use Rattle.std.specs.Str.Parse.{digits_value_after}
use Rattle.std.proofs.lemmas.Bool.{lt-ltb}
use Rattle.conf_lex.specs.declared.class.Class.{Class}
use Rattle.conf_lex.specs.declared.class.Class.TheVariants as c
use Rattle.conf_lex.specs.declared.token.TokenKind.TheVariants as k
use Rattle.conf_lex.specs.declared.token.Token.{Token}
use Rattle.conf_lex.specs.declared.held.Held.{Held}
use Rattle.conf_lex.specs.declared.held.Held.TheVariants as h
use Rattle.conf_lex.specs.Class.{class, in_word, is_digit, off_feed, is_quote, alone, double}
use Rattle.conf_lex.specs.Machine as mach
use Rattle.conf_lex.specs.Machine.{run, step, next, behind, begin, ended, Reply, Step, hold, more_digits, Digits, one_more}
use Rattle.conf_lex.specs.Tokens.{Text, at, line_after, Ends, NoDouble, Run, stop, go, Inside, closes, escaped, backslash, plain, Reads, here, blank, feed, comment, word, number, text, short_sign, long_sign}
use Rattle.conf_lex.proofs.Classes.{word_feed, digit_feed, is_a_feed, no_feed, begins_sign, alone_begins, double_begins, double_feed, sign_feed}

pub behind_none : (r : Reply) → behind [] r ≡ r
behind_none (Ok us) = refl
behind_none (Err n) = refl

pub behind_more : (ts us : List Token) (r : Reply) → behind ts (behind us r) ≡ behind (ts ++ us) r
behind_more ts us (Ok vs) = ap (λ (x : List Token). Ok x) (sym (append_assoc ts us vs))
behind_more ts us (Err n) = refl

-- A byte that ends a token begins as if nothing were held.
pub next_ended : (t : Token) (s : Step) (g : Held → Reply) → next (ended t s) g ≡ behind (t ∷ []) (next s g)
next_ended t (Ok p) g = sym (behind_more (t ∷ []) p.0 (g p.1))
next_ended t (Err n) g = refl

-- ---- words

word_run : {w bs mid : List ℕ} → Run in_word w bs mid → (n l : ℕ) (v : Text) → run bs n (h.Word l v) ≡ behind (at (k.Word (v ++ w)) l ∷ []) (run mid n h.Nothing)
word_run (stop {bs = []} e) n l v = ap (λ (y : Text). Ok (at (k.Word y) l ∷ [])) (sym (append-nil v))
word_run (stop {bs = b ∷ bs} e) n l v = rw (e, append-nil v) (next_ended (at (k.Word v) l) (begin (class b) b n) (run bs (line_after b n)))
word_run (go {b = b} {cs = cs} {bs = bs} {r = r} e q) n l v = rw (e, word_feed (class b) e) (behind_none _ ∙ word_run q n l (v ++ b ∷ []) ∙ ap (λ (y : Text). behind (at (k.Word y) l ∷ []) (run r n h.Nothing)) (append_assoc v (b ∷ []) cs))

-- ---- numbers

number_run : {w bs mid : List ℕ} → Run is_digit w bs mid → (n l i v : ℕ) → i + length w < 19 → run bs n (h.Number l (i, v)) ≡ behind (at (k.Number (pos (digits_value_after 10 v w))) l ∷ []) (run mid n h.Nothing)
number_run (stop {bs = []} e) n l i v lt = refl
number_run (stop {bs = b ∷ bs} e) n l i v lt = rw e (next_ended (at (k.Number (pos v)) l) (begin (class b) b n) (run bs (line_after b n)))
number_run (go {b = b} {cs = cs} {bs = bs} {r = r} e q) n l i v lt =
    let few : nat_lt i 18 ≡ true = lt-ltb i 18 (omega arith) in
    let fits : (i + 1) + length cs < 19 = omega arith in
    rw (e, few, digit_feed (class b) e) (behind_none _ ∙ number_run q n l (i + 1) (v * 10 + digit_value b) fits)

-- ---- comments

comment_run : {w bs mid : List ℕ} → Run off_feed w bs mid → (n : ℕ) → run bs n h.Comment ≡ run mid n h.Nothing
comment_run (stop {bs = []} e) n = refl
comment_run (stop {bs = b ∷ bs} e) n = let q = is_a_feed (class b) e in rw q refl
comment_run (go {b = b} {bs = bs} e q) n = rw (no_feed (class b) e) (behind_none _ ∙ comment_run q n)

-- ---- texts

pub backslash_step : (x : Class) → is_quote x ≡ false → (l : ℕ) (v : Text) (b : ℕ) → mach.backslash x l v b ≡ mach.quote x l (v ++ 92 ∷ []) b
backslash_step c.Quote e l v b = cc
backslash_step c.Backslash e l v b = refl
backslash_step _ e l v b = ap (λ (y : Text). hold (h.Quote l y)) (sym (append_assoc v (92 ∷ []) (b ∷ [])))

backslash_run : (bs : List ℕ) → Ends is_quote bs → (n l : ℕ) (v : Text) → run bs n (h.Backslash l v) ≡ run bs n (h.Quote l (v ++ 92 ∷ []))
backslash_run [] e n l v = refl
backslash_run (b ∷ bs) e n l v = ap (λ (y : Step). next y (run bs (line_after b n))) (backslash_step (class b) e l v b)

pub plain_step : (x : Class) → x ≢ c.Quote → x ≢ c.Backslash → (l : ℕ) (v : Text) (b : ℕ) → mach.quote x l v b ≡ hold (h.Quote l (v ++ b ∷ []))
plain_step c.Quote p q l v b = absurd (p refl)
plain_step c.Backslash p q l v b = absurd (q refl)
plain_step _ p q l v b = refl

inside_run : {n m : ℕ} {t bs r : List ℕ} → Inside n t bs m r → (l : ℕ) (v : Text) → run bs n (h.Quote l v) ≡ behind (at (k.Text (v ++ t)) l ∷ []) (run r m h.Nothing)
inside_run (closes e) l v = rw (e, append-nil v) refl
inside_run {n = n} {m = m} {r = r} (escaped {t = t} e f q) l v = rw (e, f) (behind_none _ ∙ behind_none _ ∙ inside_run q l (v ++ 34 ∷ []) ∙ ap (λ (y : Text). behind (at (k.Text y) l ∷ []) (run r m h.Nothing)) (append_assoc v (34 ∷ []) t))
inside_run {n = n} {m = m} {r = r} (backslash {t = t} {bs = bs} e f q) l v = rw e (behind_none _ ∙ backslash_run bs f n l v ∙ inside_run q l (v ++ 92 ∷ []) ∙ ap (λ (y : Text). behind (at (k.Text y) l ∷ []) (run r m h.Nothing)) (append_assoc v (92 ∷ []) t))
inside_run {n = n} {m = m} {r = r} (plain {b = b} {t = t} {bs = bs} e f q) l v =
    ap (λ (y : Step). next y (run bs (line_after b n))) (plain_step (class b) e f l v b) ∙ behind_none _ ∙ inside_run q l (v ++ b ∷ []) ∙ ap (λ (y : Text). behind (at (k.Text y) l ∷ []) (run r m h.Nothing)) (append_assoc v (b ∷ []) t)

-- ---- signs

pub begin_sign : (x : Class) → begins_sign x ≡ true → (b n : ℕ) → begin x b n ≡ hold (h.Sign n x)
begin_sign c.Equal e b n = refl
begin_sign c.Plus e b n = refl
begin_sign c.Not e b n = refl
begin_sign c.Dollar e b n = refl
begin_sign (c.Single s) e b n = refl
begin_sign _ e b n = cc

short_run : (x : Class) (s : ℕ) → alone x ≡ Some s → (bs : List ℕ) → NoDouble x bs → (n l : ℕ) → run bs n (h.Sign l x) ≡ behind (at (k.Sign s) l ∷ []) (run bs n h.Nothing)
short_run x s a [] e n l = rw a refl
short_run x s a (b ∷ bs) e n l = rw (e, a) (next_ended (at (k.Sign s) l) (begin (class b) b n) (run bs (line_after b n)))

long_run : (x : Class) (s b : ℕ) (bs : List ℕ) → double x (class b) ≡ Some s → (n l : ℕ) → run (b ∷ bs) n (h.Sign l x) ≡ behind (at (k.Sign s) l ∷ []) (run bs n h.Nothing)
long_run x s b bs e n l = rw (e, double_feed x (class b) s e) refl

sign_begun : (b n : ℕ) (bs : List ℕ) → begins_sign (class b) ≡ true → run (b ∷ bs) n h.Nothing ≡ run bs n (h.Sign n (class b))
sign_begun b n bs e = rw (begin_sign (class b) e b n, sign_feed (class b) e) (behind_none _)

-- ---- the whole

onto : (x : Token) (ts : List Token) (a b d : Reply) → a ≡ behind (x ∷ []) b → b ≡ behind ts d → a ≡ behind (x ∷ ts) d
onto x ts a b d p q = p ∙ ap (λ (y : Reply). behind (x ∷ []) y) q ∙ behind_more (x ∷ []) ts d

feed_read : (n b : ℕ) (bs : List ℕ) → class b ≡ c.Feed → run (b ∷ bs) n h.Nothing ≡ run bs (line_after b n) h.Nothing
feed_read n b bs e = ap (λ (y : Step). next y (run bs (line_after b n))) (ap (λ (y : Class). begin y b n) e) ∙ behind_none _

pub reads_run : {n m : ℕ} {bs r : List ℕ} {ts : List Token} → Reads n bs ts m r → run bs n h.Nothing ≡ behind ts (run r m h.Nothing)
reads_run here = sym (behind_none _)
reads_run (blank e q) = rw e (behind_none _ ∙ reads_run q)
reads_run {n = n} (feed {b = b} {bs = bs} e q) = feed_read n b bs e ∙ reads_run q
reads_run {n = n} (comment e p q) = rw e (behind_none _ ∙ comment_run p n ∙ reads_run q)
reads_run {n = n} (word {b = b} e p q) = onto _ _ _ _ _ (rw e (behind_none _ ∙ word_run p n n (b ∷ []))) (reads_run q)
reads_run {n = n} (number {b = b} e p lt q) = onto _ _ _ _ _ (rw e (behind_none _ ∙ number_run p n n 1 (0 * 10 + digit_value b) (omega arith))) (reads_run q)
reads_run {n = n} (text e p q) = onto _ _ _ _ _ (rw e (behind_none _ ∙ inside_run p n [])) (reads_run q)
reads_run {n = n} (short_sign {b = b} {s = s} {bs = bs} e f q) = onto _ _ _ _ _ (sign_begun b n bs (alone_begins (class b) s e) ∙ short_run (class b) s e bs f n n) (reads_run q)
reads_run {n = n} (long_sign {b = b} {d = d} {s = s} {bs = bs} e q) = onto _ _ _ _ _ (sign_begun b n (d ∷ bs) (double_begins (class b) (class d) s e) ∙ long_run (class b) s d bs e n n) (reads_run q)
