-- Pieces of printed text, and the tokens that they are read as.
use Rattle.std.proofs.Common.{◌≡◌, ℕ, zero, suc, ◌-◌, ◌^◌, ◌<◌, ◌++◌, List, [], ◌∷◌, Bool, true, false, ◌&&◌, nat_lt, ℤ, pos, codes, refl, sym, subst, append_assoc, lit<, arith}
use Rattle.std.specs.Fmt.{decimal, signed_decimal}
use Rattle.std.specs.Str.{IsUtf8, IsAscii}
use Rattle.std.proofs.lemmas.Bool.{ltb-true}
use Rattle.std.proofs.lemmas.Fmt.{IsAscii-decimal}
use Rattle.std.proofs.lemmas.Str.{IsUtf8-append, IsUtf8-nil, IsUtf8-from_ascii}
use Rattle.std.proofs.lemmas.Str.Ascii.{IsAscii-cons}
use Rattle.conf_lex.specs.declared.class.Class.{Class}
use Rattle.conf_lex.specs.declared.class.Class.TheVariants as c
use Rattle.conf_lex.specs.declared.token.TokenKind.{TokenKind}
use Rattle.conf_lex.specs.declared.token.TokenKind.TheVariants as k
use Rattle.conf_lex.specs.declared.token.Token.{Token}
use Rattle.conf_lex.specs.Class.{class, in_word, is_digit}
use Rattle.conf_lex.specs.Spelling.{inside, quoted}
use Rattle.conf_lex.specs.Tokens.{line_after, line_behind, Ends, NoDouble, Inside, Reads, blank, feed, text, short_sign, long_sign}
use Rattle.conf_lex.proofs.Bytes.{low_sort, low_class}
use Rattle.conf_lex.proofs.Lexed.{IsWord, IsClosed, AllOf, inside_again, number_again, word_again}
use Rattle.conf_value.specs.declared.condition.Op.{Op}
use Rattle.conf_value.specs.declared.condition.Op.TheVariants as op
use Rattle.conf_parse.specs.declared.symbol.Sign.{Sign}
use Rattle.conf_parse.specs.declared.symbol.Sign.TheVariants as g
use Rattle.conf_parse.specs.declared.symbol.Role.TheVariants as roles
use Rattle.conf_parse.specs.declared.symbol.Symbol.{Symbol}
use Rattle.conf_parse.specs.declared.symbol.Symbol.TheVariants as s
use Rattle.conf_parse.specs.Print.{op_text, assign_text, indent, margin}
use Rattle.conf_parse.specs.Grammar.{assign_of}
use Rattle.conf_parse.specs.Symbols.{Text, Mark, at, sign, marks, role_of}

-- what may stand behind a piece: no byte that goes on with a word or a number, or anything
abbrev pub Apart : List ℕ → Type 0
Apart bs = Ends in_word bs

abbrev pub Any : List ℕ → Type 0
Any bs = Unit {0}

-- The text, from this line on, is read as tokens whose terminals are such, whatever stands behind.
pub data Again (follows : List ℕ → Type 0) (P : List Mark → List Mark → Type 0) (piece : Text) (n : ℕ) : Type 0 where
  again : (us : List Token → List Token) (m : ℕ)
      → ((bs : List ℕ) (vs : List Token) (o : ℕ) (r : List ℕ) → follows bs → Reads m bs vs o r → Reads n (piece ++ bs) (us vs) o r)
      → ((vs : List Token) → P (marks (us vs)) (marks vs)) → IsUtf8 piece → Again follows P piece n

module _ {F G : List ℕ → Type 0} {P Q R : List Mark → List Mark → Type 0} {a b : Text} where
  join_by : {n m : ℕ} (us : List Token → List Token)
      → ((bs : List ℕ) (vs : List Token) (o : ℕ) (r : List ℕ) → F bs → Reads m bs vs o r → Reads n (a ++ bs) (us vs) o r)
      → ((vs : List Token) → P (marks (us vs)) (marks vs)) → IsUtf8 a
      → Again G Q b m → ((bs : List ℕ) → G bs → F (b ++ bs)) → ((ts mid r : List Mark) → P ts mid → Q mid r → R ts r) → Again G R (a ++ b) n
  join_by {n = n} us f p u (again vs o h q v) fits both = again (λ ws. us (vs ws)) o
      (λ bs ws k r gb hb. subst (λ (y : List ℕ). Reads n y (us (vs ws)) k r) (sym (append_assoc a b bs)) (f (b ++ bs) (vs ws) k r (fits bs gb) (h bs ws k r gb hb)))
      (λ ws. both _ _ _ (p (vs ws)) (q ws)) (IsUtf8-append a b u v)

  -- one piece behind another
  pub join : {n : ℕ} → Again F P a n → ((m : ℕ) → Again G Q b m) → ((bs : List ℕ) → G bs → F (b ++ bs)) → ((ts mid r : List Mark) → P ts mid → Q mid r → R ts r) → Again G R (a ++ b) n
  join (again us m f p u) h fits both = join_by us f p u (h m) fits both

-- one piece behind another, behind which anything may stand
pub behind : {G : List ℕ → Type 0} {P Q R : List Mark → List Mark → Type 0} {a b : Text} {n : ℕ} → Again Any P a n → ((m : ℕ) → Again G Q b m) → ((ts mid r : List Mark) → P ts mid → Q mid r → R ts r) → Again G R (a ++ b) n
behind h k both = join h k (λ bs g. tt) both

pub change : {F : List ℕ → Type 0} {P Q : List Mark → List Mark → Type 0} {a : Text} {n : ℕ} → ((ts r : List Mark) → P ts r → Q ts r) → Again F P a n → Again F Q a n
change f (again us m h p u) = again us m h (λ vs. f _ _ (p vs)) u

-- a piece behind which anything may stand
pub loosen : {F : List ℕ → Type 0} {P : List Mark → List Mark → Type 0} {a : Text} {n : ℕ} → Again Any P a n → Again F P a n
loosen (again us m h p u) = again us m (λ bs vs o r f q. h bs vs o r tt q) p u

pub respell : {F : List ℕ → Type 0} {P : List Mark → List Mark → Type 0} {a b : Text} {n : ℕ} → a ≡ b → Again F P a n → Again F P b n
respell {F = F} {P = P} {n = n} e h = subst (λ (y : Text). Again F P y n) e h

-- ---- what single pieces are read as

pub data Nothing : List Mark → List Mark → Type 0 where
  nothing : {r : List Mark} → Nothing r r

pub data OneSign (x : Sign) : List Mark → List Mark → Type 0 where
  one_sign : {l : ℕ} {r : List Mark} → OneSign x (sign x l ∷ r) r

pub data OneWord (w : Text) : List Mark → List Mark → Type 0 where
  one_word : {l : ℕ} {r : List Mark} → OneWord w (at (s.Word (role_of w) w) l ∷ r) r

pub data OneText (t : Text) : List Mark → List Mark → Type 0 where
  one_text : {l : ℕ} {r : List Mark} → OneText t (at (s.Text t) l ∷ r) r

pub data OneNumber (z : ℤ) : List Mark → List Mark → Type 0 where
  one_number : {l : ℕ} {r : List Mark} → OneNumber z (at (s.Number z) l ∷ r) r

abbrev token : TokenKind → ℕ → Token
token kind line = record { kind = kind; line = line }

abbrev is_low : Text → Bool
is_low [] = true
is_low (b ∷ bs) = nat_lt b 128 && is_low bs

both : (x y : Bool) → x && y ≡ true → (x ≡ true) × (y ≡ true)
both true true e = (refl, refl)
both true false e = cc
both false y e = cc

low_ascii : (bs : Text) → is_low bs ≡ true → IsAscii bs
low_ascii [] e = λ i. lit< tt
low_ascii (b ∷ bs) e = let q = both (nat_lt b 128) (is_low bs) e in IsAscii-cons b bs (ltb-true b 128 q.0) (low_ascii bs q.1)

pub low_utf8 : (bs : Text) → is_low bs ≡ true → IsUtf8 bs
low_utf8 bs e = IsUtf8-from_ascii bs (low_ascii bs e)

all_ascii : (w : Text) → AllOf in_word w → IsAscii w
all_ascii [] h = λ i. lit< tt
all_ascii (b ∷ w) h = IsAscii-cons b w (low_sort in_word refl b h.0) (all_ascii w h.1)

pub word_utf8 : (w : Text) → IsWord w → IsUtf8 w
word_utf8 [] h = absurd h
word_utf8 (b ∷ w) h = IsUtf8-from_ascii (b ∷ w) (IsAscii-cons b w (low_class b (λ z. cc)) (all_ascii w h.1))

pub word_piece : (w : Text) → IsWord w → (n : ℕ) → Again Apart (OneWord w) w n
word_piece w h n = again (λ vs. token (k.Word w) n ∷ vs) n (λ bs vs o r a q. word_again w n o bs r vs h a q) (λ vs. one_word) (word_utf8 w h)

pub text_piece : (t : Text) → IsClosed t × IsUtf8 (inside t) → (n : ℕ) → Again Any (OneText t) (quoted t) n
text_piece t h n = again (λ vs. token (k.Text t) n ∷ vs) (line_behind n t)
    (λ bs vs o r a q. text refl (subst (λ (y : List ℕ). Inside n t y (line_behind n t) bs) (sym (append_assoc (inside t) (34 ∷ []) bs)) (inside_again t n bs h.0)) q)
    (λ vs. one_text) (IsUtf8-append (34 ∷ []) (inside t ++ 34 ∷ []) (low_utf8 (34 ∷ []) refl) (IsUtf8-append (inside t) (34 ∷ []) h.1 (low_utf8 (34 ∷ []) refl)))

apart_digits : (bs : List ℕ) → Apart bs → Ends is_digit bs
apart_digits [] a = tt
apart_digits (b ∷ bs) a = no_digit (class b) a where
  no_digit : (x : Class) → in_word x ≡ false → is_digit x ≡ false
  no_digit c.Digit e = cc
  no_digit _ e = refl

pub number_piece : (z : ℤ) → (i : ℕ) × (z ≡ pos i) × (i < 10 ^ 18) → (n : ℕ) → Again Apart (OneNumber z) (signed_decimal z) n
number_piece z h n = subst (λ (y : ℤ). Again Apart (OneNumber y) (signed_decimal y) n) (sym h.1)
    (again (λ vs. token (k.Number (pos h.0)) n ∷ vs) n (λ bs vs o r a q. number_again h.0 n o bs r vs h.2 (apart_digits bs a) q) (λ vs. one_number)
    (IsUtf8-from_ascii (decimal h.0) (IsAscii-decimal h.0 (let lt = h.2 in omega arith))))

-- a sign between blanks, and the like
abbrev sign_piece : Sign → Text → Type 0
sign_piece x piece = (n : ℕ) → Again Any (OneSign x) piece n

pub plus_piece : sign_piece g.Plus (codes " + ")
plus_piece n = again (λ vs. token (k.Sign 3) n ∷ vs) n (λ bs vs o r a q. blank refl (short_sign refl refl (blank refl q))) (λ vs. one_sign) (low_utf8 _ refl)

pub arrow_piece : sign_piece g.Arrow (codes " => ")
arrow_piece n = again (λ vs. token (k.Sign 2) n ∷ vs) n (λ bs vs o r a q. blank refl (long_sign refl (blank refl q))) (λ vs. one_sign) (low_utf8 _ refl)

pub comma_piece : sign_piece g.Comma (codes ", ")
comma_piece n = again (λ vs. token (k.Sign 4) n ∷ vs) n (λ bs vs o r a q. short_sign refl refl (blank refl q)) (λ vs. one_sign) (low_utf8 _ refl)

pub open_piece : sign_piece g.OpenArray (codes "( ")
open_piece n = again (λ vs. token (k.Sign 5) n ∷ vs) n (λ bs vs o r a q. short_sign refl refl (blank refl q)) (λ vs. one_sign) (low_utf8 _ refl)

-- a sign that begins no other is read before anything
single_alone : (i : ℕ) (bs : List ℕ) → NoDouble (c.Single i) bs
single_alone i [] = tt
single_alone i (b ∷ bs) = refl

dollar_alone : (bs : List ℕ) → NoDouble c.Dollar bs
dollar_alone [] = tt
dollar_alone (b ∷ bs) = refl

pub close_piece : sign_piece g.CloseArray (codes " )")
close_piece n = again (λ vs. token (k.Sign 6) n ∷ vs) n (λ bs vs o r a q. blank refl (short_sign refl (single_alone 6 bs) q)) (λ vs. one_sign) (low_utf8 _ refl)

pub close_alone : sign_piece g.CloseArray (codes ")")
close_alone n = again (λ vs. token (k.Sign 6) n ∷ vs) n (λ bs vs o r a q. short_sign refl (single_alone 6 bs) q) (λ vs. one_sign) (low_utf8 _ refl)

-- terminals in a row, whatever their lines
pub data Row : List Symbol → List Mark → List Mark → Type 0 where
  row_end : {r : List Mark} → Row [] r r
  row_next : {x : Symbol} {xs : List Symbol} {l : ℕ} {ts r : List Mark} → Row xs ts r → Row (x ∷ xs) (at x l ∷ ts) r

row_append : {xs ys : List Symbol} {ts mid r : List Mark} → Row xs ts mid → Row ys mid r → Row (xs ++ ys) ts r
row_append row_end k = k
row_append (row_next h) k = row_next (row_append h k)

-- a first terminal on this line, and others in a row
pub data RowFrom (l : ℕ) (x : Symbol) (xs : List Symbol) : List Mark → List Mark → Type 0 where
  row_from : {ts r : List Mark} → Row xs ts r → RowFrom l x xs (at x l ∷ ts) r

pub more_row : {l : ℕ} {x : Symbol} {xs ys : List Symbol} {ts mid r : List Mark} → RowFrom l x xs ts mid → Row ys mid r → RowFrom l x (xs ++ ys) ts r
more_row (row_from h) k = row_from (row_append h k)

pub sign_row : {x : Sign} {ts r : List Mark} → OneSign x ts r → Row (s.Sign x ∷ []) ts r
sign_row one_sign = row_next row_end

pub word_row : {w : Text} {ts r : List Mark} → OneWord w ts r → Row (s.Word (role_of w) w ∷ []) ts r
word_row one_word = row_next row_end

pub text_row : {t : Text} {ts r : List Mark} → OneText t ts r → Row (s.Text t ∷ []) ts r
text_row one_text = row_next row_end

pub none_row : {ts r : List Mark} → Nothing ts r → Row [] ts r
none_row nothing = row_end

pub dollar_from : (n : ℕ) → Again Any (RowFrom n (s.Sign g.Dollar) []) (codes "$") n
dollar_from n = again (λ vs. token (k.Sign 11) n ∷ vs) n (λ bs vs o r a q. short_sign refl (dollar_alone bs) q) (λ vs. row_from row_end) (low_utf8 _ refl)

pub word_from : (w : Text) → IsWord w → (n : ℕ) → Again Apart (RowFrom n (s.Word (role_of w) w) []) w n
word_from w h n = again (λ vs. token (k.Word w) n ∷ vs) n (λ bs vs o r a q. word_again w n o bs r vs h a q) (λ vs. row_from row_end) (word_utf8 w h)

-- a word and a blank
pub include_from : (n : ℕ) → Again Any (RowFrom n (s.Word roles.Include (codes "include")) []) (codes "include ") n
include_from n = again (λ vs. token (k.Word (codes "include")) n ∷ vs) n
    (λ bs vs o r a q. word_again (codes "include") n o (32 ∷ bs) r vs (refl, (refl, (refl, (refl, (refl, (refl, (refl, tt))))))) refl (blank refl q)) (λ vs. row_from row_end) (low_utf8 _ refl)

pub else_from : (n : ℕ) → Again Any (RowFrom n (s.Word roles.Else (codes "else")) []) (codes "else ") n
else_from n = again (λ vs. token (k.Word (codes "else")) n ∷ vs) n
    (λ bs vs o r a q. word_again (codes "else") n o (32 ∷ bs) r vs (refl, (refl, (refl, (refl, tt)))) refl (blank refl q)) (λ vs. row_from row_end) (low_utf8 _ refl)

pub open_name_piece : sign_piece g.OpenName (codes "[")
open_name_piece n = again (λ vs. token (k.Sign 9) n ∷ vs) n (λ bs vs o r a q. short_sign refl (single_alone 9 bs) q) (λ vs. one_sign) (low_utf8 _ refl)

pub close_name_piece : sign_piece g.CloseName (codes "] ")
close_name_piece n = again (λ vs. token (k.Sign 10) n ∷ vs) n (λ bs vs o r a q. short_sign refl refl (blank refl q)) (λ vs. one_sign) (low_utf8 _ refl)

pub blank_piece : (n : ℕ) → Again Any Nothing (codes " ") n
blank_piece n = again (λ vs. vs) n (λ bs vs o r a q. blank refl q) (λ vs. nothing) (low_utf8 _ refl)

pub feed_piece : (n : ℕ) → Again Any Nothing (codes "\n") n
feed_piece n = again (λ vs. vs) (line_after 10 n) (λ bs vs o r a q. feed refl q) (λ vs. nothing) (low_utf8 _ refl)

pub open_block_piece : sign_piece g.OpenBlock (codes "{\n")
open_block_piece n = again (λ vs. token (k.Sign 7) n ∷ vs) (line_after 10 n) (λ bs vs o r a q. short_sign refl refl (feed refl q)) (λ vs. one_sign) (low_utf8 _ refl)

pub close_block_piece : sign_piece g.CloseBlock (codes "}\n")
close_block_piece n = again (λ vs. token (k.Sign 8) n ∷ vs) (line_after 10 n) (λ bs vs o r a q. short_sign refl refl (feed refl q)) (λ vs. one_sign) (low_utf8 _ refl)

pub op_piece : (x : Op) → sign_piece (g.Compare x) (op_text x)
op_piece op.Equal n = again (λ vs. token (k.Sign 12) n ∷ vs) n (λ bs vs o r a q. long_sign refl q) (λ vs. one_sign) (low_utf8 _ refl)
op_piece op.NotEqual n = again (λ vs. token (k.Sign 13) n ∷ vs) n (λ bs vs o r a q. long_sign refl q) (λ vs. one_sign) (low_utf8 _ refl)
op_piece op.Match n = again (λ vs. token (k.Sign 14) n ∷ vs) n (λ bs vs o r a q. long_sign refl q) (λ vs. one_sign) (low_utf8 _ refl)
op_piece op.NoMatch n = again (λ vs. token (k.Sign 15) n ∷ vs) n (λ bs vs o r a q. long_sign refl q) (λ vs. one_sign) (low_utf8 _ refl)
op_piece op.Prefix n = again (λ vs. token (k.Sign 16) n ∷ vs) n (λ bs vs o r a q. long_sign refl q) (λ vs. one_sign) (low_utf8 _ refl)
op_piece op.Suffix n = again (λ vs. token (k.Sign 17) n ∷ vs) n (λ bs vs o r a q. long_sign refl q) (λ vs. one_sign) (low_utf8 _ refl)

pub assign_piece : (add : Bool) → sign_piece (assign_of add) (assign_text add)
assign_piece true n = again (λ vs. token (k.Sign 1) n ∷ vs) n (λ bs vs o r a q. blank refl (long_sign refl (blank refl q))) (λ vs. one_sign) (low_utf8 _ refl)
assign_piece false n = again (λ vs. token (k.Sign 0) n ∷ vs) n (λ bs vs o r a q. blank refl (short_sign refl refl (blank refl q))) (λ vs. one_sign) (low_utf8 _ refl)

blanks_piece : (n : ℕ) → Again Any Nothing (32 ∷ 32 ∷ []) n
blanks_piece n = again (λ vs. vs) n (λ bs vs o r a q. blank refl (blank refl q)) (λ vs. nothing) (low_utf8 _ refl)

none_none : {ts mid r : List Mark} → Nothing ts mid → Nothing mid r → Nothing ts r
none_none nothing nothing = nothing

indent_piece : (i n : ℕ) → Again Any Nothing (indent i) n
unfolding indent
indent_piece zero n = again (λ vs. vs) n (λ bs vs o r a q. q) (λ vs. nothing) IsUtf8-nil
indent_piece (suc i) n = behind (blanks_piece n) (λ m. indent_piece i m) (λ ts mid r p q. none_none p q)

pub margin_piece : (d n : ℕ) → Again Any Nothing (margin d) n
margin_piece d n = indent_piece (64 - d) n
