-- A configuration text as its tokens, with blanks and comments between them (lighttpd 1.4 documentation, "Configuration").
use Rattle.std.specs.Prelude.{◌≡◌, ◌≢◌, ℕ, ◌+◌, ◌<◌, List, [], ◌∷◌, length, min, Bool, true, false, Some, None, Result, Ok, Err, pos}
use Rattle.std.specs.Str.Parse.{digits_value}
use Rattle.conf_lex.specs.declared.class.Class.{Class}
use Rattle.conf_lex.specs.declared.class.Class.TheVariants as c
use Rattle.conf_lex.specs.declared.token.TokenKind.{TokenKind}
use Rattle.conf_lex.specs.declared.token.TokenKind.TheVariants as k
use Rattle.conf_lex.specs.declared.token.Token.{Token}
use Rattle.conf_lex.specs.Class.{class, in_word, is_digit, is_feed, off_feed, is_quote, alone, double}

-- the bytes of a text
abbrev pub Text : Type 0
Text = List ℕ

-- a token of this kind on this line
abbrev pub at : TokenKind → ℕ → Token
at kind line = record { kind = kind; line = line }

-- the line behind a byte on this line: the next one behind a line feed, and none past 2^32 - 1
abbrev pub line_by : Bool → ℕ → ℕ
line_by true n = min (n + 1) 4294967295
line_by false n = n

-- the line behind this byte
abbrev pub line_after : ℕ → ℕ → ℕ
line_after b n = line_by (is_feed (class b)) n

-- the line behind these bytes, which begin on this line
abbrev pub line_behind : ℕ → List ℕ → ℕ
line_behind n [] = n
line_behind n (b ∷ bs) = line_behind (line_after b n) bs

-- the first byte, if there is one, isn't of this sort
abbrev pub Ends : (Class → Bool) → List ℕ → Type 0
Ends sort [] = Unit {0}
Ends sort (b ∷ bs) = sort (class b) ≡ false

-- the first byte, if there is one, makes no longer sign with a byte of this class
abbrev pub NoDouble : Class → List ℕ → Type 0
NoDouble first [] = Unit {0}
NoDouble first (b ∷ bs) = double first (class b) ≡ None

-- Bytes of one sort stand in front, and no further one: the longest run.
pub data Run (sort : Class → Bool) : Text → List ℕ → List ℕ → Type 0 where
  stop : {bs : List ℕ} → Ends sort bs → Run sort [] bs bs
  go : {b : ℕ} {cs bs r : List ℕ} → sort (class b) ≡ true → Run sort cs bs r → Run sort (b ∷ cs) (b ∷ bs) r

-- The bytes up to the closing quotation mark spell the text: `\"` is a quotation mark, and any other
-- backslash stands for itself. The lines before and behind them are counted.
pub data Inside : ℕ → Text → List ℕ → ℕ → List ℕ → Type 0 where
  closes : {n b : ℕ} {r : List ℕ} → class b ≡ c.Quote → Inside n [] (b ∷ r) n r
  escaped : {n m b d : ℕ} {t bs r : List ℕ} → class b ≡ c.Backslash → class d ≡ c.Quote → Inside n t bs m r → Inside n (34 ∷ t) (b ∷ d ∷ bs) m r
  backslash : {n m b : ℕ} {t bs r : List ℕ} → class b ≡ c.Backslash → Ends is_quote bs → Inside n t bs m r → Inside n (92 ∷ t) (b ∷ bs) m r
  plain : {n m b : ℕ} {t bs r : List ℕ} → class b ≢ c.Quote → class b ≢ c.Backslash → Inside (line_after b n) t bs m r → Inside n (b ∷ t) (b ∷ bs) m r

-- The first text, from its line on, has these tokens up to the second text, at its line.
pub data Reads : ℕ → List ℕ → List Token → ℕ → List ℕ → Type 0 where
  here : {n : ℕ} {bs : List ℕ} → Reads n bs [] n bs
  blank : {n m b : ℕ} {bs r : List ℕ} {ts : List Token} → class b ≡ c.Blank → Reads n bs ts m r → Reads n (b ∷ bs) ts m r
  feed : {n m b : ℕ} {bs r : List ℕ} {ts : List Token} → class b ≡ c.Feed → Reads (line_after b n) bs ts m r → Reads n (b ∷ bs) ts m r
  comment : {n m b : ℕ} {cs bs mid r : List ℕ} {ts : List Token} → class b ≡ c.Hash → Run off_feed cs bs mid → Reads n mid ts m r → Reads n (b ∷ bs) ts m r
  word : {n m b : ℕ} {w bs mid r : List ℕ} {ts : List Token} → class b ≡ c.Letter → Run in_word w bs mid → Reads n mid ts m r → Reads n (b ∷ bs) (at (k.Word (b ∷ w)) n ∷ ts) m r
  number : {n m b : ℕ} {ds bs mid r : List ℕ} {ts : List Token} → class b ≡ c.Digit → Run is_digit ds bs mid → length ds < 18
      → Reads n mid ts m r → Reads n (b ∷ bs) (at (k.Number (pos (digits_value 10 (b ∷ ds)))) n ∷ ts) m r
  text : {n o m b : ℕ} {t bs mid r : List ℕ} {ts : List Token} → class b ≡ c.Quote → Inside n t bs o mid → Reads o mid ts m r → Reads n (b ∷ bs) (at (k.Text t) n ∷ ts) m r
  short_sign : {n m b s : ℕ} {bs r : List ℕ} {ts : List Token} → alone (class b) ≡ Some s → NoDouble (class b) bs → Reads n bs ts m r → Reads n (b ∷ bs) (at (k.Sign s) n ∷ ts) m r
  long_sign : {n m b d s : ℕ} {bs r : List ℕ} {ts : List Token} → double (class b) (class d) ≡ Some s → Reads n bs ts m r → Reads n (b ∷ d ∷ bs) (at (k.Sign s) n ∷ ts) m r

-- Something is left, and nothing of it can be read: no blank, no comment and no token stands in front.
pub record Stuck (n : ℕ) (bs : List ℕ) : Type 0 where
  pub some : bs ≢ []
  pub none : (ts : List Token) (m : ℕ) (r : List ℕ) → Reads n bs ts m r → r ≡ bs

-- The whole text has these tokens, or it is stuck where a token on this line should begin.
abbrev pub Reading : ℕ → List ℕ → Result (List Token) ℕ → Type 0
Reading n bs (Ok ts) = (m : ℕ) × Reads n bs ts m []
Reading n bs (Err l) = (ts : List Token) × (r : List ℕ) × Reads n bs ts l r × Stuck l r
