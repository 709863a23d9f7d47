-- What a byte of a class is, and what the tables say of a class.
use Rattle.std.proofs.Common.{◌≡◌, ℕ, Bool, true, false, cond, Some, refl, ap, ◌∙◌}
use Rattle.conf_lex.specs.declared.class.Class.{Class}
use Rattle.conf_lex.specs.declared.class.Class.TheVariants as c
use Rattle.conf_lex.specs.Class.{class, in_word, is_digit, is_feed, off_feed, is_quote, alone, double}
use Rattle.conf_lex.specs.Tokens.{line_after, line_by}

-- one step of the table: the class is not that of this test, so a later one gave it
pub skip : (y : Bool) (u v w : Class) → (u ≡ w → ⊥) → cond y u v ≡ w → v ≡ w
skip true u v w n e = absurd (n e)
skip false u v w n e = e

-- no later test gives the class, so this one holds
pub hit : (y : Bool) (u v w : Class) → cond y u v ≡ w → (v ≡ w → ⊥) → y ≡ true
hit true u v w e n = refl
hit false u v w e n = absurd (n e)

pub word_feed : (x : Class) → in_word x ≡ true → is_feed x ≡ false
word_feed c.Feed e = cc
word_feed _ e = refl

pub digit_feed : (x : Class) → is_digit x ≡ true → is_feed x ≡ false
digit_feed c.Feed e = cc
digit_feed _ e = refl

pub is_a_feed : (x : Class) → off_feed x ≡ false → x ≡ c.Feed
is_a_feed c.Feed e = refl
is_a_feed _ e = cc

pub no_feed : (x : Class) → off_feed x ≡ true → is_feed x ≡ false
no_feed c.Feed e = cc
no_feed _ e = refl

pub is_a_quote : (x : Class) → is_quote x ≡ true → x ≡ c.Quote
is_a_quote c.Quote e = refl
is_a_quote _ e = cc

pub is_a_digit : (x : Class) → is_digit x ≡ true → x ≡ c.Digit
is_a_digit c.Digit e = refl
is_a_digit _ e = cc

-- a byte that is no line feed leaves the line
pub same_line : (x : Class) (n b : ℕ) → class b ≡ x → is_feed x ≡ false → line_after b n ≡ n
same_line x n b e nl = ap (λ (y : Class). line_by (is_feed y) n) e ∙ ap (λ (y : Bool). line_by y n) nl

-- what a sign may begin with
abbrev pub begins_sign : Class → Bool
begins_sign c.Equal = true
begins_sign c.Plus = true
begins_sign c.Not = true
begins_sign c.Dollar = true
begins_sign (c.Single s) = true
begins_sign _ = false

pub alone_begins : (x : Class) (s : ℕ) → alone x ≡ Some s → begins_sign x ≡ true
alone_begins c.Equal s e = refl
alone_begins c.Plus s e = refl
alone_begins c.Dollar s e = refl
alone_begins (c.Single t) s e = refl
alone_begins _ s e = cc

pub double_begins : (x y : Class) (s : ℕ) → double x y ≡ Some s → begins_sign x ≡ true
double_begins c.Equal y s e = refl
double_begins c.Plus y s e = refl
double_begins c.Not y s e = refl
double_begins _ y s e = cc

-- the second byte of a sign is no line feed
pub double_feed : (x y : Class) (s : ℕ) → double x y ≡ Some s → is_feed y ≡ false
double_feed c.Equal c.Feed s e = cc
double_feed c.Plus c.Feed s e = cc
double_feed c.Not c.Feed s e = cc
double_feed _ c.Feed s e = cc
double_feed _ _ s e = refl

pub sign_feed : (x : Class) → begins_sign x ≡ true → is_feed x ≡ false
sign_feed c.Feed e = cc
sign_feed _ e = refl
