-- A device: reading by a machine that takes one byte at a time, as the code does. `lexed` computes with it.
use Rattle.std.specs.Prelude.{ℕ, ◌+◌, ◌*◌, ◌++◌, List, [], ◌∷◌, Bool, true, false, nat_lt, Option, Some, None, Result, Ok, Err, pos}
use Rattle.std.specs.Char.{digit_value}
use Rattle.conf_lex.specs.declared.class.Class.{Class}
use Rattle.conf_lex.specs.declared.class.Class.TheVariants as c
use Rattle.conf_lex.specs.declared.token.TokenKind.TheVariants as k
use Rattle.conf_lex.specs.declared.token.Token.{Token}
use Rattle.conf_lex.specs.declared.held.Held.{Held}
use Rattle.conf_lex.specs.declared.held.Held.TheVariants as h
use Rattle.conf_lex.specs.Class.{class, in_word, is_digit, is_feed, alone, double}
use Rattle.conf_lex.specs.Tokens.{Text, at, line_after}

-- the tokens that a byte ended, and what is held behind it, or the line of a token that is none
abbrev pub Step : Type 0
Step = Result (List Token × Held) ℕ

-- no token ended, and this is held
abbrev pub hold : Held → Step
hold held = Ok ([], held)

-- the digits of a number so far: how many, and their value
abbrev pub Digits : Type 0
Digits = ℕ × ℕ

-- the digits with one more
abbrev pub one_more : Digits → ℕ → Digits
one_more ds b = (ds.0 + 1, ds.1 * 10 + digit_value b)

-- a byte where nothing is held
abbrev pub begin : Class → ℕ → ℕ → Step
begin c.Blank b n = hold h.Nothing
begin c.Feed b n = hold h.Nothing
begin c.Hash b n = hold h.Comment
begin c.Letter b n = hold (h.Word n (b ∷ []))
begin c.Digit b n = hold (h.Number n (one_more (0, 0) b))
begin c.Quote b n = hold (h.Quote n [])
begin c.Equal b n = hold (h.Sign n c.Equal)
begin c.Plus b n = hold (h.Sign n c.Plus)
begin c.Not b n = hold (h.Sign n c.Not)
begin c.Dollar b n = hold (h.Sign n c.Dollar)
begin (c.Single s) b n = hold (h.Sign n (c.Single s))
begin _ b n = Err n

-- the token ended before this byte, which begins anew
abbrev pub ended : Token → Step → Step
ended t (Ok p) = Ok (t ∷ p.0, p.1)
ended t (Err n) = Err n

-- a byte of a comment, which a line feed ends
abbrev pub comment : Bool → Step
comment true = hold h.Nothing
comment false = hold h.Comment

-- a byte after those of a word: one more, or the next thing
abbrev pub word : Bool → ℕ → Text → Class → ℕ → ℕ → Step
word true line w x b n = hold (h.Word line (w ++ b ∷ []))
word false line w x b n = ended (at (k.Word w) line) (begin x b n)

-- one more digit where there is room for it
abbrev pub more_digits : Bool → ℕ → Digits → ℕ → Step
more_digits true line ds b = hold (h.Number line (one_more ds b))
more_digits false line ds b = Err line

-- a byte after digits: one more, or the next thing
abbrev pub number : Bool → ℕ → Digits → Class → ℕ → ℕ → Step
number true line ds x b n = more_digits (nat_lt ds.0 18) line ds b
number false line ds x b n = ended (at (k.Number (pos ds.1)) line) (begin x b n)

-- a byte between quotation marks
abbrev pub quote : Class → ℕ → Text → ℕ → Step
quote c.Quote line t b = Ok (at (k.Text t) line ∷ [], h.Nothing)
quote c.Backslash line t b = hold (h.Backslash line t)
quote _ line t b = hold (h.Quote line (t ++ b ∷ []))

-- a byte after a backslash between quotation marks
abbrev pub backslash : Class → ℕ → Text → ℕ → Step
backslash c.Quote line t b = hold (h.Quote line (t ++ 34 ∷ []))
backslash c.Backslash line t b = hold (h.Backslash line (t ++ 92 ∷ []))
backslash _ line t b = hold (h.Quote line (t ++ 92 ∷ b ∷ []))

-- behind the first byte of a sign: the sign that the two are, and the one that the first is alone
abbrev pub sign : Option ℕ → Option ℕ → ℕ → Class → ℕ → ℕ → Step
sign (Some s) a line x b n = Ok (at (k.Sign s) line ∷ [], h.Nothing)
sign None (Some s) line x b n = ended (at (k.Sign s) line) (begin x b n)
sign None None line x b n = Err line

-- what a byte makes of what is held
abbrev pub step : Held → Class → ℕ → ℕ → Step
step h.Nothing x b n = begin x b n
step h.Comment x b n = comment (is_feed x)
step (h.Word line w) x b n = word (in_word x) line w x b n
step (h.Number line ds) x b n = number (is_digit x) line ds x b n
step (h.Quote line t) x b n = quote x line t b
step (h.Backslash line t) x b n = backslash x line t b
step (h.Sign line first) x b n = sign (double first x) (alone first) line x b n

-- the tokens of the whole text, or the line of a token that is none
abbrev pub Reply : Type 0
Reply = Result (List Token) ℕ

-- a sign at the end
abbrev pub finish_sign : Option ℕ → ℕ → Reply
finish_sign (Some s) line = Ok (at (k.Sign s) line ∷ [])
finish_sign None line = Err line

-- what is held at the end
abbrev pub finish : Held → Reply
finish h.Nothing = Ok []
finish h.Comment = Ok []
finish (h.Word line w) = Ok (at (k.Word w) line ∷ [])
finish (h.Number line ds) = Ok (at (k.Number (pos ds.1)) line ∷ [])
finish (h.Quote line t) = Err line
finish (h.Backslash line t) = Err line
finish (h.Sign line first) = finish_sign (alone first) line

-- tokens in front of a reply
abbrev pub behind : List Token → Reply → Reply
behind ts (Ok us) = Ok (ts ++ us)
behind ts (Err n) = Err n

-- a step, and then the rest
abbrev pub next : Step → (Held → Reply) → Reply
next (Ok p) go = behind p.0 (go p.1)
next (Err n) go = Err n

-- from this line on, with this held
abbrev pub run : List ℕ → ℕ → Held → Reply
run [] n held = finish held
run (b ∷ bs) n held = next (step held (class b) b n) (run bs (line_after b n))
