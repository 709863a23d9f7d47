-- The bytes of a configuration text by what they may stand for (lighttpd 1.4 documentation, "Configuration").
use Rattle.std.specs.Prelude.{ℕ, Bool, true, false, ◌||◌, ◌&&◌, ◌==◌, nat_le, if◌then◌else◌, Option, Some, None}
use Rattle.conf_lex.specs.declared.class.Class.{Class}
use Rattle.conf_lex.specs.declared.class.Class.TheVariants as c

-- the class of a byte
abbrev pub class : ℕ → Class
class b =
    if b == 10 then c.Feed
    else if b == 32 || b == 9 || b == 13 then c.Blank
    else if b == 35 then c.Hash
    else if (nat_le 97 b && nat_le b 122) || (nat_le 65 b && nat_le b 90) then c.Letter
    else if nat_le 48 b && nat_le b 57 then c.Digit
    else if b == 95 || b == 45 || b == 46 then c.Joint
    else if b == 34 then c.Quote
    else if b == 92 then c.Backslash
    else if b == 61 then c.Equal
    else if b == 43 then c.Plus
    else if b == 33 then c.Not
    else if b == 62 then c.Greater
    else if b == 126 then c.Tilde
    else if b == 94 then c.Caret
    else if b == 36 then c.Dollar
    else if b == 44 then c.Single 4
    else if b == 40 then c.Single 5
    else if b == 41 then c.Single 6
    else if b == 123 then c.Single 7
    else if b == 125 then c.Single 8
    else if b == 91 then c.Single 9
    else if b == 93 then c.Single 10
    else c.Other

-- what a word goes on with
abbrev pub in_word : Class → Bool
in_word c.Letter = true
in_word c.Digit = true
in_word c.Joint = true
in_word _ = false

-- a digit
abbrev pub is_digit : Class → Bool
is_digit c.Digit = true
is_digit _ = false

-- a line feed
abbrev pub is_feed : Class → Bool
is_feed c.Feed = true
is_feed _ = false

-- any other byte than a line feed
abbrev pub off_feed : Class → Bool
off_feed c.Feed = false
off_feed _ = true

-- a quotation mark
abbrev pub is_quote : Class → Bool
is_quote c.Quote = true
is_quote _ = false

-- The signs, numbered from 0: = += => + , ( ) { } [ ] $ == != =~ !~ =^ =$
-- the sign that a byte of this class is by itself
abbrev pub alone : Class → Option ℕ
alone c.Equal = Some 0
alone c.Plus = Some 3
alone c.Dollar = Some 11
alone (c.Single sign) = Some sign
alone _ = None

-- the sign that two bytes of these classes are
abbrev pub double : Class → Class → Option ℕ
double c.Plus c.Equal = Some 1
double c.Equal c.Greater = Some 2
double c.Equal c.Equal = Some 12
double c.Not c.Equal = Some 13
double c.Equal c.Tilde = Some 14
double c.Not c.Tilde = Some 15
double c.Equal c.Caret = Some 16
double c.Equal c.Dollar = Some 17
double _ _ = None
