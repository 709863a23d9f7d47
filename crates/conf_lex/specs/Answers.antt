-- What the lexer's answers say (README.md of this crate, 'What is proved').
use Rattle.std.specs.Prelude.{◌≡◌, ℕ, List, ◌++◌, take, Result, Ok, Err, if◌then◌else◌}
use Rattle.std.specs.Str.{IsUtf8, IsValidUpTo, is_utf8}
use Rattle.std.specs.Str.Lossy.{utf8_valid_len}
use Rattle.conf_lex.specs.declared.token.Token.{Token}
use Rattle.conf_lex.specs.declared.held.Held.{Held}
use Rattle.conf_lex.specs.declared.error.LexError.{LexError}
use Rattle.conf_lex.specs.declared.error.LexError.TheVariants as e
use Rattle.conf_lex.specs.Lines.{line_of}
use Rattle.conf_lex.specs.declared.held.Held.TheVariants.{Nothing}
use Rattle.conf_lex.specs.Machine.{Step, Reply, run}
use Rattle.conf_lex.specs.Tokens.{Reading}

-- a step's answer: the tokens that the byte ended stand behind the earlier ones
abbrev pub Steps : Step → List Token → Result Held LexError → List Token → Type 0
Steps s old (Ok held) new = (ts : List Token) × (s ≡ Ok (ts, held)) × (new ≡ old ++ ts)
Steps s old (Err (e.NotUtf8 line)) new = ⊥
Steps s old (Err (e.Grammar line)) new = s ≡ Err line
Steps s old (Err e.NoMemory) new = Unit {0}

-- an answer is the machine's, unless memory ran out
abbrev pub Gives : Result (List Token) LexError → Reply → Type 0
Gives (Ok ts) reply = reply ≡ Ok ts
Gives (Err (e.NotUtf8 line)) reply = ⊥
Gives (Err (e.Grammar line)) reply = reply ≡ Err line
Gives (Err e.NoMemory) reply = Unit {0}

-- these tokens are the answer, unless memory ran out
abbrev pub IsRead : List Token → Result (List Token) LexError → Type 0
IsRead ts (Ok found) = found ≡ ts
IsRead ts (Err x) = x ≡ e.NoMemory

-- why a text is refused: its first byte that is not UTF-8, and only where there is none its first token that is none
abbrev pub Refused : List ℕ → LexError → Type 0
Refused bytes (e.NotUtf8 line) = ¬ (IsUtf8 bytes) × ((n : ℕ) × IsValidUpTo bytes n × (line ≡ line_of (take n bytes)))
Refused bytes (e.Grammar line) = IsUtf8 bytes × Reading 1 bytes (Err line)
Refused bytes e.NoMemory = Unit {0}

-- ---- the answer as a function of the text

-- the answer that a reply of the machine is
abbrev pub given : Reply → Result (List Token) LexError
given (Ok ts) = Ok ts
given (Err line) = Err (e.Grammar line)

-- the answer: of a text that is not UTF-8 the line of its first such byte, else what the machine replies
abbrev pub lexed : List ℕ → Result (List Token) LexError
lexed bytes = if is_utf8 bytes then given (run bytes 1 Nothing) else Err (e.NotUtf8 (line_of (take (utf8_valid_len bytes) bytes)))

-- the answer is this one, unless memory ran out
abbrev pub IsAnswer : Result (List Token) LexError → Result (List Token) LexError → Type 0
IsAnswer (Err e.NoMemory) answer = Unit {0}
IsAnswer found answer = answer ≡ found
