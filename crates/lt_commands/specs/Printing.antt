-- The configuration that is printed: its tree, or what is wrong with its text first.
use Rattle.std.specs.Prelude.{◌≡◌, ℕ, ◌<◌, ◌≤◌, ◌⊎◌, List, length, Option, Some, None, Result, Ok, Err}
use Rattle.std.specs.Str.{IsUtf8}
use Rattle.conf_lex.specs.declared.token.Token.{Token}
use Rattle.conf_lex.specs.declared.error.LexError.TheVariants as lexed
use Rattle.conf_lex.specs.Tokens.{Reading}
use Rattle.conf_lex.specs.Answers as lexer
use Rattle.conf_parse.specs.declared.tree.Tree.{Tree}
use Rattle.conf_parse.specs.declared.parser.TheConstants.{MAX_NESTING}
use Rattle.conf_parse.specs.declared.error.ParseError.TheVariants as parsed
use Rattle.conf_parse.specs.Grammar.{Spells}
use Rattle.conf_parse.specs.Answers as parser
use Rattle.conf_eval.specs.declared.limits.TheConstants.{MAX_TEXTS}
use Rattle.conf_eval.specs.declared.fault.ConfKind.{ConfKind}
use Rattle.conf_eval.specs.declared.fault.ConfKind.TheVariants as kind
use Rattle.lt_commands.specs.declared.status.Status.{Status}
use Rattle.lt_commands.specs.declared.status.Status.TheVariants as status

-- the text is UTF-8 and has these tokens
abbrev pub HasTokens : List ℕ → List Token → Type 0
HasTokens text tokens = IsUtf8 text × Reading 1 text (Ok tokens)

-- the text spells this tree
abbrev pub SpellsTree : List ℕ → Tree → Type 0
SpellsTree text tree = (tokens : List Token) × HasTokens text tokens × Spells MAX_NESTING tree tokens

-- the text that is held spells this tree, and is short enough
abbrev pub HasTree : Option (List ℕ) → Tree → Type 0
HasTree held tree = (text : List ℕ) × (held ≡ Some text) × (length text ≤ MAX_TEXTS) × SpellsTree text tree

-- the first refusal of a text: by its length, by its bytes and tokens, or by its grammar
abbrev pub IsFault : ConfKind → ℕ → List ℕ → Type 0
IsFault kind.TooLong line text = (line ≡ 1) × (MAX_TEXTS < length text)
IsFault kind.NotUtf8 line text = (length text ≤ MAX_TEXTS) × lexer.Refused text (lexed.NotUtf8 line)
IsFault kind.Grammar line text = (length text ≤ MAX_TEXTS)
    × (lexer.Refused text (lexed.Grammar line) ⊎ ((tokens : List Token) × HasTokens text tokens × parser.Refused MAX_NESTING tokens (parsed.Grammar line)))
IsFault kind.Deep line text = (length text ≤ MAX_TEXTS) × ((tokens : List Token) × HasTokens text tokens × parser.Refused MAX_NESTING tokens (parsed.Deep line))
IsFault other line text = ⊥

-- the tree that the text under the configuration's name spells, or why there is none
abbrev pub TreeSays : Result Tree Status → Option (List ℕ) → Type 0
TreeSays (Ok tree) held = HasTree held tree
TreeSays (Err (status.Missing number)) held = (number ≡ 1) × (held ≡ None)
TreeSays (Err (status.Conf fault)) held = (fault.file ≡ 0) × ((text : List ℕ) × (held ≡ Some text) × IsFault fault.kind fault.line text)
TreeSays (Err status.TextFault) held = (text : List ℕ) × (held ≡ Some text)
TreeSays (Err status.NoMemory) held = Unit {0}
TreeSays (Err other) held = ⊥

-- the same of a text that is there
abbrev pub TextSays : Result Tree Status → List ℕ → Type 0
TextSays (Ok tree) text = SpellsTree text tree
TextSays (Err (status.Conf fault)) text = (fault.file ≡ 0) × IsFault fault.kind fault.line text
TextSays (Err status.NoMemory) text = Unit {0}
TextSays (Err other) text = ⊥
