-- The lines of the program: what each of its commands takes, as `clap` says it.
use Rattle.std.specs.Prelude.{ℕ, Bool, true, false, ◌&&◌, nat_le, List, [], ◌∷◌, Option, Some, None, option_map, option_and_then, codes, bytes_eq, if◌then◌else◌}
use Rattle.std.specs.Option.{option_map_or}
use Rattle.clap.specs.Words.{App, Rule, Text, Row, Kinds, new_app, new_rule, with_rule, fault_of, matches_of, first_of}
use Rattle.clap.specs.declared.builder.ArgAction.TheVariants.{SetTrue, Set}
use Rattle.lt_bytes.specs.declared.numbers.Number.{Number}
use Rattle.lt_bytes.specs.declared.numbers.Number.TheVariants.{Value}
use Rattle.lt_bytes.specs.Numbers.{number_of}
use Rattle.command_words.specs.declared.line.TheConstants.{MAX_CLIENTS}

pub data Line : Type 0 where
  -- clients are served by the configuration of this name
  Serve : Text → Line
  -- it is checked
  Check : Text → Line
  -- it is printed
  Print : Text → Line
  -- the script of the second name is played with the configuration of the first
  Replay : Text → Text → Line
  -- so many clients of a script that is made for them are served
  Bench : ℕ → Line

-- `-f CONF`
abbrev pub conf_rule : Rule
conf_rule = record (new_rule (codes "conf")) { short = Some 102; required = true; action = Some Set }

-- a flag of one letter
abbrev pub flag_rule : Text → ℕ → Rule
flag_rule id letter = record (new_rule id) { short = Some letter; action = Some SetTrue }

-- SCRIPT
abbrev pub script_rule : Rule
script_rule = record (new_rule (codes "script")) { required = true; action = Some Set }

-- NUMBER
abbrev pub number_rule : Rule
number_rule = record (new_rule (codes "number")) { required = true; action = Some Set }

-- a command whose first word is no program's name
abbrev pub nameless : Text → App
nameless name = let app = new_app name in record app { top = record app.top { no_binary_name = true } }

-- `-f CONF`, `-t`, `-p` and `-D`
abbrev pub options : App
options = with_rule (with_rule (with_rule (with_rule (nameless (codes "lighttpd")) conf_rule) (flag_rule (codes "test") 116)) (flag_rule (codes "print") 112)) (flag_rule (codes "foreground") 68)

-- `-f CONF` and SCRIPT
abbrev pub replay : App
replay = with_rule (with_rule (nameless (codes "replay")) conf_rule) script_rule

-- NUMBER
abbrev pub bench : App
bench = with_rule (nameless (codes "bench")) number_rule

-- the flag was given
abbrev pub is_set : Text → List Row → Bool
is_set id rows = option_map_or (λ t. bytes_eq t (codes "true")) (first_of id rows) false

-- a configuration is either checked or printed, or served by
abbrev pub line_by : Bool → Bool → Text → Option Line
line_by true true conf = None
line_by true false conf = Some (Check conf)
line_by false true conf = Some (Print conf)
line_by false false conf = Some (Serve conf)

abbrev pub option_line : List Row → Option Line
option_line rows = option_and_then (λ conf. line_by (is_set (codes "test") rows) (is_set (codes "print") rows) conf) (first_of (codes "conf") rows)

abbrev pub replay_line : List Row → Option Line
replay_line rows = option_and_then (λ conf. option_map (λ script. Replay conf script) (first_of (codes "script") rows)) (first_of (codes "conf") rows)

-- how many clients digits say; leading zeros count for nothing
abbrev pub clients_in : Number → Option ℕ
clients_in (Value n) = if nat_le 1 n && nat_le n MAX_CLIENTS then Some n else None
clients_in other = None

abbrev pub bench_line : List Row → Option Line
bench_line rows = option_and_then (λ digits. option_map (λ clients. Bench clients) (clients_in (number_of 10 digits))) (first_of (codes "number") rows)

-- the line, where no word is a fault
abbrev pub unless : Kinds → Option Line → Option Line
unless [] line = line
unless (kind ∷ kinds) line = None

-- the line of the words that a command takes
unfoldable pub option_words : List Text → Option Line
option_words words = unless (fault_of options words) (option_line (matches_of options words))

unfoldable pub replay_words : List Text → Option Line
replay_words words = unless (fault_of replay words) (replay_line (matches_of replay words))

unfoldable pub bench_words : List Text → Option Line
bench_words words = unless (fault_of bench words) (bench_line (matches_of bench words))

-- the line that words are, without the program's name; what follows `replay` or `bench` is a command of its own
unfoldable pub line_of : List Text → Option Line
line_of [] = option_words []
line_of (word ∷ words) =
    if bytes_eq word (codes "replay") then replay_words words
    else if bytes_eq word (codes "bench") then bench_words words
    else option_words (word ∷ words)
