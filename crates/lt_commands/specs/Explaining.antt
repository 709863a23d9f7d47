-- What people are told of a status: in which text and on which line something is wrong, and what, in words.
use Rattle.std.specs.Prelude.{ℕ, ◌==◌, List, [], ◌++◌, codes, if◌then◌else◌}
use Rattle.std.specs.Fmt.{decimal}
use Rattle.conf_eval.specs.declared.fault.ConfKind.{ConfKind}
use Rattle.conf_eval.specs.declared.fault.ConfKind.TheVariants as kind
use Rattle.lt_commands.specs.declared.status.Status.{Status}
use Rattle.lt_commands.specs.declared.status.Status.TheVariants.{Done, Conf, Usage, Script, TextFault, SinkFault, NoMemory, Missing, ListenFault, WaitFault}

-- what is wrong with that which a line begins with
abbrev pub reason : ConfKind → List ℕ
reason kind.NotUtf8 = codes " has a byte that is not UTF-8"
reason kind.Grammar = codes " goes on as no configuration does, or ends too early"
reason kind.UnknownField = codes " begins a block on a condition that is not known"
reason kind.Duplicate = codes " is set twice in this block"
reason kind.UnknownVariable = codes " reads a variable that is set nowhere above"
reason kind.Mixed = codes " joins values of two kinds"
reason kind.Overflow = codes " has a sum that passes 64 bits"
reason kind.WrongType = codes " has a value of another kind than it takes"
reason kind.BadValue = codes " has a value that breaks its rule"
reason kind.PatternRefused = codes " has a pattern that is no regular expression"
reason kind.IncludeMissing = codes " names a text that is not there"
reason kind.TextFault = codes " names a text that cannot be read"
reason kind.IncludeDeep = codes " is the 17th inside one another"
reason kind.TooLong = codes " takes the texts together past 1 MiB"
reason kind.TooMany = codes " is one block or pattern too many"
reason kind.NoRoot = codes " is not set in the global block"
reason kind.Deep = codes " is nested deeper than 64"

-- the root is missing on no line
abbrev pub subject_of : ConfKind → List ℕ → List ℕ
subject_of kind.NoRoot subject = codes "server.document-root"
subject_of other subject = subject

-- line 0 says that the script is too long
abbrev pub script_explained : List ℕ → ℕ → List ℕ
script_explained name line =
    if line == 0 then name ++ codes ": the script is longer than 16 MiB" else name ++ codes ":" ++ decimal line ++ codes ": this is no line of a script"

-- a status, with the name of the text at fault and what the line there begins with; nothing where the call was done
abbrev pub explained : Status → List ℕ → List ℕ → List ℕ
explained Done name subject = []
explained (Conf fault) name subject = name ++ codes ":" ++ decimal fault.line ++ codes ": " ++ subject_of fault.kind subject ++ reason fault.kind
explained Usage name subject = codes "lighttpd: these words are no line of the program"
explained (Script line) name subject = script_explained name line
explained TextFault name subject = name ++ codes ": this text cannot be read"
explained SinkFault name subject = codes "lighttpd: standard output takes no more"
explained NoMemory name subject = codes "lighttpd: the system gives no more memory"
explained (Missing text) name subject = name ++ codes ": there is no such text"
explained ListenFault name subject = codes "lighttpd: the address is in use, or is none of this machine that the user may take"
explained WaitFault name subject = codes "lighttpd: the system reports no more events"
