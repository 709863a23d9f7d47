-- The number with which the program ends, and what it says on standard error.
use Rattle.std.specs.Prelude.{ℕ, List, [], ◌++◌, codes}
use Rattle.std.specs.Fmt.{decimal}
use Rattle.conf_eval.specs.declared.fault.ConfKind.{ConfKind}
use Rattle.conf_eval.specs.declared.fault.ConfKind.TheVariants as kind
use Rattle.lt_commands.specs.declared.status.Status.{Status}
use Rattle.lt_commands.specs.declared.status.Status.TheVariants.{Done, Conf, Usage, Script, TextFault, SinkFault, NoMemory, Missing, ListenFault, WaitFault}

abbrev pub exit_number : Status → ℕ
exit_number Done = 0
exit_number (Conf fault) = 1
exit_number Usage = 2
exit_number (Script line) = 3
exit_number TextFault = 4
exit_number SinkFault = 5
exit_number NoMemory = 6
exit_number (Missing text) = 7
exit_number ListenFault = 8
exit_number WaitFault = 9

-- the number of a fault of a configuration
abbrev pub kind_number : ConfKind → ℕ
kind_number kind.NotUtf8 = 1
kind_number kind.Grammar = 2
kind_number kind.UnknownField = 3
kind_number kind.Duplicate = 4
kind_number kind.UnknownVariable = 5
kind_number kind.Mixed = 6
kind_number kind.Overflow = 7
kind_number kind.WrongType = 8
kind_number kind.BadValue = 9
kind_number kind.PatternRefused = 10
kind_number kind.IncludeMissing = 11
kind_number kind.TextFault = 12
kind_number kind.IncludeDeep = 13
kind_number kind.TooLong = 14
kind_number kind.TooMany = 15
kind_number kind.NoRoot = 16
kind_number kind.Deep = 17

-- what standard error gets; nothing where the call was done
abbrev pub status_text : Status → List ℕ
status_text Done = []
status_text (Conf fault) = codes "lighttpd: C" ++ decimal (kind_number fault.kind) ++ codes " file " ++ decimal fault.file ++ codes " line " ++ decimal fault.line
status_text Usage = codes "usage: lighttpd [-D] [-t | -p] -f CONF | replay -f CONF SCRIPT | bench NUMBER"
status_text (Script line) = codes "lighttpd: script line " ++ decimal line
status_text TextFault = codes "lighttpd: a text cannot be read"
status_text SinkFault = codes "lighttpd: output failed"
status_text NoMemory = codes "lighttpd: out of memory"
status_text (Missing text) = codes "lighttpd: text " ++ decimal text ++ codes " is missing"
status_text ListenFault = codes "lighttpd: cannot listen"
status_text WaitFault = codes "lighttpd: waiting failed"
