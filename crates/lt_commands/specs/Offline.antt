-- What a whole call answers: its status by the words and the texts, and what the sink gets.
use Rattle.std.specs.Prelude.{◌≡◌, ℕ, ◌⊎◌, ◌++◌, List, Option, Some, None}
use Rattle.lt_world.specs.TextAnswers.{Library}
use Rattle.lt_world.specs.Causes.{Rose}
use Rattle.lt_world.specs.declared.net.NextKind.{NextKind}
use Rattle.lt_world.specs.declared.net.NextKind.TheVariants as kind
use Rattle.lt_script.specs.declared.script.Script.{Script}
use Rattle.conf_parse.specs.declared.tree.Tree.{Tree}
use Rattle.conf_parse.specs.Print.{printed}
use Rattle.conf_eval.specs.Answers.{Caused}
use Rattle.conf_eval.specs.declared.fault.Loaded.{Loaded}
use Rattle.lt_commands.specs.declared.status.Status.{Status}
use Rattle.lt_commands.specs.declared.status.Status.TheVariants as status
use Rattle.lt_commands.specs.Words.{Line, Replay, Check, Print, Bench, SpellsLine}
use Rattle.lt_commands.specs.Failures.{Failures}
use Rattle.lt_commands.specs.Loading.{HasConf, HasSomeConf, HasFault, IsOutside}
use Rattle.lt_commands.specs.Reading.{HasScript, IsWrongAt}
use Rattle.lt_commands.specs.Printing.{HasTree, IsFault}
use Rattle.lt_commands.specs.Warnings.{checked}
use Rattle.lt_commands.specs.Benching.{bench_name, bench_texts}

-- Usage comes exactly where the words are no line of the call, unless there is no memory to read them
abbrev pub WordsSay : Status → List (List ℕ) → Type 0
WordsSay status.Usage words = (line : Line) → ¬ SpellsLine words line
WordsSay status.NoMemory words = Unit {0}
WordsSay other words = (line : Line) × SpellsLine words line

-- the status of a call whose words are a line
abbrev pub IsOfLine : Status → Type 0
IsOfLine status.Usage = ⊥
IsOfLine other = Unit {0}

-- the text that is held spells a script, or a tree
abbrev pub HasSomeScript : Option (List ℕ) → Type 0
HasSomeScript held = (said : Script) × HasScript held said

abbrev pub HasSomeTree : Option (List ℕ) → Type 0
HasSomeTree held = (tree : Tree) × HasTree held tree

-- a replay's status by the texts: the first refusal, in this order
abbrev pub ReplaySays : Status → Library → List ℕ → List ℕ → Type 0
ReplaySays (status.Missing number) library conf script =
    ((number ≡ 1) × (library conf ≡ None)) ⊎ ((number ≡ 2) × HasSomeConf library conf × (library script ≡ None))
ReplaySays (status.Conf fault) library conf script = HasFault library conf fault
ReplaySays (status.Script line) library conf script = HasSomeConf library conf × ((text : List ℕ) × (library script ≡ Some text) × IsWrongAt text line)
ReplaySays status.Done library conf script = HasSomeConf library conf × HasSomeScript (library script)
ReplaySays status.SinkFault library conf script = HasSomeConf library conf × HasSomeScript (library script)
ReplaySays status.TextFault library conf script = Unit {0}
ReplaySays status.NoMemory library conf script = Unit {0}
ReplaySays status.Usage library conf script = ⊥
ReplaySays status.ListenFault library conf script = ⊥
ReplaySays status.WaitFault library conf script = ⊥

-- a check's status by the texts: it is done where they spell a configuration
abbrev pub CheckSays : Status → Library → List ℕ → Type 0
CheckSays (status.Missing number) library conf = (number ≡ 1) × (library conf ≡ None)
CheckSays (status.Conf fault) library conf = HasFault library conf fault
CheckSays status.Done library conf = HasSomeConf library conf
CheckSays status.SinkFault library conf = HasSomeConf library conf
CheckSays status.TextFault library conf = Unit {0}
CheckSays status.NoMemory library conf = Unit {0}
CheckSays other library conf = ⊥

-- the status of a print by the text under the configuration's name
abbrev pub PrintSays : Status → Option (List ℕ) → Type 0
PrintSays (status.Missing number) conf = (number ≡ 1) × (conf ≡ None)
PrintSays (status.Conf fault) conf = (fault.file ≡ 0) × ((text : List ℕ) × (conf ≡ Some text) × IsFault fault.kind fault.line text)
PrintSays status.Done conf = HasSomeTree conf
PrintSays status.SinkFault conf = HasSomeTree conf
PrintSays status.TextFault conf = Unit {0}
PrintSays status.NoMemory conf = Unit {0}
PrintSays other conf = ⊥

-- a benchmark run's status: its configuration is one, and no text of the caller's is refused
abbrev pub BenchSays : Status → Type 0
BenchSays status.Done = HasSomeConf bench_texts bench_name
BenchSays status.SinkFault = HasSomeConf bench_texts bench_name
BenchSays status.NoMemory = Unit {0}
BenchSays other = ⊥

abbrev pub LineSays : Status → Line → Library → Type 0
LineSays status (Replay conf script) library = ReplaySays status library conf script
LineSays status (Check conf) library = CheckSays status library conf
LineSays status (Print conf) library = PrintSays status (library conf)
LineSays status (Bench clients) library = BenchSays status

-- a call that ends so never asked its net and its files for anything
abbrev pub IsRefusal : Status → Type 0
IsRefusal (status.Conf fault) = Unit {0}
IsRefusal status.Usage = Unit {0}
IsRefusal (status.Script line) = Unit {0}
IsRefusal status.TextFault = Unit {0}
IsRefusal (status.Missing number) = Unit {0}
IsRefusal other = ⊥

-- where the texts are good, a call is done, unless something fails or memory is wanted
abbrev pub IsComplete : Status → Type 0
IsComplete status.Done = Unit {0}
IsComplete status.NoMemory = Unit {0}
IsComplete status.TextFault = Unit {0}
IsComplete status.SinkFault = Unit {0}
IsComplete other = ⊥

-- the same where a configuration is loaded: a text that it includes may be the one that cannot be read, and one of its
-- patterns may be refused
abbrev pub IsCompleteLoad : Status → Type 0
IsCompleteLoad (status.Conf fault) = IsOutside fault.kind
IsCompleteLoad other = IsComplete other

abbrev pub Completes : Status → Line → Library → Type 0
Completes status (Replay conf script) library = HasSomeConf library conf → HasSomeScript (library script) → IsCompleteLoad status
Completes status (Check conf) library = HasSomeConf library conf → IsCompleteLoad status
Completes status (Print conf) library = HasSomeTree (library conf) → IsComplete status
Completes status (Bench clients) library = BenchSays status

-- a line that asks neither the net nor the files for anything
abbrev pub IsQuiet : Line → Type 0
IsQuiet (Replay conf script) = ⊥
IsQuiet (Bench clients) = ⊥
IsQuiet other = Unit {0}

-- what a line puts out of its texts
abbrev pub PutsOut : Line → Library → List ℕ → Type 0
PutsOut (Replay conf script) library output = ⊥
PutsOut (Bench clients) library output = ⊥
PutsOut (Check conf) library output = (loaded : Loaded) × HasConf library conf loaded × (output ≡ checked loaded)
PutsOut (Print conf) library output = (tree : Tree) × HasTree (library conf) tree × (output ≡ printed tree)

-- the sink gets the whole output at Done, the front of it where the sink fails, and nothing at any other status
abbrev pub SinkSays : Status → List ℕ → List ℕ → List ℕ → Type 0
SinkSays status.Done output before after = after ≡ before ++ output
SinkSays status.SinkFault output before after = (front rest : List ℕ) × (output ≡ front ++ rest) × (after ≡ before ++ front)
SinkSays other output before after = after ≡ before

-- a fault is answered only where the count of what failed rose
abbrev pub FaultsSay : Status → Failures → Failures → Type 0
FaultsSay status.TextFault before after = Rose before.texts after.texts
FaultsSay (status.Conf fault) before after = Caused fault.kind before.texts after.texts before.patterns after.patterns
FaultsSay status.SinkFault before after = Rose before.sink after.sink
FaultsSay other before after = Unit {0}

-- once the net was asked for an event, memory is wanted only where the net's last answer wants it
abbrev pub MemorySays : Status → NextKind → Type 0
MemorySays status.NoMemory last = (last ≡ kind.NoneYet) ⊎ (last ≡ kind.NoMemory)
MemorySays other last = Unit {0}

-- how the play of a script ends
abbrev pub PlaySays : Status → NextKind → Type 0
PlaySays status.Done last = last ≡ kind.Over
PlaySays status.SinkFault last = last ≡ kind.Over
PlaySays status.NoMemory last = (last ≡ kind.NoneYet) ⊎ (last ≡ kind.NoMemory)
PlaySays other last = ⊥
