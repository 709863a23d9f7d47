-- What a run over a script means for the script.
use Rattle.std.proofs.Common.{◌≡◌, ◌≤◌, ℕ, List, [], arith, refl, sym, ap, ◌∙◌, inl, inr}
use Rattle.lt_world.specs.Causes.{Rose}
use Rattle.lt_world.specs.declared.net.NextKind.{NextKind}
use Rattle.lt_commands.specs.declared.status.Status.{Status}
use Rattle.lt_commands.specs.declared.status.Status.TheVariants as status
use Rattle.std.specs.Prelude.{Err}
use Rattle.lt_world.specs.TextAnswers.{Library}
use Rattle.conf_eval.specs.declared.fault.Loaded.{Loaded}
use Rattle.lt_commands.specs.Benching.{bench_name, bench_texts}
use Rattle.lt_commands.specs.Failures.{Failures}
use Rattle.lt_commands.specs.Loading.{HasSomeConf, IsOnlyConf, LoadSays}
use Rattle.lt_commands.specs.Reading.{IsOnly, ReadCause, ScriptSays}
use Rattle.lt_commands.specs.Offline.{PlaySays, BenchSays, FaultsSay, ReplaySays, CheckSays, MemorySays, HasSomeScript, IsComplete, IsCompleteLoad, IsOfLine, IsRefusal}
use Rattle.script_net.specs.Steps.{events_left}
use Rattle.lt_script.specs.declared.script.Script.{Script}
use Rattle.script_net.specs.Playing.{Playing, prepared, IsLater}
use Rattle.script_net.specs.Plays.{Plays, played}
use Rattle.script_net.specs.Calls.{Game}
use Rattle.script_net.proofs.Runs.{none_left}

-- what a net came to that began with this script, and where no event is left, is a play of all of them
pub plays_all : (said : Script) (a b : Playing) → a ≡ prepared said → IsLater a b → events_left b.game.left ≡ 0 → Plays said.steps b.game.trace []
plays_all said a b begins later none =
    let start_is = ap (λ (p : Playing). p.game) begins in
    record {
      calls = later.calls;
      told = ap (λ (g : Game). (played later.calls g).trace) (sym start_is) ∙ ap (λ (g : Game). g.trace) (sym later.plays);
      rest = ap (λ (g : Game). (played later.calls g).left) (sym start_is) ∙ ap (λ (g : Game). g.left) (sym later.plays) ∙ none_left b.game.left none;
    }

-- the play of a script answers as the texts want it
pub play_says : (answer : Status) (last : NextKind) (library : Library) (conf script : List ℕ) → PlaySays answer last → HasSomeConf library conf → HasSomeScript (library script) → ReplaySays answer library conf script
play_says status.Done last library conf script ends loaded said = (loaded, said)
play_says status.SinkFault last library conf script ends loaded said = (loaded, said)
play_says status.NoMemory last library conf script ends loaded said = tt
play_says (status.Conf fault) last library conf script ends loaded said = absurd ends
play_says status.Usage last library conf script ends loaded said = absurd ends
play_says status.ListenFault last library conf script ends loaded said = absurd ends
play_says status.WaitFault last library conf script ends loaded said = absurd ends
play_says (status.Script line) last library conf script ends loaded said = absurd ends
play_says status.TextFault last library conf script ends loaded said = absurd ends
play_says (status.Missing number) last library conf script ends loaded said = absurd ends

-- a configuration that was refused ends a replay, and a check
pub conf_says : (answer : Status) (library : Library) (conf script : List ℕ) → LoadSays (Err answer) library conf → ReplaySays answer library conf script
conf_says (status.Missing number) library conf script says = inl says
conf_says (status.Conf fault) library conf script says = says
conf_says status.TextFault library conf script says = tt
conf_says status.NoMemory library conf script says = tt
conf_says (status.Script line) library conf script says = absurd says
conf_says status.Usage library conf script says = absurd says
conf_says status.ListenFault library conf script says = absurd says
conf_says status.WaitFault library conf script says = absurd says
conf_says status.Done library conf script says = absurd says
conf_says status.SinkFault library conf script says = absurd says

pub check_says : (answer : Status) (library : Library) (conf : List ℕ) → LoadSays (Err answer) library conf → CheckSays answer library conf
check_says (status.Missing number) library conf says = says
check_says (status.Conf fault) library conf says = says
check_says status.TextFault library conf says = tt
check_says status.NoMemory library conf says = tt
check_says (status.Script line) library conf says = absurd says
check_says status.Usage library conf says = absurd says
check_says status.ListenFault library conf says = absurd says
check_says status.WaitFault library conf says = absurd says
check_says status.Done library conf says = absurd says
check_says status.SinkFault library conf says = absurd says

-- the configuration was accepted, and the script was refused
pub script_says : (answer : Status) (library : Library) (conf script : List ℕ) → HasSomeConf library conf → ScriptSays (Err answer) (library script) → ReplaySays answer library conf script
script_says (status.Missing number) library conf script loaded says = inr (says.0, loaded, says.1)
script_says (status.Script line) library conf script loaded says = (loaded, says)
script_says status.TextFault library conf script loaded says = tt
script_says status.NoMemory library conf script loaded says = tt
script_says (status.Conf fault) library conf script loaded says = absurd says
script_says status.Usage library conf script loaded says = absurd says
script_says status.ListenFault library conf script loaded says = absurd says
script_says status.WaitFault library conf script loaded says = absurd says
script_says status.Done library conf script loaded says = absurd says
script_says status.SinkFault library conf script loaded says = absurd says

-- a refusal of texts that are good is one that they may have
pub is_complete_load : (loaded : Loaded) (answer : Status) → IsOnlyConf loaded (Err answer) → IsCompleteLoad answer
is_complete_load loaded (status.Conf fault) only = only
is_complete_load loaded status.TextFault only = tt
is_complete_load loaded status.NoMemory only = tt
is_complete_load loaded status.Done only = absurd only
is_complete_load loaded status.SinkFault only = absurd only
is_complete_load loaded status.Usage only = absurd only
is_complete_load loaded status.ListenFault only = absurd only
is_complete_load loaded status.WaitFault only = absurd only
is_complete_load loaded (status.Script line) only = absurd only
is_complete_load loaded (status.Missing number) only = absurd only

-- what is done with single texts is done with several
pub complete_load : (answer : Status) → IsComplete answer → IsCompleteLoad answer
complete_load status.Done done = tt
complete_load status.NoMemory done = tt
complete_load status.TextFault done = tt
complete_load status.SinkFault done = tt
complete_load (status.Conf fault) done = absurd done
complete_load status.Usage done = absurd done
complete_load status.ListenFault done = absurd done
complete_load status.WaitFault done = absurd done
complete_load (status.Script line) done = absurd done
complete_load (status.Missing number) done = absurd done

-- a run that was begun is done, but for want of memory and a fault of the sink
pub play_complete : (answer : Status) (last : NextKind) → PlaySays answer last → IsCompleteLoad answer
play_complete status.Done last ends = tt
play_complete status.NoMemory last ends = tt
play_complete status.SinkFault last ends = tt
play_complete status.TextFault last ends = absurd ends
play_complete (status.Conf fault) last ends = absurd ends
play_complete status.Usage last ends = absurd ends
play_complete status.ListenFault last ends = absurd ends
play_complete status.WaitFault last ends = absurd ends
play_complete (status.Script line) last ends = absurd ends
play_complete (status.Missing number) last ends = absurd ends

-- a refusal of a text that is good is one that a good text may have
pub is_complete : {A : Type 0} (value : A) (answer : Status) → IsOnly value (Err answer) → IsComplete answer
is_complete value status.TextFault only = tt
is_complete value status.NoMemory only = tt
is_complete value status.Done only = absurd only
is_complete value status.SinkFault only = absurd only
is_complete value (status.Conf fault) only = absurd only
is_complete value status.Usage only = absurd only
is_complete value status.ListenFault only = absurd only
is_complete value status.WaitFault only = absurd only
is_complete value (status.Script line) only = absurd only
is_complete value (status.Missing number) only = absurd only

-- of a play memory is wanted before the first event, or where the net wants it
pub play_memory : (answer : Status) (last : NextKind) → PlaySays answer last → MemorySays answer last
play_memory status.Done last ends = tt
play_memory status.NoMemory last ends = ends
play_memory status.SinkFault last ends = tt
play_memory status.TextFault last ends = tt
play_memory (status.Conf fault) last ends = tt
play_memory status.Usage last ends = tt
play_memory status.ListenFault last ends = tt
play_memory status.WaitFault last ends = tt
play_memory (status.Script line) last ends = tt
play_memory (status.Missing number) last ends = tt

-- a benchmark run whose configuration was loaded
pub bench_says : (answer : Status) (last : NextKind) → PlaySays answer last → HasSomeConf bench_texts bench_name → BenchSays answer
bench_says status.Done last ends loaded = loaded
bench_says status.NoMemory last ends loaded = tt
bench_says status.SinkFault last ends loaded = loaded
bench_says status.TextFault last ends loaded = absurd ends
bench_says (status.Conf fault) last ends loaded = absurd ends
bench_says status.Usage last ends loaded = absurd ends
bench_says status.ListenFault last ends loaded = absurd ends
bench_says status.WaitFault last ends loaded = absurd ends
bench_says (status.Script line) last ends loaded = absurd ends
bench_says (status.Missing number) last ends loaded = absurd ends

-- a play is of a line, and refuses nothing
pub play_line : (answer : Status) (last : NextKind) → PlaySays answer last → IsOfLine answer
play_line status.Done last ends = tt
play_line status.NoMemory last ends = tt
play_line status.SinkFault last ends = tt
play_line status.TextFault last ends = tt
play_line (status.Conf fault) last ends = tt
play_line status.Usage last ends = absurd ends
play_line status.ListenFault last ends = tt
play_line status.WaitFault last ends = tt
play_line (status.Script line) last ends = tt
play_line (status.Missing number) last ends = tt

pub play_runs : (answer : Status) (last : NextKind) → PlaySays answer last → IsRefusal answer → ⊥
play_runs status.Done last ends is = is
play_runs status.NoMemory last ends is = is
play_runs status.SinkFault last ends is = is
play_runs status.TextFault last ends is = ends
play_runs (status.Conf fault) last ends is = ends
play_runs status.Usage last ends is = ends
play_runs status.ListenFault last ends is = is
play_runs status.WaitFault last ends is = is
play_runs (status.Script line) last ends is = ends
play_runs (status.Missing number) last ends is = ends

-- its only fault is the sink's
pub play_faults : (answer : Status) (last : NextKind) (before after : Failures) → PlaySays answer last → (answer ≡ status.SinkFault → Rose before.sink after.sink) → FaultsSay answer before after
play_faults status.Done last before after ends cause = tt
play_faults status.NoMemory last before after ends cause = tt
play_faults status.SinkFault last before after ends cause = cause refl
play_faults status.TextFault last before after ends cause = absurd ends
play_faults (status.Conf fault) last before after ends cause = absurd ends
play_faults status.Usage last before after ends cause = tt
play_faults status.ListenFault last before after ends cause = tt
play_faults status.WaitFault last before after ends cause = tt
play_faults (status.Script line) last before after ends cause = tt
play_faults (status.Missing number) last before after ends cause = tt

-- what rose since then rose since before
risen_since : (before mid after : ℕ) → before ≤ mid → Rose mid after → Rose before after
risen_since before mid after more rose = grind (arith, more, rose)

-- a text that was refused is a fault of the texts alone
pub read_faults : (A : Type 0) (answer : Status) (mid : ℕ) (before after : Failures) → before.texts ≤ mid → ReadCause {A = A} (Err answer) mid after.texts → FaultsSay answer before after
read_faults A status.TextFault mid before after more cause = risen_since before.texts mid after.texts more cause
read_faults A (status.Conf fault) mid before after more cause = record { unread = λ p. risen_since before.texts mid after.texts more (cause.0 p); refused = λ p. absurd (cause.1 p) }
read_faults A status.SinkFault mid before after more cause = absurd cause
read_faults A status.Done mid before after more cause = tt
read_faults A status.NoMemory mid before after more cause = tt
read_faults A status.Usage mid before after more cause = tt
read_faults A status.ListenFault mid before after more cause = tt
read_faults A status.WaitFault mid before after more cause = tt
read_faults A (status.Script line) mid before after more cause = tt
read_faults A (status.Missing number) mid before after more cause = tt
