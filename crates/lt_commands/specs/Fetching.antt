-- Which texts and patterns a call asks for, and in which order: those of the configuration, and the script only after it
-- was loaded.
use Rattle.std.specs.Prelude.{◌≡◌, ℕ, ◌⊎◌, List, Ok, Err}
use Rattle.lt_world.specs.TextAnswers.{Library}
use Rattle.lt_world.specs.declared.texts.Fetch.{Fetch}
use Rattle.lt_world.specs.declared.texts.FetchKind.{FetchKind}
use Rattle.lt_world.specs.declared.texts.FetchKind.TheVariants as fetch
use Rattle.conf_eval.specs.declared.fault.Loaded.{Loaded}
use Rattle.lt_commands.specs.declared.status.Status.{Status}
use Rattle.lt_commands.specs.declared.status.Status.TheVariants as status
use Rattle.lt_commands.specs.Words.{Line, Replay, Check, Print, Bench}
use Rattle.lt_commands.specs.Loading.{LoadsAs}
use Rattle.conf_eval.specs.Calls.{Calls}
use Rattle.lt_commands.specs.Reading.{AsksFor}

-- a configuration was loaded, and nothing else was asked for
abbrev pub AsksConf : List ℕ → Library → Calls → Calls → Type 0
AsksConf conf library before after = (loaded : Loaded) × LoadsAs (Ok loaded) conf library before after

-- the configuration was loaded; then the script was asked for, with this answer
pub record AsksBoth (conf script : List ℕ) (answer : FetchKind) (library : Library) (before after : Calls) : Type 0 where
  pub mid : Calls
  pub accepted : AsksConf conf library before mid
  pub asked : AsksFor script answer mid.texts after.texts
  pub unmade : after.makes ≡ mid.makes

-- what a replay asks for, by its status: a text that cannot be read is the last that was asked for, and its call failed
abbrev pub ReplayAsks : Status → List ℕ → List ℕ → Library → Calls → Calls → Type 0
ReplayAsks (status.Missing number) conf script library before after =
    LoadsAs (Err (status.Missing number)) conf library before after ⊎ ((number ≡ 2) × AsksBoth conf script fetch.Missing library before after)
ReplayAsks (status.Conf fault) conf script library before after = LoadsAs (Err (status.Conf fault)) conf library before after
ReplayAsks (status.Script line) conf script library before after =
    AsksBoth conf script fetch.Text library before after ⊎ AsksBoth conf script fetch.Long library before after
ReplayAsks status.TextFault conf script library before after =
    LoadsAs (Err status.TextFault) conf library before after ⊎ AsksBoth conf script fetch.Failed library before after
ReplayAsks status.Done conf script library before after = AsksBoth conf script fetch.Text library before after
ReplayAsks status.SinkFault conf script library before after = AsksBoth conf script fetch.Text library before after
ReplayAsks status.NoMemory conf script library before after =
    LoadsAs (Err status.NoMemory) conf library before after ⊎ (AsksConf conf library before after ⊎ AsksBoth conf script fetch.Text library before after)
ReplayAsks status.Usage conf script library before after = ⊥
ReplayAsks status.ListenFault conf script library before after = ⊥
ReplayAsks status.WaitFault conf script library before after = ⊥

-- what a check asks for: the texts and the patterns of the configuration
abbrev pub CheckAsks : Status → List ℕ → Library → Calls → Calls → Type 0
CheckAsks (status.Missing number) conf library before after = LoadsAs (Err (status.Missing number)) conf library before after
CheckAsks (status.Conf fault) conf library before after = LoadsAs (Err (status.Conf fault)) conf library before after
CheckAsks status.TextFault conf library before after = LoadsAs (Err status.TextFault) conf library before after
CheckAsks status.Done conf library before after = AsksConf conf library before after
CheckAsks status.SinkFault conf library before after = AsksConf conf library before after
CheckAsks status.NoMemory conf library before after = LoadsAs (Err status.NoMemory) conf library before after ⊎ AsksConf conf library before after
CheckAsks other conf library before after = ⊥

-- what a print asks for: the configuration alone
abbrev pub PrintAsks : Status → List ℕ → List Fetch → List Fetch → Type 0
PrintAsks (status.Missing number) conf before after = AsksFor conf fetch.Missing before after
PrintAsks (status.Conf fault) conf before after = AsksFor conf fetch.Text before after ⊎ AsksFor conf fetch.Long before after
PrintAsks status.TextFault conf before after = AsksFor conf fetch.Failed before after
PrintAsks status.Done conf before after = AsksFor conf fetch.Text before after
PrintAsks status.SinkFault conf before after = AsksFor conf fetch.Text before after
PrintAsks status.NoMemory conf before after = (after ≡ before) ⊎ AsksFor conf fetch.Text before after
PrintAsks other conf before after = ⊥

-- a print asks for no pattern, and a benchmark run for nothing
abbrev pub LineAsks : Status → Line → Library → Calls → Calls → Type 0
LineAsks status (Replay conf script) library before after = ReplayAsks status conf script library before after
LineAsks status (Check conf) library before after = CheckAsks status conf library before after
LineAsks status (Print conf) library before after = PrintAsks status conf before.texts after.texts × (after.makes ≡ before.makes)
LineAsks status (Bench clients) library before after = after ≡ before
