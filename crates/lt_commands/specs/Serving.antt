-- What a call means for the clients of its run.
use Rattle.std.specs.Prelude.{◌≡◌, ℕ, List, []}
use Rattle.lt_world.specs.Memory.{no_files, tree_of}
use Rattle.lt_world.specs.TextAnswers.{Library}
use Rattle.lt_world.specs.Trace.{Entry}
use Rattle.lt_script.specs.declared.script.Script.{Script}
use Rattle.script_net.specs.Failing.{IsCalm}
use Rattle.script_net.specs.Loads.{planted}
use Rattle.script_net.specs.Plays.{Plays}
use Rattle.script_net.specs.Reports.{report_of}
use Rattle.script_gen.specs.Generated.{generated}
use Rattle.script_gen.specs.Totals.{summary_of}
use Rattle.settings.specs.InForm.{IsInForm}
use Rattle.conf_eval.specs.declared.fault.Loaded.{Loaded}
use Rattle.server_model.specs.Site.{site_at}
use Rattle.lt_commands.specs.declared.status.Status.{Status}
use Rattle.lt_commands.specs.declared.status.Status.TheVariants as status
use Rattle.lt_commands.specs.Benching.{bench_name, bench_texts}
use Rattle.lt_commands.specs.Endings.{AllEndCalmly}
use Rattle.lt_commands.specs.Offline.{SinkSays}
use Rattle.lt_commands.specs.Loading.{HasConf}
use Rattle.lt_commands.specs.Reading.{HasScript}
use Rattle.lt_commands.specs.Planned.{AreNotOfFiles, FailsAsPlanned}
use Rattle.lt_commands.specs.Runs.{Asked, Served}
use Rattle.lt_commands.specs.Words.{Replay, Bench, SpellsLine}

-- with this configuration and this script each client was served right, and what was due followed each event; calls on
-- the files failed as the script plans it, so none where it plans none; where besides no line of it makes a read or a
-- write fail, each client that was closed was closed calmly; and a call that was done has played the script to its end
pub record ServesBy (loaded : Loaded) (said : Script) (answer : Status) (left : Asked) (trace : List Entry) : Type 0 where
  pub served : Served (site_at loaded.config.blocks) (planted said.files (tree_of no_files)) left trace
  pub planned : FailsAsPlanned said.faults left
  pub sound : AreNotOfFiles said.faults → left.faults ≡ 0
  pub calm : IsCalm said.steps → AreNotOfFiles said.faults → AllEndCalmly trace
  pub plays : answer ≡ status.Done → Plays said.steps trace []

-- there are a configuration in form and a script for which that holds
pub record ServesSome (answer : Status) (left : Asked) (trace : List Entry) : Type 0 where
  pub loaded : Loaded
  pub in_form : IsInForm loaded.config
  pub said : Script
  pub serves : ServesBy loaded said answer left trace

-- that holds for the configuration and the script that the texts spell under these names
abbrev pub ServesSpelled : List ℕ → List ℕ → Library → Status → Asked → List Entry → Type 0
ServesSpelled conf script library answer left trace =
    (loaded : Loaded) (said : Script) → HasConf library conf loaded → HasScript (library script) said → ServesBy loaded said answer left trace

-- that holds for the configuration of a benchmark run and the script of so many clients; each of them that was closed
-- was closed calmly
pub record ServesBench (clients : ℕ) (answer : Status) (left : Asked) (trace : List Entry) : Type 0 where
  pub serves : (loaded : Loaded) → HasConf bench_texts bench_name loaded → ServesBy loaded (generated clients) answer left trace
  pub calm : AllEndCalmly trace

-- the call made a run for which that holds; it holds for the configuration and the script that the texts spell, where
-- they tell them; and the sink got the report of that run, or its summary
pub record Ran (texts_tell sink_tells : Type 0) (words : List (List ℕ)) (library : Library) (answer : Status) (before after : List ℕ) : Type 0 where
  pub left : Asked
  pub trace : List Entry
  pub some : ServesSome answer left trace
  pub spelled : texts_tell → (conf script : List ℕ) → SpellsLine words (Replay conf script) → ServesSpelled conf script library answer left trace
  pub reported : sink_tells → (conf script : List ℕ) → SpellsLine words (Replay conf script) → SinkSays answer (report_of trace) before after
  pub benched : (clients : ℕ) → SpellsLine words (Bench clients) → ServesBench clients answer left trace
  pub summed : sink_tells → (clients : ℕ) → SpellsLine words (Bench clients) → SinkSays answer (summary_of trace) before after
