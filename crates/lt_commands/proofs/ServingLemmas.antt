-- What a call means for its clients, where it made no run, and where it made one.
use Rattle.std.proofs.Common.{◌≡◌, ℕ, List, [], ap, refl, sym, subst}
use Rattle.std.specs.Prelude.{Err}
use Rattle.lt_world.specs.Memory.{no_files, tree_of}
use Rattle.lt_world.specs.Trace.{Entry}
use Rattle.lt_script.specs.declared.script.Script.{Script}
use Rattle.script_net.specs.Loads.{planted}
use Rattle.script_net.specs.Plays.{Plays}
use Rattle.conf_eval.specs.declared.fault.Loaded.{Loaded}
use Rattle.conf_eval.specs.Settings.{blocks_of}
use Rattle.lt_commands.proofs.EmptyConf.{empty_in_form}
use Rattle.server_model.specs.Site.{site_at}
use Rattle.lt_commands.specs.declared.status.Status.{Status}
use Rattle.lt_commands.specs.declared.status.Status.TheVariants as status
use Rattle.lt_commands.specs.Endings.{AllEndCalmly}
use Rattle.lt_commands.specs.Loading.{LoadCause}
use Rattle.lt_commands.specs.Reading.{ReadCause}
use Rattle.lt_commands.specs.Runs.{Asked, asked_of}
use Rattle.lt_commands.specs.Serving.{ServesBy, ServesSome}
use Rattle.lt_commands.proofs.RunLemmas.{unserved}
use Rattle.lt_commands.proofs.PlannedLemmas.{nothing_failed}

abbrev no_script : Script
no_script = record { files = []; faults = []; steps = [] }

-- nothing was played of nothing
pub nothing_played : (trace : List Entry) → trace ≡ [] → Plays [] trace []
nothing_played trace untold = record { calls = []; told = sym untold; rest = refl }

pub none_closed : AllEndCalmly []
none_closed link e is = absurd (cc is)

-- where nothing was run, any configuration and any script will do, if none was to be played
pub unrun : (loaded : Loaded) (said : Script) (answer : Status) (left : Asked) (trace : List Entry) → left ≡ asked_of no_files → trace ≡ [] → (answer ≡ status.Done → Plays said.steps trace []) → ServesBy loaded said answer left trace
unrun loaded said answer left trace uncalled untold plays = record {
  served = unserved (site_at loaded.config.blocks) (planted said.files (tree_of no_files)) left trace uncalled untold;
  planned = nothing_failed said.faults left uncalled;
  sound = λ none. ap (λ (a : Asked). a.faults) uncalled;
  calm = λ calm none. subst AllEndCalmly (sym untold) none_closed;
  plays = plays;
}

abbrev no_conf : Loaded
no_conf = record { config = record { blocks = blocks_of []; warnings = [] }; patterns = [] }

-- so there are some
pub unserved_some : (answer : Status) (left : Asked) (trace : List Entry) → left ≡ asked_of no_files → trace ≡ [] → ServesSome answer left trace
unserved_some answer left trace uncalled untold = record {
  loaded = no_conf;
  in_form = empty_in_form;
  said = no_script;
  serves = unrun no_conf no_script answer left trace uncalled untold (λ done. nothing_played trace untold);
}

-- a text that was refused is no call that was done
pub undone : (A : Type 0) (answer : Status) (before now : ℕ) → ReadCause {A = A} (Err answer) before now → answer ≡ status.Done → ⊥
undone A answer before now cause done = subst (λ (s : Status). ReadCause {A = A} (Err s) before now) done cause

-- nor is a configuration that was
pub unloaded : (answer : Status) (faults faults_now refusals refusals_now : ℕ) → LoadCause (Err answer) faults faults_now refusals refusals_now → answer ≡ status.Done → ⊥
unloaded answer faults faults_now refusals refusals_now cause done = subst (λ (s : Status). LoadCause (Err s) faults faults_now refusals refusals_now) done cause

-- the same configuration and script under other names
pub served_for : (loaded other : Loaded) (said script : Script) (answer : Status) (left : Asked) (trace : List Entry) → ServesBy loaded said answer left trace → loaded ≡ other → said ≡ script → ServesBy other script answer left trace
served_for loaded other said script answer left trace serves loaded_is said_is =
    subst (λ (l : Loaded). ServesBy l script answer left trace) loaded_is (subst (λ (s : Script). ServesBy loaded s answer left trace) said_is serves)
