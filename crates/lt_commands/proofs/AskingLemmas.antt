-- From what loading a configuration and reading a text ask to what a whole call asks.
use Rattle.std.proofs.Common.{◌≡◌, ℕ, List, refl, sym, subst, inl, inr}
use Rattle.std.specs.Prelude.{Err}
use Rattle.lt_script.specs.declared.script.Script.{Script}
use Rattle.lt_world.specs.TextAnswers.{Library}
use Rattle.lt_world.specs.declared.net.NextKind.{NextKind}
use Rattle.lt_world.specs.declared.texts.Fetch.{Fetch}
use Rattle.lt_world.specs.declared.texts.FetchKind.{FetchKind}
use Rattle.lt_world.specs.declared.texts.FetchKind.TheVariants as fetch
use Rattle.lt_commands.specs.declared.status.Status.{Status}
use Rattle.lt_commands.specs.declared.status.Status.TheVariants as status
use Rattle.lt_commands.specs.Fetching.{AsksConf, AsksBoth, ReplayAsks, CheckAsks, PrintAsks}
use Rattle.lt_commands.specs.Loading.{LoadsAs}
use Rattle.conditions.specs.declared.made.Asked.{Asked}
use Rattle.conf_eval.specs.Answers.{kept}
use Rattle.conf_eval.specs.Calls.{Calls}
use Rattle.lt_commands.specs.Offline.{PlaySays}
use Rattle.lt_commands.specs.Printing.{TreeSays}
use Rattle.conf_parse.specs.declared.tree.Tree.{Tree}
use Rattle.lt_commands.specs.Reading.{Asks, AsksFor, ScriptSays}

module _ (conf script : List ℕ) (library : Library) (before after : Calls) where
  -- the configuration was refused: nothing else was asked for
  pub conf_asks : (answer : Status) → LoadsAs (Err answer) conf library before after → ReplayAsks answer conf script library before after
  conf_asks (status.Missing number) loads = inl loads
  conf_asks (status.Conf fault) loads = loads
  conf_asks status.TextFault loads = inl loads
  conf_asks status.NoMemory loads = inl loads
  conf_asks (status.Script line) loads = absurd loads.ends
  conf_asks status.Usage loads = absurd loads.ends
  conf_asks status.ListenFault loads = absurd loads.ends
  conf_asks status.WaitFault loads = absurd loads.ends
  conf_asks status.Done loads = absurd loads.ends
  conf_asks status.SinkFault loads = absurd loads.ends

-- the script was asked for after the configuration was loaded, and no pattern besides
module _ (conf script : List ℕ) (library : Library) (before : Calls) (mid after : List Fetch) (makes : List Asked) where
  both_asked : (answer : FetchKind) → AsksConf conf library before (kept mid makes) → AsksFor script answer mid after → AsksBoth conf script answer library before (kept after makes)
  both_asked answer accepted asked = record { mid = kept mid makes; accepted = accepted; asked = asked; unmade = refl }

  -- nothing was asked for besides
  unasked : after ≡ mid → AsksConf conf library before (kept mid makes) → AsksConf conf library before (kept after makes)
  unasked same accepted = subst (λ (texts : List Fetch). AsksConf conf library before (kept texts makes)) (sym same) accepted

  -- the configuration was accepted, and the script was refused
  pub script_asks : (answer : Status) → AsksConf conf library before (kept mid makes) → ScriptSays (Err answer) (library script) → Asks {A = Script} (Err answer) script mid after → ReplayAsks answer conf script library before (kept after makes)
  script_asks (status.Missing number) accepted says asks = inr (says.0, both_asked fetch.Missing accepted asks)
  script_asks (status.Script line) accepted says (inl text) = inl (both_asked fetch.Text accepted text)
  script_asks (status.Script line) accepted says (inr long) = inr (both_asked fetch.Long accepted long)
  script_asks status.TextFault accepted says asks = inr (both_asked fetch.Failed accepted asks)
  script_asks status.NoMemory accepted says (inl none) = inr (inl (unasked none accepted))
  script_asks status.NoMemory accepted says (inr text) = inr (inr (both_asked fetch.Text accepted text))
  script_asks (status.Conf fault) accepted says asks = absurd says
  script_asks status.Usage accepted says asks = absurd says
  script_asks status.ListenFault accepted says asks = absurd says
  script_asks status.WaitFault accepted says asks = absurd says
  script_asks status.Done accepted says asks = absurd says
  script_asks status.SinkFault accepted says asks = absurd says

  -- both were accepted
  pub play_asks : (answer : Status) (last : NextKind) → PlaySays answer last → AsksConf conf library before (kept mid makes) → AsksFor script fetch.Text mid after → ReplayAsks answer conf script library before (kept after makes)
  play_asks status.Done last ends accepted asked = both_asked fetch.Text accepted asked
  play_asks status.SinkFault last ends accepted asked = both_asked fetch.Text accepted asked
  play_asks status.NoMemory last ends accepted asked = inr (inr (both_asked fetch.Text accepted asked))
  play_asks (status.Conf fault) last ends accepted asked = absurd ends
  play_asks status.Usage last ends accepted asked = absurd ends
  play_asks status.ListenFault last ends accepted asked = absurd ends
  play_asks status.WaitFault last ends accepted asked = absurd ends
  play_asks (status.Script line) last ends accepted asked = absurd ends
  play_asks status.TextFault last ends accepted asked = absurd ends
  play_asks (status.Missing number) last ends accepted asked = absurd ends

-- the configuration that was to be checked was refused
pub check_asks : (answer : Status) (conf : List ℕ) (library : Library) (before after : Calls) → LoadsAs (Err answer) conf library before after → CheckAsks answer conf library before after
check_asks (status.Missing number) conf library before after loads = loads
check_asks (status.Conf fault) conf library before after loads = loads
check_asks status.TextFault conf library before after loads = loads
check_asks status.NoMemory conf library before after loads = inl loads
check_asks (status.Script line) conf library before after loads = absurd loads.ends
check_asks status.Usage conf library before after loads = absurd loads.ends
check_asks status.ListenFault conf library before after loads = absurd loads.ends
check_asks status.WaitFault conf library before after loads = absurd loads.ends
check_asks status.Done conf library before after loads = absurd loads.ends
check_asks status.SinkFault conf library before after loads = absurd loads.ends

-- the configuration that was to be printed was refused
pub print_asks : (answer : Status) (conf : List ℕ) (library : Library) (before after : List Fetch) → TreeSays (Err answer) (library conf) → Asks {A = Tree} (Err answer) conf before after → PrintAsks answer conf before after
print_asks (status.Missing number) conf library before after says asks = asks
print_asks (status.Conf fault) conf library before after says asks = asks
print_asks status.TextFault conf library before after says asks = asks
print_asks status.NoMemory conf library before after says asks = asks
print_asks (status.Script line) conf library before after says asks = absurd says
print_asks status.Usage conf library before after says asks = absurd says
print_asks status.ListenFault conf library before after says asks = absurd says
print_asks status.WaitFault conf library before after says asks = absurd says
print_asks status.Done conf library before after says asks = absurd says
print_asks status.SinkFault conf library before after says asks = absurd says
