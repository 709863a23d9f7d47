-- How a call that serves ends, and what it means for its clients.
use Rattle.std.specs.Prelude.{◌≡◌, ℕ, ◌⊎◌, ◌++◌, List, Some, None, Err}
use Rattle.lt_world.specs.Causes.{Rose}
use Rattle.lt_world.specs.declared.net.NextKind.{NextKind}
use Rattle.lt_world.specs.declared.net.NextKind.TheVariants as kind
use Rattle.lt_world.specs.TextAnswers.{Library}
use Rattle.lt_world.specs.Trace.{Entry}
use Rattle.settings.specs.InForm.{IsInForm}
use Rattle.conf_eval.specs.declared.fault.Loaded.{Loaded}
use Rattle.server_model.specs.Site.{site_at}
use Rattle.server_model.specs.Turns.{Seen}
use Rattle.lt_commands.specs.declared.status.Status.{Status}
use Rattle.lt_commands.specs.declared.status.Status.TheVariants as status
use Rattle.lt_commands.specs.Fetching.{AsksConf}
use Rattle.lt_commands.specs.Loading.{HasSomeConf, HasFault, IsOutside, LoadsAs}
use Rattle.conf_eval.specs.Calls.{Calls}
use Rattle.lt_commands.specs.Warnings.{warning_lines}
use Rattle.command_words.specs.Lines.{line_of, Serve}
use Rattle.lt_serve.specs.Listening.{address_of, listening_line}
use Rattle.lt_serve.specs.Served.{Served}

-- the words are the line that serves by the configuration of this name
abbrev pub SpellsServe : List (List ℕ) → List ℕ → Type 0
SpellsServe words conf = line_of words ≡ Some (Serve conf)

-- Usage comes only where the words are no such line, and then always, unless there is no memory to read them
abbrev pub WordsSay : Status → List (List ℕ) → Type 0
WordsSay status.Usage words = (conf : List ℕ) → ¬ SpellsServe words conf
WordsSay status.NoMemory words = Unit {0}
WordsSay other words = (conf : List ℕ) × SpellsServe words conf

-- why the words of a call give no name: they are no such line, or can't be read for want of memory
abbrev pub IsNoServe : Status → List (List ℕ) → Type 0
IsNoServe status.Usage words = (conf : List ℕ) → ¬ SpellsServe words conf
IsNoServe status.NoMemory words = Unit {0}
IsNoServe other words = ⊥

-- the status by the texts: it serves where they spell a configuration
abbrev pub TextsSay : Status → Library → List ℕ → Type 0
TextsSay (status.Missing number) library conf = (number ≡ 1) × (library conf ≡ None)
TextsSay (status.Conf fault) library conf = HasFault library conf fault
TextsSay status.Done library conf = HasSomeConf library conf
TextsSay status.SinkFault library conf = HasSomeConf library conf
TextsSay status.ListenFault library conf = HasSomeConf library conf
TextsSay status.WaitFault library conf = HasSomeConf library conf
TextsSay status.TextFault library conf = Unit {0}
TextsSay status.NoMemory library conf = Unit {0}
TextsSay other library conf = ⊥

-- which texts and patterns are asked for: those of the configuration
abbrev pub Asks : Status → List ℕ → Library → Calls → Calls → Type 0
Asks (status.Missing number) conf library before after = LoadsAs (Err (status.Missing number)) conf library before after
Asks (status.Conf fault) conf library before after = LoadsAs (Err (status.Conf fault)) conf library before after
Asks status.TextFault conf library before after = LoadsAs (Err status.TextFault) conf library before after
Asks status.NoMemory conf library before after = (after ≡ before) ⊎ (LoadsAs (Err status.NoMemory) conf library before after ⊎ AsksConf conf library before after)
Asks status.Usage conf library before after = ⊥
Asks (status.Script line) conf library before after = ⊥
Asks other conf library before after = AsksConf conf library before after

-- how a server that listens ends, by the net's last answer and its count of failed waits
abbrev pub ListenEnds : Status → NextKind → ℕ → ℕ → Type 0
ListenEnds status.Done last before after = last ≡ kind.Over
ListenEnds status.NoMemory last before after = (last ≡ kind.NoneYet) ⊎ (last ≡ kind.NoMemory)
ListenEnds status.ListenFault last before after = (last ≡ kind.NoneYet) × Rose before after
ListenEnds status.WaitFault last before after = (last ≡ kind.Idle) × Rose before after
ListenEnds other last before after = ⊥

-- how a configuration that was loaded is served by: the sink fails before anything is asked of the net
abbrev pub LoadedEnds : Status → NextKind → ℕ → ℕ → Type 0
LoadedEnds status.SinkFault last before after = last ≡ kind.NoneYet
LoadedEnds other last before after = ListenEnds other last before after

-- how a whole call ends: whatever is refused, no event was asked for; once one was, memory is wanted only where the net's
-- last answer wants it
abbrev pub Ends : Status → NextKind → ℕ → ℕ → Type 0
Ends (status.Missing number) last before after = last ≡ kind.NoneYet
Ends (status.Conf fault) last before after = last ≡ kind.NoneYet
Ends status.Usage last before after = last ≡ kind.NoneYet
Ends (status.Script line) last before after = last ≡ kind.NoneYet
Ends status.TextFault last before after = last ≡ kind.NoneYet
Ends other last before after = LoadedEnds other last before after

-- a call that ends so asked nothing of its files
abbrev pub IsUnasked : Status → Type 0
IsUnasked (status.Missing number) = Unit {0}
IsUnasked (status.Conf fault) = Unit {0}
IsUnasked status.Usage = Unit {0}
IsUnasked (status.Script line) = Unit {0}
IsUnasked status.TextFault = Unit {0}
IsUnasked status.SinkFault = Unit {0}
IsUnasked status.ListenFault = Unit {0}
IsUnasked other = ⊥

-- and a call that ends so asked nothing of its net either
abbrev pub IsRefusal : Status → Type 0
IsRefusal status.ListenFault = ⊥
IsRefusal other = IsUnasked other

-- the sink got a front of a text
abbrev pub GotSome : List ℕ → List ℕ → List ℕ → Type 0
GotSome text before after = (front rest : List ℕ) × (text ≡ front ++ rest) × (after ≡ before ++ front)

-- the sink got the whole text where the server listened or tried to, the front of it where the sink failed or memory was
-- wanted, and nothing where the call was refused
abbrev pub SaidTo : Status → List ℕ → List ℕ → List ℕ → Type 0
SaidTo status.Done text before after = after ≡ before ++ text
SaidTo status.ListenFault text before after = after ≡ before ++ text
SaidTo status.WaitFault text before after = after ≡ before ++ text
SaidTo status.SinkFault text before after = GotSome text before after
SaidTo status.NoMemory text before after = GotSome text before after
SaidTo other text before after = after ≡ before

-- what a call puts out of a configuration: its warnings, and where it listens
abbrev pub announced : Loaded → List ℕ
announced loaded = warning_lines loaded ++ listening_line (address_of loaded.config.blocks)

-- with good words and texts the call is done, unless something fails or memory is wanted
abbrev pub IsComplete : Status → Type 0
IsComplete status.Done = Unit {0}
IsComplete status.NoMemory = Unit {0}
IsComplete status.TextFault = Unit {0}
IsComplete (status.Conf fault) = IsOutside fault.kind
IsComplete status.SinkFault = Unit {0}
IsComplete status.ListenFault = Unit {0}
IsComplete status.WaitFault = Unit {0}
IsComplete other = ⊥

-- there is a configuration in form by which each client was served
pub record ServedBySome (before after : Seen) (trace : List Entry) : Type 0 where
  pub loaded : Loaded
  pub in_form : IsInForm loaded.config
  pub served : Served (site_at loaded.config.blocks) before after trace

-- the status of a call whose words are its line
abbrev pub IsOfServe : Status → Type 0
IsOfServe status.Usage = ⊥
IsOfServe other = Unit {0}
