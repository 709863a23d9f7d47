-- How a call ends, by its parts: the words, the configuration, and the run.
use Rattle.std.proofs.Common.{◌≡◌, ◌≤◌, ℕ, ◌++◌, List, [], ap, refl, sym, subst, ◌∙◌, arith, inl, inr, append_assoc, append-nil, Some, Err}
use Rattle.lt_world.specs.Causes.{Rose}
use Rattle.lt_world.specs.declared.net.NextKind.{NextKind}
use Rattle.lt_world.specs.declared.net.NextKind.TheVariants as kind
use Rattle.lt_world.specs.TextAnswers.{Library}
use Rattle.lt_commands.specs.declared.status.Status.{Status}
use Rattle.lt_commands.specs.declared.status.Status.TheVariants as status
use Rattle.lt_commands.specs.Failures.{Failures}
use Rattle.lt_commands.specs.Fetching.{AsksConf, CheckAsks}
use Rattle.lt_commands.specs.Loading.{HasSomeConf}
use Rattle.conf_eval.specs.Calls.{Calls}
use Rattle.lt_commands.specs.Offline.{CheckSays, FaultsSay, IsCompleteLoad, SinkSays}
use Rattle.lt_commands.specs.Warned.{WarnedFaults}
use Rattle.command_words.specs.Lines.{Serve}
use Rattle.lt_serve.specs.Serving.{SpellsServe, WordsSay, IsNoServe, TextsSay, Asks, LoadedEnds, Ends, IsRefusal, GotSome, SaidTo, IsComplete, IsOfServe}

-- ---- a configuration was loaded, and served by

module _ (last : NextKind) (waits waited : ℕ) where
  pub loaded_line : (answer : Status) → LoadedEnds answer last waits waited → IsOfServe answer
  loaded_line status.Usage ends = ends
  loaded_line status.Done ends = tt
  loaded_line (status.Conf fault) ends = tt
  loaded_line (status.Script line) ends = tt
  loaded_line status.TextFault ends = tt
  loaded_line status.SinkFault ends = tt
  loaded_line status.NoMemory ends = tt
  loaded_line (status.Missing number) ends = tt
  loaded_line status.ListenFault ends = tt
  loaded_line status.WaitFault ends = tt

  pub loaded_texts : (answer : Status) (library : Library) (conf : List ℕ) → LoadedEnds answer last waits waited → HasSomeConf library conf → TextsSay answer library conf
  loaded_texts status.Usage library conf ends has = ends
  loaded_texts status.Done library conf ends has = has
  loaded_texts (status.Conf fault) library conf ends has = absurd ends
  loaded_texts (status.Script line) library conf ends has = ends
  loaded_texts status.TextFault library conf ends has = tt
  loaded_texts status.SinkFault library conf ends has = has
  loaded_texts status.NoMemory library conf ends has = tt
  loaded_texts (status.Missing number) library conf ends has = absurd ends
  loaded_texts status.ListenFault library conf ends has = has
  loaded_texts status.WaitFault library conf ends has = has

  pub loaded_asks : (answer : Status) (conf : List ℕ) (library : Library) (before after : Calls) → LoadedEnds answer last waits waited → AsksConf conf library before after → Asks answer conf library before after
  loaded_asks status.Usage conf library before after ends asks = ends
  loaded_asks status.Done conf library before after ends asks = asks
  loaded_asks (status.Conf fault) conf library before after ends asks = absurd ends
  loaded_asks (status.Script line) conf library before after ends asks = ends
  loaded_asks status.TextFault conf library before after ends asks = absurd ends
  loaded_asks status.SinkFault conf library before after ends asks = asks
  loaded_asks status.NoMemory conf library before after ends asks = inr (inr asks)
  loaded_asks (status.Missing number) conf library before after ends asks = absurd ends
  loaded_asks status.ListenFault conf library before after ends asks = asks
  loaded_asks status.WaitFault conf library before after ends asks = asks

  pub loaded_ends : (answer : Status) → LoadedEnds answer last waits waited → Ends answer last waits waited
  loaded_ends status.Usage ends = absurd ends
  loaded_ends status.Done ends = ends
  loaded_ends (status.Conf fault) ends = absurd ends
  loaded_ends (status.Script line) ends = absurd ends
  loaded_ends status.TextFault ends = absurd ends
  loaded_ends status.SinkFault ends = ends
  loaded_ends status.NoMemory ends = ends
  loaded_ends (status.Missing number) ends = absurd ends
  loaded_ends status.ListenFault ends = ends
  loaded_ends status.WaitFault ends = ends

  pub loaded_complete : (answer : Status) → LoadedEnds answer last waits waited → IsComplete answer
  loaded_complete status.Usage ends = ends
  loaded_complete status.Done ends = tt
  loaded_complete (status.Conf fault) ends = absurd ends
  loaded_complete (status.Script line) ends = ends
  loaded_complete status.TextFault ends = tt
  loaded_complete status.SinkFault ends = tt
  loaded_complete status.NoMemory ends = tt
  loaded_complete (status.Missing number) ends = ends
  loaded_complete status.ListenFault ends = tt
  loaded_complete status.WaitFault ends = tt

  -- the sink fails as it is told where the server listens, or before
  pub loaded_faults : (answer : Status) (mid : ℕ) (before after : Failures) → LoadedEnds answer last waits waited → before.sink ≤ mid → (answer ≡ status.SinkFault → Rose mid after.sink) → FaultsSay answer before after
  loaded_faults status.Usage mid before after ends more rose = tt
  loaded_faults status.Done mid before after ends more rose = tt
  loaded_faults (status.Conf fault) mid before after ends more rose = absurd ends
  loaded_faults (status.Script line) mid before after ends more rose = tt
  loaded_faults status.TextFault mid before after ends more rose = absurd ends
  loaded_faults status.SinkFault mid before after ends more rose = let here = rose refl in grind (arith, more, here)
  loaded_faults status.NoMemory mid before after ends more rose = tt
  loaded_faults (status.Missing number) mid before after ends more rose = tt
  loaded_faults status.ListenFault mid before after ends more rose = tt
  loaded_faults status.WaitFault mid before after ends more rose = tt

  -- of those that refuse, only a sink that fails comes here
  pub loaded_refused : (P : Type 0) (answer : Status) → LoadedEnds answer last waits waited → (answer ≡ status.SinkFault → P) → IsRefusal answer → P
  loaded_refused P status.Usage ends sank is = absurd ends
  loaded_refused P status.Done ends sank is = absurd is
  loaded_refused P (status.Conf fault) ends sank is = absurd ends
  loaded_refused P (status.Script line) ends sank is = absurd ends
  loaded_refused P status.TextFault ends sank is = absurd ends
  loaded_refused P status.SinkFault ends sank is = sank refl
  loaded_refused P status.NoMemory ends sank is = absurd is
  loaded_refused P (status.Missing number) ends sank is = absurd ends
  loaded_refused P status.ListenFault ends sank is = absurd is
  loaded_refused P status.WaitFault ends sank is = absurd is

-- ---- two texts, one behind the other

whole_of_both : (a b before mid after : List ℕ) → mid ≡ before ++ a → after ≡ mid ++ b → after ≡ before ++ (a ++ b)
whole_of_both a b before mid after first second = second ∙ ap (λ t. t ++ b) first ∙ append_assoc before a b

front_of_second : (a b before mid after : List ℕ) → mid ≡ before ++ a → GotSome b mid after → GotSome (a ++ b) before after
front_of_second a b before mid after first got =
    (a ++ got.0, got.1, ap (λ t. a ++ t) got.2 ∙ sym (append_assoc a got.0 got.1), whole_of_both a got.0 before mid after first got.3)

pub said_both : (last : NextKind) (waits waited : ℕ) (answer : Status) (a b before mid after : List ℕ) → LoadedEnds answer last waits waited → mid ≡ before ++ a → SaidTo answer b mid after → SaidTo answer (a ++ b) before after
said_both last waits waited status.Usage a b before mid after ends first second = absurd ends
said_both last waits waited status.Done a b before mid after ends first second = whole_of_both a b before mid after first second
said_both last waits waited (status.Conf fault) a b before mid after ends first second = absurd ends
said_both last waits waited (status.Script line) a b before mid after ends first second = absurd ends
said_both last waits waited status.TextFault a b before mid after ends first second = absurd ends
said_both last waits waited status.SinkFault a b before mid after ends first second = front_of_second a b before mid after first second
said_both last waits waited status.NoMemory a b before mid after ends first second = front_of_second a b before mid after first second
said_both last waits waited (status.Missing number) a b before mid after ends first second = absurd ends
said_both last waits waited status.ListenFault a b before mid after ends first second = whole_of_both a b before mid after first second
said_both last waits waited status.WaitFault a b before mid after ends first second = whole_of_both a b before mid after first second

nothing_got : (text before after : List ℕ) → after ≡ before → GotSome text before after
nothing_got text before after same = ([], text, refl, same ∙ sym (append-nil before))

-- ---- no configuration was loaded

module _ (failed fails : Failures) where
  pub refused_line : (answer : Status) → WarnedFaults (Err answer) failed fails → IsOfServe answer
  refused_line status.Usage cause = absurd cause
  refused_line status.Done cause = tt
  refused_line (status.Conf fault) cause = tt
  refused_line (status.Script line) cause = tt
  refused_line status.TextFault cause = tt
  refused_line status.SinkFault cause = tt
  refused_line status.NoMemory cause = tt
  refused_line (status.Missing number) cause = tt
  refused_line status.ListenFault cause = tt
  refused_line status.WaitFault cause = tt

  pub refused_faults : (answer : Status) → WarnedFaults (Err answer) failed fails → FaultsSay answer failed fails
  refused_faults status.Usage cause = tt
  refused_faults status.Done cause = tt
  refused_faults (status.Conf fault) cause = cause
  refused_faults (status.Script line) cause = tt
  refused_faults status.TextFault cause = cause
  refused_faults status.SinkFault cause = cause
  refused_faults status.NoMemory cause = tt
  refused_faults (status.Missing number) cause = tt
  refused_faults status.ListenFault cause = tt
  refused_faults status.WaitFault cause = tt

  pub refused_ends : (answer : Status) (last : NextKind) (waits waited : ℕ) → WarnedFaults (Err answer) failed fails → last ≡ kind.NoneYet → Ends answer last waits waited
  refused_ends status.Usage last waits waited cause unasked = unasked
  refused_ends status.Done last waits waited cause unasked = absurd cause
  refused_ends (status.Conf fault) last waits waited cause unasked = unasked
  refused_ends (status.Script line) last waits waited cause unasked = unasked
  refused_ends status.TextFault last waits waited cause unasked = unasked
  refused_ends status.SinkFault last waits waited cause unasked = unasked
  refused_ends status.NoMemory last waits waited cause unasked = inl unasked
  refused_ends (status.Missing number) last waits waited cause unasked = unasked
  refused_ends status.ListenFault last waits waited cause unasked = absurd cause
  refused_ends status.WaitFault last waits waited cause unasked = absurd cause

  -- the sink has the front of the warnings, where it failed, and nothing else
  pub refused_says : (answer : Status) (a b before after : List ℕ) → WarnedFaults (Err answer) failed fails → SinkSays answer a before after → SaidTo answer (a ++ b) before after
  refused_says status.Usage a b before after cause says = says
  refused_says status.Done a b before after cause says = absurd cause
  refused_says (status.Conf fault) a b before after cause says = says
  refused_says (status.Script line) a b before after cause says = says
  refused_says status.TextFault a b before after cause says = says
  refused_says status.SinkFault a b before after cause says =
      (says.0, says.1 ++ b, ap (λ t. t ++ b) says.2 ∙ append_assoc says.0 says.1 b, says.3)
  refused_says status.NoMemory a b before after cause says = nothing_got (a ++ b) before after says
  refused_says (status.Missing number) a b before after cause says = says
  refused_says status.ListenFault a b before after cause says = absurd cause
  refused_says status.WaitFault a b before after cause says = absurd cause

pub refused_texts : (answer : Status) (library : Library) (conf : List ℕ) → CheckSays answer library conf → TextsSay answer library conf
refused_texts status.Usage library conf says = says
refused_texts status.Done library conf says = says
refused_texts (status.Conf fault) library conf says = says
refused_texts (status.Script line) library conf says = says
refused_texts status.TextFault library conf says = tt
refused_texts status.SinkFault library conf says = says
refused_texts status.NoMemory library conf says = tt
refused_texts (status.Missing number) library conf says = says
refused_texts status.ListenFault library conf says = absurd says
refused_texts status.WaitFault library conf says = absurd says

pub refused_asks : (answer : Status) (conf : List ℕ) (library : Library) (before after : Calls) → CheckAsks answer conf library before after → Asks answer conf library before after
refused_asks status.Usage conf library before after asks = asks
refused_asks status.Done conf library before after asks = asks
refused_asks (status.Conf fault) conf library before after asks = asks
refused_asks (status.Script line) conf library before after asks = asks
refused_asks status.TextFault conf library before after asks = asks
refused_asks status.SinkFault conf library before after asks = asks
refused_asks status.NoMemory conf library before after asks = inr asks
refused_asks (status.Missing number) conf library before after asks = asks
refused_asks status.ListenFault conf library before after asks = absurd asks
refused_asks status.WaitFault conf library before after asks = absurd asks

pub refused_complete : (answer : Status) → IsCompleteLoad answer → IsComplete answer
refused_complete status.Usage is = is
refused_complete status.Done is = tt
refused_complete (status.Conf fault) is = is
refused_complete (status.Script line) is = is
refused_complete status.TextFault is = tt
refused_complete status.SinkFault is = tt
refused_complete status.NoMemory is = tt
refused_complete (status.Missing number) is = is
refused_complete status.ListenFault is = tt
refused_complete status.WaitFault is = tt

-- ---- the words gave no name

-- words that are the line that serves are refused for want of memory alone
pub memory_alone : (answer : Status) (words : List (List ℕ)) (conf : List ℕ) → IsNoServe answer words → SpellsServe words conf → answer ≡ status.NoMemory
memory_alone status.Usage words conf none spelled = absurd (none conf spelled)
memory_alone status.NoMemory words conf none spelled = refl
memory_alone status.Done words conf none spelled = absurd none
memory_alone (status.Conf fault) words conf none spelled = absurd none
memory_alone (status.Script line) words conf none spelled = absurd none
memory_alone status.TextFault words conf none spelled = absurd none
memory_alone status.SinkFault words conf none spelled = absurd none
memory_alone (status.Missing number) words conf none spelled = absurd none
memory_alone status.ListenFault words conf none spelled = absurd none
memory_alone status.WaitFault words conf none spelled = absurd none

pub wordless : (answer : Status) (words : List (List ℕ)) → IsNoServe answer words → WordsSay answer words
wordless status.Usage words none = none
wordless status.NoMemory words none = tt
wordless status.Done words none = absurd none
wordless (status.Conf fault) words none = absurd none
wordless (status.Script line) words none = absurd none
wordless status.TextFault words none = absurd none
wordless status.SinkFault words none = absurd none
wordless (status.Missing number) words none = absurd none
wordless status.ListenFault words none = absurd none
wordless status.WaitFault words none = absurd none

pub wordless_ends : (answer : Status) (words : List (List ℕ)) (last : NextKind) (waits waited : ℕ) → IsNoServe answer words → last ≡ kind.NoneYet → Ends answer last waits waited
wordless_ends status.Usage words last waits waited none unasked = unasked
wordless_ends status.NoMemory words last waits waited none unasked = inl unasked
wordless_ends status.Done words last waits waited none unasked = absurd none
wordless_ends (status.Conf fault) words last waits waited none unasked = absurd none
wordless_ends (status.Script line) words last waits waited none unasked = absurd none
wordless_ends status.TextFault words last waits waited none unasked = absurd none
wordless_ends status.SinkFault words last waits waited none unasked = absurd none
wordless_ends (status.Missing number) words last waits waited none unasked = absurd none
wordless_ends status.ListenFault words last waits waited none unasked = absurd none
wordless_ends status.WaitFault words last waits waited none unasked = absurd none

pub wordless_faults : (answer : Status) (words : List (List ℕ)) (before after : Failures) → IsNoServe answer words → FaultsSay answer before after
wordless_faults status.Usage words before after none = tt
wordless_faults status.NoMemory words before after none = tt
wordless_faults status.Done words before after none = absurd none
wordless_faults (status.Conf fault) words before after none = absurd none
wordless_faults (status.Script line) words before after none = absurd none
wordless_faults status.TextFault words before after none = absurd none
wordless_faults status.SinkFault words before after none = absurd none
wordless_faults (status.Missing number) words before after none = absurd none
wordless_faults status.ListenFault words before after none = absurd none
wordless_faults status.WaitFault words before after none = absurd none

-- with such words, texts were not asked for, the texts spell what they may, and nothing was put out
pub wordless_texts : (answer : Status) (library : Library) (conf : List ℕ) → answer ≡ status.NoMemory → TextsSay answer library conf
wordless_texts answer library conf is = subst (λ (s : Status). TextsSay s library conf) (sym is) tt

pub wordless_asks : (answer : Status) (conf : List ℕ) (library : Library) (calls : Calls) → answer ≡ status.NoMemory → Asks answer conf library calls calls
wordless_asks answer conf library calls is = subst (λ (s : Status). Asks s conf library calls calls) (sym is) (inl refl)

pub wordless_complete : (answer : Status) → answer ≡ status.NoMemory → IsComplete answer
wordless_complete answer is = subst IsComplete (sym is) tt

pub wordless_says : (answer : Status) (text before : List ℕ) → answer ≡ status.NoMemory → SaidTo answer text before before
wordless_says answer text before is = subst (λ (s : Status). SaidTo s text before before) (sym is) (nothing_got text before before refl)

-- ---- the words give a name

-- and only one
pub one_conf : (words : List (List ℕ)) (a b : List ℕ) → SpellsServe words a → SpellsServe words b → a ≡ b
one_conf words a b first second = let both : Some (Serve a) ≡ Some (Serve b) = sym first ∙ second in cc both

pub of_line : (answer : Status) (words : List (List ℕ)) (conf : List ℕ) → IsOfServe answer → SpellsServe words conf → WordsSay answer words
of_line status.Usage words conf line spelled = absurd line
of_line status.NoMemory words conf line spelled = tt
of_line status.Done words conf line spelled = (conf, spelled)
of_line (status.Conf fault) words conf line spelled = (conf, spelled)
of_line (status.Script line) words conf is spelled = (conf, spelled)
of_line status.TextFault words conf line spelled = (conf, spelled)
of_line status.SinkFault words conf line spelled = (conf, spelled)
of_line (status.Missing number) words conf line spelled = (conf, spelled)
of_line status.ListenFault words conf line spelled = (conf, spelled)
of_line status.WaitFault words conf line spelled = (conf, spelled)
