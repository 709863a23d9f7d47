-- Words are one line, or none.
use Rattle.std.proofs.Common.{◌≡◌, ℕ, List, [], refl, sym, subst, ◌∙◌, inl}
use Rattle.std.specs.Prelude.{Some}
use Rattle.lt_world.specs.declared.net.NextKind.{NextKind}
use Rattle.lt_world.specs.declared.net.NextKind.TheVariants as kind
use Rattle.lt_world.specs.TextAnswers.{Library}
use Rattle.lt_commands.specs.declared.status.Status.{Status}
use Rattle.lt_commands.specs.declared.status.Status.TheVariants as status
use Rattle.lt_commands.specs.Words.{Line, Replay, Check, Print, Bench, as_words, SpellsLine, IsNoLine}
use Rattle.lt_commands.specs.Offline.{IsOfLine, WordsSay, LineSays, FaultsSay, MemorySays, Completes, SinkSays}
use Rattle.lt_commands.specs.Failures.{Failures}
use Rattle.lt_commands.specs.Fetching.{LineAsks}
use Rattle.conf_eval.specs.Calls.{Calls, no_calls}

same_words : (words : List (List ℕ)) (a b : Line) → SpellsLine words a → SpellsLine words b → as_words a ≡ as_words b
same_words words a b p q = let both : Some (as_words a) ≡ Some (as_words b) = sym p ∙ q in cc both

same_line : (a b : Line) → as_words a ≡ as_words b → a ≡ b
same_line (Replay conf script) (Replay other more) same = cc same
same_line (Replay conf script) (Check other) same = absurd (cc same)
same_line (Replay conf script) (Print other) same = absurd (cc same)
same_line (Check conf) (Replay other more) same = absurd (cc same)
same_line (Check conf) (Check other) same = cc same
same_line (Check conf) (Print other) same = absurd (cc same)
same_line (Print conf) (Replay other more) same = absurd (cc same)
same_line (Print conf) (Check other) same = absurd (cc same)
same_line (Print conf) (Print other) same = cc same
same_line (Replay conf script) (Bench clients) same = absurd (cc same)
same_line (Check conf) (Bench clients) same = absurd (cc same)
same_line (Print conf) (Bench clients) same = absurd (cc same)
same_line (Bench clients) (Replay conf script) same = absurd (cc same)
same_line (Bench clients) (Check conf) same = absurd (cc same)
same_line (Bench clients) (Print conf) same = absurd (cc same)
same_line (Bench clients) (Bench others) same = cc same

-- words are one line
pub one_line : (words : List (List ℕ)) (a b : Line) → SpellsLine words a → SpellsLine words b → a ≡ b
one_line words a b p q = same_line a b (same_words words a b p q)

-- a benchmark run is no other line

pub no_replay : (words : List (List ℕ)) (conf script : List ℕ) (clients : ℕ) → SpellsLine words (Replay conf script) → SpellsLine words (Bench clients) → ⊥
no_replay words conf script clients p q = let same = one_line words (Replay conf script) (Bench clients) p q in cc same

pub no_check : (words : List (List ℕ)) (conf : List ℕ) (clients : ℕ) → SpellsLine words (Check conf) → SpellsLine words (Bench clients) → ⊥
no_check words conf clients p q = let same = one_line words (Check conf) (Bench clients) p q in cc same

pub no_print : (words : List (List ℕ)) (conf : List ℕ) (clients : ℕ) → SpellsLine words (Print conf) → SpellsLine words (Bench clients) → ⊥
no_print words conf clients p q = let same = one_line words (Print conf) (Bench clients) p q in cc same

-- the status of a line is no Usage
pub of_line : (answer : Status) (words : List (List ℕ)) (line : Line) → IsOfLine answer → SpellsLine words line → WordsSay answer words
of_line status.Done words line is spelled = (line, spelled)
of_line status.NoMemory words line is spelled = tt
of_line status.SinkFault words line is spelled = (line, spelled)
of_line status.TextFault words line is spelled = (line, spelled)
of_line (status.Conf fault) words line is spelled = (line, spelled)
of_line status.Usage words line is spelled = absurd is
of_line status.ListenFault words line is spelled = (line, spelled)
of_line status.WaitFault words line is spelled = (line, spelled)
of_line (status.Script number) words line is spelled = (line, spelled)
of_line (status.Missing number) words line is spelled = (line, spelled)

-- words that are a line are refused for want of memory alone
pub memory_alone : (answer : Status) (words : List (List ℕ)) (line : Line) → IsNoLine answer words → SpellsLine words line → answer ≡ status.NoMemory
memory_alone status.Usage words line none spelled = absurd (none line spelled)
memory_alone status.NoMemory words line none spelled = refl
memory_alone status.Done words line none spelled = absurd none
memory_alone (status.Conf fault) words line none spelled = absurd none
memory_alone (status.Script number) words line none spelled = absurd none
memory_alone status.TextFault words line none spelled = absurd none
memory_alone status.SinkFault words line none spelled = absurd none
memory_alone (status.Missing number) words line none spelled = absurd none
memory_alone status.ListenFault words line none spelled = absurd none
memory_alone status.WaitFault words line none spelled = absurd none

-- what is said of a call whose words give no line
pub record Wordless (answer : Status) (words : List (List ℕ)) (last : NextKind) (before after : Failures) : Type 0 where
  pub words_say : WordsSay answer words
  pub faults : FaultsSay answer before after
  pub memory : MemorySays answer last

pub wordless : (answer : Status) (words : List (List ℕ)) (last : NextKind) (before after : Failures) → IsNoLine answer words → last ≡ kind.NoneYet → Wordless answer words last before after
wordless status.Usage words last before after none unasked = record { words_say = none; faults = tt; memory = tt }
wordless status.NoMemory words last before after none unasked = record { words_say = tt; faults = tt; memory = inl unasked }
wordless status.Done words last before after none unasked = absurd none
wordless (status.Conf fault) words last before after none unasked = absurd none
wordless (status.Script number) words last before after none unasked = absurd none
wordless status.TextFault words last before after none unasked = absurd none
wordless status.SinkFault words last before after none unasked = absurd none
wordless (status.Missing number) words last before after none unasked = absurd none
wordless status.ListenFault words last before after none unasked = absurd none
wordless status.WaitFault words last before after none unasked = absurd none

-- want of memory fits every line
memory_says : (line : Line) (library : Library) → LineSays status.NoMemory line library
memory_says (Replay conf script) library = tt
memory_says (Check conf) library = tt
memory_says (Print conf) library = tt
memory_says (Bench clients) library = tt

pub wordless_says : (answer : Status) (line : Line) (library : Library) → answer ≡ status.NoMemory → LineSays answer line library
wordless_says answer line library is = subst (λ (s : Status). LineSays s line library) (sym is) (memory_says line library)

memory_asks : (line : Line) (library : Library) (calls : Calls) → LineAsks status.NoMemory line library calls calls
memory_asks (Replay conf script) library calls = inl (record { asked = no_calls; calls = refl; ends = tt })
memory_asks (Check conf) library calls = inl (record { asked = no_calls; calls = refl; ends = tt })
memory_asks (Print conf) library calls = (inl refl, refl)
memory_asks (Bench clients) library calls = refl

pub wordless_asks : (answer : Status) (line : Line) (library : Library) (calls : Calls) → answer ≡ status.NoMemory → LineAsks answer line library calls calls
wordless_asks answer line library calls is = subst (λ (s : Status). LineAsks s line library calls calls) (sym is) (memory_asks line library calls)

memory_completes : (line : Line) (library : Library) → Completes status.NoMemory line library
memory_completes (Replay conf script) library = λ loaded said. tt
memory_completes (Check conf) library = λ loaded. tt
memory_completes (Print conf) library = λ tree. tt
memory_completes (Bench clients) library = tt

pub wordless_completes : (answer : Status) (line : Line) (library : Library) → answer ≡ status.NoMemory → Completes answer line library
wordless_completes answer line library is = subst (λ (s : Status). Completes s line library) (sym is) (memory_completes line library)

pub wordless_sink : (answer : Status) (output before : List ℕ) → answer ≡ status.NoMemory → SinkSays answer output before before
wordless_sink answer output before is = subst (λ (s : Status). SinkSays s output before before) (sym is) refl
