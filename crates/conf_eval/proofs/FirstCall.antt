-- What is the first call of a load, and what the others cannot come to.
use Rattle.std.proofs.Common.{◌≡◌, ◌≢◌, ◌⊎◌, inl, inr, ℕ, List, [], ◌∷◌, length, Bool, true, false, Option, Some, None, Result, Ok, Err, refl, ◌∙◌, sym, ap, subst, if◌then◌else◌, nat_le}
use Rattle.std.specs.Str.{bytes_eq}
use Rattle.std.proofs.lemmas.Slice.Eq.{bytes_eq-Decides}
use Rattle.lt_world.specs.declared.texts.Fetch.{Fetch}
use Rattle.lt_world.specs.declared.texts.FetchKind.{FetchKind}
use Rattle.lt_world.specs.declared.texts.FetchKind.TheVariants as call
use Rattle.lt_world.specs.declared.texts.Fetched.{Fetched}
use Rattle.lt_world.specs.declared.texts.Fetched.TheVariants as fetched
use Rattle.lt_world.specs.TextAnswers.{Library}
use Rattle.conditions.specs.declared.made.Asked.{Asked}
use Rattle.conditions.specs.declared.made.MadeKind.{MadeKind}
use Rattle.conditions.specs.declared.made.MadeKind.TheVariants as made
use Rattle.conf_eval.specs.declared.fault.ConfKind.TheVariants as kind
use Rattle.conf_eval.specs.declared.fault.LoadError.{LoadError}
use Rattle.conf_eval.specs.declared.fault.LoadError.TheVariants as e
use Rattle.conf_eval.specs.declared.fault.Loaded.{Loaded}
use Rattle.conf_eval.specs.Settings.{State}
use Rattle.conf_eval.specs.Calls.{Calls, no_calls}
use Rattle.conf_eval.specs.Parts.{Part, Reply, Went, Stopped, Short, Strayed, goes_on, fails, awaits, gives, held_as, fetches_in, makes_in, made_by}
use Rattle.conf_eval.specs.Load as spec
use Rattle.conf_eval.specs.Load.{Ended}
use Rattle.conf_eval.specs.Answers.{Ran, with_calls}
use Rattle.conf_eval.specs.Outcomes.{FirstSays, IsOnly, Opens, asking}
use Rattle.conf_eval.proofs.Induction as all
use Rattle.conf_eval.proofs.Induction.{Run, IsKept, Gave, gave_held}
use Rattle.conf_eval.proofs.Endings.{Closed, Halted, ended}

-- ---- behind the first text there are faults of the configuration alone

abbrev IsFault : LoadError → Type 0
IsFault (e.Conf fault) = Unit {0}
IsFault other = ⊥

-- what stops it is a fault of the configuration
abbrev pub Faults : Reply → Type 0
Faults (Stopped x calls) = IsFault x
Faults other = Unit {0}

abbrev FaultsAlone : Run → Type 0
FaultsAlone run = (calls : Calls) → Faults (run calls)

goes : (next : Part) → ((s : State) → FaultsAlone (next s)) → (r : Reply) → Faults r → Faults (goes_on r next)
goes next h (Went s calls) k = h s calls
goes next h (Stopped x calls) k = k
goes next h Short k = tt
goes next h Strayed k = tt

waits : {A : Type 0} (calls : List A) → Faults (awaits calls)
waits [] = tt
waits (c ∷ calls) = tt

module _ (after : Fetched → Part) (held : Option (List ℕ)) (name : List ℕ) (s : State)
    (failed : FaultsAlone (after fetched.Failed s)) (each : (f : Fetched) → Gave f → FaultsAlone (after f s)) where
  given : (answer : FetchKind) → FaultsAlone (after (gives answer held s.room) s)
  given call.Text = each (held_as held s.room) (gave_held held s.room)
  given call.Missing = each (held_as held s.room) (gave_held held s.room)
  given call.Long = each (held_as held s.room) (gave_held held s.room)
  given call.Failed = failed

  fetched_faults : (texts : List Fetch) (makes : List Asked) → Faults (fetches_in after held name s texts makes)
  fetched_faults [] makes = waits makes
  fetched_faults (c ∷ texts) makes = by (bytes_eq c.name name)
    where
      by : (t : Bool) → Faults (if t then after (gives c.answer held s.room) s (record { texts = texts; makes = makes }) else Strayed)
      by true = given c.answer (record { texts = texts; makes = makes })
      by false = tt

module _ (file line : ℕ) (rule : Bool) (text : List ℕ) (s : State) where
  made_faults : (answer : MadeKind) → FaultsAlone (made_by file line rule text answer s)
  made_faults made.Pattern calls = tt
  made_faults made.Refused calls = tt

  makes_faults : (texts : List Fetch) (makes : List Asked) → Faults (makes_in file line rule text s texts makes)
  makes_faults texts [] = waits texts
  makes_faults texts (m ∷ makes) = by (bytes_eq m.text text)
    where
      by : (t : Bool) → Faults (if t then made_by file line rule text m.answer s (record { texts = texts; makes = makes }) else Strayed)
      by true = made_faults m.answer (record { texts = texts; makes = makes })
      by false = tt

faults : IsKept FaultsAlone
faults = record {
  went = λ s calls. tt;
  fails = λ what file line plain calls. tt;
  goes = λ r next h k calls. goes next k (r calls) (h calls);
  fetches = λ after held name s file line failed each calls. fetched_faults after held name s (λ b. subst Faults (sym (failed b)) tt) each calls.texts calls.makes;
  makes = λ file line rule text s calls. makes_faults file line rule text s calls.texts calls.makes;
}

-- the first text, once it is there
pub text_faults : (library : Library) (d : ℕ) (scopes bytes : List ℕ) (s : State) (calls : Calls) → Faults (spec.text library d scopes bytes s calls)
text_faults = all.text FaultsAlone faults

-- ---- the first call

-- why the first text is not there, by the only answer
abbrev Such : LoadError → Option (List ℕ) → FetchKind → Type 0
Such (e.Conf fault) held answer = Unit {0}
Such e.RootMissing held answer = (held ≡ None) × (answer ≢ call.Failed)
Such e.RootFailed held answer = answer ≡ call.Failed
Such e.NoMemory held answer = ⊥

-- the same of a reply, where these calls were left behind the first
abbrev Rightly : Reply → Option (List ℕ) → FetchKind → Calls → Type 0
Rightly (Stopped x calls) held answer rest = IsFault x ⊎ ((calls ≡ rest) × Such x held answer)
Rightly other held answer rest = Unit {0}

faulty : (r : Reply) (held : Option (List ℕ)) (answer : FetchKind) (rest : Calls) → Faults r → Rightly r held answer rest
faulty (Went s calls) held answer rest h = tt
faulty (Stopped x calls) held answer rest h = inl h
faulty Short held answer rest h = tt
faulty Strayed held answer rest h = tt

module _ (library : Library) (s : State) (rest : Calls) where
  -- the call did not fail
  gave : (held : Option (List ℕ)) (answer : FetchKind) → answer ≢ call.Failed → Rightly (spec.roots library (held_as held s.room) s rest) held answer rest
  gave None answer n = inr (refl, (refl, n))
  gave (Some bytes) answer n = by (nat_le (length bytes) s.room)
    where
      by : (b : Bool) → Rightly (spec.roots library (if b then fetched.Text bytes else fetched.Long) s rest) (Some bytes) answer rest
      by true = faulty (spec.text library 16 (0 ∷ []) bytes s rest) (Some bytes) answer rest (text_faults library 16 (0 ∷ []) bytes s rest)
      by false = inl tt

  rooted : (held : Option (List ℕ)) (answer : FetchKind) → Rightly (spec.roots library (gives answer held s.room) s rest) held answer rest
  rooted held call.Text = gave held call.Text (λ p. cc)
  rooted held call.Missing = gave held call.Missing (λ p. cc)
  rooted held call.Long = gave held call.Long (λ p. cc)
  rooted held call.Failed = inr (refl, refl)

-- the outcome is a fault of the configuration, or follows from the only call
abbrev Due : Option (List ℕ) → List ℕ → Calls → Result Loaded LoadError → Type 0
Due held name calls (Ok loaded) = Unit {0}
Due held name calls (Err x) = IsFault x ⊎ IsOnly (Such x held) name calls

-- how a reply ends
abbrev Ending : Reply → Type 0
Ending (Stopped x calls) = Unit {0}
Ending other = ⊥

waits_on : {A : Type 0} (calls : List A) → Ending (awaits calls) → ⊥
waits_on [] h = h
waits_on (c ∷ calls) h = h

module _ (library : Library) (name : List ℕ) where
  only : (c : Fetch) (texts : List Fetch) (makes : List Asked) (why : LoadError) → bytes_eq c.name name ≡ true
      → IsFault why ⊎ ((no_calls ≡ record { texts = texts; makes = makes }) × Such why (library name) c.answer) → Due (library name) name (record { texts = c ∷ texts; makes = makes }) (Err why)
  only c texts makes why same (inl h) = inl h
  only c texts makes why same (inr h) = inr (record {
    answer = c.answer;
    texts_are = ap (λ (n : List ℕ). record { name = n; answer = c.answer } ∷ texts) ((bytes_eq-Decides c.name name).0 same) ∙ ap (λ (r : Calls). record { name = name; answer = c.answer } ∷ r.texts) (sym h.0);
    makes_are = ap (λ (r : Calls). r.makes) (sym h.0);
    such = h.1;
  })

  stopped : (texts : List Fetch) (makes : List Asked) (why : LoadError) → fetches_in (spec.roots library) (library name) name spec.start texts makes ≡ Stopped why no_calls
      → Due (library name) name (record { texts = texts; makes = makes }) (Err why)
  stopped [] makes why p = absurd (waits_on makes (subst Ending (sym p) tt))
  stopped (c ∷ texts) makes why p = by (bytes_eq c.name name) refl p
    where
      by : (b : Bool) → bytes_eq c.name name ≡ b → (if b then spec.roots library (gives c.answer (library name) spec.start.room) spec.start (record { texts = texts; makes = makes }) else Strayed) ≡ Stopped why no_calls
          → Due (library name) name (record { texts = c ∷ texts; makes = makes }) (Err why)
      by true same q = only c texts makes why same (subst (λ (r : Reply). Rightly r (library name) c.answer (record { texts = texts; makes = makes })) q (rooted library spec.start (record { texts = texts; makes = makes }) (library name) c.answer))
      by false same q = absurd (subst Ending (sym q) tt)

  closed : (calls : Calls) (s : State) (b : Bool) → Due (library name) name calls (spec.closes s b)
  closed calls s true = tt
  closed calls s false = inl tt

  due : (calls : Calls) (x : Result Loaded LoadError) → spec.load library name calls ≡ Ended x → Due (library name) name calls x
  due calls x p = by (ended (spec.root library name spec.start calls) x p)
    where
      by : Closed (spec.root library name spec.start calls) x ⊎ Halted (spec.root library name spec.start calls) x → Due (library name) name calls x
      by (inl h) = subst (Due (library name) name calls) h.answer (closed calls h.state (spec.has_root h.state))
      by (inr h) = subst (Due (library name) name calls) h.answer (stopped calls.texts calls.makes h.why h.is)

pub missing_root : (library : Library) (name : List ℕ) (calls : Calls) → spec.load library name calls ≡ Ended (Err e.RootMissing)
    → (library name ≡ None) × IsOnly (λ answer. answer ≢ call.Failed) name calls
missing_root library name calls p = by (due library name calls (Err e.RootMissing) p)
  where
    by : ⊥ ⊎ IsOnly (λ answer. (library name ≡ None) × (answer ≢ call.Failed)) name calls → (library name ≡ None) × IsOnly (λ answer. answer ≢ call.Failed) name calls
    by (inl h) = absurd h
    by (inr h) = (h.such.0, record { answer = h.answer; texts_are = h.texts_are; makes_are = h.makes_are; such = h.such.1 })

pub failed_root : (library : Library) (name : List ℕ) (calls : Calls) → spec.load library name calls ≡ Ended (Err e.RootFailed)
    → IsOnly (λ answer. answer ≡ call.Failed) name calls
failed_root library name calls p = by (due library name calls (Err e.RootFailed) p)
  where
    by : ⊥ ⊎ IsOnly (λ answer. answer ≡ call.Failed) name calls → IsOnly (λ answer. answer ≡ call.Failed) name calls
    by (inl h) = absurd h
    by (inr h) = h

-- ---- what the code's first call was

module _ (name : List ℕ) (earlier between later : List Fetch) (is : between ≡ asking name call.Text ∷ earlier) where
  opens : (asked : List Fetch) → later ≡ with_calls between asked → Opens name earlier later
  opens asked p = record { others = asked; calls_are = p ∙ ap (λ (l : List Fetch). with_calls l asked) is }

  -- the first text was there, and was taken so
  pub first_text : (library : Library) (d : ℕ) (scopes bytes : List ℕ) (old new : State) (a b : List Asked) (r : Result (Unit {0}) LoadError)
      → Ran (spec.text library d scopes bytes) old (record { texts = between; makes = a }) (record { texts = later; makes = b }) r new → FirstSays r name earlier later
  first_text library d scopes bytes old new a b (Ok done) h = opens h.asked.texts (ap (λ (l : Calls). l.texts) h.calls)
  first_text library d scopes bytes old new a b (Err (e.Conf fault)) h = inl (opens h.asked.texts (ap (λ (l : Calls). l.texts) h.calls))
  first_text library d scopes bytes old new a b (Err e.RootMissing) h = absurd (subst Faults h.runs (text_faults library d scopes bytes old h.asked))
  first_text library d scopes bytes old new a b (Err e.RootFailed) h = absurd (subst Faults h.runs (text_faults library d scopes bytes old h.asked))
  first_text library d scopes bytes old new a b (Err e.NoMemory) h = tt
