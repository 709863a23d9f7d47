-- Parts of a load, one after another.
use Rattle.std.proofs.Common.{◌≡◌, ◌≢◌, ℕ, zero, suc, ◌-◌, ◌<◌, ◌≤◌, ◌++◌, List, [], ◌∷◌, length, Bool, true, false, Option, Some, None, Result, Ok, Err, refl, ◌∙◌, sym, ap, subst, append-nil, append_assoc, arith, if◌then◌else◌, nat_le}
use Rattle.std.proofs.lemmas.Bool.Decides.{nat_tests}
use Rattle.lt_world.specs.declared.texts.Fetch.{Fetch}
use Rattle.lt_world.specs.declared.texts.FetchKind.{FetchKind}
use Rattle.lt_world.specs.declared.texts.FetchKind.TheVariants as call
use Rattle.lt_world.specs.declared.texts.Fetched.{Fetched}
use Rattle.lt_world.specs.declared.texts.Fetched.TheVariants as fetched
use Rattle.lt_world.specs.TextAnswers.{Library}
use Rattle.conditions.specs.declared.made.Asked.{Asked}
use Rattle.conditions.specs.declared.made.MadeKind.{MadeKind}
use Rattle.conditions.specs.declared.made.MadeKind.TheVariants as made
use Rattle.conditions.specs.Marked.{Marked}
use Rattle.conf_value.specs.declared.block.Block.{Block}
use Rattle.conf_value.specs.declared.block.Warning.{Warning}
use Rattle.conf_eval.specs.declared.fault.ConfKind.TheVariants as kind
use Rattle.conf_eval.specs.declared.fault.LoadError.{LoadError}
use Rattle.conf_eval.specs.declared.fault.LoadError.TheVariants as e
use Rattle.conf_eval.specs.declared.fault.Loaded.{Loaded}
use Rattle.conf_eval.specs.declared.halt.Wrong.{Wrong}
use Rattle.conf_eval.specs.declared.halt.Halt.{Halt}
use Rattle.conf_eval.specs.declared.halt.Halt.TheVariants as halt
use Rattle.conf_eval.specs.Faults.{fault, kind_of, proceed}
use Rattle.conf_eval.specs.Settings.{State}
use Rattle.conf_eval.specs.Calls.{Calls, no_calls, before}
use Rattle.conf_eval.specs.Parts.{Part, Reply, Went, Stopped, Strayed, goes_on, fails, fetches, gives, held_as, makes, makes_in, made_by, with_pattern}
use Rattle.conf_eval.specs.Load.{root, roots, load, ends, closes, has_root, start, Outcome, Ended}
use Rattle.conf_eval.specs.Answers.{Is, OnCourse, Runs, Ran, Gives, Closes, Loads, halted, kept, with_all, with_calls}
use Rattle.conf_eval.proofs.Courses.{Begins, BeginsBy, goes_course, is_on_course}
use Rattle.conf_eval.proofs.Placed.{bytes_same}

-- ---- what is due

-- an answer of what is due is one of what is the same
pub is_as : {A : Type 0} (a b : Result A Wrong) (r : Result A Halt) → a ≡ b → Is b r → Is a r
is_as {A = A} a b r p h = subst (λ (d : Result A Wrong). Is d r) (sym p) h

-- what stopped stops what comes after
pub is_stopped : {A B : Type 0} (due : Result A Wrong) (next : A → Result B Wrong) (h : Halt) → Is due (Err h) → Is (proceed due next) (Err h)
is_stopped {A = A} due next (halt.Wrong x) p = ap (λ (d : Result A Wrong). proceed d next) p
is_stopped {A = A} due next halt.NoMemory p = tt

-- ---- calls

with_calls-append : {A : Type 0} (earlier a b : List A) → with_calls earlier (a ++ b) ≡ with_calls (with_calls earlier a) b
with_calls-append earlier [] b = refl
with_calls-append earlier (c ∷ a) b = with_calls-append (c ∷ earlier) a b

pair_of : (a b : List Fetch) (x y : List Asked) → a ≡ b → x ≡ y → kept a x ≡ kept b y
pair_of a b x y p q = ap (λ (l : List Fetch). kept l x) p ∙ ap (kept b) q

with_all-before : (earlier a b : Calls) → with_all earlier (before a b) ≡ with_all (with_all earlier a) b
with_all-before earlier a b = pair_of _ _ _ _ (with_calls-append earlier.texts a.texts b.texts) (with_calls-append earlier.makes a.makes b.makes)

before-before : (a b c : Calls) → before (before a b) c ≡ before a (before b c)
before-before a b c = pair_of _ _ _ _ (append_assoc a.texts b.texts c.texts) (append_assoc a.makes b.makes c.makes)

before-none : (a : Calls) → before a no_calls ≡ a
before-none a = pair_of _ _ _ _ (append-nil a.texts) (append-nil a.makes)

-- ---- one part

stops_runs : (part : Part) (old new : State) (asked : Calls) (x : LoadError) → part old asked ≡ Stopped x no_calls → Runs part old asked (Err x) new
stops_runs part old new asked (e.Conf f) h = h
stops_runs part old new asked e.RootMissing h = h
stops_runs part old new asked e.RootFailed h = h
stops_runs part old new asked e.NoMemory h = is_on_course h tt

module _ (part : Part) (old new : State) (calls : Calls) where
  -- a part that stops at once
  pub stops : (x : LoadError) → part old no_calls ≡ Stopped x no_calls → Ran part old calls calls (Err x) new
  stops x h = record { asked = no_calls; calls = refl; runs = stops_runs part old new no_calls x h }

  -- a part that goes on at once
  pub goes : ((others : Calls) → part old others ≡ Went new others) → Ran part old calls calls (Ok tt) new
  goes h = record { asked = no_calls; calls = refl; runs = h }

  -- a part for which memory ran out
  pub lacks_memory : BeginsBy (part old) → Ran part old calls calls (Err e.NoMemory) new
  lacks_memory begins = record { asked = no_calls; calls = refl; runs = begins }

-- what is wrong by itself
pub wrong_by_itself : (part : Part) (old new : State) (calls : Calls) (file line : ℕ) → BeginsBy (part old) → (h : Halt)
    → ((x : Wrong) → h ≡ halt.Wrong x → part old no_calls ≡ fails (kind_of x) file line no_calls) → Ran part old calls calls (Err (halted h file line)) new
wrong_by_itself part old new calls file line begins (halt.Wrong x) h = stops part old new calls _ (h x refl)
wrong_by_itself part old new calls file line begins halt.NoMemory h = lacks_memory part old new calls begins

-- ---- parts behind one another

-- a part is another one
pub ran_as : (part next : Part) (old mid new : State) (earlier later : Calls) (r : Result (Unit {0}) LoadError) → ((others : Calls) → part old others ≡ next mid others)
    → Ran next mid earlier later r new → Ran part old earlier later r new
ran_as part next old mid new earlier later r same h = record { asked = h.asked; calls = h.calls; runs = by r h.runs }
  where
    by : (r : Result (Unit {0}) LoadError) → Runs next mid h.asked r new → Runs part old h.asked r new
    by (Ok done) k = λ others. same (before h.asked others) ∙ k others
    by (Err (e.Conf f)) k = same h.asked ∙ k
    by (Err e.RootMissing) k = same h.asked ∙ k
    by (Err e.RootFailed) k = same h.asked ∙ k
    by (Err e.NoMemory) k = is_on_course (same h.asked) k

-- a part that makes these calls and then is another one
pub ran_behind : (part next : Part) (old mid new : State) (earlier later : Calls) (r : Result (Unit {0}) LoadError) (first : Calls) → ((others : Calls) → part old (before first others) ≡ next mid others)
    → Ran next mid (with_all earlier first) later r new → Ran part old earlier later r new
ran_behind part next old mid new earlier later r first same h =
    record { asked = before first h.asked; calls = h.calls ∙ sym (with_all-before earlier first h.asked); runs = by r h.runs }
  where
    by : (r : Result (Unit {0}) LoadError) → Runs next mid h.asked r new → Runs part old (before first h.asked) r new
    by (Ok done) k = λ others. ap (part old) (before-before first h.asked others) ∙ same (before h.asked others) ∙ k others
    by (Err (e.Conf f)) k = same h.asked ∙ k
    by (Err e.RootMissing) k = same h.asked ∙ k
    by (Err e.RootFailed) k = same h.asked ∙ k
    by (Err e.NoMemory) k = is_on_course (same h.asked) k

-- a part that makes these calls and stops
pub stops_behind : (part : Part) (old new : State) (earlier first : Calls) (x : LoadError) → part old first ≡ Stopped x no_calls → Ran part old earlier (with_all earlier first) (Err x) new
stops_behind part old new earlier first x h = record { asked = first; calls = refl; runs = stops_runs part old new first x h }

-- ---- sequences

-- What was done of a part so far: what is left of it comes to what the whole comes to.
pub record SoFar (whole left : Part) (old : State) (earlier later : Calls) (now : State) : Type 0 where
  pub asked : Calls
  pub calls : later ≡ with_all earlier asked
  pub runs : (others : Calls) → whole old (before asked others) ≡ left now others

-- nothing was done
pub so_far_none : (part : Part) (old : State) (calls : Calls) → SoFar part part old calls calls old
so_far_none part old calls = record { asked = no_calls; calls = refl; runs = λ others. refl }

-- a part was done
pub so_far_ran : (whole part next : Part) (old new : State) (earlier later : Calls) → ((others : Calls) → whole old others ≡ goes_on (part old others) next)
    → Ran part old earlier later (Ok tt) new → SoFar whole next old earlier later new
so_far_ran whole part next old new earlier later is h = record {
  asked = h.asked;
  calls = h.calls;
  runs = λ others. is (before h.asked others) ∙ ap (λ (r : Reply). goes_on r next) (h.runs others);
}

module _ (whole left : Part) (old now : State) (earlier later : Calls) where
  pub so_far_end : SoFar whole left old earlier later now → ((others : Calls) → left now others ≡ Went now others) → Ran whole old earlier later (Ok tt) now
  so_far_end h done = record { asked = h.asked; calls = h.calls; runs = λ others. h.runs others ∙ done others }

  -- what is left is done, or stops
  pub so_far_last : (new : State) (last : Calls) (r : Result (Unit {0}) LoadError) → SoFar whole left old earlier later now → Ran left now later last r new → Ran whole old earlier last r new
  so_far_last new last r h k = record {
    asked = before h.asked k.asked;
    calls = k.calls ∙ ap (λ (l : Calls). with_all l k.asked) h.calls ∙ sym (with_all-before earlier h.asked k.asked);
    runs = by r k.runs;
  }
    where
      by : (r : Result (Unit {0}) LoadError) → Runs left now k.asked r new → Runs whole old (before h.asked k.asked) r new
      by (Ok done) q = λ others. ap (whole old) (before-before h.asked k.asked others) ∙ h.runs (before k.asked others) ∙ q others
      by (Err (e.Conf f)) q = h.runs k.asked ∙ q
      by (Err e.RootMissing) q = h.runs k.asked ∙ q
      by (Err e.RootFailed) q = h.runs k.asked ∙ q
      by (Err e.NoMemory) q = is_on_course (h.runs k.asked) q

  module _ (part next : Part) (last : Calls) (new : State) (h : SoFar whole left old earlier later now) (is : (others : Calls) → left now others ≡ goes_on (part now others) next) where
    pub so_far_step : Ran part now later last (Ok tt) new → SoFar whole next old earlier last new
    so_far_step k = record {
      asked = before h.asked k.asked;
      calls = k.calls ∙ ap (λ (l : Calls). with_all l k.asked) h.calls ∙ sym (with_all-before earlier h.asked k.asked);
      runs = λ others. ap (whole old) (before-before h.asked k.asked others) ∙ h.runs (before k.asked others) ∙ is (before k.asked others) ∙ ap (λ (r : Reply). goes_on r next) (k.runs others);
    }

    pub so_far_stops : Begins next → (x : LoadError) → Ran part now later last (Err x) new → Ran whole old earlier last (Err x) new
    so_far_stops begins x k = record { asked = before h.asked k.asked; calls = k.calls ∙ ap (λ (l : Calls). with_all l k.asked) h.calls ∙ sym (with_all-before earlier h.asked k.asked); runs = by x k.runs }
      where
        stop : (y : LoadError) → part now k.asked ≡ Stopped y no_calls → whole old (before h.asked k.asked) ≡ Stopped y no_calls
        stop y q = h.runs k.asked ∙ is k.asked ∙ ap (λ (r : Reply). goes_on r next) q

        by : (y : LoadError) → Runs part now k.asked (Err y) new → Runs whole old (before h.asked k.asked) (Err y) new
        by (e.Conf f) q = stop (e.Conf f) q
        by e.RootMissing q = stop e.RootMissing q
        by e.RootFailed q = stop e.RootFailed q
        by e.NoMemory q = is_on_course (h.runs k.asked ∙ is k.asked) (goes_course next begins (part now k.asked) q)

-- one part behind another: the first stops
pub first_stops : (whole part next : Part) (old new : State) (earlier later : Calls) (x : LoadError) → ((others : Calls) → whole old others ≡ goes_on (part old others) next)
    → Begins next → Ran part old earlier later (Err x) new → Ran whole old earlier later (Err x) new
first_stops whole part next old new earlier later x is begins h =
    so_far_stops whole whole old old earlier earlier part next later new (so_far_none whole old earlier) is begins x h

-- or it is done, and the second comes to this
pub then_ran : (whole part next : Part) (old mid new : State) (earlier between later : Calls) (r : Result (Unit {0}) LoadError) → ((others : Calls) → whole old others ≡ goes_on (part old others) next)
    → Ran part old earlier between (Ok tt) mid → Ran next mid between later r new → Ran whole old earlier later r new
then_ran whole part next old mid new earlier between later r is h k =
    so_far_last whole next old mid earlier between new later r (so_far_ran whole part next old mid earlier between is h) k

-- ---- fetches

-- a call for this name
abbrev pub asking : List ℕ → FetchKind → Fetch
asking name what = record { name = name; answer = what }

abbrev pub one_text : List ℕ → FetchKind → Calls
one_text name what = kept (asking name what ∷ []) []

module _ (after : Fetched → Part) (held : Option (List ℕ)) (name : List ℕ) (s : State) where
  -- a fetch by what it gave
  pub fetch_open : (what : FetchKind) (calls : Calls) → fetches after held name s (before (one_text name what) calls) ≡ after (gives what held s.room) s calls
  fetch_open what calls = ap (λ (b : Bool). if b then after (gives what held s.room) s calls else Strayed) (bytes_same name)

  -- a fetch that ends by what it gave
  pub fetch_stops : (new : State) (texts later : List Fetch) (asked : List Asked) (what : FetchKind) (got : Fetched) (x : LoadError)
      → later ≡ asking name what ∷ texts → gives what held s.room ≡ got → after got s no_calls ≡ Stopped x no_calls
      → Ran (fetches after held name) s (kept texts asked) (kept later asked) (Err x) new
  fetch_stops new texts later asked what got x is given stop =
      subst (λ (l : List Fetch). Ran (fetches after held name) s (kept texts asked) (kept l asked) (Err x) new) (sym is)
      (stops_behind (fetches after held name) s new (kept texts asked) (one_text name what) x (fetch_open what no_calls ∙ ap (λ (f : Fetched). after f s no_calls) given ∙ stop))

  -- a fetch whose text is there
  pub fetch_text : (next : Part) (mid new : State) (texts between : List Fetch) (asked : List Asked) (later : Calls) (found : List ℕ) (r : Result (Unit {0}) LoadError)
      → between ≡ asking name call.Text ∷ texts → gives call.Text held s.room ≡ fetched.Text found → ((others : Calls) → after (fetched.Text found) s others ≡ next mid others)
      → Ran next mid (kept between asked) later r new → Ran (fetches after held name) s (kept texts asked) later r new
  fetch_text next mid new texts between asked later found r is given same h =
      ran_behind (fetches after held name) next s mid new (kept texts asked) later r (one_text name call.Text)
      (λ others. fetch_open call.Text others ∙ ap (λ (f : Fetched). after f s others) given ∙ same others)
      (subst (λ (l : List Fetch). Ran next mid (kept l asked) later r new) is h)

-- what a fetch gave, where it is right
pub gives_text : (held : Option (List ℕ)) (text : List ℕ) (room : ℕ) → held ≡ Some text → length text ≤ room → gives call.Text held room ≡ fetched.Text text
gives_text held text room is fits = ap (λ (o : Option (List ℕ)). held_as o room) is ∙ ap (λ (b : Bool). if b then fetched.Text text else fetched.Long) (let t : nat_le (length text) room ≡ true = grind (arith, nat_tests, fits) in t)

pub gives_missing : (held : Option (List ℕ)) (room : ℕ) → held ≡ None → gives call.Missing held room ≡ fetched.Missing
gives_missing held room is = ap (λ (o : Option (List ℕ)). held_as o room) is

pub gives_long : (held : Option (List ℕ)) (text : List ℕ) (room : ℕ) → held ≡ Some text → room < length text → gives call.Long held room ≡ fetched.Long
gives_long held text room is over = ap (λ (o : Option (List ℕ)). held_as o room) is ∙ ap (λ (b : Bool). if b then fetched.Text text else fetched.Long) (let t : nat_le (length text) room ≡ false = grind (arith, nat_tests, over) in t)

-- ---- patterns

-- a call for a pattern of this text
abbrev pub making : List ℕ → MadeKind → Asked
making text what = record { text = text; answer = what }

abbrev pub one_make : List ℕ → MadeKind → Calls
one_make text what = kept [] (making text what ∷ [])

module _ (file line : ℕ) (rule : Bool) (text : List ℕ) (s : State) where
  pub make_full : nat_le 48 (length s.patterns) ≡ true → (calls : Calls) → makes file line rule text s calls ≡ fails kind.TooMany file line calls
  make_full full calls = ap (λ (b : Bool). if b then fails kind.TooMany file line calls else makes_in file line rule text s calls.texts calls.makes) full

  pub make_open : nat_le 48 (length s.patterns) ≡ false → (what : MadeKind) (calls : Calls) → makes file line rule text s (before (one_make text what) calls) ≡ made_by file line rule text what s calls
  make_open few what calls =
      ap (λ (b : Bool). if b then fails kind.TooMany file line (before (one_make text what) calls) else makes_in file line rule text s calls.texts (making text what ∷ calls.makes)) few
      ∙ ap (λ (b : Bool). if b then made_by file line rule text what s calls else Strayed) (bytes_same text)

  module _ (texts : List Fetch) (old later : List Asked) where
    -- the pattern was made
    pub make_goes : (new : State) → nat_le 48 (length s.patterns) ≡ false → later ≡ making text made.Pattern ∷ old → with_pattern text rule s ≡ new
        → Ran (makes file line rule text) s (kept texts old) (kept texts later) (Ok tt) new
    make_goes new few is same = record {
      asked = one_make text made.Pattern;
      calls = ap (kept texts) is;
      runs = λ others. make_open few made.Pattern others ∙ ap (λ (x : State). Went x others) same;
    }

    -- it was made, and there was no memory for it
    pub make_lost : (new : State) → nat_le 48 (length s.patterns) ≡ false → later ≡ making text made.Pattern ∷ old → Ran (makes file line rule text) s (kept texts old) (kept texts later) (Err e.NoMemory) new
    make_lost new few is = record { asked = one_make text made.Pattern; calls = ap (kept texts) is; runs = is_on_course (make_open few made.Pattern no_calls) tt }

    pub make_refused : (new : State) (x : LoadError) → nat_le 48 (length s.patterns) ≡ false → later ≡ making text made.Refused ∷ old → x ≡ e.Conf (fault kind.PatternRefused file line)
        → Ran (makes file line rule text) s (kept texts old) (kept texts later) (Err x) new
    make_refused new x few is why =
        subst (λ (y : LoadError). Ran (makes file line rule text) s (kept texts old) (kept texts later) (Err y) new) (sym why)
        (record { asked = one_make text made.Refused; calls = ap (kept texts) is; runs = make_open few made.Refused no_calls })

-- ---- states

-- what was loaded, with these blocks and patterns
abbrev pub state : List Warning → ℕ → ℕ → List Block → List Marked → State
state warnings files room blocks patterns = record { blocks = blocks; warnings = warnings; patterns = patterns; files = files; room = room }

pub state_is : (warnings : List Warning) (files room : ℕ) (a b : List Block) (x y : List Marked) → a ≡ b → x ≡ y → state warnings files room a x ≡ state warnings files room b y
state_is warnings files room a b x y p q = ap (λ (l : List Block). state warnings files room l x) p ∙ ap (state warnings files room b) q

-- ---- the whole

Gives-of : (r : Result Loaded LoadError) (a b : Outcome) → a ≡ b → Gives r b → Gives r a
Gives-of (Ok x) a b q h = q ∙ h
Gives-of (Err (e.Conf f)) a b q h = q ∙ h
Gives-of (Err e.RootMissing) a b q h = q ∙ h
Gives-of (Err e.RootFailed) a b q h = q ∙ h
Gives-of (Err e.NoMemory) a b q h = subst OnCourse (sym q) h

pub load_ends : (library : Library) (name : List ℕ) (earlier later : Calls) (s : State) (r : Result Loaded LoadError)
    → Ran (root library name) start earlier later (Ok tt) s → Closes s r → Loads (load library name) earlier later r
load_ends library name earlier later s r h k = record {
  asked = h.asked;
  calls = h.calls;
  gives = Gives-of r (load library name h.asked) (Ended (closes s (has_root s))) (ap (λ (l : Calls). load library name l) (sym (before-none h.asked)) ∙ ap ends (h.runs no_calls)) k;
}

pub load_stops : (library : Library) (name : List ℕ) (earlier later : Calls) (s : State) (x : LoadError)
    → Ran (root library name) start earlier later (Err x) s → Loads (load library name) earlier later (Err x)
load_stops library name earlier later s x h = record { asked = h.asked; calls = h.calls; gives = by x h.runs }
  where
    by : (y : LoadError) → Runs (root library name) start h.asked (Err y) s → Gives (Err y) (load library name h.asked)
    by (e.Conf f) q = ap ends q
    by e.RootMissing q = ap ends q
    by e.RootFailed q = ap ends q
    by e.NoMemory q = q
