-- What the outcome of a load says of its calls.
use Rattle.std.proofs.Common.{◌≡◌, ◌≢◌, ◌⊎◌, inl, inr, ℕ, List, [], ◌∷◌, ◌++◌, Bool, true, false, Option, Result, Ok, Err, refl, ◌∙◌, sym, ap, subst, if◌then◌else◌}
use Rattle.std.specs.Str.{bytes_eq}
use Rattle.lt_world.specs.declared.texts.Fetch.{Fetch}
use Rattle.lt_world.specs.declared.texts.FetchKind.{FetchKind}
use Rattle.lt_world.specs.declared.texts.FetchKind.TheVariants as call
use Rattle.lt_world.specs.declared.texts.Fetched.{Fetched}
use Rattle.lt_world.specs.declared.texts.Fetched.TheVariants as fetched
use Rattle.lt_world.specs.TextAnswers.{Library}
use Rattle.conditions.specs.declared.made.Asked.{Asked}
use Rattle.conditions.specs.declared.made.MadeKind.{MadeKind}
use Rattle.conditions.specs.declared.made.MadeKind.TheVariants as made
use Rattle.conf_eval.specs.declared.fault.ConfKind.{ConfKind}
use Rattle.conf_eval.specs.declared.fault.ConfKind.TheVariants as kind
use Rattle.conf_eval.specs.declared.fault.LoadError.{LoadError}
use Rattle.conf_eval.specs.declared.fault.LoadError.TheVariants as e
use Rattle.conf_eval.specs.declared.fault.Loaded.{Loaded}
use Rattle.conf_eval.specs.Settings.{State}
use Rattle.conf_eval.specs.Calls.{Calls, no_calls}
use Rattle.conf_eval.specs.Parts.{Part, Reply, Went, Stopped, Short, Strayed, goes_on, fails, awaits, gives, held_as, fetches_in, makes_in, made_by}
use Rattle.conf_eval.specs.Load as spec
use Rattle.conf_eval.specs.Load.{Ended}
use Rattle.conf_eval.specs.Outcomes.{NoneFailed, NoneRefused, AllAnswered, IsRefused, EndsInRefusal}
use Rattle.conf_eval.proofs.Induction as all
use Rattle.conf_eval.proofs.Induction.{Run, IsKept, IsPlain, Gave, gave_held}
use Rattle.conf_eval.proofs.Endings.{Closed, Halted, ended}

-- What the calls of a part were, by those that it leaves: none of them failed or was refused where it goes on, and where
-- a pattern is refused the last one on the maker was.
pub record Goes (asked rest : Calls) : Type 0 where
  pub answered : AllAnswered rest → AllAnswered asked
  pub earlier : List Asked
  pub are : asked.makes ≡ earlier ++ rest.makes

pub record Refuses (asked rest : Calls) : Type 0 where
  pub earlier : List Asked
  pub last : Asked
  pub are : asked.makes ≡ earlier ++ last ∷ rest.makes
  pub refused : last.answer ≡ made.Refused

abbrev Says : Calls → Reply → Type 0
Says asked (Went s rest) = Goes asked rest
Says asked (Stopped x rest) = IsRefused x → Refuses asked rest
Says asked Short = Unit {0}
Says asked Strayed = Unit {0}

abbrev SaysAll : Run → Type 0
SaysAll run = (calls : Calls) → Says calls (run calls)

-- some calls, and then others
append_of : {A : Type 0} (xs ys zs : List A) → (xs ++ ys) ++ zs ≡ xs ++ (ys ++ zs)
append_of [] ys zs = refl
append_of {A = A} (x ∷ xs) ys zs = ap (λ (l : List A). x ∷ l) (append_of xs ys zs)

goes_goes : (a b c : Calls) → Goes a b → Goes b c → Goes a c
goes_goes a b c h k = record {
  answered = λ n. h.answered (k.answered n);
  earlier = h.earlier ++ k.earlier;
  are = h.are ∙ ap (λ (l : List Asked). h.earlier ++ l) k.are ∙ sym (append_of h.earlier k.earlier c.makes);
}

goes_refuses : (a b c : Calls) → Goes a b → Refuses b c → Refuses a c
goes_refuses a b c h k = record {
  earlier = h.earlier ++ k.earlier;
  last = k.last;
  are = h.are ∙ ap (λ (l : List Asked). h.earlier ++ l) k.are ∙ sym (append_of h.earlier k.earlier (k.last ∷ c.makes));
  refused = k.refused;
}

behind : (a b : Calls) → Goes a b → (r : Reply) → Says b r → Says a r
behind a b h (Went s c) k = goes_goes a b c h k
behind a b h (Stopped x c) k = λ x. goes_refuses a b c h (k x)
behind a b h Short k = tt
behind a b h Strayed k = tt

goes : (a : Calls) (next : Part) → ((s : State) → SaysAll (next s)) → (r : Reply) → Says a r → Says a (goes_on r next)
goes a next h (Went s b) k = behind a b k (next s b) (h s b)
goes a next h (Stopped x b) k = k
goes a next h Short k = tt
goes a next h Strayed k = tt

-- ---- a fetch

waits : {A : Type 0} (a : Calls) (calls : List A) → Says a (awaits calls)
waits a [] = tt
waits a (c ∷ calls) = tt

-- one call on the texts
read_goes : (c : Fetch) (texts : List Fetch) (makes : List Asked) → c.answer ≢ call.Failed → Goes (record { texts = c ∷ texts; makes = makes }) (record { texts = texts; makes = makes })
read_goes c texts makes n = record { answered = λ a. record { read = (n, a.read); made = a.made }; earlier = []; are = refl }

module _ (after : Fetched → Part) (held : Option (List ℕ)) (name : List ℕ) (s : State)
    (failed : (a b : Calls) → Says a (after fetched.Failed s b)) (each : (f : Fetched) → Gave f → SaysAll (after f s)) where
  module _ (c : Fetch) (texts : List Fetch) (makes : List Asked) where
    abbrev asked : Calls
    asked = record { texts = c ∷ texts; makes = makes }

    abbrev rest : Calls
    rest = record { texts = texts; makes = makes }

    read : c.answer ≢ call.Failed → Says asked (after (held_as held s.room) s rest)
    read n = behind asked rest (read_goes c texts makes n) (after (held_as held s.room) s rest) (each (held_as held s.room) (gave_held held s.room) rest)

    given : (answer : FetchKind) → c.answer ≡ answer → Says asked (after (gives answer held s.room) s rest)
    given call.Text is = read (λ p. absurd (cc (is, p)))
    given call.Missing is = read (λ p. absurd (cc (is, p)))
    given call.Long is = read (λ p. absurd (cc (is, p)))
    given call.Failed is = failed asked rest

    named : (t : Bool) → Says asked (if t then after (gives c.answer held s.room) s rest else Strayed)
    named true = given c.answer refl
    named false = tt

  said : (texts : List Fetch) (makes : List Asked) → Says (record { texts = texts; makes = makes }) (fetches_in after held name s texts makes)
  said [] makes = waits (record { texts = []; makes = makes }) makes
  said (c ∷ texts) makes = named c texts makes (bytes_eq c.name name)

-- ---- a pattern

module _ (file line : ℕ) (rule : Bool) (text : List ℕ) (s : State) where
  made_says : (m : Asked) (texts : List Fetch) (makes : List Asked) (answer : MadeKind) → m.answer ≡ answer
      → Says (record { texts = texts; makes = m ∷ makes }) (made_by file line rule text answer s (record { texts = texts; makes = makes }))
  made_says m texts makes made.Pattern is = record { answered = λ a. record { read = a.read; made = ((λ p. absurd (cc (is, p))), a.made) }; earlier = m ∷ []; are = refl }
  made_says m texts makes made.Refused is = λ x. record { earlier = []; last = m; are = refl; refused = is }

  makes_says : (texts : List Fetch) (makes : List Asked) → Says (record { texts = texts; makes = makes }) (makes_in file line rule text s texts makes)
  makes_says texts [] = waits (record { texts = texts; makes = [] }) texts
  makes_says texts (m ∷ makes) = by (bytes_eq m.text text)
    where
      by : (t : Bool) → Says (record { texts = texts; makes = m ∷ makes }) (if t then made_by file line rule text m.answer s (record { texts = texts; makes = makes }) else Strayed)
      by true = made_says m texts makes m.answer refl
      by false = tt

-- ---- all parts

unrefused : (what : ConfKind) → IsPlain what → what ≢ kind.PatternRefused
unrefused what plain p = subst IsPlain p plain

unread : (after : Fetched → Part) (s : State) (file line : ℕ) → ((calls : Calls) → after fetched.Failed s calls ≡ fails kind.TextFault file line calls) → (a b : Calls) → Says a (after fetched.Failed s b)
unread after s file line failed a b = subst (Says a) (sym (failed b)) (λ p. absurd (cc p))

says : IsKept SaysAll
says = record {
  went = λ s calls. record { answered = λ n. n; earlier = []; are = refl };
  fails = λ what file line plain calls x. absurd (unrefused what plain x);
  goes = λ r next h k calls. goes calls next k (r calls) (h calls);
  fetches = λ after held name s file line failed each calls. said after held name s (unread after s file line failed) each calls.texts calls.makes;
  makes = λ file line rule text s calls. makes_says file line rule text s calls.texts calls.makes;
}

module _ (library : Library) where
  rooted : (s : State) (f : Fetched) → Gave f → SaysAll (spec.roots library f s)
  rooted s (fetched.Text bytes) gave = all.text SaysAll says library 16 (0 ∷ []) bytes s
  rooted s fetched.Missing gave = λ calls x. absurd x
  rooted s fetched.Long gave = λ calls x. absurd (cc x)
  rooted s fetched.Failed gave = absurd gave
  rooted s fetched.NoMemory gave = absurd gave

  root : (name : List ℕ) (s : State) → SaysAll (spec.root library name s)
  root name s calls = said (spec.roots library) (library name) name s (λ a b x. absurd x) (rooted s) calls.texts calls.makes

-- ---- the whole

none_left : AllAnswered no_calls
none_left = record { read = tt; made = tt }

module _ (library : Library) (name : List ℕ) (calls : Calls) where
  -- where something was loaded, no call failed and none was refused
  pub all_answered : (loaded : Loaded) → spec.load library name calls ≡ Ended (Ok loaded) → AllAnswered calls
  all_answered loaded p = by (ended (spec.root library name spec.start calls) (Ok loaded) p)
    where
      by : Closed (spec.root library name spec.start calls) (Ok loaded) ⊎ Halted (spec.root library name spec.start calls) (Ok loaded) → AllAnswered calls
      by (inl h) = (subst (Says calls) h.is (root library name spec.start calls)).answered none_left
      by (inr h) = absurd (cc (h.answer))

  -- a fault at the end is of the document root alone
  abbrev NotRefused : Result Loaded LoadError → Type 0
  NotRefused (Ok loaded) = Unit {0}
  NotRefused (Err x) = IsRefused x → ⊥

  closed : (s : State) (b : Bool) → NotRefused (spec.closes s b)
  closed s true = tt
  closed s false = λ p. absurd (cc p)

  -- where a pattern was refused, the last call on the maker was
  pub ends_in_refusal : (x : LoadError) → IsRefused x → spec.load library name calls ≡ Ended (Err x) → EndsInRefusal calls.makes
  ends_in_refusal x refused p = by (ended (spec.root library name spec.start calls) (Err x) p)
    where
      by : Closed (spec.root library name spec.start calls) (Err x) ⊎ Halted (spec.root library name spec.start calls) (Err x) → EndsInRefusal calls.makes
      by (inl h) = absurd (subst NotRefused h.answer (closed h.state (spec.has_root h.state)) refused)
      by (inr h) = let k = subst (Says calls) h.is (root library name spec.start calls) (subst IsRefused (sym (cc h.answer)) refused) in
          record { earlier = k.earlier; last = k.last; makes_are = k.are; refused = k.refused }
