-- What a load comes to does not depend on the answers that are kept, where no call failed or was refused.
use Rattle.std.proofs.Common.{◌≡◌, ◌≢◌, ◌⊎◌, inl, inr, ℕ, List, [], ◌∷◌, Bool, true, false, Option, Result, Ok, Err, refl, ◌∙◌, sym, ap, subst, if◌then◌else◌}
use Rattle.std.specs.Str.{bytes_eq}
use Rattle.lt_world.specs.declared.texts.Fetch.{Fetch}
use Rattle.lt_world.specs.declared.texts.FetchKind.{FetchKind}
use Rattle.lt_world.specs.declared.texts.FetchKind.TheVariants as call
use Rattle.lt_world.specs.declared.texts.Fetched.{Fetched}
use Rattle.lt_world.specs.declared.texts.Fetched.TheVariants as fetched
use Rattle.lt_world.specs.TextAnswers.{Library}
use Rattle.conditions.specs.declared.made.Asked.{Asked}
use Rattle.conditions.specs.declared.made.MadeKind.{MadeKind}
use Rattle.conditions.specs.declared.made.MadeKind.TheVariants as made
use Rattle.conf_eval.specs.declared.fault.ConfKind.TheVariants as kind
use Rattle.conf_eval.specs.declared.fault.LoadError.{LoadError}
use Rattle.conf_eval.specs.declared.fault.LoadError.TheVariants as e
use Rattle.conf_eval.specs.declared.fault.Loaded.{Loaded}
use Rattle.conf_eval.specs.Faults.{fault}
use Rattle.conf_eval.specs.Settings.{State}
use Rattle.conf_eval.specs.Calls.{Calls, no_calls}
use Rattle.conf_eval.specs.Parts.{Part, Reply, Went, Stopped, Short, Strayed, goes_on, fails, awaits, gives, held_as, fetches_in, makes_in, made_by}
use Rattle.conf_eval.specs.Load as spec
use Rattle.conf_eval.specs.Load.{Ended}
use Rattle.conf_eval.specs.Outcomes.{NoneFailed, NoneRefused, AllAnswered, IsUnread, EndsUnread, IsRefused, EndsRefused}
use Rattle.conf_eval.proofs.Induction as all
use Rattle.conf_eval.proofs.Induction.{Run, IsKept, Gave, gave_held}
use Rattle.conf_eval.proofs.Endings.{Closed, Halted, ended}

-- Whether a call on the texts may fail, and one on the maker be refused: each is as good as a premise that it does not.
module _ (Fail Refuse : Type 0) where
  abbrev MayFail : List Fetch → Type 0
  MayFail [] = Unit {0}
  MayFail (c ∷ calls) = ((c.answer ≢ call.Failed) ⊎ Fail) × MayFail calls

  abbrev MayRefuse : List Asked → Type 0
  MayRefuse [] = Unit {0}
  MayRefuse (m ∷ makes) = ((m.answer ≢ made.Refused) ⊎ Refuse) × MayRefuse makes

  record May (calls : Calls) : Type 0 where
    pub read : MayFail calls.texts
    pub made : MayRefuse calls.makes

  -- a text could not be read or a pattern was refused, where that may be
  abbrev Unanswered : LoadError → Type 0
  Unanswered x = (Fail × IsUnread x) ⊎ (Refuse × IsRefused x)

  -- Two replies of one part, where no call of the first failed or was refused.
  abbrev Agree : Reply → Reply → Type 0
  Agree (Went s a) (Went t b) = (s ≡ t) × AllAnswered a × May b
  Agree (Went s a) (Stopped y b) = Unanswered y
  Agree (Went s a) Short = Unit {0}
  Agree (Went s a) Strayed = Unit {0}
  Agree (Stopped x a) (Went t b) = ⊥
  Agree (Stopped x a) (Stopped y b) = (x ≡ y) ⊎ Unanswered y
  Agree (Stopped x a) Short = Unit {0}
  Agree (Stopped x a) Strayed = Unit {0}
  Agree Short reply = Unit {0}
  Agree Strayed reply = Unit {0}

  strayed : (r : Reply) → Agree r Strayed
  strayed (Went s a) = tt
  strayed (Stopped x a) = tt
  strayed Short = tt
  strayed Strayed = tt

  short : (r : Reply) → Agree r Short
  short (Went s a) = tt
  short (Stopped x a) = tt
  short Short = tt
  short Strayed = tt

  unanswered : (r : Reply) (y : LoadError) (b : Calls) → Unanswered y → Agree r (Stopped y b)
  unanswered (Went s a) y b h = h
  unanswered (Stopped x a) y b h = inr h
  unanswered Short y b h = tt
  unanswered Strayed y b h = tt

  -- a side with no call left agrees with everything, on either hand
  waits : {A : Type 0} (calls : List A) (r : Reply) → Agree (awaits calls) r
  waits [] r = tt
  waits (c ∷ calls) r = tt

  awaited : {A : Type 0} (calls : List A) (r : Reply) → Agree r (awaits calls)
  awaited [] r = short r
  awaited (c ∷ calls) r = strayed r

  -- whatever calls come, the replies agree
  abbrev Determined : Run → Type 0
  Determined run = (a b : Calls) → AllAnswered a → May b → Agree (run a) (run b)

  goes : (next : Part) → ((s : State) → Determined (next s)) → (r q : Reply) → Agree r q → Agree (goes_on r next) (goes_on q next)
  goes next h (Went s a) (Went t b) k = subst (λ (u : State). Agree (next s a) (next u b)) k.0 (h s a b k.1 k.2)
  goes next h (Went s a) (Stopped y b) k = unanswered (next s a) y b k
  goes next h (Went s a) Short k = short (next s a)
  goes next h (Went s a) Strayed k = strayed (next s a)
  goes next h (Stopped x a) (Went t b) k = absurd k
  goes next h (Stopped x a) (Stopped y b) k = k
  goes next h (Stopped x a) Short k = tt
  goes next h (Stopped x a) Strayed k = tt
  goes next h Short q k = tt
  goes next h Strayed q k = tt

  -- ---- a fetch

  as_held : (answer : FetchKind) (held : Option (List ℕ)) (room : ℕ) → answer ≢ call.Failed → gives answer held room ≡ held_as held room
  as_held call.Text held room n = refl
  as_held call.Missing held room n = refl
  as_held call.Long held room n = refl
  as_held call.Failed held room n = absurd (n refl)

  -- what is done with what was fetched, where a failure stops it
  module _ (after : Fetched → Part) (held : Option (List ℕ)) (name : List ℕ) (s : State)
      (failed : (b : Calls) (r : Reply) → Fail → Agree r (after fetched.Failed s b)) (each : (f : Fetched) → Gave f → Determined (after f s)) where
    module _ (a b : Calls) (n : AllAnswered a) (m : May b) where
      first : Agree (after (held_as held s.room) s a) (after (held_as held s.room) s b)
      first = each (held_as held s.room) (gave_held held s.room) a b n m

      second : (answer : FetchKind) → (answer ≢ call.Failed) ⊎ Fail → Agree (after (held_as held s.room) s a) (after (gives answer held s.room) s b)
      second call.Text k = first
      second call.Missing k = first
      second call.Long k = first
      second call.Failed (inl k) = absurd (k refl)
      second call.Failed (inr may) = failed b (after (held_as held s.room) s a) may

      both : (one other : FetchKind) → one ≢ call.Failed → (other ≢ call.Failed) ⊎ Fail → Agree (after (gives one held s.room) s a) (after (gives other held s.room) s b)
      both one other k l = subst (λ (f : Fetched). Agree (after f s a) (after (gives other held s.room) s b)) (sym (as_held one held s.room k)) (second other l)

      named : (one other : FetchKind) → one ≢ call.Failed → (other ≢ call.Failed) ⊎ Fail → (t u : Bool)
          → Agree (if t then after (gives one held s.room) s a else Strayed) (if u then after (gives other held s.room) s b else Strayed)
      named one other k l true true = both one other k l
      named one other k l true false = strayed (after (gives one held s.room) s a)
      named one other k l false u = tt

    fetched_same : (ta tb : List Fetch) (ma mb : List Asked) → NoneFailed ta → NoneRefused ma → MayFail tb → MayRefuse mb
        → Agree (fetches_in after held name s ta ma) (fetches_in after held name s tb mb)
    fetched_same [] tb ma mb n o m q = waits ma (fetches_in after held name s tb mb)
    fetched_same (c ∷ ta) [] ma mb n o m q = awaited mb (fetches_in after held name s (c ∷ ta) ma)
    fetched_same (c ∷ ta) (d ∷ tb) ma mb n o m q =
        named (record { texts = ta; makes = ma }) (record { texts = tb; makes = mb }) (record { read = n.1; made = o }) (record { read = m.1; made = q }) c.answer d.answer n.0 m.0 (bytes_eq c.name name) (bytes_eq d.name name)

    determined_fetch : Determined (λ calls. fetches_in after held name s calls.texts calls.makes)
    determined_fetch a b n m = fetched_same a.texts b.texts a.makes b.makes n.read n.made m.read m.made

  -- ---- a pattern

  module _ (file line : ℕ) (rule : Bool) (text : List ℕ) (s : State) where
    module _ (a b : Calls) (n : AllAnswered a) (m : May b) where
      made_same : (one other : MadeKind) → one ≢ made.Refused → (other ≢ made.Refused) ⊎ Refuse → Agree (made_by file line rule text one s a) (made_by file line rule text other s b)
      made_same made.Pattern made.Pattern k l = (refl, n, m)
      made_same made.Pattern made.Refused k (inl l) = absurd (l refl)
      made_same made.Pattern made.Refused k (inr may) = inr (may, refl)
      made_same made.Refused other k l = absurd (k refl)

      asked_same : (one other : MadeKind) → one ≢ made.Refused → (other ≢ made.Refused) ⊎ Refuse → (t u : Bool)
          → Agree (if t then made_by file line rule text one s a else Strayed) (if u then made_by file line rule text other s b else Strayed)
      asked_same one other k l true true = made_same one other k l
      asked_same one other k l true false = strayed (made_by file line rule text one s a)
      asked_same one other k l false u = tt

    makes_same : (ta tb : List Fetch) (ma mb : List Asked) → NoneFailed ta → NoneRefused ma → MayFail tb → MayRefuse mb
        → Agree (makes_in file line rule text s ta ma) (makes_in file line rule text s tb mb)
    makes_same ta tb [] mb n o m q = waits ta (makes_in file line rule text s tb mb)
    makes_same ta tb (x ∷ ma) [] n o m q = awaited tb (makes_in file line rule text s ta (x ∷ ma))
    makes_same ta tb (x ∷ ma) (y ∷ mb) n o m q =
        asked_same (record { texts = ta; makes = ma }) (record { texts = tb; makes = mb }) (record { read = n; made = o.1 }) (record { read = m; made = q.1 }) x.answer y.answer o.0 q.0 (bytes_eq x.text text) (bytes_eq y.text text)

  -- ---- all parts

  unread_include : (after : Fetched → Part) (s : State) (file line : ℕ) → ((calls : Calls) → after fetched.Failed s calls ≡ fails kind.TextFault file line calls)
      → (b : Calls) (r : Reply) → Fail → Agree r (after fetched.Failed s b)
  unread_include after s file line failed b r may = subst (Agree r) (sym (failed b)) (unanswered r (e.Conf (fault kind.TextFault file line)) b (inl (may, refl)))

  determined : IsKept Determined
  determined = record {
    went = λ s a b n m. (refl, n, m);
    fails = λ what file line plain a b n m. inl refl;
    goes = λ r next h k a b n m. goes next k (r a) (r b) (h a b n m);
    fetches = λ after held name s file line failed each. determined_fetch after held name s (unread_include after s file line failed) each;
    makes = λ file line rule text s a b n m. makes_same file line rule text s a.texts b.texts a.makes b.makes n.read n.made m.read m.made;
  }

  module _ (library : Library) (s : State) where
    root_unread : (b : Calls) (r : Reply) → Fail → Agree r (spec.roots library fetched.Failed s b)
    root_unread b r may = unanswered r e.RootFailed b (inl (may, tt))

    rooted : (f : Fetched) → Gave f → Determined (spec.roots library f s)
    rooted (fetched.Text bytes) gave = all.text Determined determined library 16 (0 ∷ []) bytes s
    rooted fetched.Missing gave = λ a b n m. inl refl
    rooted fetched.Long gave = λ a b n m. inl refl
    rooted fetched.Failed gave = absurd gave
    rooted fetched.NoMemory gave = absurd gave

    root : (name : List ℕ) → Determined (spec.root library name s)
    root name = determined_fetch (spec.roots library) (library name) name s root_unread rooted

-- ---- the whole

module _ (Fail Refuse : Type 0) (r q : Reply) (x y : Result Loaded LoadError) where
  -- the outcome is the same, or one of these
  abbrev pub Differs : Type 0
  Differs = (Fail × EndsUnread y) ⊎ (Refuse × EndsRefused y)

  agreed : Agree Fail Refuse r q → Closed r x ⊎ Halted r x → Closed q y ⊎ Halted q y → (x ≡ y) ⊎ Differs
  agreed agree h k = by h k
    where
      at : (r' q' : Reply) → r ≡ r' → q ≡ q' → Agree Fail Refuse r' q'
      at r' q' i j = subst (λ (o : Reply). Agree Fail Refuse r' o) j (subst (λ (o : Reply). Agree Fail Refuse o q) i agree)

      as_unanswered : (why : LoadError) → Err why ≡ y → Unanswered Fail Refuse why → (x ≡ y) ⊎ Differs
      as_unanswered why i (inl u) = inr (inl (u.0, subst EndsUnread i u.1))
      as_unanswered why i (inr u) = inr (inr (u.0, subst EndsRefused i u.1))

      by : Closed r x ⊎ Halted r x → Closed q y ⊎ Halted q y → (x ≡ y) ⊎ Differs
      by (inl h) (inl k) = inl (sym h.answer ∙ ap (λ (s : State). spec.closes s (spec.has_root s)) (at (Went h.state no_calls) (Went k.state no_calls) h.is k.is).0 ∙ k.answer)
      by (inl h) (inr k) = as_unanswered k.why k.answer (at (Went h.state no_calls) (Stopped k.why no_calls) h.is k.is)
      by (inr h) (inl k) = absurd (at (Stopped h.why no_calls) (Went k.state no_calls) h.is k.is)
      by (inr h) (inr k) = either (at (Stopped h.why no_calls) (Stopped k.why no_calls) h.is k.is)
        where
          either : (h.why ≡ k.why) ⊎ Unanswered Fail Refuse k.why → (x ≡ y) ⊎ Differs
          either (inl i) = inl (sym h.answer ∙ ap (λ (w : LoadError). let r : Result Loaded LoadError = Err w in r) i ∙ k.answer)
          either (inr u) = as_unanswered k.why k.answer u

none_fail : (Fail Refuse : Type 0) (calls : List Fetch) → NoneFailed calls → MayFail Fail Refuse calls
none_fail Fail Refuse [] n = tt
none_fail Fail Refuse (c ∷ calls) n = (inl n.0, none_fail Fail Refuse calls n.1)

none_refuse : (Fail Refuse : Type 0) (makes : List Asked) → NoneRefused makes → MayRefuse Fail Refuse makes
none_refuse Fail Refuse [] n = tt
none_refuse Fail Refuse (m ∷ makes) n = (inl n.0, none_refuse Fail Refuse makes n.1)

all_fail : (Refuse : Type 0) (calls : List Fetch) → MayFail (Unit {0}) Refuse calls
all_fail Refuse [] = tt
all_fail Refuse (c ∷ calls) = (inr tt, all_fail Refuse calls)

all_refuse : (Fail : Type 0) (makes : List Asked) → MayRefuse Fail (Unit {0}) makes
all_refuse Fail [] = tt
all_refuse Fail (m ∷ makes) = (inr tt, all_refuse Fail makes)

module _ (library : Library) (name : List ℕ) (a b : Calls) (x y : Result Loaded LoadError) (n : AllAnswered a) where
  whole : (Fail Refuse : Type 0) → May Fail Refuse b → spec.load library name a ≡ Ended x → spec.load library name b ≡ Ended y
      → (x ≡ y) ⊎ Differs Fail Refuse (spec.root library name spec.start a) (spec.root library name spec.start b) x y
  whole Fail Refuse m p q =
      agreed Fail Refuse (spec.root library name spec.start a) (spec.root library name spec.start b) x y (root Fail Refuse library spec.start name a b n m) (ended _ x p) (ended _ y q)

  -- where no call failed or was refused there is one outcome
  pub one_outcome : AllAnswered b → spec.load library name a ≡ Ended x → spec.load library name b ≡ Ended y → x ≡ y
  one_outcome m p q = by (whole ⊥ ⊥ (record { read = none_fail ⊥ ⊥ b.texts m.read; made = none_refuse ⊥ ⊥ b.makes m.made }) p q)
    where
      by : (x ≡ y) ⊎ ((⊥ × EndsUnread y) ⊎ (⊥ × EndsRefused y)) → x ≡ y
      by (inl i) = i
      by (inr (inl h)) = absurd h.0
      by (inr (inr h)) = absurd h.0

  -- where calls on the texts may fail, it is the same or that a text can't be read
  pub same_or_unread : NoneRefused b.makes → spec.load library name a ≡ Ended x → spec.load library name b ≡ Ended y → (x ≡ y) ⊎ EndsUnread y
  same_or_unread m p q = by (whole (Unit {0}) ⊥ (record { read = all_fail ⊥ b.texts; made = none_refuse (Unit {0}) ⊥ b.makes m }) p q)
    where
      by : (x ≡ y) ⊎ ((Unit {0} × EndsUnread y) ⊎ (⊥ × EndsRefused y)) → (x ≡ y) ⊎ EndsUnread y
      by (inl i) = inl i
      by (inr (inl h)) = inr h.1
      by (inr (inr h)) = absurd h.0

  -- where any call may fail or be refused, it is the same or says so
  pub same_or_unanswered : spec.load library name a ≡ Ended x → spec.load library name b ≡ Ended y → (x ≡ y) ⊎ (EndsUnread y ⊎ EndsRefused y)
  same_or_unanswered p q = by (whole (Unit {0}) (Unit {0}) (record { read = all_fail (Unit {0}) b.texts; made = all_refuse (Unit {0}) b.makes }) p q)
    where
      by : (x ≡ y) ⊎ ((Unit {0} × EndsUnread y) ⊎ (Unit {0} × EndsRefused y)) → (x ≡ y) ⊎ (EndsUnread y ⊎ EndsRefused y)
      by (inl i) = inl i
      by (inr (inl h)) = inr (inl h.1)
      by (inr (inr h)) = inr (inr h.1)
