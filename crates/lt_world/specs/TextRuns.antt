-- What texts in memory hold, what each call makes of them, and what they may become.
use Rattle.std.specs.Prelude.{◌≡◌, ◌≤◌, ℕ, List, [], ◌∷◌, Option, Some, None, Bool, true, false, if◌then◌else◌}
use Rattle.std.specs.Str.{bytes_eq}
use Rattle.std.proofs.Common.{le_refl, le_trans}
use denote.Ref.{Bor}
use Rattle.lt_world.specs.declared.texts.Fetched.{Fetched}
use Rattle.lt_world.specs.declared.texts.Fetched.TheVariants as fetched
use Rattle.lt_world.specs.declared.texts.FetchKind.{FetchKind}
use Rattle.lt_world.specs.declared.texts.FetchKind.TheVariants as kind
use Rattle.lt_world.specs.declared.texts.Fetch.{Fetch}
use Rattle.lt_world.specs.declared.mem_texts.NamedText.{NamedText}
use Rattle.lt_world.specs.Plans.{Planned, is_due, next, counted, no_plan}
use Rattle.lt_world.specs.TextAnswers.{Library, fetch_keeps}

-- what texts in memory hold
pub record Shelf : Type 0 where
  -- in the order in which they were added: of one name the last counts
  pub texts : List NamedText
  -- the calls, the newest first
  pub calls : List Fetch
  pub plan : Planned
  pub faults : ℕ

-- no texts, no calls, no plans
abbrev pub no_texts : Shelf
no_texts = record { texts = []; calls = []; plan = no_plan; faults = 0 }

-- what was added last under a name, or this where nothing was
abbrev pub last_named : List ℕ → List NamedText → Option (List ℕ) → Option (List ℕ)
last_named name [] found = found
last_named name (text ∷ texts) found = last_named name texts (if bytes_eq text.name name then Some text.bytes else found)

-- the text under each name after these were added
abbrev pub library_by : List NamedText → Library
library_by texts name = last_named name texts None

-- the texts by their names
abbrev pub library_of : Shelf → Library
library_of shelf = library_by shelf.texts

-- the library with one more text
abbrev pub with_text : List ℕ → List ℕ → Library → Library
with_text name bytes library other = if bytes_eq name other then Some bytes else library other

-- what is held is these bytes, or nothing
abbrev pub HasText : Option (Bor (List ℕ)) → Option (List ℕ) → Type 0
HasText None held = held ≡ None
HasText (Some bytes) held = held ≡ Some bytes.now

-- the kind of an answer, which has one unless memory ran out
abbrev pub keeps_kind : Fetched → Option FetchKind → Type 0
keeps_kind (fetched.Text text) kept = kept ≡ Some kind.Text
keeps_kind fetched.Missing kept = kept ≡ Some kind.Missing
keeps_kind fetched.Long kept = kept ≡ Some kind.Long
keeps_kind fetched.Failed kept = kept ≡ Some kind.Failed
keeps_kind fetched.NoMemory kept = kept ≡ None

-- the texts after a fetch
abbrev pub after_fetch : Fetched → List ℕ → Shelf → Shelf
after_fetch fetched.NoMemory name s = s
after_fetch fetched.Failed name s = record s { calls = fetch_keeps fetched.Failed name s.calls; plan = counted s.plan; faults = next s.faults }
after_fetch answer name s = record s { calls = fetch_keeps answer name s.calls; plan = counted s.plan }

-- a call fails where its plan says so, the text is there and it isn't too long
abbrev pub FetchPlanned : Fetched → Bool → Type 0
FetchPlanned fetched.Failed due = due ≡ true
FetchPlanned (fetched.Text text) due = due ≡ false
FetchPlanned answer due = Unit {0}

-- the calls that lead from some texts to others
pub data Fetches : Shelf → Shelf → Type 0 where
  same : {a : Shelf} → Fetches a a
  fetches : {a b : Shelf} → Fetches a b → (answer : Fetched) (name : List ℕ) → FetchPlanned answer (is_due b.plan) → Fetches a (after_fetch answer name b)

-- calls after calls are calls
pub Fetches-more : (a b c : Shelf) → Fetches a b → Fetches b c → Fetches a c
Fetches-more a b c ab same = ab
Fetches-more a b c ab (fetches bc answer name planned) = fetches (Fetches-more _ _ _ ab bc) answer name planned

-- what texts in memory may become: some calls lead there, and their count of failures never falls
pub record TextsLater (a b : Shelf) : Type 0 where
  pub leads : Fetches a b
  pub faults : a.faults ≤ b.faults

-- texts are later than themselves
pub TextsLater-same : (a : Shelf) → TextsLater a a
TextsLater-same a = record { leads = same; faults = le_refl a.faults }

-- what is later than something later is later
pub TextsLater-more : (a b c : Shelf) → TextsLater a b → TextsLater b c → TextsLater a c
TextsLater-more a b c ab bc = record { leads = Fetches-more a b c ab.leads bc.leads; faults = le_trans ab.faults bc.faults }

-- the law that the trait asks for
pub TextsLater-faults : (a b : Shelf) → TextsLater a b → a.faults ≤ b.faults
TextsLater-faults a b later = later.faults
