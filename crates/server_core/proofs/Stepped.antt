-- The steps of the code, by those of the model.
use Rattle.std.proofs.Common.{◌≡◌, ◌≢◌, ℕ, zero, suc, ◌+◌, ◌*◌, ◌≤◌, ◌<◌, List, [], ◌∷◌, length, take, drop, Bool, true, false, nat_lt, Option, Some, None, if◌then◌else◌, refl, sym, ◌∙◌, ap, subst, arith}
use Rattle.std.proofs.lemmas.Bool.Decides.{nat_tests}
use Rattle.lt_world.specs.declared.net.Ending.{Ending}
use Rattle.lt_world.specs.declared.net.Ending.TheVariants as ending
use Rattle.lt_world.specs.Causes.{Rose}
use Rattle.lt_world.specs.Disk.{Disk, Table, Reads}
use Rattle.lt_world.specs.Trace.{Act, Entry, Writing, Readable, Writable, Wrote, NotYet, Failed, said}
use Rattle.chunkqueue.specs.Items.{Item, Byte, FileByte, AllLie, Leads, Shows}
use Rattle.server_model.specs.Site.{Site}
use Rattle.server_model.specs.Deeds.{Ours, told}
use Rattle.server_model.specs.Held.{Stage, Awaiting, Heading, Taking, Asking, Answering, Held}
use Rattle.server_model.specs.Steps.{number_of, took, wrote, staged, without_file, wants_memory, has_no_items, room_of, wants_read}
use Rattle.server_model.specs.Files.{IsOpened, AllFit, Fits, Drops}
use Rattle.server_model.specs.Serves.{IsWaitingAt, Stands}
use Rattle.server_model.specs.Due.{DueRead, DueWrite, offer_limit}
use Rattle.server_model.specs.Turns.{Seen, ReadFailed, ReadsNone, ReadsOne, DueOn, GoesBy}
use Rattle.server_model.specs.Settling.{SettlesTo}
use Rattle.server_model.proofs.FileSteps.{drop_fits}
use Rattle.server_model.proofs.Stepping.{same_goes}
use Rattle.server_model.proofs.WriteSteps.{write_not_yet, write_failed, write_faults, write_then, staged_then}
use Rattle.server_core.specs.declared.step.Ready.{Ready}
use Rattle.server_core.specs.declared.step.Ready.TheVariants as ready
use Rattle.server_core.specs.Steps.{is_idle, IsFreeAt, IsFree, IsResting, FailsFor, done_file, event_of}

-- a read for which memory was wanted found no spare buffer
pub unspared : (bytes : List ℕ) (spare : ℕ) → length bytes ≤ 4096 → (length bytes ≤ 4096 * spare → false ≡ true) → spare ≡ 0
unspared bytes zero few wanted = refl
unspared bytes (suc spare) few wanted = absurd (cc (wanted (omega (arith, few))))

-- what is told of a link
pub tells_at : (l m : ℕ) (act : Act) (old now : List Entry) → l ≡ m → now ≡ said l (act ∷ []) old → now ≡ told m (Ours act ∷ []) old
tells_at l m act old now same told_is = told_is ∙ ap (λ (n : ℕ). said n (act ∷ []) old) same

-- for a client that rests no head waits, and no request
waits_idle : (s : Stage) (input : List ℕ) (owed : List Item) → IsWaitingAt s input owed → is_idle s ≡ true
waits_idle (Awaiting k) input owed waiting = refl
waits_idle (Heading k head) input owed waiting = absurd waiting
waits_idle (Taking k head s content) input owed waiting = refl
waits_idle (Asking k r) input owed waiting = absurd waiting
waits_idle (Answering k last) input owed waiting = refl

pub rests_idle : (held : Held) → IsResting held → is_idle held.stage ≡ true
rests_idle held rests = waits_idle held.stage held.input held.owed rests.0

-- a read is wanted where there is room
pub room_wants : (held : Held) (room : ℕ) → room ≡ room_of held → room ≢ 0 → wants_read held ≡ true
room_wants held zero is some = absurd (some refl)
room_wants held (suc room) is some = let more : 0 < room_of held = omega (arith, is) in grind (arith, nat_tests, more)

pub no_room : (held : Held) (room : ℕ) → room ≡ room_of held → room ≡ 0 → wants_read held ≡ false
no_room held room is none = let zero_is : room_of held ≡ 0 = sym is ∙ none in ap (λ (n : ℕ). nat_lt 0 n) zero_is

-- what settles after a read
pub settles_read : (site : Site) (mid held new : Held) (files : Type 0) (before after : Disk) (result : Option Ending) → mid ≡ held → SettlesTo (wants_memory mid) site mid new result files before after → SettlesTo (wants_memory held) site held new result files before after
settles_read site mid held new files before after result is settles = subst (λ (h : Held). SettlesTo (wants_memory h) site h new result files before after) is settles

pub same_table : (a b c : Disk) → b ≡ a → c ≡ b → c.table ≡ a.table
same_table a b c one two = ap (λ (d : Disk). d.table) (two ∙ one)

-- what fits the files lies in them
pub fit_lie : (table : Table) (file : Option ℕ) (items : List Item) → AllFit table file items → AllLie table items
fit_lie table file [] fit = tt
fit_lie table file (Byte b ∷ items) fit = fit_lie table file items fit
fit_lie table file (FileByte from at ∷ items) fit = (fit.1, fit_lie table file items fit.2)

-- a read of the file failed, as is seen later too
pub fault_later : (client number : ℕ) (before later : Seen) (faults : ℕ) (reads : Reads) → Rose before.faults faults → reads.failed ≡ Some (record { conn = client; request = number }) → reads.made ≤ before.reads.made + 1
    → faults ≤ later.faults → later.reads ≡ reads → ReadFailed client number before later
fault_later client number before later faults reads rose owner once more same = record { rose = omega (arith, rose, more); owner = record { conn = client; request = number }; is = ap (λ (r : Reads). r.failed) same ∙ owner; conn = refl; request = refl; once = omega (arith, once, ap (λ (r : Reads). r.made) same) }

-- one piece was read at most, as is seen later too
pub reads_one : (before later : Seen) (reads : Reads) → reads.failed ≡ before.reads.failed → reads.made ≤ before.reads.made + 1 → later.reads ≡ reads → ReadsOne before later
reads_one before later reads failed once same = record { failed = ap (λ (r : Reads). r.failed) same ∙ failed; once = omega (arith, once, ap (λ (r : Reads). r.made) same) }

-- a read is what is due for a link that is ready so, since it touches no file, and so is a write
module _ (r : Ready) where
  pub read_due : r ≡ ready.Reading → (spare link : ℕ) (before later : Seen) (site : Site) (held new : Held) (net files : Type 0) (disk after : Disk) (old now : List Entry) (result : Option Ending) → ReadsNone before later
      → GoesBy Stands (DueRead spare) site held new result net files disk after old now → GoesBy Stands (DueOn (event_of r) spare before later link) site held new result net files disk after old now
  read_due reading spare link before later site held new net files disk after old now result sound goes = subst (λ (t : Ready). GoesBy Stands (DueOn (event_of t) spare before later link) site held new result net files disk after old now) (sym reading)
      (same_goes Stands (DueRead spare) (DueOn Readable spare before later link) site held new net files disk disk after old now (λ f was world past all due open_now. (sound, due)) (λ f. refl) result goes)

  pub write_due : r ≡ ready.Writing → (spare link : ℕ) (before later : Seen) (site : Site) (held new : Held) (net files : Type 0) (disk after : Disk) (old now : List Entry) (result : Option Ending)
      → GoesBy Stands (DueWrite (ReadsOne before later) (FailsFor link before later)) site held new result net files disk after old now → GoesBy Stands (DueOn (event_of r) spare before later link) site held new result net files disk after old now
  write_due writing spare link before later site held new net files disk after old now result goes = subst (λ (t : Ready). GoesBy Stands (DueOn (event_of t) spare before later link) site held new result net files disk after old now) (sym writing)
      (same_goes Stands (DueWrite (ReadsOne before later) (FailsFor link before later)) (DueOn Writable spare before later link) site held new net files disk disk after old now (λ f was world past all due open_now. due) (λ f. refl) result goes)

-- a fault of the file
pub faults_goes : (sound : Type 0) (failed : ℕ → Type 0) (site : Site) (held new : Held) (net files : Type 0) (before after : Disk) (old : List Entry) → 0 < length held.owed → (files → failed (number_of held.stage)) → new ≡ held → (files → after ≡ before)
    → GoesBy Stands (DueWrite sound failed) site held new (Some ending.FileFault) net files before after old old
faults_goes sound failed site held new net files before after old some fault same disk =
    same_goes Stands (DueWrite sound failed) (DueWrite sound failed) site held new net files before after after old old (λ f was is past all due. due) (λ f. sym (disk f)) (Some ending.FileFault)
    (write_faults sound failed site held net files after old new some fault (ap (λ (h : Held). h.link) same) (ap (λ (h : Held). h.file) same))

-- a file that is given back is open
pub open_as : (table : Table) (file kept : Option ℕ) → file ≡ kept → IsOpened table kept → IsOpened table file
open_as table file kept is here = subst (IsOpened table) (sym is) here

pub open_done : (table : Table) (t : Bool) (file kept : Option ℕ) → file ≡ (if t then kept else None) → IsOpened table kept → IsOpened table file
open_done table true file kept is here = open_as table file kept is here
open_done table false file kept is here = open_as table file None is tt

pub open_staged : (before after : Table) (file kept : Option ℕ) → after ≡ before → file ≡ kept → IsOpened before kept → IsOpened after file
open_staged before after file kept same is here = subst (λ (t : Table). IsOpened t file) (sym same) (open_as before file kept is here)

-- what was staged keeps the stage, and what was taken too
module _ (held mid : Held) (is : mid ≡ staged held mid.staged) (n : ℕ) where
  wrote_stage : (wrote mid n).stage ≡ mid.stage
  wrote_stage = by (has_no_items (drop n mid.owed))
    where
      by : (t : Bool) → (if t then without_file (took mid n) else took mid n).stage ≡ mid.stage
      by true = refl
      by false = refl

  pub wrote_idle : (new : Held) → new ≡ wrote mid n → IsResting held → is_idle new.stage ≡ true
  wrote_idle new new_is rests = ap (λ (h : Held). is_idle h.stage) new_is ∙ ap is_idle (wrote_stage ∙ ap (λ (h : Held). h.stage) is) ∙ rests_idle held rests

  pub wrote_free : (new : Held) → new ≡ wrote mid n → IsResting held → IsFree new
  wrote_free new new_is rests = subst IsFree (sym new_is) (by (has_no_items (drop n mid.owed)) refl)
    where
      gone : (s : Stage) (owed : List Item) → IsFreeAt s owed None
      gone (Awaiting k) owed = refl
      gone (Heading k head) owed = refl
      gone (Taking k head s content) owed = refl
      gone (Asking k r) owed = refl
      gone (Answering k last) owed = λ e. refl

      still : (s : Stage) (owed before : List Item) (file : Option ℕ) → has_no_items owed ≡ false → IsFreeAt s before file → IsFreeAt s owed file
      still (Awaiting k) owed before file some free = free
      still (Heading k head) owed before file some free = free
      still (Taking k head s content) owed before file some free = free
      still (Asking k r) owed before file some free = free
      still (Answering k last) owed before file some free = λ e. absurd (cc (some, e))

      mid_free : IsFree mid
      mid_free = subst IsFree (sym is) rests.1

      by : (t : Bool) → has_no_items (drop n mid.owed) ≡ t → IsFree (if t then without_file (took mid n) else took mid n)
      by true none = gone mid.stage (drop n mid.owed)
      by false some = still mid.stage (drop n mid.owed) mid.owed mid.file some mid_free

  pub wrote_fits : (table after : Table) (new : Held) → new ≡ wrote mid n → Fits table held → (has_no_items (drop n mid.owed) ≡ false → after ≡ table) → Fits after new
  wrote_fits table after new new_is fits same = subst (Fits after) (sym new_is) (by (has_no_items (drop n mid.owed)) refl)
    where
      none_fit : (items : List Item) → has_no_items items ≡ true → AllFit after None items
      none_fit [] e = tt
      none_fit (item ∷ items) e = absurd (cc (e))

      mid_fits : Fits table mid
      mid_fits = subst (Fits table) (sym is) (record { is_open = fits.is_open; owed = fits.owed })

      by : (t : Bool) → has_no_items (drop n mid.owed) ≡ t → Fits after (if t then without_file (took mid n) else took mid n)
      by true none = record { is_open = tt; owed = none_fit (drop n mid.owed) none }
      by false some = subst (λ (t : Table). Fits t (took mid n)) (sym (same some)) (record { is_open = mid_fits.is_open; owed = drop_fits table mid.file n mid.owed mid_fits.owed })

  -- where something is still owed, no file was given back
  pub still_same : (before after : Disk) → Drops (done_file mid n) before after → has_no_items (drop n mid.owed) ≡ false → after ≡ before
  still_same before after dropped some = subst (λ (t : Bool). Drops (if t then mid.file else None) before after) some dropped

-- what is owed was staged, and offered
module _ (sound : Type 0) (failed : ℕ → Type 0) (site : Site) (held mid : Held) (net files : Type 0) (before disk : Disk) (old now : List Entry)
    (is : mid ≡ staged held mid.staged) (some : 0 < length held.owed) (reads : files → Shows before.table held.owed held.staged → Shows before.table held.owed mid.staged) (same : files → disk ≡ before)
    (front : List ℕ) (leads : Leads mid.owed mid.staged front) (any : 1 ≤ length front) (most : length front ≤ offer_limit) (unfailed : files → sound) where
  reads_on : files → Shows disk.table held.owed held.staged → Shows disk.table held.owed mid.staged
  reads_on f shows =
      let P : List ℕ → Disk → Type 0 = λ bytes d. Shows d.table held.owed bytes in
      subst (P mid.staged) (sym (same f)) (reads f (subst (P held.staged) (same f) shows))

  via : (new : Held) (after : Disk) (result : Option Ending) → GoesBy Stands (DueWrite sound failed) site mid new result net files disk after old now → GoesBy Stands (DueWrite sound failed) site held new result net files before after old now
  via new after result goes = same_goes Stands (DueWrite sound failed) (DueWrite sound failed) site held new net files before disk after old now (λ f was is past all due. due) (λ f. sym (same f)) result
      (staged_then sound failed site held net files disk mid.staged new result after old now some reads_on (subst (λ (h : Held). GoesBy Stands (DueWrite sound failed) site h new result net files disk after old now) is goes))

  pub offered_not_yet : (net → now ≡ told mid.link (Ours (NotYet Writing) ∷ []) old) → (files → Fits before.table held) → GoesBy Stands (DueWrite sound failed) site held mid None net files before disk old now
  offered_not_yet gains fits = via mid disk None (write_not_yet sound failed site mid net files disk old now front leads any most unfailed gains
      (λ f. let here = fits f in subst (λ (d : Disk). Fits d.table mid) (sym (same f)) (subst (Fits before.table) (sym is) (record { is_open = here.is_open; owed = here.owed }))))

  pub offered_failed : (net → now ≡ told mid.link (Ours (Failed Writing) ∷ []) old) → GoesBy Stands (DueWrite sound failed) site held mid (Some ending.ClientFault) net files before disk old now
  offered_failed gains = via mid disk (Some ending.ClientFault) (write_failed sound failed site mid net files disk old now front leads any most unfailed gains)

  pub offered_wrote : (between after : Disk) (mid_new new : Held) (result : Option Ending) (n : ℕ) → n ≤ length front → (net → now ≡ told mid.link (Ours (Wrote (length front) (take n front)) ∷ []) old) → mid_new ≡ wrote mid n
      → (files → Drops (done_file mid n) disk between) → SettlesTo (wants_memory mid_new) site mid_new new result files between after → GoesBy Stands (DueWrite sound failed) site held new result net files before after old now
  offered_wrote between after mid_new new result n le gains took_is dropped settles = via new after result (write_then sound failed site mid net files disk old now front leads any most unfailed between after new result n le gains
      dropped
      (subst (λ (h : Held). SettlesTo (wants_memory h) site h new result files between after) took_is settles))

pub none_owed : (items : List Item) → false ≡ nat_lt 0 (length items) → items ≡ []
none_owed [] is = refl
none_owed (item ∷ items) is = let yes : nat_lt 0 (length (item ∷ items)) ≡ true = grind (arith, nat_tests) in absurd (cc (is, yes))

pub some_owed : (items : List Item) → true ≡ nat_lt 0 (length items) → 0 < length items
some_owed [] is = absurd (cc (is))
some_owed (item ∷ items) is = omega arith
