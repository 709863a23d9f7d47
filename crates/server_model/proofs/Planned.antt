-- What is planned by then, whatever calls were made for it: one lemma for each end of a course.
use Rattle.std.proofs.Common.{◌≡◌, ◌≢◌, ◌⊎◌, inl, inr, ℕ, zero, suc, ◌+◌, ◌≤◌, ◌==◌, List, [], ◌∷◌, ◌++◌, length, map, take, drop, Bool, true, false, ◌&&◌, Option, Some, None, if◌then◌else◌, refl, sym, ◌∙◌, ap, subst, arith}
use Rattle.std.proofs.lemmas.List.{map-append}
use Rattle.std.specs.Prelude.{Result, Ok, Err}
use Rattle.lt_bytes.specs.declared.memory.NoMemory.{NoMemory}
use Rattle.http_target.specs.declared.read.Target.{Target}
use Rattle.lt_world.specs.declared.files.Call.{Call}
use Rattle.lt_world.specs.declared.files.FileCall.{FileCall}
use Rattle.lt_world.specs.declared.files.FileCall.TheVariants as call
use Rattle.lt_world.specs.declared.net.Owner.{Owner}
use Rattle.lt_world.specs.Disk.{Disk, Node, Missing, Directory, File, Table, Tree, asked, opened, released, is_kind, count, own_calls, log_of, is_logged, without_file, with_file}
use Rattle.static_files.specs.Places.{is_file, Tries}
use Rattle.static_files.specs.MediaTypes.{mime}
use Rattle.static_files.specs.declared.places.Place.{Place}
use Rattle.static_files.specs.declared.places.Place.TheVariants as place
use Rattle.file_reply.specs.Answers.{answer}
use Rattle.file_reply.specs.Refusals.{plain, refusal}
use Rattle.file_reply.specs.declared.answers.Answer.{Answer}
use Rattle.server_model.specs.Settings.{Settings}
use Rattle.server_model.specs.Site.{Site}
use Rattle.server_model.specs.Request.{Head, Request}
use Rattle.server_model.specs.World.{Arrival, Side, World, world_at, owner_at, call_count, has_failed_call, with_call}
use Rattle.server_model.specs.Plan.{Outcome, Basis, Course, answered_with, ends_with, at_file, at_directory, at_target, at_index, course, basis_of, plan, calls_in, calls_of}
use Rattle.server_model.specs.Made.{asked_times, Made, Failure, NoneFails, FindFails, OpenFails, find_fails_by, open_fails_by, basis_at, IsBehind, Leads}
use Rattle.server_model.specs.Reply.{reply}
use Rattle.chunkqueue.specs.Items.{Item, Byte, bytes_of, item_byte, range}
use Rattle.server_model.specs.Files.{AllFit, FileStep}
use Rattle.server_model.specs.Planning.{Unasked, CallsFor, CallsWhole, PlansTo, Plans}
use Rattle.server_model.proofs.Calls.{own_same, asked_is, count_other, unlogged_yet, same_owner}
use Rattle.server_model.proofs.Growing.{reply_other, calls_other}
use Rattle.server_model.proofs.FileSteps.{same_files, asks_file, opens_file, and_then, drops}
use Rattle.server_model.proofs.Tried.{times_tree, times_before, Told, Broken, Wanted, TriedAs, tries_as}
use Rattle.server_model.proofs.Courses.{behind_fewer, target_settings, place_settings, target_fails, names_in, directory_finds, indexes, file_finds, leads_refused, file_opens}
use Rattle.lt_world.proofs.Disks.{opened_own}
use Rattle.chunkqueue.proofs.Ranges.{bytes_of-range}

-- ---- calls of one request in a list of calls

-- so many calls more, none of which failed
abbrev pub more_calls : FileCall → Owner → ℕ → List Call → List Call
more_calls what owner zero calls = calls
more_calls what owner (suc n) calls = record { kind = what; owner = owner; failed = false } ∷ more_calls what owner n calls

module _ (owner : Owner) where
  log_more : (what : FileCall) (n : ℕ) (calls : List Call) → log_of (more_calls what owner n calls) ≡ log_of calls
  log_more what zero calls = refl
  log_more what (suc n) calls = log_more what n calls

  count_more : (what : FileCall) (n : ℕ) (calls : List Call) → is_kind what what ≡ true → count what owner (more_calls what owner n calls) ≡ n + count what owner calls
  count_more what zero calls kind = omega arith
  count_more what (suc n) calls kind =
      (λ i. if kind i && same_owner owner i then count what owner (more_calls what owner n calls) + 1 else count what owner (more_calls what owner n calls))
      ∙ (let rest = count_more what n calls kind in omega (arith, rest))

  count_apart : (what other : FileCall) (n : ℕ) (calls : List Call) → is_kind what other ≡ false → count other owner (more_calls what owner n calls) ≡ count other owner calls
  count_apart what other zero calls kind = refl
  count_apart what other (suc n) calls kind =
      ap (λ t. if t && same_owner_as then count other owner (more_calls what owner n calls) + 1 else count other owner (more_calls what owner n calls)) kind
      ∙ count_apart what other n calls kind
    where
      same_owner_as : Bool
      same_owner_as = owner.conn == owner.conn && owner.request == owner.request

  -- the calls for one client
  own_times : (what : FileCall) (n : ℕ) (disk : Disk) → own_calls owner.conn (asked_times what owner n disk).calls ≡ more_calls what owner n (own_calls owner.conn disk.calls)
  own_times what zero disk = refl
  own_times what (suc n) disk = own_same owner.conn (record { kind = what; owner = owner; failed = false }) (asked_times what owner n disk).calls refl
      ∙ ap (λ calls. record { kind = what; owner = owner; failed = false } ∷ calls) (own_times what n disk)

  -- none was made for it
  abbrev Untold : List Call → Type 0
  Untold calls = (what : FileCall) → count what owner calls ≡ 0

  -- what calls say of it: which one failed, and how many there are
  record Log (failure : Failure) (finds opens : ℕ) (calls : List Call) : Type 0 where
    find_fails : (i : ℕ) → is_logged call.Find owner i (log_of calls) ≡ find_fails_by failure i
    open_fails : is_logged call.Open owner 0 (log_of calls) ≡ open_fails_by failure
    finds_are : count call.Find owner calls ≡ finds
    opens_are : count call.Open owner calls ≡ opens
    reads_are : count call.Read owner calls ≡ 0

  module _ (mine : List Call) (none : Untold mine) where
    abbrev finds_then : ℕ → List Call
    finds_then n = more_calls call.Find owner n mine

    unlogged_mine : (what : FileCall) (i : ℕ) → is_logged what owner i (log_of mine) ≡ false
    unlogged_mine what i = unlogged_yet what owner i mine (omega (arith, none what))

    unlogged_finds : (what : FileCall) (n i : ℕ) → is_logged what owner i (log_of (finds_then n)) ≡ false
    unlogged_finds what n i = ap (is_logged what owner i) (log_more call.Find n mine) ∙ unlogged_mine what i

    finds_count : (n : ℕ) → count call.Find owner (finds_then n) ≡ n
    finds_count n = let all = count_more call.Find n mine refl in omega (arith, all, none call.Find)

    opens_none : (n : ℕ) → count call.Open owner (finds_then n) ≡ 0
    opens_none n = count_apart call.Find call.Open n mine refl ∙ none call.Open

    reads_none : (n : ℕ) → count call.Read owner (finds_then n) ≡ 0
    reads_none n = count_apart call.Find call.Read n mine refl ∙ none call.Read

    log_sound : (n m : ℕ) → Log NoneFails n m (more_calls call.Open owner m (finds_then n))
    log_sound n m = record {
      find_fails = λ i. ap (is_logged call.Find owner i) (log_more call.Open m (finds_then n)) ∙ unlogged_finds call.Find n i;
      open_fails = ap (is_logged call.Open owner 0) (log_more call.Open m (finds_then n)) ∙ unlogged_finds call.Open n 0;
      finds_are = count_apart call.Open call.Find m (finds_then n) refl ∙ finds_count n;
      opens_are = let all = count_more call.Open m (finds_then n) refl in let zero_more = opens_none n in omega (arith, all, zero_more);
      reads_are = count_apart call.Open call.Read m (finds_then n) refl ∙ reads_none n;
    }

    one_count : (what : FileCall) (calls : List Call) (n : ℕ) → is_kind what what ≡ true → count what owner calls ≡ n → count what owner (record { kind = what; owner = owner; failed = true } ∷ calls) ≡ n + 1
    one_count what calls n kind is = (λ i. if kind i && same_owner owner i then is i + 1 else is i)

    log_find : (n : ℕ) → Log (FindFails n) (n + 1) 0 (record { kind = call.Find; owner = owner; failed = true } ∷ finds_then n)
    log_find n = record {
      find_fails = λ i. (λ j. if same_owner owner j && finds_count n j == i then true else unlogged_finds call.Find n i j) ∙ by (n == i);
      open_fails = unlogged_finds call.Open n 0;
      finds_are = one_count call.Find (finds_then n) n refl (finds_count n);
      opens_are = opens_none n;
      reads_are = reads_none n;
    }
      where
        by : (t : Bool) → (if t then true else false) ≡ t
        by true = refl
        by false = refl

    log_open : (n : ℕ) → Log OpenFails n 1 (record { kind = call.Open; owner = owner; failed = true } ∷ finds_then n)
    log_open n = record {
      find_fails = λ i. unlogged_finds call.Find n i;
      open_fails = (λ j. if same_owner owner j && opens_none n j == 0 then true else is_logged call.Open owner 0 (log_of (finds_then n)));
      finds_are = finds_count n;
      opens_are = one_count call.Open (finds_then n) 0 refl (opens_none n);
      reads_are = reads_none n;
    }

-- ---- a step for a request leaves all others

record Frame (site : Site) (client k : ℕ) (held now : Option ℕ) (before after : Disk) : Type 0 where
  files : FileStep client held now before after
  others : (side : Side) (j : ℕ) (what : FileCall) → k ≢ j → call_count (world_at site after client side) j what ≡ call_count (world_at site before client side) j what
  replies : (side : Side) (j : ℕ) (r : Request) → k ≢ j → reply (world_at site after client side) j r ≡ reply (world_at site before client side) j r
  plans : (side : Side) (j : ℕ) (other : Head) (what : FileCall) → k ≢ j → calls_of (world_at site after client side) j other what ≡ calls_of (world_at site before client side) j other what

module _ (site : Site) (client k : ℕ) where
  frame_none : (file : Option ℕ) (disk : Disk) → Frame site client k file file disk disk
  frame_none file disk = record { files = same_files client disk file; others = λ side j what apart. refl; replies = λ side j r apart. refl; plans = λ side j other what apart. refl }

  frame_then : (a b c : Option ℕ) (before between after : Disk) → Frame site client k a b before between → Frame site client k b c between after → Frame site client k a c before after
  frame_then a b c before between after one two = record {
    files = and_then client a b c before between after one.files two.files;
    others = λ side j what apart. two.others side j what apart ∙ one.others side j what apart;
    replies = λ side j r apart. two.replies side j r apart ∙ one.replies side j r apart;
    plans = λ side j other what apart. two.plans side j other what apart ∙ one.plans side j other what apart;
  }

  frame_asked : (owner : Owner) → owner.conn ≡ client → owner.request ≡ k → (what : FileCall) (failed : Bool) (disk : Disk) → Frame site client k None None disk (asked what owner failed disk)
  frame_asked owner conn request what failed disk = record {
    files = asks_file client disk None what owner failed conn;
    others = λ side j other apart. ap (λ (w : World). call_count w j other) (world side) ∙ count_other (world_at site disk client side) k what failed j other apart;
    replies = λ side j r apart. ap (λ (w : World). reply w j r) (world side) ∙ reply_other (world_at site disk client side) what k j failed apart r;
    plans = λ side j head other apart. ap (λ (w : World). calls_of w j head other) (world side) ∙ calls_other (world_at site disk client side) what k j failed apart head other;
  }
    where
      world : (side : Side) → world_at site (asked what owner failed disk) client side ≡ with_call what k failed (world_at site disk client side)
      world side = asked_is site disk client k side what owner failed conn request

  frame_times : (owner : Owner) → owner.conn ≡ client → owner.request ≡ k → (what : FileCall) (n : ℕ) (disk : Disk) → Frame site client k None None disk (asked_times what owner n disk)
  frame_times owner conn request what zero disk = frame_none None disk
  frame_times owner conn request what (suc n) disk =
      frame_then None None None disk (asked_times what owner n disk) (asked_times what owner (suc n) disk) (frame_times owner conn request what n disk) (frame_asked owner conn request what false (asked_times what owner n disk))

  frame_opened : (file : ℕ) (bytes : List ℕ) (disk : Disk) → disk.table file ≡ None → Frame site client k None (Some file) disk (opened file bytes disk)
  frame_opened file bytes disk fresh = record { files = opens_file client disk file bytes fresh; others = λ side j what apart. refl; replies = λ side j r apart. refl; plans = λ side j other what apart. refl }

-- ---- plans

same_within : (a b : ℕ) → a ≡ b → a ≤ b
same_within a b is = omega (arith, is)

module _ (site : Site) (arrival : Option Arrival) (owner : Owner) (head : Head) (before : Disk) where
  abbrev client : ℕ
  client = owner.conn

  abbrev k : ℕ
  k = owner.request

  abbrev basis : Failure → Basis
  basis failure = basis_at site arrival head before.tree failure

  abbrev mine : List Call
  mine = own_calls client before.calls

  basis_so : (side : Side) (after : Disk) (failure : Failure) (finds opens : ℕ) → side.arrival ≡ arrival → after.tree ≡ before.tree → Log owner failure finds opens (own_calls client after.calls) → basis_of (world_at site after client side) k head ≡ basis failure
  basis_so side after failure finds opens came tree log =
      (λ j. record { blocks = site.blocks; arrival = came j; head = head; tree = tree j; find_fails = λ i. log.find_fails i j; open_fails = log.open_fails j })

  -- what calls told, where none was made for it before
  abbrev Logs : Disk → Failure → ℕ → ℕ → Type 0
  Logs after failure finds opens = Untold owner mine → Log owner failure finds opens (own_calls client after.calls)

  module _ (after : Disk) (file : Option ℕ) (failure : Failure) (finds opens : ℕ) (frame : Frame site client k None file before after) (logs : Logs after failure finds opens) where
    counted : (side : Side) → Unasked (world_at site before client side) k → (o : Outcome) (what : FileCall) → call_count (world_at site after client side) k what ≡ calls_in (record { outcome = o; finds = finds; opens = opens }) what
    counted side none o call.Find = (logs none).finds_are
    counted side none o call.Open = (logs none).opens_are
    counted side none o call.Read = (logs none).reads_are

    its_basis : (side : Side) → side.arrival ≡ arrival → Unasked (world_at site before client side) k → basis_of (world_at site after client side) k head ≡ basis failure
    its_basis side came none = basis_so side after failure finds opens came frame.files.tree (logs none)

    calls_so : ((side : Side) → side.arrival ≡ arrival → Unasked (world_at site before client side) k → (what : FileCall) → call_count (world_at site after client side) k what ≤ calls_of (world_at site after client side) k head what)
        → CallsFor site arrival client k head file before after
    calls_so within = record { files = frame.files; others = frame.others; replies = frame.replies; plans = frame.plans; within = within }

    -- no more calls than its course makes
    calls_within : finds ≤ (course (basis failure)).finds → opens ≤ (course (basis failure)).opens → CallsFor site arrival client k head file before after
    calls_within few_finds few_opens = calls_so (λ side came none what. by side came none what)
      where
        few : (o : Outcome) (what : FileCall) → calls_in (record { outcome = o; finds = finds; opens = opens }) what ≤ calls_in (course (basis failure)) what
        few o call.Find = few_finds
        few o call.Open = few_opens
        few o call.Read = omega arith

        by : (side : Side) → side.arrival ≡ arrival → Unasked (world_at site before client side) k → (what : FileCall) → call_count (world_at site after client side) k what ≤ calls_of (world_at site after client side) k head what
        by side came none what = let o : Outcome = (course (basis failure)).outcome in
            subst (λ (n : ℕ). n ≤ calls_of (world_at site after client side) k head what) (sym (counted side none o what))
            (subst (λ (b : Basis). calls_in (record { outcome = o; finds = finds; opens = opens }) what ≤ calls_in (course b) what) (sym (its_basis side came none)) (few o what))

    -- just those that its course makes
    plans_so : (o : Outcome) → course (basis failure) ≡ record { outcome = o; finds = finds; opens = opens } → Plans o file site arrival client k head before after
    plans_so o is = record {
      calls = calls_within (same_within finds (course (basis failure)).finds (ap (λ (c : Course). c.finds) (sym is))) (same_within opens (course (basis failure)).opens (ap (λ (c : Course). c.opens) (sym is)));
      whole = λ side came none what. counted side none o what ∙ ap (λ (c : Course). calls_in c what) (sym is) ∙ ap (λ (b : Basis). calls_in (course b) what) (sym (its_basis side came none));
      plans = λ side came none. ap (λ (b : Basis). (course b).outcome) (its_basis side came none) ∙ ap (λ (c : Course). c.outcome) is;
    }

  -- ---- calls that were made so far

  made_calls : (n m : ℕ) (disk : Disk) → Made owner before n m disk → own_calls client disk.calls ≡ more_calls call.Open owner m (more_calls call.Find owner n mine)
  made_calls n m disk made = ap (λ (d : Disk). own_calls client d.calls) made ∙ own_times owner call.Open m (asked_times call.Find owner n before) ∙ ap (more_calls call.Open owner m) (own_times owner call.Find n before)

  made_frame : (n m : ℕ) (disk : Disk) → Made owner before n m disk → Frame site client k None None before disk
  made_frame n m disk made = subst (Frame site client k None None before) (sym made)
      (frame_then site client k None None None before (asked_times call.Find owner n before) (asked_times call.Open owner m (asked_times call.Find owner n before)) (frame_times site client k owner refl refl call.Find n before) (frame_times site client k owner refl refl call.Open m (asked_times call.Find owner n before)))

  made_logs : (n m : ℕ) (disk : Disk) → Made owner before n m disk → Logs disk NoneFails n m
  made_logs n m disk made none = subst (Log owner NoneFails n m) (sym (made_calls n m disk made)) (log_sound owner mine none n m)

  one_more : (what : FileCall) (failed : Bool) (n : ℕ) (disk : Disk) → Made owner before n 0 disk → Frame site client k None None before (asked what owner failed disk)
  one_more what failed n disk made = frame_then site client k None None None before disk (asked what owner failed disk) (made_frame n 0 disk made) (frame_asked site client k owner refl refl what failed disk)

  calls_more : (what : FileCall) (failed : Bool) (n : ℕ) (disk : Disk) → Made owner before n 0 disk → own_calls client (asked what owner failed disk).calls ≡ record { kind = what; owner = owner; failed = failed } ∷ more_calls call.Find owner n mine
  calls_more what failed n disk made = own_same client (record { kind = what; owner = owner; failed = failed }) disk.calls refl ∙ ap (λ calls. record { kind = what; owner = owner; failed = failed } ∷ calls) (made_calls n 0 disk made)

  find_logs : (n : ℕ) (disk : Disk) → Made owner before n 0 disk → Logs (asked call.Find owner true disk) (FindFails n) (n + 1) 0
  find_logs n disk made none = subst (Log owner (FindFails n) (n + 1) 0) (sym (calls_more call.Find true n disk made)) (log_find owner mine none n)

  open_logs : (n : ℕ) (disk : Disk) → Made owner before n 0 disk → Logs (asked call.Open owner true disk) OpenFails n 1
  open_logs n disk made none = subst (Log owner OpenFails n 1) (sym (calls_more call.Open true n disk made)) (log_open owner mine none n)

  opened_logs : (n : ℕ) (disk : Disk) → Made owner before n 0 disk → Logs (asked call.Open owner false disk) NoneFails n 1
  opened_logs n disk made none = subst (Log owner NoneFails n 1) (sym (calls_more call.Open false n disk made)) (log_sound owner mine none n 1)

  -- ---- the ends of a course

  -- memory is wanted behind so many calls
  pub calls_made : (n m : ℕ) (disk : Disk) → Made owner before n m disk → n ≤ (course (basis NoneFails)).finds → m ≤ (course (basis NoneFails)).opens → CallsFor site arrival client k head None before disk
  calls_made n m disk made few_finds few_opens = calls_within disk None NoneFails n m (made_frame n m disk made) (made_logs n m disk made) few_finds few_opens

  pub calls_none : CallsFor site arrival client k head None before before
  calls_none = calls_made 0 0 before refl (omega arith) (omega arith)

  -- all calls of its course were made, and none failed
  pub plans_made : (o : Outcome) (n m : ℕ) (disk : Disk) → Made owner before n m disk → course (basis NoneFails) ≡ record { outcome = o; finds = n; opens = m } → Plans o None site arrival client k head before disk
  plans_made o n m disk made is = plans_so disk None NoneFails n m (made_frame n m disk made) (made_logs n m disk made) o is

  -- behind so many finds another one failed
  pub plans_find_fails : (o : Outcome) (n : ℕ) (disk : Disk) → Made owner before n 0 disk → course (basis (FindFails n)) ≡ record { outcome = o; finds = n + 1; opens = 0 } → Plans o None site arrival client k head before (asked call.Find owner true disk)
  plans_find_fails o n disk made is = plans_so (asked call.Find owner true disk) None (FindFails n) (n + 1) 0 (one_more call.Find true n disk made) (find_logs n disk made) o is

  -- behind them the open failed
  pub plans_open_fails : (o : Outcome) (n : ℕ) (disk : Disk) → Made owner before n 0 disk → course (basis OpenFails) ≡ record { outcome = o; finds = n; opens = 1 } → Plans o None site arrival client k head before (asked call.Open owner true disk)
  plans_open_fails o n disk made is = plans_so (asked call.Open owner true disk) None OpenFails n 1 (one_more call.Open true n disk made) (open_logs n disk made) o is

  -- behind them a file was opened
  pub plans_opened : (o : Outcome) (n file : ℕ) (bytes : List ℕ) (disk : Disk) → Made owner before n 0 disk → disk.table file ≡ None → course (basis NoneFails) ≡ record { outcome = o; finds = n; opens = 1 }
      → Plans o (Some file) site arrival client k head before (opened file bytes (asked call.Open owner false disk))
  plans_opened o n file bytes disk made fresh is = plans_so (opened file bytes (asked call.Open owner false disk)) (Some file) NoneFails n 1
      (frame_then site client k None None (Some file) before (asked call.Open owner false disk) (opened file bytes (asked call.Open owner false disk)) (one_more call.Open false n disk made) (frame_opened site client k file bytes (asked call.Open owner false disk) fresh))
      (opened_logs n disk made) o is

  -- an answer before any file is opened
  pub plans_ends : (settings : Settings) (said : Answer) (n : ℕ) (disk : Disk) → Made owner before n 0 disk → Leads site arrival head before.tree n (λ b. ends_with settings said n) → Plans (answered_with settings said []) None site arrival client k head before disk
  plans_ends settings said n disk made leads = plans_made (answered_with settings said []) n 0 disk made (leads NoneFails tt)

  -- ---- the find at a target's place

  module _ (target : Target) (here : Leads site arrival head before.tree 0 (λ b. at_target b target)) where
    pub plans_target_fails : Plans (answered_with (target_settings site arrival head before.tree target) (plain 500) []) None site arrival client k head before (asked call.Find owner true before)
    plans_target_fails = plans_find_fails (answered_with (target_settings site arrival head before.tree target) (plain 500) []) 0 before refl (target_fails site arrival head before.tree target here)

  -- ---- index names

  made_then : (finds : ℕ) (one after : Disk) → Made owner before 1 0 one → after ≡ asked_times call.Find owner finds one → Made owner before (finds + 1) 0 after
  made_then finds one after made is = is ∙ ap (asked_times call.Find owner finds) made ∙ times_before call.Find owner finds before ∙ by
    where
      by : asked_times call.Find owner (suc finds) before ≡ asked_times call.Find owner (finds + 1) before
      by = let same : suc finds ≡ finds + 1 = omega arith in ap (λ (n : ℕ). asked_times call.Find owner n before) same

  one_tree : (one : Disk) → Made owner before 1 0 one → one.tree ≡ before.tree
  one_tree one made = ap (λ (d : Disk). d.tree) made

  module _ (target : Target) (physical : List ℕ) (here : Leads site arrival head before.tree 1 (λ b. at_directory b target physical)) (one after : Disk) (one_made : Made owner before 1 0 one) where
    abbrev settings : Settings
    settings = place_settings site arrival head before.tree target target.path physical

    abbrev names : List (List ℕ)
    names = names_in site arrival head before.tree target physical

    told_status : (s : ℕ) (t : Told before.tree owner 1 target.path physical names one after (place.Status s)) → Plans (answered_with settings (plain s) []) None site arrival client k head before after
    told_status s t = plans_ends settings (plain s) (t.finds + 1) after (made_then t.finds one after one_made t.made)
        (λ failure behind. indexes site arrival head before.tree target physical here failure (place.Status s) t.finds (behind_fewer 1 (t.finds + 1) failure (omega arith) behind)
        (t.answers failure (behind_fewer (1 + t.finds) (t.finds + 1) failure (omega arith) behind)) (t.many failure (behind_fewer (1 + t.finds) (t.finds + 1) failure (omega arith) behind)))

    broken_status : (b : Broken before.tree owner 1 target.path physical names one after) → Plans (answered_with settings (plain 500) []) None site arrival client k head before after
    broken_status b =
        let same : 1 + b.finds ≡ b.finds + 1 = omega arith in
        subst (Plans (answered_with settings (plain 500) []) None site arrival client k head before) (sym b.made)
        (plans_find_fails (answered_with settings (plain 500) []) (b.finds + 1) (asked_times call.Find owner b.finds one) (made_then b.finds one (asked_times call.Find owner b.finds one) one_made refl)
        (subst (λ (n : ℕ). course (basis (FindFails n)) ≡ record { outcome = answered_with settings (plain 500) []; finds = b.finds + 1 + 1; opens = 0 }) same
        (indexes site arrival head before.tree target physical here (FindFails (1 + b.finds)) (place.Status 500) (suc b.finds) (omega arith) b.answers b.many
        ∙ (let more : suc b.finds ≡ b.finds + 1 = omega arith in ap (λ (n : ℕ). ends_with settings (plain 500) (n + 1)) more))))

    -- the first fault among the finds, or no file at any name
    pub plans_index_status : (s : ℕ) → Tries owner target.path physical names one (Ok (place.Status s)) after → Plans (answered_with settings (plain s) []) None site arrival client k head before after
    plans_index_status s tries = by (tries_as before.tree owner target.path physical names one after (Ok (place.Status s)) 1 (one_tree one one_made) tries)
      where
        by : TriedAs (Ok (place.Status s)) before.tree owner 1 target.path physical names one after → Plans (answered_with settings (plain s) []) None site arrival client k head before after
        by (inl told) = told_status s told
        by (inr broken) = subst (λ (n : ℕ). Plans (answered_with settings (plain n) []) None site arrival client k head before after) (sym broken.0) (broken_status broken.1)

    -- the first name with a file
    pub record IndexFile (p q : List ℕ) : Type 0 where
      pub finds : ℕ
      pub made : Made owner before finds 0 after
      pub bytes : List ℕ
      pub time : ℕ
      pub there : before.tree q ≡ File bytes time
      pub leads : Leads site arrival head before.tree finds (λ b. at_file b target p q bytes time finds)

    file_there : (node : Node) → is_file node ≡ true → (bytes : List ℕ) × (time : ℕ) × (node ≡ File bytes time)
    file_there Missing is = absurd (cc (is))
    file_there Directory is = absurd (cc (is))
    file_there (File bytes time) is = (bytes, time, refl)

    pub plans_index_file : (p q : List ℕ) → Tries owner target.path physical names one (Ok (place.File p q)) after → IndexFile p q
    plans_index_file p q tries = by (tries_as before.tree owner target.path physical names one after (Ok (place.File p q)) 1 (one_tree one one_made) tries)
      where
        by : TriedAs (Ok (place.File p q)) before.tree owner 1 target.path physical names one after → IndexFile p q
        by told =
            let t = told.0 in
            let f = file_there (before.tree q) told.1 in
            record {
              finds = t.finds + 1;
              made = made_then t.finds one after one_made t.made;
              bytes = f.0;
              time = f.1;
              there = f.2;
              leads = λ failure behind. indexes site arrival head before.tree target physical here failure (place.File p q) t.finds (behind_fewer 1 (t.finds + 1) failure (omega arith) behind)
                  (t.answers failure (behind_fewer (1 + t.finds) (t.finds + 1) failure (omega arith) behind)) (t.many failure (behind_fewer (1 + t.finds) (t.finds + 1) failure (omega arith) behind))
                  ∙ ap (λ (node : Node). at_index (basis failure) target settings p q node (t.finds + 1)) f.2;
            }

    -- memory is wanted among them
    pub calls_index : (e : NoMemory) → Tries owner target.path physical names one (Err e) after → CallsFor site arrival client k head None before after
    calls_index e tries = by (tries_as before.tree owner target.path physical names one after (Err e) 1 (one_tree one one_made) tries)
      where
        by : TriedAs (Err e) before.tree owner 1 target.path physical names one after → CallsFor site arrival client k head None before after
        by w = calls_made (w.finds + 1) 0 after (made_then w.finds one after one_made w.made)
            (let all = ap (λ (c : Course). c.finds) (here NoneFails tt) ∙ directory_finds site arrival head before.tree NoneFails target physical in omega (arith, all, w.few)) (omega arith)

  -- ---- a file

  module _ (target : Target) (path physical bytes : List ℕ) (time finds : ℕ) (here : Leads site arrival head before.tree finds (λ b. at_file b target path physical bytes time finds)) (disk : Disk) (made : Made owner before finds 0 disk) where
    abbrev settings_there : Settings
    settings_there = place_settings site arrival head before.tree target path physical

    -- memory is wanted before it is opened
    pub calls_file : CallsFor site arrival client k head None before disk
    calls_file = calls_made finds 0 disk made (let all = ap (λ (c : Course). c.finds) (here NoneFails tt) ∙ file_finds site arrival head before.tree NoneFails target path physical bytes time finds in omega (arith, all)) (omega arith)

    -- it is refused
    pub plans_refused : (said : Answer) → refusal settings_there.excluded path head.method ≡ Some said → Plans (answered_with settings_there said []) None site arrival client k head before disk
    plans_refused said is = plans_ends settings_there said finds disk made (leads_refused site arrival head before.tree target path physical bytes time finds here said is)

    -- its open fails
    pub plans_unopened : refusal settings_there.excluded path head.method ≡ None → Plans (answered_with settings_there (plain 500) []) None site arrival client k head before (asked call.Open owner true disk)
    plans_unopened is = plans_open_fails (answered_with settings_there (plain 500) []) finds disk made (file_opens site arrival head before.tree target path physical bytes time finds here OpenFails tt is)

    -- it is opened
    pub plans_sent : (file : ℕ) → refusal settings_there.excluded path head.method ≡ None → disk.table file ≡ None
        → Plans (answered_with settings_there (answer (mime settings_there.types path) head.method head.fields (length bytes) time) bytes) (Some file) site arrival client k head before (opened file bytes (asked call.Open owner false disk))
    plans_sent file is fresh = plans_opened (answered_with settings_there (answer (mime settings_there.types path) head.method head.fields (length bytes) time) bytes) finds file bytes disk made fresh
        (file_opens site arrival head before.tree target path physical bytes time finds here NoneFails tt is)

-- ---- bytes of a reply

-- bytes in memory
pub memory_bytes : (table : Table) (bytes : List ℕ) → bytes_of table (map Byte bytes) ≡ bytes
memory_bytes table [] = refl
memory_bytes table (b ∷ bytes) = ap (λ l. b ∷ l) (memory_bytes table bytes)

pub memory_fits : (table : Table) (file : Option ℕ) (bytes : List ℕ) (items : List Item) → AllFit table file items → AllFit table file (map Byte bytes ++ items)
memory_fits table file [] items fit = fit
memory_fits table file (b ∷ bytes) items fit = memory_fits table file bytes items fit

-- a part of a file that is open
pub range_fits : (table : Table) (file : ℕ) (bytes : List ℕ) → table file ≡ Some bytes → (start n : ℕ) → start + n ≤ length bytes → AllFit table (Some file) (range file start n)
range_fits table file bytes is start zero le = tt
range_fits table file bytes is start (suc n) le = (refl, (bytes, is, omega (arith, le)), range_fits table file bytes is (start + 1) n (omega (arith, le)))

-- bytes in memory, and then a part of a file
pub file_reply : (table : Table) (file start len : ℕ) (head bytes : List ℕ) → table file ≡ Some bytes → start + len ≤ length bytes → bytes_of table (map Byte head ++ range file start len) ≡ head ++ take len (drop start bytes)
file_reply table file start len head bytes is within =
    map-append (item_byte table) (map Byte head) (range file start len) ∙ (λ i. memory_bytes table head i ++ bytes_of-range table file start len bytes is within i)

-- ---- a file that is given back at once

module _ (site : Site) (client k : ℕ) (head : Head) (file : ℕ) (before between after : Disk) (same : after ≡ released file between) where
  same_world : (side : Side) → world_at site after client side ≡ world_at site between client side
  same_world side = ap (λ (d : Disk). world_at site d client side) same

  pub release_calls : (arrival : Option Arrival) → CallsFor site arrival client k head (Some file) before between → CallsFor site arrival client k head None before after
  release_calls arrival calls = record {
    files = and_then client None (Some file) None before between after calls.files (drops client between after (Some file) same);
    others = λ side j what apart. ap (λ (w : World). call_count w j what) (same_world side) ∙ calls.others side j what apart;
    replies = λ side j r apart. ap (λ (w : World). reply w j r) (same_world side) ∙ calls.replies side j r apart;
    plans = λ side j other what apart. ap (λ (w : World). calls_of w j other what) (same_world side) ∙ calls.plans side j other what apart;
    within = λ side came none what. subst (λ (w : World). call_count w k what ≤ calls_of w k head what) (sym (same_world side)) (calls.within side came none what);
  }

  pub release_whole : (arrival : Option Arrival) → CallsWhole site arrival client k head before between → CallsWhole site arrival client k head before after
  release_whole arrival whole side came none what = subst (λ (w : World). call_count w k what ≡ calls_of w k head what) (sym (same_world side)) (whole side came none what)

  pub release_plans : (o : Outcome) (arrival : Option Arrival) → PlansTo o site arrival client k head before between → PlansTo o site arrival client k head before after
  release_plans o arrival plans side came none = ap (λ (w : World). plan w k head) (same_world side) ∙ plans side came none

  pub released_plans : (o : Outcome) (arrival : Option Arrival) → Plans o (Some file) site arrival client k head before between → Plans o None site arrival client k head before after
  released_plans o arrival plans = record { calls = release_calls arrival plans.calls; whole = release_whole arrival plans.whole; plans = release_plans o arrival plans.plans }
