-- What follows a read or a write of a client: its request is taken up and answered, it is closed, or it rests.
use Rattle.std.proofs.Common.{◌≡◌, ◌≤◌, ℕ, if◌then◌else◌, drop, List, [], ◌∷◌, ◌++◌, map, Bool, true, false, Option, Some, None, refl, sym, ◌∙◌, ap, subst, arith}
use Rattle.lt_world.specs.declared.net.Ending.{Ending}
use Rattle.lt_world.specs.declared.net.Ending.TheVariants as ending
use Rattle.lt_world.specs.Disk.{Disk, Table}
use Rattle.server_model.specs.Deeds.{Deed, ours}
use Rattle.server_model.specs.Settings.{settings_at, limit_for, is_last_request}
use Rattle.server_model.specs.Site.{Site}
use Rattle.server_model.specs.Request.{Head, Complete, Refused, Declined}
use Rattle.server_model.specs.World.{World, world_of, call_count, Arrival, side_of}
use Rattle.server_model.specs.Plan.{Outcome, is_head, plan, calls_of}
use Rattle.server_model.specs.Reply.{continue_bytes, continue_of, final_bytes, refusal_bytes}
use Rattle.server_model.specs.Client.{AskedInTurn, IsRight}
use Rattle.chunkqueue.specs.Items.{Item, Byte, FileByte, bytes_of}
use Rattle.server_model.specs.Held.{Heading, Asking, Held, arrival_of}
use Rattle.server_model.specs.Steps.{number_of, has_no_items, wants_memory, advanced, accepted, answered, wrote, took, without_file, is_in_memory, is_done}
use Rattle.server_model.specs.Files.{AllFit, Fits, FileStep, Drops}
use Rattle.server_model.specs.Planning.{Unasked, CallsFor, CallsWhole, PlansTo}
use Rattle.server_model.specs.Serves.{IsAsking, IsAt, first_unasked, IsWaiting, Matches, Stands}
use Rattle.server_model.specs.Due.{MayYield}
use Rattle.server_model.specs.Settling.{SettlesOn, EndsAs, SettlesOut, MayEnd, SettlesTo}
use Rattle.server_model.proofs.FileSteps.{same_files, drops, and_then, items_alone}
use Rattle.server_model.proofs.Clients.{IsSettled, IsFreed, given_back, advanced_link, advanced_file, accepted_stays, accepted_link, accepted_file}
use Rattle.server_model.proofs.Moves.{matches_released}
use Rattle.server_model.proofs.Advances.{matches_advanced, matches_accepted, asks_other, by_head, asked_planned, matches_planned, matches_answered}
use Rattle.server_model.proofs.Settled.{at_prefix}
use Rattle.server_model.proofs.Standing.{matches_right, matches_finished, matches_stands}
use Rattle.server_model.proofs.Wanting.{matches_yields, asking_yields}
use Rattle.server_model.proofs.Sides.{came_side}
use Rattle.server_model.proofs.Stepping.{drops_world}

module _ (site : Site) (held : Held) (files : Type 0) (before : Disk) where
  pub settle_rests : IsWaiting held → is_done held ≡ false → (files → Fits before.table held) → SettlesOn site held held files before before
  settle_rests waiting undone fits = record {
    link = refl;
    does = λ f. same_files held.link before held.file;
    fits = fits;
    keeps = λ f past m. matches_stands before.table (world_of site before held.link past) held (ours past) m waiting undone;
  }

  pub settle_finishes : (may : Bool) → IsSettled held → is_done held ≡ true → SettlesOut may site held held ending.Clean files before before
  settle_finishes may settled done = record {
    allowed = tt;
    link = refl;
    does = λ f. same_files held.link before held.file;
    keeps = λ f past m. (matches_right before.table (world_of site before held.link past) held (ours past) m, (λ e. matches_finished before.table (world_of site before held.link past) held (ours past) m settled done), (λ e. absurd (cc (e))));
  }

  pub settle_yields : (new : Held) → wants_memory held ≡ true → new.link ≡ held.link → new.file ≡ held.file → SettlesOut true site held new ending.NoMemory files before before
  settle_yields new wants link file = record {
    allowed = refl;
    link = link;
    does = λ f. subst (λ (o : Option ℕ). FileStep held.link held.file o before before) (sym file) (same_files held.link before held.file);
    keeps = λ f past m. (matches_right before.table (world_of site before held.link past) held (ours past) m, (λ e. absurd (cc (e))), (λ e. matches_yields before.table (world_of site before held.link past) held (ours past) m wants));
  }

-- memory may be wanted in more cases
pub settle_more : (a b : Bool) (site : Site) (held new : Held) (files : Type 0) (before after : Disk) (result : Option Ending) → (a ≡ true → b ≡ true) → SettlesTo a site held new result files before after → SettlesTo b site held new result files before after
settle_more a b site held new files before after None weaker s = s
settle_more a b site held new files before after (Some e) weaker s = record { allowed = may_end e s.allowed; link = s.link; does = s.does; keeps = s.keeps }
  where
    may_end : (e : Ending) → MayEnd a e → MayEnd b e
    may_end ending.Clean may = tt
    may_end ending.ClientFault may = may
    may_end ending.FileFault may = may
    may_end ending.GatewayCut may = may
    may_end ending.Full may = may
    may_end ending.NoMemory may = weaker may
    may_end ending.Gate may = may

-- a change of what is kept, and then what follows
module _ (may : Bool) (site : Site) (held mid new : Held) (files : Type 0) (before between after : Disk) (link : mid.link ≡ held.link) (does : files → FileStep held.link held.file mid.file before between)
    (keeps : files → (past : List Deed) → Matches before.table (world_of site before held.link past) held (ours past) → Matches between.table (world_of site between held.link past) mid (ours past)) where
  files_then : FileStep mid.link mid.file new.file between after → files → FileStep held.link held.file new.file before after
  files_then later f = and_then held.link held.file mid.file new.file before between after (does f) (subst (λ (l : ℕ). FileStep l mid.file new.file between after) link later)

  settle_on : SettlesOn site mid new files between after → SettlesOn site held new files before after
  settle_on s = record {
    link = s.link ∙ link;
    does = λ f. files_then (s.does f) f;
    fits = s.fits;
    keeps = λ f past m. let P : ℕ → Type 0 = λ l. Matches between.table (world_of site between l past) mid (ours past) → Stands after.table (world_of site after l past) new (ours past) in subst P link (s.keeps f past) (keeps f past m);
  }

  settle_out : (e : Ending) → SettlesOut may site mid new e files between after → SettlesOut may site held new e files before after
  settle_out e s = record {
    allowed = s.allowed;
    link = s.link ∙ link;
    does = λ f. files_then (s.does f) f;
    keeps = λ f past m.
        let P : ℕ → Type 0 = λ l. Matches between.table (world_of site between l past) mid (ours past) → EndsAs e (world_of site after l past) (ours past) in
        subst P link (s.keeps f past) (keeps f past m);
  }

  pub settle_then : (result : Option Ending) → SettlesTo may site mid new result files between after → SettlesTo may site held new result files before after
  settle_then None s = settle_on s
  settle_then (Some e) s = settle_out e s

-- the step that what came allows, and then what follows
pub advance_then : (may : Bool) (site : Site) (held new : Held) (files : Type 0) (before after : Disk) (result : Option Ending) → IsFreed held
    → SettlesTo may site (advanced held) new result files before after → SettlesTo may site held new result files before after
advance_then may site held new files before after result freed settles = settle_then may site held (advanced held) new files before before after (advanced_link held)
    (λ f. subst (λ (o : Option ℕ). FileStep held.link held.file o before before) (sym (advanced_file held)) (same_files held.link before held.file))
    (λ f past m. matches_advanced before.table (world_of site before held.link past) held (ours past) freed m)
    result settles

-- items in memory fit behind others
fits_behind : (table : Table) (file : Option ℕ) (items : List Item) (bytes : List ℕ) → AllFit table file items → AllFit table file (items ++ map Byte bytes)
fits_behind table file [] [] fit = tt
fits_behind table file [] (b ∷ bytes) fit = fits_behind table file [] bytes tt
fits_behind table file (Byte x ∷ items) bytes fit = fits_behind table file items bytes fit
fits_behind table file (FileByte from at ∷ items) bytes fit = (fit.0, fit.1, fits_behind table file items bytes fit.2)

pub accepted_fits : (table : Table) (held : Held) (limit : ℕ) → Fits table held → Fits table (accepted held limit)
accepted_fits table held limit fits = accepted_stays (Fits table) held limit (λ k head. record { is_open = fits.is_open; owed = fits_behind table held.file held.owed (continue_bytes head limit) fits.owed }) fits

-- the body of its request is accepted, and then what follows
pub accept_then : (may : Bool) (site : Site) (held new : Held) (files : Type 0) (before after : Disk) (result : Option Ending) (limit : ℕ) → ((k : ℕ) (head : Head) → held.stage ≡ Heading k head → limit ≡ (settings_at site (Some (arrival_of held)) (Some head)).body_limit)
    → SettlesTo may site (accepted held limit) new result files before after → SettlesTo may site held new result files before after
accept_then may site held new files before after result limit same settles = settle_then may site held (accepted held limit) new files before before after (accepted_link held limit)
    (λ f. subst (λ (o : Option ℕ). FileStep held.link held.file o before before) (sym (accepted_file held limit)) (same_files held.link before held.file))
    (λ f past m. matches_accepted before.table (world_of site before held.link past) held (ours past) limit
    (λ k head is. same k head is ∙ ap (λ (a : Option Arrival). (settings_at site a (Some head)).body_limit) (sym (came_side held.peer held.local past m.came))) m)
    result settles

module _ (site : Site) (held : Held) (before between : Disk) (past : List Deed) (head : Head) (content : List ℕ) (file : Option ℕ) (asking : held.stage ≡ Asking (number_of held.stage) (Complete head content)) where
  none_asked : Matches before.table (world_of site before held.link past) held (ours past) → Unasked (world_of site before held.link past) (number_of held.stage)
  none_asked m what = m.unasked (number_of held.stage) what (omega (arith, ap first_unasked asking))

  planned_turn : CallsFor site (Some (arrival_of held)) held.link (number_of held.stage) head file before between → Matches before.table (world_of site before held.link past) held (ours past) → AskedInTurn (world_of site between held.link past) (ours past)
  planned_turn calls m = matches_planned before.table between.table (world_of site before held.link past) (world_of site between held.link past) held (ours past) (number_of held.stage) (Complete head content) asking refl (calls.others (side_of past)) (calls.replies (side_of past)) (calls.plans (side_of past)) refl
      (λ h c is what. by_head before.table between.table (world_of site before held.link past) (world_of site between held.link past) held (ours past) (number_of held.stage) (Complete head content) asking refl (calls.others (side_of past)) (calls.replies (side_of past)) (calls.plans (side_of past)) head content refl
      (λ (x : Head). call_count (world_of site between held.link past) (number_of held.stage) what ≤ calls_of (world_of site between held.link past) (number_of held.stage) x what) (calls.within (side_of past) (came_side held.peer held.local past m.came) (none_asked m) what) m h c is) m

  -- its request is being planned
  pub calls_right : CallsFor site (Some (arrival_of held)) held.link (number_of held.stage) head file before between → Matches before.table (world_of site before held.link past) held (ours past) → IsRight (world_of site between held.link past) (ours past)
  calls_right calls m = record {
    prefix = at_prefix before.table (world_of site between held.link past) held (ours past) (Asking (number_of held.stage) (Complete head content)) (asks_other before.table between.table (world_of site before held.link past) (world_of site between held.link past) held (ours past) (number_of held.stage) (Complete head content) asking refl (calls.others (side_of past)) (calls.replies (side_of past)) (calls.plans (side_of past)) m);
    in_turn = planned_turn calls m;
  }

  -- so something is still to come
  pub calls_yields : CallsFor site (Some (arrival_of held)) held.link (number_of held.stage) head file before between → Matches before.table (world_of site before held.link past) held (ours past) → MayYield (world_of site between held.link past) (ours past)
  calls_yields calls m = asking_yields before.table (world_of site between held.link past) held (ours past) (number_of held.stage) (Complete head content)
      (asks_other before.table between.table (world_of site before held.link past) (world_of site between held.link past) held (ours past) (number_of held.stage) (Complete head content) asking refl (calls.others (side_of past)) (calls.replies (side_of past)) (calls.plans (side_of past)) m) refl

  -- what is owed of what it was told first is in memory
  owed_stays : CallsFor site (Some (arrival_of held)) held.link (number_of held.stage) head file before between → Fits before.table held → Matches before.table (world_of site before held.link past) held (ours past) → bytes_of between.table held.owed ≡ bytes_of before.table held.owed
  owed_stays calls fits m =
      let at : IsAsking before.table (world_of site before held.link past) held (ours past) (number_of held.stage) (Complete head content) = subst (IsAt before.table (world_of site before held.link past) held (ours past)) asking m.at in
      (items_alone before.table between.table held.file held.owed (λ f is. absurd (cc (at.file, is))) fits.owed).1

  -- it is answered as is planned
  pub answer_by : (o : Outcome) (items : List Item) → CallsFor site (Some (arrival_of held)) held.link (number_of held.stage) head file before between → CallsWhole site (Some (arrival_of held)) held.link (number_of held.stage) head before between → PlansTo o site (Some (arrival_of held)) held.link (number_of held.stage) head before between
      → bytes_of between.table items ≡ final_bytes head (is_last_request o.settings.request_limit (number_of held.stage) head) o → Fits before.table held
      → Matches before.table (world_of site before held.link past) held (ours past) → Matches between.table (world_of site between held.link past) (answered held items file (is_last_request o.settings.request_limit (number_of held.stage) head)) (ours past)
  answer_by o items calls whole plans is fits m =
      let planned : plan (world_of site between held.link past) (number_of held.stage) head ≡ o = plans (side_of past) (came_side held.peer held.local past m.came) (none_asked m) in
      matches_answered before.table between.table (world_of site before held.link past) (world_of site between held.link past) held (ours past) (number_of held.stage) (Complete head content) asking refl (calls.others (side_of past)) (calls.replies (side_of past)) (calls.plans (side_of past))
      items file (is_last_request o.settings.request_limit (number_of held.stage) head) (planned_turn calls m)
      (asked_planned before.table between.table (world_of site before held.link past) (world_of site between held.link past) held (ours past) (number_of held.stage) (Complete head content) asking refl (calls.others (side_of past)) (calls.replies (side_of past)) (calls.plans (side_of past))
      (λ h c here what. by_head before.table between.table (world_of site before held.link past) (world_of site between held.link past) held (ours past) (number_of held.stage) (Complete head content) asking refl (calls.others (side_of past)) (calls.replies (side_of past)) (calls.plans (side_of past)) head content refl
      (λ (x : Head). call_count (world_of site between held.link past) (number_of held.stage) what ≡ calls_of (world_of site between held.link past) (number_of held.stage) x what) (whole (side_of past) (came_side held.peer held.local past m.came) (none_asked m) what) m h c here) m)
      refl (ap (λ (p : Outcome). is_last_request p.settings.request_limit (number_of held.stage) head) planned) (owed_stays calls fits m)
      (ap (λ l. continue_of (limit_for (world_of site between held.link past)) head ++ l) (is ∙ ap (λ (p : Outcome). final_bytes head (is_last_request p.settings.request_limit (number_of held.stage) head) p) (sym planned))) m

-- a refused head is answered, and a request whose body is refused
module _ (site : Site) (held : Held) (disk : Disk) (past : List Deed) (status : ℕ) (items : List Item) where
  pub refuse_by : held.stage ≡ Asking (number_of held.stage) (Refused status) → bytes_of disk.table items ≡ refusal_bytes (settings_at site (Some (arrival_of held)) None) 1 status false
      → Matches disk.table (world_of site disk held.link past) held (ours past) → Matches disk.table (world_of site disk held.link past) (answered held items None true) (ours past)
  refuse_by asking is m = matches_answered disk.table disk.table (world_of site disk held.link past) (world_of site disk held.link past) held (ours past) (number_of held.stage) (Refused status) asking refl (λ j what apart. refl) (λ j q apart. refl) (λ j h what apart. refl) items None true m.in_turn m.asked refl refl refl
      (is ∙ ap (λ (a : Option Arrival). refusal_bytes (settings_at site a None) 1 status false) (sym (came_side held.peer held.local past m.came))) m

  pub decline_by : (head : Head) → held.stage ≡ Asking (number_of held.stage) (Declined status head) → bytes_of disk.table items ≡ refusal_bytes (settings_at site (Some (arrival_of held)) (Some head)) head.minor status (is_head head.method)
      → Matches disk.table (world_of site disk held.link past) held (ours past) → Matches disk.table (world_of site disk held.link past) (answered held items None true) (ours past)
  decline_by head asking is m = matches_answered disk.table disk.table (world_of site disk held.link past) (world_of site disk held.link past) held (ours past) (number_of held.stage) (Declined status head) asking refl (λ j what apart. refl) (λ j q apart. refl) (λ j h what apart. refl) items None true m.in_turn m.asked refl refl refl
      (ap (λ l. continue_of (limit_for (world_of site disk held.link past)) head ++ l)
      (is ∙ ap (λ (a : Option Arrival). refusal_bytes (settings_at site a (Some head)) head.minor status (is_head head.method)) (sym (came_side held.peer held.local past m.came)))) m

-- memory is wanted for its plan, for which calls may have been made
pub plan_yields : (site : Site) (held new : Held) (files : Type 0) (before after : Disk) (head : Head) (content : List ℕ) (file : Option ℕ) → held.stage ≡ Asking (number_of held.stage) (Complete head content) → new.link ≡ held.link → held.file ≡ None → new.file ≡ file
    → (files → CallsFor site (Some (arrival_of held)) held.link (number_of held.stage) head file before after) → SettlesOut true site held new ending.NoMemory files before after
plan_yields site held new files before after head content file asking link none new_file calls = record {
  allowed = refl;
  link = link;
  does = λ f. let P : Option ℕ → Option ℕ → Type 0 = λ a b. FileStep held.link a b before after in subst (λ (a : Option ℕ). P a new.file) (sym none) (subst (P None) (sym new_file) (calls f).files);
  keeps = λ f past m. (calls_right site held before after past head content file asking (calls f) m, (λ e. absurd (cc (e))), (λ e. calls_yields site held before after past head content file asking (calls f) m));
}

-- items in memory are the same bytes, whatever is open
pub memory_same : (a b : Table) (items : List Item) → is_in_memory items ≡ true → bytes_of a items ≡ bytes_of b items
memory_same a b [] is = refl
memory_same a b (Byte x ∷ items) is = ap (λ l. x ∷ l) (memory_same a b items is)
memory_same a b (FileByte file at ∷ items) is = absurd (cc (is))

-- a file of which nothing is owed any more is given back
pub releases : (site : Site) (held : Held) (before between : Disk) (past : List Deed) → is_in_memory held.owed ≡ true → Drops held.file before between
    → Matches before.table (world_of site before held.link past) held (ours past) → Matches between.table (world_of site between held.link past) (without_file held) (ours past)
releases site held before between past memory dropped m =
    let same : world_of site between held.link past ≡ world_of site before held.link past = drops_world site held.link before between past held.file dropped in
    subst (λ (w : World). Matches between.table w (without_file held) (ours past)) (sym same)
    (matches_released before.table (world_of site before held.link past) held (ours past) m between.table (memory_same between.table before.table held.owed memory))

pub release_then : (may : Bool) (site : Site) (held new : Held) (files : Type 0) (before between after : Disk) (result : Option Ending) → is_in_memory held.owed ≡ true → (files → Drops held.file before between)
    → SettlesTo may site (without_file held) new result files between after → SettlesTo may site held new result files before after
release_then may site held new files before between after result memory dropped settles = settle_then may site held (without_file held) new files before between after refl
    (λ f. drops held.link before between held.file (dropped f))
    (λ f past m. releases site held before between past memory (dropped f) m)
    result settles

-- a write, with its file given back once nothing is owed any more, and then what follows
pub wrote_then : (may : Bool) (site : Site) (held new : Held) (files : Type 0) (before between after : Disk) (n : ℕ) (result : Option Ending) → (files → Drops (given_back held n) before between)
    → SettlesTo may site (wrote held n) new result files between after → SettlesTo may site (took held n) new result files before after
wrote_then may site held new files before between after n result dropped settles = by (has_no_items (drop n held.owed)) refl dropped settles
  where
    none_left : (items : List Item) → has_no_items items ≡ true → is_in_memory items ≡ true
    none_left [] is = refl
    none_left (item ∷ items) is = absurd (cc (is))

    by : (t : Bool) → has_no_items (drop n held.owed) ≡ t → (files → Drops (if t then held.file else None) before between)
        → SettlesTo may site (if t then without_file (took held n) else took held n) new result files between after → SettlesTo may site (took held n) new result files before after
    by true none gone s = release_then may site (took held n) new files before between after result (none_left (drop n held.owed) none) gone s
    by false some same s = settle_then may site (took held n) (took held n) new files before between after refl
        (λ f. subst (FileStep held.link held.file held.file before) (sym (same f)) (same_files held.link before held.file))
        (λ f past m. subst (λ (d : Disk). Matches d.table (world_of site d held.link past) (took held n) (ours past)) (sym (same f)) m)
        result s
