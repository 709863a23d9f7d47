-- The steps of a client at a Writable event: each outcome of the one write, or of the read of the file before it.
use Rattle.std.proofs.Common.{◌≡◌, ℕ, zero, suc, ◌≤◌, ◌<◌, List, [], ◌∷◌, ◌++◌, length, take, drop, Bool, true, false, nat_lt, nat_le, Option, Some, refl, sym, ◌∙◌, ap, subst, arith, take-append-drop, length-take, length-drop, not, ◌||◌, if◌then◌else◌}
use Rattle.std.proofs.lemmas.List.{take-map}
use Rattle.std.proofs.lemmas.Bool.Decides.{nat_tests}
use Rattle.lt_world.specs.declared.net.Ending.{Ending}
use Rattle.lt_world.specs.declared.net.Ending.TheVariants as ending
use Rattle.lt_world.specs.Disk.{Disk, Table}
use Rattle.lt_world.specs.Trace.{Act, Entry, Writing, NotYet, Failed, Wrote}
use Rattle.server_model.specs.Site.{Site}
use Rattle.server_model.specs.World.{World, world_of}
use Rattle.server_model.specs.Stream.{IsPrefix}
use Rattle.server_model.specs.Deeds.{Deed, Ours, ours, told}
use Rattle.server_model.specs.Client.{current, owed, owes}
use Rattle.chunkqueue.specs.Items.{Item, Byte, FileByte, bytes_of, item_byte, Leads, Shows}
use Rattle.lt_http_body.specs.Standings.{is_over}
use Rattle.server_model.specs.Held.{Stage, Awaiting, Heading, Taking, Asking, Answering, Held}
use Rattle.server_model.specs.Steps.{number_of, has_no_items, has_no_bytes, took, without_file, wrote, staged, looks_at, wants_memory_at, wants_memory}
use Rattle.server_model.specs.Files.{Fits, Drops}
use Rattle.server_model.specs.Serves.{IsAt, IsWaitingAt, Stands}
use Rattle.server_model.specs.Due.{DueSettles, DueWrite, Settles, IsWriteAct, offer_limit}
use Rattle.server_model.specs.Turns.{StepsBy, StopsBy, GoesBy}
use Rattle.server_model.specs.Settling.{SettlesTo}
use Rattle.server_model.proofs.FileSteps.{same_files}
use Rattle.server_model.proofs.Planned.{memory_bytes}
use Rattle.server_model.proofs.Clients.{given_back}
use Rattle.server_model.proofs.Moves.{no_items, matches_shows, matches_took}
use Rattle.server_model.proofs.Settled.{and_true, length-bytes_of, fails_right}
use Rattle.server_model.proofs.Standing.{matches_right, stands_number, stands_owed, stands_owes, stands_not_yet, stands_staged, stands_rests}
use Rattle.server_model.proofs.Wanting.{wants_looks}
use Rattle.server_model.proofs.SettleSteps.{wrote_then}
use Rattle.server_model.proofs.Stepping.{step_none, step_stops, then_step, on_goes}
use Rattle.server_model.proofs.Going.{then_settles, settles_more}

take_take : (n k : ℕ) (xs : List ℕ) → n ≤ k → take n (take k xs) ≡ take n xs
take_take zero k xs le = refl
take_take (suc n) zero xs le = absurd (omega (arith, le))
take_take (suc n) (suc k) [] le = refl
take_take (suc n) (suc k) (x ∷ xs) le = ap (λ l. x ∷ l) (take_take n k xs (omega (arith, le)))

-- what can leave the queue now begins what is owed
pub front_shows : (table : Table) (items : List Item) (staged front : List ℕ) → Leads items staged front → Shows table items staged → Shows table items front
front_shows table [] staged front leads shows = subst (Shows table []) (sym leads) refl
front_shows table (Byte b ∷ items) staged front leads shows = sym (memory_bytes table front) ∙ ap (bytes_of table) leads.1 ∙ sym (take-map (item_byte table) (length front) (Byte b ∷ items))
front_shows table (FileByte file at ∷ items) staged front leads shows = subst (Shows table (FileByte file at ∷ items)) (sym leads) shows

-- where something can leave, something is owed
pub leads_some : (items : List Item) (staged front : List ℕ) → Leads items staged front → 1 ≤ length front → 0 < length items
leads_some [] staged front leads some = absurd (omega (arith, some, ap length leads))
leads_some (item ∷ items) staged front leads some = omega arith

module _ (table : Table) (items : List Item) (front : List ℕ) (shows : Shows table items front) where
  -- what is taken of it begins what is owed
  pub front_taken : (n : ℕ) → n ≤ length front → take n front ≡ take n (bytes_of table items)
  front_taken n le = ap (take n) shows ∙ take_take n (length front) (bytes_of table items) le

  pub front_prefix : (n : ℕ) → n ≤ length front → IsPrefix (take n front) (bytes_of table items)
  front_prefix n le = (drop n (bytes_of table items), ap (λ l. l ++ drop n (bytes_of table items)) (front_taken n le) ∙ take-append-drop n (bytes_of table items))

  pub front_within : length front ≤ length (bytes_of table items)
  front_within = omega (arith, ap length shows, length-take (length front) (bytes_of table items))

some_owed : (world : World) (acts : List Act) (due : List ℕ) → owes world acts ≡ nat_lt 0 (length due) → 0 < length due → owes world acts ≡ true
some_owed world acts due is some = let yes : nat_lt 0 (length due) ≡ true = grind (arith, nat_tests, some) in is ∙ yes

-- memory is wanted only once all of a reply was taken
wants_wrote : (held : Held) (n : ℕ) → wants_memory (wrote held n) ≡ wants_memory_at held.stage held.input (drop n held.owed)
wants_wrote held n = by (has_no_items (drop n held.owed))
  where
    by : (t : Bool) → wants_memory (if t then without_file (took held n) else took held n) ≡ wants_memory_at held.stage held.input (drop n held.owed)
    by true = refl
    by false = refl

looks_all : (opened : Table) (world : World) (held : Held) (acts : List Act) (n : ℕ) (s : Stage) → IsAt opened world held acts s → IsWaitingAt s held.input held.owed → 0 < length held.owed → looks_at s held.input (drop n held.owed) ≡ true → length held.owed ≤ n
looks_all opened world held acts n (Awaiting k) at waiting some is = absurd (omega (arith, some, ap length at.owed))
looks_all opened world held acts n (Heading k head) at waiting some is = absurd waiting
looks_all opened world held acts n (Taking k head s content) at waiting some is =
    let still : (not (has_no_bytes held.input) || is_over s.state) ≡ false = (λ i. not (has_no_bytes (waiting.0 i)) || waiting.1 i) in
    absurd (cc (still, is))
looks_all opened world held acts n (Asking k r) at waiting some is = absurd waiting
looks_all opened world held acts n (Answering k last) at waiting some is =
    let none : drop n held.owed ≡ [] = no_items (drop n held.owed) (and_true (not last) (has_no_items (drop n held.owed)) is).1 in
    omega (arith, ap length none, length-drop n held.owed)

module _ (sound : Type 0) (failed : ℕ → Type 0) (site : Site) (held : Held) (net files : Type 0) (before : Disk) where
  -- nothing is owed
  pub write_idle : (old : List Entry) → held.owed ≡ [] → (files → Fits before.table held) → (files → sound) → StepsBy Stands (DueWrite sound failed) site held (Some held) net files before before old old
  write_idle old none fits unfailed = step_none Stands (DueWrite sound failed) site held net files before old old fits
      (λ f past s. (s, DueWrite.idle (stands_owes before.table (world_of site before held.link past) held (ours past) s ∙ ap (λ (l : List Item). nat_lt 0 (length (bytes_of before.table l))) none) (unfailed f)))

  owing : (past : List Deed) → 0 < length held.owed → Stands before.table (world_of site before held.link past) held (ours past) → owes (world_of site before held.link past) (ours past) ≡ true
  owing past some s = some_owed (world_of site before held.link past) (ours past) (bytes_of before.table held.owed) (stands_owes before.table (world_of site before held.link past) held (ours past) s) (omega (arith, some, length-bytes_of before.table held.owed))

  -- the read of the file failed
  pub write_faults : (old : List Entry) (new : Held) → 0 < length held.owed → (files → failed (number_of held.stage)) → new.link ≡ held.link → new.file ≡ held.file → StopsBy Stands (DueWrite sound failed) site held new ending.FileFault net files before before old old
  write_faults old new some fault link file = step_stops Stands (DueWrite sound failed) site held net files before old old ending.FileFault new [] tt (λ n. refl) (λ trace. refl) link file
      (λ f past s.
      let same : number_of held.stage ≡ (current (world_of site before held.link past) (ours past)).number = sym (stands_number before.table (world_of site before held.link past) held (ours past) s) in
      (matches_right before.table (world_of site before held.link past) held (ours past) s.matches, (λ e. absurd (cc (e))), DueWrite.faults (owing past some s) (subst failed same (fault f))))

  module _ (old now : List Entry) (front : List ℕ) (leads : Leads held.owed held.staged front) (some : 1 ≤ length front) (most : length front ≤ offer_limit) (unfailed : files → sound) where
    pub some_first : 0 < length held.owed
    some_first = leads_some held.owed held.staged front leads some

    shown : (past : List Deed) → Stands before.table (world_of site before held.link past) held (ours past) → Shows before.table held.owed front
    shown past s = front_shows before.table held.owed held.staged front leads (matches_shows before.table (world_of site before held.link past) held (ours past) s.matches some_first)

    pub write_not_yet : (net → now ≡ told held.link (Ours (NotYet Writing) ∷ []) old) → (files → Fits before.table held) → StepsBy Stands (DueWrite sound failed) site held (Some held) net files before before old now
    write_not_yet gains fits = then_step Stands Stands (DueWrite sound failed) (DueSettles false) site held held (Some held) net files before before before old now now (Ours (NotYet Writing) ∷ []) (refl, tt) gains (λ trace. refl) (λ f. same_files held.link before held.file) refl
        (λ f past s. stands_not_yet before.table (world_of site before held.link past) held (ours past) Writing s)
        (λ f past all s settles. DueWrite.writes (NotYet Writing) (owing past some_first s) tt (unfailed f) settles)
        (step_none Stands (DueSettles false) site held net files before now now fits (λ f past s. (s, Settles.rests (stands_rests before.table (world_of site before held.link past) held past s))))

    pub write_failed : (net → now ≡ told held.link (Ours (Failed Writing) ∷ []) old) → StopsBy Stands (DueWrite sound failed) site held held ending.ClientFault net files before before old now
    write_failed gains = step_stops Stands (DueWrite sound failed) site held net files before old now ending.ClientFault held (Ours (Failed Writing) ∷ []) (refl, tt) gains (λ trace. refl) refl refl
        (λ f past s. (
          fails_right (world_of site before held.link past) (ours past) Writing (matches_right before.table (world_of site before held.link past) held (ours past) s.matches),
          (λ e. absurd (cc (e))),
          DueWrite.writes (Failed Writing) (owing past some_first s) tt (unfailed f) (Settles.fails refl),
        ))

    -- it took some bytes, its file is given back once nothing is owed any more, and then what follows
    pub write_then : (between after : Disk) (new : Held) (result : Option Ending) (n : ℕ) → n ≤ length front → (net → now ≡ told held.link (Ours (Wrote (length front) (take n front)) ∷ []) old) → (files → Drops (given_back held n) before between)
        → SettlesTo (wants_memory (wrote held n)) site (wrote held n) new result files between after → GoesBy Stands (DueWrite sound failed) site held new result net files before after old now
    write_then between after new result n le gains dropped settles = then_settles Stands (DueWrite sound failed) (wants_memory (wrote held n)) site held (took held n) new net files before after old now
        (Ours (Wrote (length front) (take n front)) ∷ []) (refl, tt) gains (λ trace. refl) refl refl
        (λ f past s. matches_took before.table (world_of site before held.link past) held (ours past) n (length front) (take n front) (front_taken before.table held.owed front (shown past s) n le) s.matches some_first)
        (λ f past all s settled.
        let due : owed (world_of site before held.link past) (ours past) ≡ bytes_of before.table held.owed = stands_owed before.table (world_of site before held.link past) held (ours past) s in
        let act : IsWriteAct (owed (world_of site before held.link past) (ours past)) (Wrote (length front) (take n front)) = subst (λ (d : List ℕ). IsWriteAct d (Wrote (length front) (take n front))) (sym due) (some, most, front_within before.table held.owed front (shown past s), front_prefix before.table held.owed front (shown past s) n le) in
        let count : length (owed (world_of site before held.link past) (ours past)) ≡ length held.owed = ap length due ∙ length-bytes_of before.table held.owed in
        let may : wants_memory (wrote held n) ≡ true → nat_le (length (owed (world_of site before held.link past) (ours past))) (length (take n front)) ≡ true = λ is.
        let all_taken = looks_all before.table (world_of site before held.link past) held (ours past) n held.stage s.matches.at s.waiting some_first (wants_looks held.stage held.input held.owed s.waiting (drop n held.owed) (sym (wants_wrote held n) ∙ is)) in
        let taken : length (take n front) ≡ n = omega (arith, length-take n front, le) in
        grind (arith, nat_tests, all_taken, count, taken) in
        DueWrite.writes (Wrote (length front) (take n front)) (owing past some_first s) act (unfailed f) (settles_more (world_of site after held.link past) (wants_memory (wrote held n)) (nat_le (length (owed (world_of site before held.link past) (ours past))) (length (take n front))) may (Ours (Wrote (length front) (take n front)) ∷ past) all settled))
        result (wrote_then (wants_memory (wrote held n)) site held new files before between after n result dropped settles)

  -- the front was read from its file, and then what follows
  pub staged_then : (bytes : List ℕ) (new : Held) (result : Option Ending) (after : Disk) (old now : List Entry) → 0 < length held.owed → (files → Shows before.table held.owed held.staged → Shows before.table held.owed bytes)
      → GoesBy Stands (DueWrite sound failed) site (staged held bytes) new result net files before after old now → GoesBy Stands (DueWrite sound failed) site held new result net files before after old now
  staged_then bytes new result after old now some reads goes = on_goes Stands Stands (DueWrite sound failed) site held (staged held bytes) new net files before after old now refl refl
      (λ f past s. stands_staged before.table (world_of site before held.link past) held (ours past) bytes (reads f (matches_shows before.table (world_of site before held.link past) held (ours past) s.matches some)) some s)
      result goes
