-- How many conditions are compared in a step for one client, and in a turn.
use Rattle.std.proofs.Common.{◌≡◌, ℕ, ◌+◌, ◌*◌, ◌≤◌, ◌<◌, List, [], ◌∷◌, ◌++◌, length, take, drop, Bool, true, false, Option, Some, None, if◌then◌else◌, refl, sym, ◌∙◌, ap, subst, arith, length-append, append_assoc}
use Rattle.lt_world.specs.declared.net.Ending.{Ending}
use Rattle.lt_world.specs.declared.net.Ending.TheVariants as ending
use Rattle.lt_world.specs.Disk.{Disk, Table}
use Rattle.lt_world.specs.Trace.{Act, Entry, Reading, Writing, Read, ReadEnd, Wrote, Close, said}
use Rattle.chunkqueue.specs.Items.{Item, Leads, Shows}
use Rattle.connection.specs.Connection.{Connected}
use Rattle.server_model.specs.Comparing.{comparisons, planned_count, passes_between, passes_in_turn}
use Rattle.server_model.specs.Deeds.{Deed, Ours, own, ours, told, AreDeeds}
use Rattle.server_model.specs.Held.{Held, arrival_of, kept_at}
use Rattle.server_model.specs.Serves.{first_unasked, IsWaiting, Matches, Stands, StandsFor, Serves}
use Rattle.server_model.specs.Site.{Site}
use Rattle.server_model.specs.Steps.{has_no_items, received, received_end, staged, took, without_file, wrote, wants_read}
use Rattle.server_model.specs.Turns.{Seen}
use Rattle.server_model.specs.World.{Side, World, world_at, world_of, side_of, side_after}
use Rattle.server_model.proofs.Clients.{IsFreed, received_freed, ended_freed, wrote_freed}
use Rattle.server_model.proofs.Moves.{matches_shows, matches_took, matches_released}
use Rattle.server_model.proofs.Owned.{own-told}
use Rattle.server_model.proofs.Sides.{came_side}
use Rattle.server_model.proofs.Standing.{wants_reads, stands_staged, matches_received, matches_end}
use Rattle.server_model.proofs.Turning.{IsReady}
use Rattle.server_model.proofs.WriteSteps.{front_taken, front_shows}
use Rattle.server_core.specs.Compared.{wants, wanted_by, wanted_in, ComparesIn}
use Rattle.server_core.specs.Passes.{passes_after, ComparesBy}
use Rattle.server_core.specs.Table.{helds, serving}
use Rattle.server_core.proofs.Comparing.{more_comparisons, planned_before, few_passes}

-- ---- a step for one client

-- nothing was compared
pub compares_nothing : (site : Site) (held : Held) (result : Option Ending) (net files : Type 0) (disk : Disk) (old now : List Entry) (n : ℕ) (deeds : List Deed) → AreDeeds deeds → (net → now ≡ told held.link deeds old) → ComparesBy site held result net files disk old now n n
compares_nothing site held result net files disk old now n deeds are gains = record { deeds = deeds; are = are; gains = gains; within = λ f past s. omega arith }

-- an act, and what is taken up then
module _ (site : Site) (held mid : Held) (result : Option Ending) (net files : Type 0) (disk : Disk) (old now : List Entry) (before after : ℕ) (act : Act) (deed : AreDeeds (Ours act ∷ [])) (side : (s : Side) → side_after act s ≡ s) (freed : IsFreed mid) (first : first_unasked mid.stage ≡ first_unasked held.stage)
    (matches : files → (past : List Deed) → Stands disk.table (world_of site disk held.link past) held (ours past) → Matches disk.table (world_of site disk held.link past) mid (act ∷ ours past)) where
  world_stays : (past : List Deed) → world_of site disk held.link (Ours act ∷ past) ≡ world_of site disk held.link past
  world_stays past = ap (world_at site disk held.link) (side (side_of past))

  pub compares_then : (net → now ≡ told held.link (Ours act ∷ []) old) → after ≤ before + comparisons site (passes_after site mid) + wants result → ComparesBy site held result net files disk old now before after
  compares_then gains within = record {
    deeds = Ours act ∷ [];
    are = deed;
    gains = gains;
    within = λ f past s.
        let w : World = world_of site disk held.link past in
        let m : Matches disk.table w mid (act ∷ ours past) = matches f past s in
        let came : w.side.arrival ≡ Some (arrival_of mid) = ap (λ (t : Side). t.arrival) (sym (side (side_of past))) ∙ came_side mid.peer mid.local (Ours act ∷ past) m.came in
        let n : planned_count w (ours past) ≤ first_unasked mid.stage = omega (arith, planned_before disk.table w held (ours past) s, first) in
        let few = few_passes site disk.table w mid (act ∷ ours past) refl came w (ours past) n freed m in
        let more = more_comparisons site (passes_after site mid) (passes_between w (ours past) w (act ∷ ours past)) few in
        let here : after ≤ before + comparisons site (passes_between w (ours past) w (act ∷ ours past)) + wants result = omega (arith, within, more) in
        subst (λ (v : World). after ≤ before + comparisons site (passes_between w (ours past) v (act ∷ ours past)) + wants result) (sym (world_stays past)) here;
  }

-- a read
module _ (site : Site) (held : Held) (result : Option Ending) (net files : Type 0) (disk : Disk) (old now : List Entry) (before after : ℕ) (wanted : wants_read held ≡ true) (waiting : IsWaiting held) where
  pub compares_read_bytes : (mid : Held) (asked : ℕ) (bytes : List ℕ) → mid ≡ received held bytes → (net → now ≡ told held.link (Ours (Read asked bytes) ∷ []) old) → after ≤ before + comparisons site (passes_after site mid) + wants result → ComparesBy site held result net files disk old now before after
  compares_read_bytes mid asked bytes is gains within = compares_then site held (received held bytes) result net files disk old now before after (Read asked bytes) (refl, tt) (λ s. refl) (received_freed held bytes waiting) refl
      (λ f past s. matches_received disk.table (world_of site disk held.link past) held (ours past) asked bytes (wants_reads held wanted) s) gains
      (subst (λ (h : Held). after ≤ before + comparisons site (passes_after site h) + wants result) is within)

  pub compares_read_end : (mid : Held) → mid ≡ received_end held → (net → now ≡ told held.link (Ours ReadEnd ∷ []) old) → after ≤ before + comparisons site (passes_after site mid) + wants result → ComparesBy site held result net files disk old now before after
  compares_read_end mid is gains within = compares_then site held (received_end held) result net files disk old now before after ReadEnd (refl, tt) (λ s. refl) (ended_freed held waiting) refl
      (λ f past s. matches_end disk.table (world_of site disk held.link past) held (ours past) (wants_reads held wanted) s) gains
      (subst (λ (h : Held). after ≤ before + comparisons site (passes_after site h) + wants result) is within)

-- what was staged and then taken
wrote_first : (mid : Held) (n : ℕ) → first_unasked (wrote mid n).stage ≡ first_unasked mid.stage
wrote_first mid n = by (has_no_items (drop n mid.owed))
  where
    by : (t : Bool) → first_unasked (if t then without_file (took mid n) else took mid n).stage ≡ first_unasked mid.stage
    by true = refl
    by false = refl

wrote_matches : (table : Table) (world : World) (mid : Held) (acts : List Act) (n : ℕ) → Matches table world (took mid n) acts → Matches table world (wrote mid n) acts
wrote_matches table world mid acts n m = by (has_no_items (drop n mid.owed))
  where
    by : (t : Bool) → Matches table world (if t then without_file (took mid n) else took mid n) acts
    by true = matches_released table world (took mid n) acts m table refl
    by false = m

module _ (site : Site) (held mid : Held) (result : Option Ending) (net files : Type 0) (disk : Disk) (old now : List Entry) (before after : ℕ) (is : mid ≡ staged held mid.staged) (some : 0 < length held.owed)
    (reads : files → Shows disk.table held.owed held.staged → Shows disk.table held.owed mid.staged) (front : List ℕ) (leads : Leads mid.owed mid.staged front) where
  pub compares_wrote : (new : Held) (n : ℕ) → n ≤ length front → new ≡ wrote mid n → (net → now ≡ told held.link (Ours (Wrote (length front) (take n front)) ∷ []) old) → after ≤ before + comparisons site (passes_after site new) + wants result → ComparesBy site held result net files disk old now before after
  compares_wrote new n le new_is gains within = compares_then site held (wrote mid n) result net files disk old now before after (Wrote (length front) (take n front)) (refl, tt) (λ s. refl) (wrote_freed mid n)
      (wrote_first mid n ∙ ap (λ (h : Held). first_unasked h.stage) is)
      (λ f past s.
      let w : World = world_of site disk held.link past in
      let shows = reads f (matches_shows disk.table w held (ours past) s.matches some) in
      let there : Stands disk.table w mid (ours past) = subst (λ (h : Held). Stands disk.table w h (ours past)) (sym is) (stands_staged disk.table w held (ours past) mid.staged shows some s) in
      let more : 0 < length mid.owed = omega (arith, some, ap (λ (h : Held). length h.owed) is) in
      let shown = front_shows disk.table mid.owed mid.staged front leads (matches_shows disk.table w mid (ours past) there.matches more) in
      wrote_matches disk.table w mid (Wrote (length front) (take n front) ∷ ours past) n
      (matches_took disk.table w mid (ours past) n (length front) (take n front) (front_taken disk.table mid.owed front shown n le) there.matches more))
      gains
      (subst (λ (h : Held). after ≤ before + comparisons site (passes_after site h) + wants result) new_is within)

-- ---- the table

module _ (event : Act) (ready : IsReady event) (link : ℕ) (site : Site) (conns : List Connected) (held : Held) (result : Option Ending) (net files : Type 0) (seen : Seen) (old now trace : List Entry) (before after : ℕ)
    (here : held.link ≡ link) (kept : kept_at link (helds conns) ≡ Some held) (step : ComparesBy site held result net files seen.disk old now before after)
    (gained : old ≡ record { link = link; act = event } ∷ trace) (serves : Serves seen.disk (serving site conns) trace) where
  stands : Stands seen.disk.table (world_of site seen.disk link (own link trace)) held (ours (own link trace))
  stands = let P : Option Held → Type 0 = λ k. StandsFor seen.disk.table (world_of site seen.disk link (own link trace)) k (own link trace) in subst P kept (serves.each link)

  own_now : net → own link now ≡ step.deeds ++ own link trace
  own_now n = ap (own link) (step.gains n ∙ (λ i. told (here i) step.deeds (gained i))) ∙ own-told link step.deeds (record { link = link; act = event } ∷ trace) step.are ∙ ap (λ d. step.deeds ++ d) (ready link link trace).0

  counted : files → after ≤ before + comparisons site (passes_between (world_of site seen.disk link (own link trace)) (ours (own link trace)) (world_of site seen.disk link (step.deeds ++ own link trace)) (ours (step.deeds ++ own link trace))) + wants result
  counted f =
      let P : ℕ → Type 0 = λ l. Stands seen.disk.table (world_of site seen.disk l (own link trace)) held (ours (own link trace))
      → after ≤ before + comparisons site (passes_between (world_of site seen.disk l (own link trace)) (ours (own link trace)) (world_of site seen.disk l (step.deeds ++ own link trace)) (ours (step.deeds ++ own link trace))) + wants result in
      subst P here (step.within f (own link trace)) stands

  -- it stays open
  pub compares_open : result ≡ None → net → files → after ≤ before + comparisons site (passes_in_turn site link seen seen trace now) + wanted_in now
  compares_open is n f =
      let one : after ≤ before + comparisons site (passes_in_turn site link seen seen trace now) + wants result = subst (λ (d : List Deed). after ≤ before + comparisons site (passes_between (world_of site seen.disk link (own link trace)) (ours (own link trace)) (world_of site seen.disk link d) (ours d)) + wants result) (sym (own_now n)) (counted f) in
      omega (arith, one, ap wants is)

  -- it is closed
  pub compares_closed : (e : Ending) (last : List Entry) → result ≡ Some e → (net → last ≡ told held.link (Ours (Close e) ∷ []) now) → net → files → after ≤ before + comparisons site (passes_in_turn site link seen seen trace last) + wanted_in last
  compares_closed e last is closed n f =
      let told_is : last ≡ record { link = link; act = Close e } ∷ now = closed n ∙ ap (λ (l : ℕ). told l (Ours (Close e) ∷ []) now) here in
      let own_then : own link last ≡ Ours (Close e) ∷ (step.deeds ++ own link trace) = ap (own link) told_is ∙ own-told link (Ours (Close e) ∷ []) now (refl, tt) ∙ ap (λ d. Ours (Close e) ∷ d) (own_now n) in
      let one : after ≤ before + comparisons site (passes_in_turn site link seen seen trace last) + wants result =
      subst (λ (d : List Deed). after ≤ before + comparisons site (passes_between (world_of site seen.disk link (own link trace)) (ours (own link trace)) (world_of site seen.disk link d) (ours d)) + wants result) (sym own_then) (counted f) in
      omega (arith, one, ap wants is, ap wanted_in told_is)

-- over any files one more only where memory was wanted
pub wants_few : (result : Option Ending) → wants result ≤ 1
wants_few None = omega arith
wants_few (Some e) = by e
  where
    by : (e : Ending) → wants (Some e) ≤ 1
    by ending.Clean = omega arith
    by ending.ClientFault = omega arith
    by ending.FileFault = omega arith
    by ending.GatewayCut = omega arith
    by ending.Full = omega arith
    by ending.NoMemory = omega arith
    by ending.Gate = omega arith

-- ---- the turn

-- the first entry that a trace gained
first_gained : (xs ys old : List Entry) (e f : Entry) → xs ++ e ∷ old ≡ ys ++ f ∷ old → e ≡ f
first_gained [] [] old e f is = cc (is)
first_gained [] (y ∷ ys) old e f is = absurd (omega (arith, ap length is, length-append ys (f ∷ old)))
first_gained (x ∷ xs) [] old e f is = absurd (omega (arith, ap length is, length-append xs (e ∷ old)))
first_gained (x ∷ xs) (y ∷ ys) old e f is = let rest : xs ++ e ∷ old ≡ ys ++ f ∷ old = cc (is) in first_gained xs ys old e f rest

pub compares_turn : (site : Site) (seen : Seen) (link : ℕ) (event : Act) (old between now more : List Entry) (before after : ℕ) → between ≡ record { link = link; act = event } ∷ old → now ≡ more ++ between
    → after ≤ before + comparisons site (passes_in_turn site link seen seen old now) + wanted_in now → ComparesIn site seen old now before after
compares_turn site seen link event old between now more before after first gains within other act others is =
    let same : record { link = link; act = event } ≡ record { link = other; act = act } = first_gained more others old (record { link = link; act = event }) (record { link = other; act = act }) (ap (λ l. more ++ l) (sym first) ∙ sym gains ∙ is) in
    subst (λ (e : Entry). after ≤ before + comparisons site (passes_in_turn site e.link seen seen old now) + wanted_in now) same within

pub compares_rests : (site : Site) (seen : Seen) (old now : List Entry) (before : ℕ) → ComparesIn site seen old now before before
compares_rests site seen old now before other act others is = omega arith
