-- The steps of one client: each act, what follows it, and how one step goes before another.
use Rattle.std.proofs.Common.{◌≡◌, ℕ, List, [], ◌∷◌, ◌++◌, Option, Some, None, refl, sym, ◌∙◌, ap, subst, append_assoc}
use Rattle.lt_world.specs.declared.net.Ending.{Ending}
use Rattle.lt_world.specs.declared.net.Ending.TheVariants as ending
use Rattle.lt_world.specs.Disk.{Disk, Table}
use Rattle.lt_world.specs.Trace.{Act, Entry, Close}
use Rattle.server_model.specs.Site.{Site}
use Rattle.server_model.specs.World.{World, world_of}
use Rattle.server_model.specs.Deeds.{Deed, Ours, ours, told, AreDeeds}
use Rattle.server_model.specs.Open.{open_clients}
use Rattle.server_model.specs.Client.{IsFinished, IsRight}
use Rattle.server_model.specs.Held.{Held}
use Rattle.server_model.specs.Files.{file_of, FitsFor, FileStep, Drops}
use Rattle.server_model.specs.Serves.{Stands, StandsFor}
use Rattle.server_model.specs.Turns.{open_with, StepsBy, StopsBy, GoesBy}
use Rattle.server_model.proofs.Owned.{told-append, AreDeeds-append}
use Rattle.server_model.proofs.FileSteps.{same_files, and_then}

-- a file that is given back changes no world
pub drops_world : (site : Site) (client : ℕ) (before after : Disk) (deeds : List Deed) (file : Option ℕ) → Drops file before after → world_of site after client deeds ≡ world_of site before client deeds
drops_world site client before after deeds None same = ap (λ d. world_of site d client deeds) same
drops_world site client before after deeds (Some file) same = ap (λ d. world_of site d client deeds) same

module _ (From : Table → World → Held → List Act → Type 0) (due : World → World → List Deed → List Deed → Type 0) (site : Site) (held : Held) (net files : Type 0) (before : Disk) (old now : List Entry) where
  -- nothing is done
  pub step_none : (files → FitsFor before.table (Some held)) → (files → (past : List Deed) → From before.table (world_of site before held.link past) held (ours past) → Stands before.table (world_of site before held.link past) held (ours past) × due (world_of site before held.link past) (world_of site before held.link past) past past)
      → StepsBy From due site held (Some held) net files before before old old
  step_none fits keeps = record { deeds = []; are = tt; gains = λ n. refl; count = λ trace. refl; does = λ f. same_files held.link before held.file; fits = fits; keeps = keeps }

  -- these deeds, after which it is to be closed
  pub step_stops : (e : Ending) (new : Held) (deeds : List Deed) → AreDeeds deeds → (net → now ≡ told held.link deeds old) → ((trace : List Entry) → open_clients (told held.link deeds trace) ≡ open_clients trace) → new.link ≡ held.link → new.file ≡ held.file
      → (files → (past : List Deed) → From before.table (world_of site before held.link past) held (ours past)
      → IsRight (world_of site before held.link (deeds ++ past)) (ours (deeds ++ past)) × (e ≡ ending.Clean → IsFinished (world_of site before held.link (deeds ++ past)) (ours (deeds ++ past))) × due (world_of site before held.link past) (world_of site before held.link (deeds ++ past)) past (Ours (Close e) ∷ deeds ++ past))
      → StopsBy From due site held new e net files before before old now
  step_stops e new deeds are gains count link file keeps = record {
    deeds = deeds;
    are = are;
    gains = gains;
    count = count;
    link = link;
    does = λ f. subst (λ (o : Option ℕ). FileStep held.link held.file o before before) (sym file) (same_files held.link before held.file);
    keeps = keeps;
  }

-- known deeds and a change of what is kept, before another step
module _ (From Mid : Table → World → Held → List Act → Type 0) (due rest : World → World → List Deed → List Deed → Type 0) (site : Site) (held mid : Held) (next : Option Held) (net files : Type 0) (before between after : Disk) (old then now : List Entry) where
  pub then_step : (deeds : List Deed) → AreDeeds deeds → (net → then ≡ told held.link deeds old) → ((trace : List Entry) → open_clients (told held.link deeds trace) ≡ open_clients trace) → (files → FileStep held.link held.file mid.file before between) → mid.link ≡ held.link
      → (files → (past : List Deed) → From before.table (world_of site before held.link past) held (ours past) → Mid between.table (world_of site between held.link (deeds ++ past)) mid (ours (deeds ++ past)))
      → (files → (past all : List Deed) → From before.table (world_of site before held.link past) held (ours past) → rest (world_of site between held.link (deeds ++ past)) (world_of site after held.link all) (deeds ++ past) all → due (world_of site before held.link past) (world_of site after held.link all) past all)
      → StepsBy Mid rest site mid next net files between after then now → StepsBy From due site held next net files before after old now
  then_step deeds are gains count does same from dues step = record {
    deeds = step.deeds ++ deeds;
    are = AreDeeds-append step.deeds deeds step.are are;
    gains = λ n. step.gains n ∙ (λ i. told (same i) step.deeds (gains n i)) ∙ sym (told-append held.link step.deeds deeds old);
    count = λ trace. ap open_clients (told-append held.link step.deeds deeds trace) ∙ (λ i. open_clients (told (sym same i) step.deeds (told held.link deeds trace))) ∙ step.count (told held.link deeds trace) ∙ ap (open_with next) (count trace);
    does = λ f. and_then held.link held.file mid.file (file_of next) before between after (does f) (subst (λ (l : ℕ). FileStep l mid.file (file_of next) between after) same (step.does f));
    fits = step.fits;
    keeps = λ f past start.
        let P : ℕ → Type 0 = λ l. Mid between.table (world_of site between l (deeds ++ past)) mid (ours (deeds ++ past))
        → StandsFor after.table (world_of site after l (step.deeds ++ (deeds ++ past))) next (step.deeds ++ (deeds ++ past)) × rest (world_of site between l (deeds ++ past)) (world_of site after l (step.deeds ++ (deeds ++ past))) (deeds ++ past) (step.deeds ++ (deeds ++ past)) in
        let Q : List Deed → Type 0 = λ d. StandsFor after.table (world_of site after held.link d) next d × due (world_of site before held.link past) (world_of site after held.link d) past d in
        let both = subst P same (step.keeps f (deeds ++ past)) (from f past start) in
        subst Q (sym (append_assoc step.deeds deeds past)) (both.0, dues f past (step.deeds ++ (deeds ++ past)) start both.1);
  }

-- a change of what is kept, with no deed, before another step
module _ (From Mid : Table → World → Held → List Act → Type 0) (due : World → World → List Deed → List Deed → Type 0) (site : Site) (held mid new : Held) (net files : Type 0) (before after : Disk) (old now : List Entry)
    (link : mid.link ≡ held.link) (file : mid.file ≡ held.file) (from : files → (past : List Deed) → From before.table (world_of site before held.link past) held (ours past) → Mid before.table (world_of site before held.link past) mid (ours past)) where
  on_steps : StepsBy Mid due site mid (Some new) net files before after old now → StepsBy From due site held (Some new) net files before after old now
  on_steps step = then_step From Mid due due site held mid (Some new) net files before before after old old now [] tt (λ n. refl) (λ trace. refl)
      (λ f. subst (λ (o : Option ℕ). FileStep held.link held.file o before before) (sym file) (same_files held.link before held.file)) link (λ f past start. from f past start) (λ f past all start d. d) step

  on_stops : (e : Ending) → StopsBy Mid due site mid new e net files before after old now → StopsBy From due site held new e net files before after old now
  on_stops e s = record {
    deeds = s.deeds;
    are = s.are;
    gains = λ n. s.gains n ∙ ap (λ (l : ℕ). told l s.deeds old) link;
    count = λ trace. (λ i. open_clients (told (sym link i) s.deeds trace)) ∙ s.count trace;
    link = s.link ∙ link;
    does = λ f. let P : ℕ → Option ℕ → Type 0 = λ l o. FileStep l o new.file before after in subst (λ (l : ℕ). P l held.file) link (subst (P mid.link) file (s.does f));
    keeps = λ f past start.
        let P : ℕ → Type 0 = λ l. Mid before.table (world_of site before l past) mid (ours past)
        → IsRight (world_of site after l (s.deeds ++ past)) (ours (s.deeds ++ past)) × (e ≡ ending.Clean → IsFinished (world_of site after l (s.deeds ++ past)) (ours (s.deeds ++ past))) × due (world_of site before l past) (world_of site after l (s.deeds ++ past)) past (Ours (Close e) ∷ s.deeds ++ past) in
        subst P link (s.keeps f past) (from f past start);
  }

  pub on_goes : (result : Option Ending) → GoesBy Mid due site mid new result net files before after old now → GoesBy From due site held new result net files before after old now
  on_goes None step = on_steps step
  on_goes (Some e) s = on_stops e s

-- the same step, by what is due in another way, and from a disk that is the same where files tell
module _ (From : Table → World → Held → List Act → Type 0) (due rest : World → World → List Deed → List Deed → Type 0) (site : Site) (held new : Held) (net files : Type 0) (other before after : Disk) (old now : List Entry)
    (dues : files → (was is : World) (past all : List Deed) → due was is past all → rest was is past all) (same : files → other ≡ before) where
  pub same_steps : (next : Option Held) → StepsBy From due site held next net files before after old now → StepsBy From rest site held next net files other after old now
  same_steps next s = record {
    deeds = s.deeds;
    are = s.are;
    gains = s.gains;
    count = s.count;
    does = λ f. subst (λ (d : Disk). FileStep held.link held.file (file_of next) d after) (sym (same f)) (s.does f);
    fits = s.fits;
    keeps = λ f past start.
        let P : Disk → Type 0 = λ d. From d.table (world_of site d held.link past) held (ours past) → StandsFor after.table (world_of site after held.link (s.deeds ++ past)) next (s.deeds ++ past) × due (world_of site d held.link past) (world_of site after held.link (s.deeds ++ past)) past (s.deeds ++ past) in
        let both = subst P (sym (same f)) (s.keeps f past) start in
        (both.0, dues f (world_of site other held.link past) (world_of site after held.link (s.deeds ++ past)) past (s.deeds ++ past) both.1);
  }

  pub same_stops : (e : Ending) → StopsBy From due site held new e net files before after old now → StopsBy From rest site held new e net files other after old now
  same_stops e s = record {
    deeds = s.deeds;
    are = s.are;
    gains = s.gains;
    count = s.count;
    link = s.link;
    does = λ f. subst (λ (d : Disk). FileStep held.link held.file new.file d after) (sym (same f)) (s.does f);
    keeps = λ f past start.
        let P : Disk → Type 0 = λ d. From d.table (world_of site d held.link past) held (ours past)
        → IsRight (world_of site after held.link (s.deeds ++ past)) (ours (s.deeds ++ past)) × (e ≡ ending.Clean → IsFinished (world_of site after held.link (s.deeds ++ past)) (ours (s.deeds ++ past))) × due (world_of site d held.link past) (world_of site after held.link (s.deeds ++ past)) past (Ours (Close e) ∷ s.deeds ++ past) in
        let all = subst P (sym (same f)) (s.keeps f past) start in
        (all.0, all.1, dues f (world_of site other held.link past) (world_of site after held.link (s.deeds ++ past)) past (Ours (Close e) ∷ s.deeds ++ past) all.2);
  }

  pub same_goes : (result : Option Ending) → GoesBy From due site held new result net files before after old now → GoesBy From rest site held new result net files other after old now
  same_goes None s = same_steps (Some new) s
  same_goes (Some e) s = same_stops e s
