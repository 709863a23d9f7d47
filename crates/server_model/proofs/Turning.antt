-- How a step for one client makes a turn of the server.
use Rattle.std.proofs.Common.{◌≡◌, ◌≤◌, arith, ℕ, List, [], ◌∷◌, ◌++◌, Option, Some, None, false, refl, sym, ◌∙◌, ap, subst}
use Rattle.lt_world.specs.Disk.{Disk, Table}
use Rattle.lt_world.specs.Trace.{Act, Entry, Readable, Writable}
use Rattle.server_model.specs.Site.{Site}
use Rattle.server_model.specs.World.{World, world_of}
use Rattle.server_model.specs.Deeds.{Deed, own, ours, told, AreDeeds}
use Rattle.server_model.specs.Open.{open_clients}
use Rattle.server_model.specs.Client.{is_open}
use Rattle.server_model.specs.Held.{Held, Serving, kept_at}
use Rattle.server_model.specs.Files.{file_of, Fits, FitsFor, Backs, FileStep}
use Rattle.server_model.specs.Serves.{Stands, IsGone, StandsFor, Serves}
use Rattle.server_model.specs.Due.{Due, DueRead, DueWrite}
use Rattle.server_model.specs.Turns.{Seen, ReadFailed, ReadsNone, ReadsOne, DueOn, Grows, open_with, StepsBy, TurnsOn}
use Rattle.server_model.proofs.Owned.{own-told}
use Rattle.server_model.proofs.Frames.{frame, backs_on}
use Rattle.server_model.proofs.Changing.{Changes, count_now}
use Rattle.server_model.proofs.Settled.{unwanted, unowing}

-- an event that is no deed
abbrev pub IsReady : Act → Type 0
IsReady event = (client link : ℕ) (trace : List Entry) → (own client (record { link = link; act = event } ∷ trace) ≡ own client trace) × (open_clients (record { link = link; act = event } ∷ trace) ≡ open_clients trace)

pub readable_ready : IsReady Readable
readable_ready client link trace = (refl, refl)

pub writable_ready : IsReady Writable
writable_ready client link trace = (refl, refl)

-- the parts of a step as those of the table
module _ (link : ℕ) (table next : List Held) (held : Held) (now : Option Held) (before after : Disk) (kept : kept_at link table ≡ Some held) (change : Changes link table next now) where
  files_at : FileStep link held.file (file_of now) before after → FileStep link (file_of (kept_at link table)) (file_of (kept_at link next)) before after
  files_at does =
      let P : Option Held → Option Held → Type 0 = λ a b. FileStep link (file_of a) (file_of b) before after in
      subst (λ a. P a (kept_at link next)) (sym kept) (subst (P (Some held)) (sym change.here) does)

  fits_at : FitsFor after.table now → FitsFor after.table (kept_at link next)
  fits_at fits = subst (FitsFor after.table) (sym change.here) fits

  pub backs_step : Backs before.table table → FileStep link held.file (file_of now) before after → FitsFor after.table now → Backs after.table next
  backs_step backs does fits = backs_on link before after table next backs (files_at does) (fits_at fits) change.others

  pub frame_step : (site : Site) (trace : List Entry) (deeds : List Deed) → Backs before.table table → FileStep link held.file (file_of now) before after → FitsFor after.table now → AreDeeds deeds → open_clients (told link deeds trace) ≡ open_with now (open_clients trace)
      → Serves before (record { site = site; table = table }) trace → StandsFor after.table (world_of site after link (deeds ++ own link trace)) now (deeds ++ own link trace) → Serves after (record { site = site; table = next }) (told link deeds trace)
  frame_step site trace deeds backs does fits are count serves here =
      frame link before after table next backs (files_at does) (fits_at fits) change.others site trace deeds are (count ∙ ap (open_with now) serves.count ∙ sym (count_now link table next held now kept change)) serves
      (subst (λ k. StandsFor after.table (world_of site after link (deeds ++ own link trace)) k (deeds ++ own link trace)) (sym change.here) here)

-- the fit of what is kept
pub kept_fits : (opened : Table) (link : ℕ) (table : List Held) (held : Held) → kept_at link table ≡ Some held → Backs opened table → Fits opened held
kept_fits opened link table held kept backs = subst (FitsFor opened) kept (backs.each link)

-- an event that is no deed changes no list of deeds
serves_ready : (event : Act) (link : ℕ) (disk : Disk) (server : Serving) (trace : List Entry) → IsReady event → Serves disk server trace → Serves disk server (record { link = link; act = event } ∷ trace)
serves_ready event link disk server trace ready serves = record {
  each = λ o. subst (λ (d : List Deed). StandsFor disk.table (world_of server.site disk o d) (kept_at o server.table) d) (sym (ready o link trace).0) (serves.each o);
  count = (ready link link trace).1 ∙ serves.count;
  opened = serves.opened;
}

module _ (event : Act) (ready : IsReady event)
    (site : Site) (table next : List Held) (held : Held) (now : Option Held) (net files : Type 0) (spare : ℕ) (before after : Seen) (old told_now : List Entry)
    (kept : kept_at held.link table ≡ Some held) (change : Changes held.link table next now) (backs : files → Backs before.disk.table table)
    (step : StepsBy Stands (DueOn event spare before after held.link) site held now net files before.disk after.disk old told_now) where
  stands : (trace : List Entry) → Serves before.disk (record { site = site; table = table }) trace → Stands before.disk.table (world_of site before.disk held.link (own held.link trace)) held (ours (own held.link trace))
  stands trace serves = let P : Option Held → Type 0 = λ k. StandsFor before.disk.table (world_of site before.disk held.link (own held.link trace)) k (own held.link trace) in subst P kept (serves.each held.link)

  gains_now : net → (trace : List Entry) → old ≡ record { link = held.link; act = event } ∷ trace → told_now ≡ told held.link step.deeds (record { link = held.link; act = event } ∷ trace)
  gains_now n trace gained = step.gains n ∙ ap (told held.link step.deeds) gained

  own_now : net → (trace : List Entry) → old ≡ record { link = held.link; act = event } ∷ trace → own held.link told_now ≡ step.deeds ++ own held.link trace
  own_now n trace gained =
      ap (own held.link) (gains_now n trace gained) ∙ own-told held.link step.deeds (record { link = held.link; act = event } ∷ trace) step.are ∙ ap (λ d. step.deeds ++ d) (ready held.link held.link trace).0

  -- a step of a client that is kept is a turn of the server
  pub turn_step : before.faults ≤ after.faults → TurnsOn event held.link (record { site = site; table = table }) (record { site = site; table = next }) net files spare before after old told_now
  turn_step rises n f trace gained new serves =
      let both = step.keeps f (own held.link trace) (stands trace serves) in
      let here = subst (λ d. StandsFor after.disk.table (world_of site after.disk held.link (step.deeds ++ d)) now (step.deeds ++ d)) (sym (ready held.link held.link trace).0) both.0 in
      let P : List Entry → Type 0 = Serves after.disk (record { site = site; table = next }) in (
        subst P (sym (gains_now n trace gained))
            (frame_step held.link table next held now before.disk after.disk kept change site (record { link = held.link; act = event } ∷ trace) step.deeds (backs f) (step.does f) (step.fits f) step.are (step.count (record { link = held.link; act = event } ∷ trace))
            (serves_ready event held.link before.disk (record { site = site; table = table }) trace ready serves) here),
        record {
          link = held.link;
          event = event;
          parts = record { client = held.link; deeds = step.deeds } ∷ [];
          gains = gains_now n trace gained;
          due = (
            refl,
            step.are,
            subst (λ (d : List Deed). Due (open_clients trace) event spare (ReadsNone before after) (ReadsOne before after) (λ k. ReadFailed held.link k before after) (world_of site before.disk held.link (own held.link trace)) (world_of site after.disk held.link d) (own held.link trace) d) (sym (own_now n trace gained))
                (both.1 (open_clients trace)),
          );
          grows = record { tree = (step.does f).tree; log = (step.does f).log; faults = rises };
        },
      )

pub grows_none : (seen : Seen) → Grows seen seen
grows_none seen = record { tree = refl; log = ([], refl); faults = omega arith }

-- nothing is due for a link that isn't kept
abbrev pub IsQuiet : Act → Type 0
IsQuiet event = (spare client : ℕ) (seen : Seen) (world : World) (deeds : List Deed) → is_open (ours deeds) ≡ false → (open_now : ℕ) → Due open_now event spare (ReadsNone seen seen) (ReadsOne seen seen) (λ k. ReadFailed client k seen seen) world world deeds deeds

pub readable_quiet : IsQuiet Readable
readable_quiet spare client seen world deeds shut open_now = (refl, DueRead.idle (unwanted world (ours deeds) shut))

pub writable_quiet : IsQuiet Writable
writable_quiet spare client seen world deeds shut open_now = DueWrite.idle (unowing world (ours deeds) shut) (record { failed = refl; once = omega arith })

pub none_gone : (link : ℕ) (disk : Disk) (server : Serving) (trace : List Entry) → kept_at link server.table ≡ None → Serves disk server trace → IsGone (world_of server.site disk link (own link trace)) (own link trace)
none_gone link disk server trace none serves = let P : Option Held → Type 0 = λ k. StandsFor disk.table (world_of server.site disk link (own link trace)) k (own link trace) in subst P none (serves.each link)

pub turn_out : (event : Act) → IsReady event → IsQuiet event → (link : ℕ) (server : Serving) (net files : Type 0) (spare : ℕ) (seen : Seen) (old : List Entry) → kept_at link server.table ≡ None → TurnsOn event link server server net files spare seen seen old old
turn_out event ready quiet link server net files spare seen old none n f trace gained new serves =
    let P : List Entry → Type 0 = Serves seen.disk server in
    let same : own link old ≡ own link trace = ap (own link) gained ∙ (ready link link trace).0 in (
      subst P (sym gained) (serves_ready event link seen.disk server trace ready serves),
      record {
        link = link;
        event = event;
        parts = record { client = link; deeds = [] } ∷ [];
        gains = gained;
        due = (
          refl,
          tt,
          subst (λ (d : List Deed). Due (open_clients trace) event spare (ReadsNone seen seen) (ReadsOne seen seen) (λ k. ReadFailed link k seen seen) (world_of server.site seen.disk link (own link trace)) (world_of server.site seen.disk link d) (own link trace) d) (sym same)
              (quiet spare link seen (world_of server.site seen.disk link (own link trace)) (own link trace) (none_gone link seen.disk server trace none serves).shut (open_clients trace)),
        );
        grows = grows_none seen;
      },
    )
