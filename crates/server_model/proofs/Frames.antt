-- The frame: a step for one client leaves every other as it stood.
use Rattle.std.proofs.Common.{◌≡◌, ◌≢◌, ℕ, List, ◌++◌, Option, Some, None, inl, inr, length, refl, sym, ◌∙◌, ap, subst}
use Rattle.std.proofs.lemmas.Bool.{cases_eq}
use Rattle.lt_world.specs.Disk.{Disk, Table}
use Rattle.lt_world.specs.Trace.{Act, Entry}
use Rattle.server_model.specs.Site.{Site}
use Rattle.server_model.specs.World.{World, side_of, world_of}
use Rattle.server_model.specs.Open.{open_clients}
use Rattle.server_model.specs.Deeds.{Deed, own, ours, told, AreDeeds}
use Rattle.chunkqueue.specs.Items.{bytes_of}
use Rattle.server_model.specs.Held.{Held, kept_at}
use Rattle.server_model.specs.Files.{file_of, IsOpened, FitsFor, Backs, FileStep}
use Rattle.server_model.specs.Serves.{Matches, Stands, StandsFor, Serves}
use Rattle.server_model.proofs.Owned.{own-told, own-told_other}
use Rattle.server_model.proofs.Moves.{at_as}
use Rattle.server_model.proofs.FileSteps.{option_cases, items_alone, fits_alone}

-- other opened files that give the same bytes
pub matches_over : (before after : Table) (world : World) (held : Held) (acts : List Act) → bytes_of after held.owed ≡ bytes_of before held.owed → Matches before world held acts → Matches after world held acts
matches_over before after world held acts same m = record {
  is_open = m.is_open;
  sound = m.sound;
  came = m.came;
  ended = m.ended;
  at = at_as before after world held held acts acts refl refl refl refl refl (λ e. e) same held.stage m.at;
  in_turn = m.in_turn;
  unasked = m.unasked;
  asked = m.asked;
}

pub stands_over : (before after : Table) (world : World) (held : Held) (acts : List Act) → bytes_of after held.owed ≡ bytes_of before held.owed → Stands before world held acts → Stands after world held acts
stands_over before after world held acts same s = record { matches = matches_over before after world held acts same s.matches; waiting = s.waiting; unfinished = s.unfinished }

-- the file of what is kept is left alone
abbrev pub LeftAlone : Table → Table → Option Held → Type 0
LeftAlone before after kept = (file : ℕ) → file_of kept ≡ Some file → after file ≡ before file

stands_alone : (before after : Table) (world : World) (kept : Option Held) (deeds : List Deed) → LeftAlone before after kept → FitsFor before kept → StandsFor before world kept deeds → StandsFor after world kept deeds
stands_alone before after world None deeds same fits gone = gone
stands_alone before after world (Some held) deeds same fits stands = stands_over before after world held (ours deeds) (items_alone before after held.file held.owed same fits.owed).1 stands

fits_for_alone : (before after : Table) (kept : Option Held) → LeftAlone before after kept → FitsFor before kept → FitsFor after kept
fits_for_alone before after None same fits = tt
fits_for_alone before after (Some held) same fits = fits_alone before after held same fits

-- the file that is kept is open
is_opened : (opened : Table) (kept : Option Held) (file : ℕ) → FitsFor opened kept → file_of kept ≡ Some file → (bytes : List ℕ) × (opened file ≡ Some bytes)
is_opened opened None file fits is = absurd (cc (is))
is_opened opened (Some held) file fits is = subst (IsOpened opened) is fits.is_open

pub world_alone : (site : Site) (client other : ℕ) (held now : Option ℕ) (before after : Disk) (deeds : List Deed) → FileStep client held now before after → other ≢ client → world_of site after other deeds ≡ world_of site before other deeds
world_alone site client other held now before after deeds step apart = (λ i. record { client = other; site = site; side = side_of deeds; tree = step.tree i; calls = step.calls other apart i })

module _ (client : ℕ) (before after : Disk) (table next : List Held) (backs : Backs before.table table)
    (step : FileStep client (file_of (kept_at client table)) (file_of (kept_at client next)) before after)
    (fits : FitsFor after.table (kept_at client next)) (others : (other : ℕ) → other ≢ client → kept_at other next ≡ kept_at other table) where
  -- a file of another isn't the client's, nor becomes it
  apart_now : (other file : ℕ) → other ≢ client → file_of (kept_at other table) ≡ Some file → file_of (kept_at client next) ≢ Some file
  apart_now other file apart its mine =
      let there = is_opened before.table (kept_at other table) file (backs.each other) its in
      let fresh : before.table file ≡ None = step.new file mine (λ old. backs.apart other client file apart its old) in
      cc (there.1, fresh)

  left_alone : (other : ℕ) → other ≢ client → LeftAlone before.table after.table (kept_at other table)
  left_alone other apart file its = step.others file (λ old. backs.apart other client file apart its old) (apart_now other file apart its)

  -- the opened files back the table again
  pub backs_on : Backs after.table next
  backs_on = record {
    each = λ o. elim (cases_eq o client) [
      | inl is ↦ subst (λ (n : ℕ). FitsFor after.table (kept_at n next)) (sym is) fits
      | inr apart ↦ subst (FitsFor after.table) (sym (others o apart)) (fits_for_alone before.table after.table (kept_at o table) (left_alone o apart) (backs.each o))
    ];
    apart = λ a b file ne fa fb. elim (cases_eq a client) [
      | inl a_is ↦
          let b_apart : b ≢ client = λ e. ne (a_is ∙ sym e) in
          apart_now b file b_apart (ap file_of (sym (others b b_apart)) ∙ fb) (ap (λ (n : ℕ). file_of (kept_at n next)) (sym a_is) ∙ fa)
      | inr a_apart ↦ elim (cases_eq b client) [
        | inl b_is ↦ apart_now a file a_apart (ap file_of (sym (others a a_apart)) ∙ fa) (ap (λ (n : ℕ). file_of (kept_at n next)) (sym b_is) ∙ fb)
        | inr b_apart ↦ backs.apart a b file ne (ap file_of (sym (others a a_apart)) ∙ fa) (ap file_of (sym (others b b_apart)) ∙ fb)
      ]
    ];
  }

  -- just the files that clients keep are open
  opened_on : ((file : ℕ) (bytes : List ℕ) → before.table file ≡ Some bytes → (link : ℕ) × (file_of (kept_at link table) ≡ Some file))
      → (file : ℕ) (bytes : List ℕ) → after.table file ≡ Some bytes → (link : ℕ) × (file_of (kept_at link next) ≡ Some file)
  opened_on opened file bytes there = elim (option_cases (file_of (kept_at client next)) file) [
    | inl mine ↦ (client, mine)
    | inr apart ↦ elim (option_cases (file_of (kept_at client table)) file) [
      | inl old ↦ (let gone : after.table file ≡ None = step.gone file old apart in absurd (cc (gone, there)))
      | inr not_old ↦ (
          let whose = opened file bytes (sym (step.others file not_old apart) ∙ there) in
          let other : whose.0 ≢ client = λ e. not_old (ap (λ (n : ℕ). file_of (kept_at n table)) (sym e) ∙ whose.1) in
          (whose.0, ap file_of (others whose.0 other) ∙ whose.1))
    ]
  ]

  -- and the server serves again, where the client stands
  pub frame : (site : Site) (trace : List Entry) (deeds : List Deed) → AreDeeds deeds → open_clients (told client deeds trace) ≡ length next → Serves before (record { site = site; table = table }) trace
      → StandsFor after.table (world_of site after client (deeds ++ own client trace)) (kept_at client next) (deeds ++ own client trace) → Serves after (record { site = site; table = next }) (told client deeds trace)
  frame site trace deeds are count serves here = record {
    each = λ o. elim (cases_eq o client) [
      | inl is ↦ subst (λ (n : ℕ). StandsFor after.table (world_of site after n (own n (told client deeds trace))) (kept_at n next) (own n (told client deeds trace))) (sym is)
          (subst (λ (d : List Deed). StandsFor after.table (world_of site after client d) (kept_at client next) d) (sym (own-told client deeds trace are)) here)
      | inr apart ↦ subst (λ k. StandsFor after.table (world_of site after o (own o (told client deeds trace))) k (own o (told client deeds trace))) (sym (others o apart))
          (subst (λ (w : World). StandsFor after.table w (kept_at o table) (own o (told client deeds trace))) (sym (world_alone site client o _ _ before after (own o (told client deeds trace)) step apart))
          (subst (λ (d : List Deed). StandsFor after.table (world_of site before o d) (kept_at o table) d) (sym (own-told_other o client deeds trace apart))
          (stands_alone before.table after.table (world_of site before o (own o trace)) (kept_at o table) (own o trace) (left_alone o apart) (backs.each o) (serves.each o))))
    ];
    count = count;
    opened = opened_on serves.opened;
  }
