-- A client that arrives, and one that is closed at once: for want of memory, or as one too many.
use Rattle.std.proofs.Common.{◌≡◌, ℕ, zero, suc, ◌≤◌, ◌<◌, length, List, [], ◌∷◌, ◌++◌, Option, Some, None, true, false, refl, sym, ◌∙◌, ap, subst, arith, inl, inr}
use Rattle.std.proofs.lemmas.Bool.{cases_eq}
use Rattle.lt_world.specs.declared.net.Address.{Address}
use Rattle.lt_world.specs.declared.net.Ending.{Ending}
use Rattle.lt_world.specs.declared.net.Ending.TheVariants as ending
use Rattle.lt_world.specs.declared.files.FileCall.{FileCall}
use Rattle.lt_world.specs.Disk.{Disk}
use Rattle.lt_world.specs.Trace.{Entry, Accepted, Close, names}
use Rattle.server_model.specs.Settings.{limit_for}
use Rattle.server_model.specs.Site.{Site}
use Rattle.server_model.specs.Request.{request_of, is_complete, Limits}
use Rattle.server_model.specs.World.{World, world_of, call_count}
use Rattle.server_model.specs.Stream.{left_after}
use Rattle.server_model.specs.Deeds.{Deed, Ours, own, told}
use Rattle.server_model.specs.Open.{open_clients}
use Rattle.server_model.specs.Client.{IsServedRight}
use Rattle.server_model.specs.Held.{Held, kept_at}
use Rattle.server_model.specs.Steps.{arrived}
use Rattle.server_model.specs.Files.{file_of, FitsFor, Backs, FileStep}
use Rattle.server_model.specs.Serves.{Matches, Stands, IsGone, StandsFor, Serves}
use Rattle.server_model.specs.Due.{connection_limit, DueArrival}
use Rattle.server_model.specs.Turns.{Seen, TurnsOn}
use Rattle.server_model.proofs.Owned.{own-told, own_unnamed}
use Rattle.server_model.proofs.FileSteps.{same_files}
use Rattle.server_model.proofs.Frames.{frame, backs_on}
use Rattle.server_model.proofs.Changing.{Changes, kept_count, adds, leaves}
use Rattle.server_model.proofs.Turning.{grows_none}
use Rattle.server_model.proofs.Requests.{front_of_nil, request_of_nil, unfinished_rest}
use Rattle.server_model.proofs.Moves.{arrives}
use Rattle.server_model.proofs.Settled.{closes}
use Rattle.server_model.proofs.Standing.{matches_right, matches_stands}

-- nothing follows nothing
left_nil : (limits : Limits) (k : ℕ) → left_after limits k [] ≡ []
left_nil limits zero = refl
left_nil limits (suc k) = ap (left_after limits k) (unfinished_rest limits [] (request_of_nil limits)) ∙ left_nil limits k

-- nothing was asked for a client of which nothing came
pub nothing_asked : (world : World) → IsServedRight world [] → (k : ℕ) (what : FileCall) → call_count world k what ≡ 0
nothing_asked world right k what = elim (cases_eq (call_count world k what) 0) [
  | inl none ↦ none
  | inr some ↦
      let p = right.right.in_turn k what (omega (arith, some)) in
      let whole : false ≡ true = ap is_complete (sym (ap (request_of (limit_for world)) (left_nil (limit_for world) k) ∙ request_of_nil (limit_for world))) ∙ p.whole in
      absurd (cc (whole))
]

module _ (site : Site) (link : ℕ) (peer local : Address) (disk : Disk) (table : List Held) (trace : List Entry)
    (none : kept_at link table ≡ None) (new : names link trace ≡ false) (serves : Serves disk (record { site = site; table = table }) trace) where
  unasked : (k : ℕ) (what : FileCall) → call_count (world_of site disk link (Ours (Accepted peer local) ∷ [])) k what ≡ 0
  unasked =
      let P : Option Held → Type 0 = λ k. StandsFor disk.table (world_of site disk link (own link trace)) k (own link trace) in
      let gone : IsGone (world_of site disk link (own link trace)) (own link trace) = subst P none (serves.each link) in
      nothing_asked (world_of site disk link []) (subst (λ (d : List Deed). IsServedRight (world_of site disk link d) d) (own_unnamed link trace new) gone.right)

  first : Matches disk.table (world_of site disk link (Ours (Accepted peer local) ∷ [])) (arrived link peer local) (Accepted peer local ∷ [])
  first = arrives disk.table (world_of site disk link (Ours (Accepted peer local) ∷ [])) link peer local unasked

  pub came_stands : Stands disk.table (world_of site disk link (Ours (Accepted peer local) ∷ [])) (arrived link peer local) (Accepted peer local ∷ [])
  came_stands = matches_stands disk.table (world_of site disk link (Ours (Accepted peer local) ∷ [])) (arrived link peer local) (Accepted peer local ∷ []) first front_of_nil refl

  pub closed_gone : (e : Ending) → (e ≡ ending.Clean → ⊥) → IsGone (world_of site disk link (Ours (Accepted peer local) ∷ [])) (Ours (Close e) ∷ Ours (Accepted peer local) ∷ [])
  closed_gone e unclean = closes (world_of site disk link (Ours (Accepted peer local) ∷ [])) (Ours (Accepted peer local) ∷ []) e (matches_right disk.table (world_of site disk link (Ours (Accepted peer local) ∷ [])) (arrived link peer local) (Accepted peer local ∷ []) first) (λ is. absurd (unclean is))

-- no file is kept for this link, and the files are left as they were
no_files : (link : ℕ) (disk : Disk) (table next : List Held) (now : Option Held) → kept_at link table ≡ None → kept_at link next ≡ now → file_of now ≡ None → FileStep link (file_of (kept_at link table)) (file_of (kept_at link next)) disk disk
no_files link disk table next now none here file =
    let P : Option ℕ → Option ℕ → Type 0 = λ a b. FileStep link a b disk disk in
    subst (λ a. P a (file_of (kept_at link next))) (sym (ap file_of none)) (subst (P None) (sym (ap file_of here ∙ file)) (same_files link disk None))

-- no items, no files
arrived_fits : (link : ℕ) (disk : Disk) (peer local : Address) (next : List Held) → kept_at link next ≡ Some (arrived link peer local) → FitsFor disk.table (kept_at link next)
arrived_fits link disk peer local next here = subst (FitsFor disk.table) (sym here) (record { is_open = tt; owed = tt })

module _ (link : ℕ) (peer local : Address) (site : Site) (table next : List Held) (net files : Type 0) (spare : ℕ) (seen : Seen) (old now : List Entry) (none : kept_at link table ≡ None) where
  module _ (new : Held) (is : new ≡ arrived link peer local) (pushed : next ≡ table ++ new ∷ []) where
    pub came_changes : Changes link table next (Some (arrived link peer local))
    came_changes = adds link table none (arrived link peer local) next (pushed ∙ ap (λ h. table ++ h ∷ []) is) refl

    pub came_backs : Backs seen.disk.table table → Backs seen.disk.table next
    came_backs backs = backs_on link seen.disk seen.disk table next backs (no_files link seen.disk table next (Some (arrived link peer local)) none came_changes.here refl) (arrived_fits link seen.disk peer local next came_changes.here) came_changes.others

    pub turn_came : length table < connection_limit → (files → Backs seen.disk.table table) → TurnsOn (Accepted peer local) link (record { site = site; table = table }) (record { site = site; table = next }) net files spare seen seen old old
    turn_came room backs n f trace gained fresh serves =
        let one : own link (told link (Ours (Accepted peer local) ∷ []) trace) ≡ Ours (Accepted peer local) ∷ own link trace = own-told link (Ours (Accepted peer local) ∷ []) trace (refl, tt) in
        let stands = came_stands site link peer local seen.disk table trace none fresh serves in
        let here : StandsFor seen.disk.table (world_of site seen.disk link (Ours (Accepted peer local) ∷ own link trace)) (kept_at link next) (Ours (Accepted peer local) ∷ own link trace) =
        subst (λ k. StandsFor seen.disk.table (world_of site seen.disk link (Ours (Accepted peer local) ∷ own link trace)) k (Ours (Accepted peer local) ∷ own link trace)) (sym came_changes.here)
        (subst (λ (d : List Deed). StandsFor seen.disk.table (world_of site seen.disk link (Ours (Accepted peer local) ∷ d)) (Some (arrived link peer local)) (Ours (Accepted peer local) ∷ d)) (sym (own_unnamed link trace fresh)) stands) in
        let count : open_clients (told link (Ours (Accepted peer local) ∷ []) trace) ≡ length next = omega (arith, serves.count, came_changes.count, ap kept_count none) in
        let P : List Entry → Type 0 = Serves seen.disk (record { site = site; table = next }) in (
          subst P (sym gained)
              (frame link seen.disk seen.disk table next (backs f) (no_files link seen.disk table next (Some (arrived link peer local)) none came_changes.here refl) (arrived_fits link seen.disk peer local next came_changes.here) came_changes.others
              site trace (Ours (Accepted peer local) ∷ []) (refl, tt) count serves here),
          record {
            link = link;
            event = Accepted peer local;
            parts = record { client = link; deeds = [] } ∷ [];
            gains = gained;
            due = (refl, tt, (refl, subst (DueArrival (open_clients trace) peer local (own link trace)) (sym (ap (own link) gained ∙ one)) (DueArrival.comes (omega (arith, room, serves.count)))));
            grows = grows_none seen;
          },
        )

  -- it is closed at once
  module _ (e : Ending) (unclean : e ≡ ending.Clean → ⊥) (due : (past : List Deed) → DueArrival (length table) peer local past (Ours (Close e) ∷ Ours (Accepted peer local) ∷ past)) (same : next ≡ table) (gains : net → now ≡ told link (Ours (Close e) ∷ []) old) where
    turn_closed : (files → Backs seen.disk.table table) → TurnsOn (Accepted peer local) link (record { site = site; table = table }) (record { site = site; table = next }) net files spare seen seen old now
    turn_closed backs n f trace gained fresh serves =
        let two : own link (told link (Ours (Close e) ∷ Ours (Accepted peer local) ∷ []) trace) ≡ Ours (Close e) ∷ Ours (Accepted peer local) ∷ own link trace =
        own-told link (Ours (Close e) ∷ Ours (Accepted peer local) ∷ []) trace (refl, (refl, tt)) in
        let gone = closed_gone site link peer local seen.disk table trace none fresh serves e unclean in
        let change : Changes link table next None = subst (λ t. Changes link table t None) (sym same) (leaves link table none) in
        let here : StandsFor seen.disk.table (world_of site seen.disk link (Ours (Close e) ∷ Ours (Accepted peer local) ∷ own link trace)) (kept_at link next) (Ours (Close e) ∷ Ours (Accepted peer local) ∷ own link trace) =
        subst (λ k. StandsFor seen.disk.table (world_of site seen.disk link (Ours (Close e) ∷ Ours (Accepted peer local) ∷ own link trace)) k (Ours (Close e) ∷ Ours (Accepted peer local) ∷ own link trace)) (sym change.here)
        (subst (λ (d : List Deed). IsGone (world_of site seen.disk link (Ours (Close e) ∷ Ours (Accepted peer local) ∷ d)) (Ours (Close e) ∷ Ours (Accepted peer local) ∷ d)) (sym (own_unnamed link trace fresh)) gone) in
        let count : open_clients (told link (Ours (Close e) ∷ Ours (Accepted peer local) ∷ []) trace) ≡ length next = omega (arith, serves.count, ap length same) in
        let P : List Entry → Type 0 = Serves seen.disk (record { site = site; table = next }) in
        let is : now ≡ told link (Ours (Close e) ∷ Ours (Accepted peer local) ∷ []) trace = gains n ∙ ap (told link (Ours (Close e) ∷ [])) gained in (
          subst P (sym is)
              (frame link seen.disk seen.disk table next (backs f) (no_files link seen.disk table next None none change.here refl) (subst (FitsFor seen.disk.table) (sym change.here) tt) change.others
              site trace (Ours (Close e) ∷ Ours (Accepted peer local) ∷ []) (refl, (refl, tt)) count serves here),
          record {
            link = link;
            event = Accepted peer local;
            parts = record { client = link; deeds = Ours (Close e) ∷ [] } ∷ [];
            gains = is;
            due = (
              refl,
              (refl, tt),
              (
                refl,
                subst (DueArrival (open_clients trace) peer local (own link trace)) (sym (ap (own link) is ∙ two))
                    (subst (λ (k : ℕ). DueArrival k peer local (own link trace) (Ours (Close e) ∷ Ours (Accepted peer local) ∷ own link trace)) (sym serves.count) (due (own link trace))),
              ),
            );
            grows = grows_none seen;
          },
        )

  -- as one too many
  pub turn_full : connection_limit ≤ length table → next ≡ table → (net → now ≡ told link (Ours (Close ending.Full) ∷ []) old) → (files → Backs seen.disk.table table)
      → TurnsOn (Accepted peer local) link (record { site = site; table = table }) (record { site = site; table = next }) net files spare seen seen old now
  turn_full limit same gains = turn_closed ending.Full (λ e. cc (e)) (λ past. DueArrival.full limit) same gains
