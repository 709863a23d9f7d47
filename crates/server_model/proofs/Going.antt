-- Steps that leave the client open, or say how it is to be closed.
use Rattle.std.proofs.Common.{◌≡◌, ℕ, ◌-◌, ap, List, [], ◌∷◌, ◌++◌, Bool, true, false, Option, Some, None, refl, sym, ◌∙◌, subst}
use Rattle.lt_world.specs.declared.net.Ending.{Ending}
use Rattle.lt_world.specs.declared.net.Ending.TheVariants as ending
use Rattle.lt_world.specs.Disk.{Disk, Table}
use Rattle.lt_world.specs.Trace.{Act, Entry, Close}
use Rattle.server_model.specs.Site.{Site}
use Rattle.server_model.specs.World.{World, world_of}
use Rattle.server_model.specs.Deeds.{Deed, Ours, ours, told, AreDeeds}
use Rattle.server_model.specs.Open.{open_clients}
use Rattle.server_model.specs.Client.{has_failed, IsFinished}
use Rattle.server_model.specs.Held.{Held}
use Rattle.server_model.specs.Files.{FileStep, Drops}
use Rattle.server_model.specs.Serves.{Matches, IsGone}
use Rattle.server_model.specs.Due.{MayYield, Settles}
use Rattle.server_model.specs.Turns.{StepsBy, StopsBy, GoesBy}
use Rattle.server_model.specs.Settling.{SettlesOn, EndsAs, SettlesOut, MayEnd, SettlesTo}
use Rattle.server_model.proofs.FileSteps.{drops, and_then}
use Rattle.server_model.proofs.Settled.{closes}
use Rattle.server_model.proofs.Standing.{stands_rests}
use Rattle.server_model.proofs.Stepping.{drops_world}

-- memory may be wanted in more cases
pub settles_more : (world : World) (a b : Bool) → (a ≡ true → b ≡ true) → (past now : List Deed) → Settles world a past now → Settles world b past now
settles_more world a b weaker past now (Settles.rests r) = Settles.rests r
settles_more world a b weaker past now (Settles.finishes f s) = Settles.finishes f s
settles_more world a b weaker past now (Settles.fails f) = Settles.fails f
settles_more world a b weaker past now (Settles.yields m u) = Settles.yields (weaker m) u

module _ (From : Table → World → Held → List Act → Type 0) (due : World → World → List Deed → List Deed → Type 0) (site : Site) (held new : Held) (e : Ending) (net files : Type 0) (before between after : Disk) (old then now : List Entry) where
  -- it is closed so, and its file given back
  pub stop_closed : StopsBy From due site held new e net files before between old then → (net → now ≡ told new.link (Ours (Close e) ∷ []) then) → (files → Drops new.file between after) → StepsBy From due site held None net files before after old now
  stop_closed s gains dropped = record {
    deeds = Ours (Close e) ∷ s.deeds;
    are = (refl, s.are);
    gains = λ n. gains n ∙ (λ i. record { link = s.link i; act = Close e } ∷ s.gains n i);
    count = λ trace. ap (λ (n : ℕ). n - 1) (s.count trace);
    does = λ f. and_then held.link held.file new.file None before between after (s.does f) (subst (λ (l : ℕ). FileStep l new.file None between after) s.link (drops new.link between after new.file (dropped f)));
    fits = λ f. tt;
    keeps = λ f past from.
        let k = s.keeps f past from in
        let same : world_of site after held.link (s.deeds ++ past) ≡ world_of site between held.link (s.deeds ++ past) = drops_world site held.link between after (s.deeds ++ past) new.file (dropped f) in
        let gone : IsGone (world_of site between held.link (s.deeds ++ past)) (Ours (Close e) ∷ s.deeds ++ past) = closes (world_of site between held.link (s.deeds ++ past)) (s.deeds ++ past) e k.0 k.1 in (
          subst (λ (w : World). IsGone w (Ours (Close e) ∷ s.deeds ++ past)) (sym same) gone,
          subst (λ (w : World). due (world_of site before held.link past) w past (Ours (Close e) ∷ s.deeds ++ past)) (sym same) k.2,
        );
  }

-- known deeds and a change of what is kept, before what settles
module _ (From : Table → World → Held → List Act → Type 0) (due : World → World → List Deed → List Deed → Type 0) (may : Bool) (site : Site) (held mid new : Held) (net files : Type 0) (before after : Disk) (old now : List Entry)
    (deeds : List Deed) (are : AreDeeds deeds) (gains : net → now ≡ told held.link deeds old) (count : (trace : List Entry) → open_clients (told held.link deeds trace) ≡ open_clients trace) (link : mid.link ≡ held.link) (file : mid.file ≡ held.file)
    (from : files → (past : List Deed) → From before.table (world_of site before held.link past) held (ours past) → Matches before.table (world_of site before held.link (deeds ++ past)) mid (ours (deeds ++ past)))
    (dues : files → (past all : List Deed) → From before.table (world_of site before held.link past) held (ours past) → Settles (world_of site after held.link (deeds ++ past)) may (deeds ++ past) all → due (world_of site before held.link past) (world_of site after held.link (deeds ++ past)) past all) where
  files_from : FileStep mid.link mid.file new.file before after → FileStep held.link held.file new.file before after
  files_from does = let P : ℕ → Option ℕ → Type 0 = λ l o. FileStep l o new.file before after in subst (λ (l : ℕ). P l held.file) link (subst (P mid.link) file does)

  settles_on : SettlesOn site mid new files before after → StepsBy From due site held (Some new) net files before after old now
  settles_on s = record {
    deeds = deeds;
    are = are;
    gains = gains;
    count = count;
    does = λ f. files_from (s.does f);
    fits = s.fits;
    keeps = λ f past start.
        let P : ℕ → Type 0 = λ l. Matches before.table (world_of site before l (deeds ++ past)) mid (ours (deeds ++ past)) → Rattle.server_model.specs.Serves.Stands after.table (world_of site after l (deeds ++ past)) new (ours (deeds ++ past)) in
        let stands = subst P link (s.keeps f (deeds ++ past)) (from f past start) in
        (stands, dues f past (deeds ++ past) start (Settles.rests (stands_rests after.table (world_of site after held.link (deeds ++ past)) new (deeds ++ past) stands)));
  }

  settles_by : (e : Ending) → MayEnd may e → (world : World) (deeds : List Deed) → has_failed (ours deeds) ≡ false → (e ≡ ending.Clean → IsFinished world (ours deeds)) → (e ≡ ending.NoMemory → MayYield world (ours deeds)) → Settles world may deeds (Ours (Close e) ∷ deeds)
  settles_by ending.Clean allowed world deeds sound clean yields = Settles.finishes (clean refl) sound
  settles_by ending.ClientFault allowed world deeds sound clean yields = absurd allowed
  settles_by ending.FileFault allowed world deeds sound clean yields = absurd allowed
  settles_by ending.GatewayCut allowed world deeds sound clean yields = absurd allowed
  settles_by ending.Full allowed world deeds sound clean yields = absurd allowed
  settles_by ending.NoMemory allowed world deeds sound clean yields = Settles.yields allowed (yields refl)
  settles_by ending.Gate allowed world deeds sound clean yields = absurd allowed

  settles_out : (e : Ending) → SettlesOut may site mid new e files before after → StopsBy From due site held new e net files before after old now
  settles_out e s = record {
    deeds = deeds;
    are = are;
    gains = gains;
    count = count;
    link = s.link ∙ link;
    does = λ f. files_from (s.does f);
    keeps = λ f past start.
        let m = from f past start in
        let P : ℕ → Type 0 = λ l. Matches before.table (world_of site before l (deeds ++ past)) mid (ours (deeds ++ past)) → EndsAs e (world_of site after l (deeds ++ past)) (ours (deeds ++ past)) in
        let k = subst P link (s.keeps f (deeds ++ past)) m in
        (k.0, k.1, dues f past (Ours (Close e) ∷ deeds ++ past) start (settles_by e s.allowed (world_of site after held.link (deeds ++ past)) (deeds ++ past) m.sound k.1 k.2));
  }

  pub then_settles : (result : Option Ending) → SettlesTo may site mid new result files before after → GoesBy From due site held new result net files before after old now
  then_settles None s = settles_on s
  then_settles (Some e) s = settles_out e s
