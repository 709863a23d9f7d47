-- The steps of a client at a Readable event: each outcome of the one read.
use Rattle.std.proofs.Common.{◌≡◌, ℕ, List, [], ◌∷◌, true, false, Option, Some, refl, sym, ◌∙◌}
use Rattle.lt_world.specs.declared.net.Ending.{Ending}
use Rattle.lt_world.specs.declared.net.Ending.TheVariants as ending
use Rattle.lt_world.specs.Disk.{Disk}
use Rattle.lt_world.specs.Trace.{Entry, Reading, Read, ReadEnd, NotYet, Failed}
use Rattle.server_model.specs.Site.{Site}
use Rattle.server_model.specs.World.{world_of}
use Rattle.server_model.specs.Deeds.{Ours, ours, told}
use Rattle.server_model.specs.Held.{Held}
use Rattle.server_model.specs.Steps.{received, received_end, wants_memory, wants_read}
use Rattle.server_model.specs.Files.{Fits}
use Rattle.server_model.specs.Serves.{Stands}
use Rattle.server_model.specs.Due.{DueSettles, DueRead, Settles, may_want_after_read}
use Rattle.server_model.specs.Turns.{StepsBy, StopsBy, GoesBy}
use Rattle.server_model.specs.Settling.{SettlesTo}
use Rattle.server_model.proofs.FileSteps.{same_files}
use Rattle.server_model.proofs.Settled.{fails_right}
use Rattle.server_model.proofs.Standing.{wants_reads, matches_right, stands_wants, stands_not_yet, stands_rests, matches_received, matches_end}
use Rattle.server_model.proofs.Wanting.{unended_by, ended_wants, received_yields, received_wants, unspared_wants}
use Rattle.server_model.proofs.Stepping.{step_none, step_stops, then_step}
use Rattle.server_model.proofs.Going.{then_settles, settles_more}

module _ (spare : ℕ) (site : Site) (held : Held) (net files : Type 0) (before : Disk) where
  -- no read is wanted
  pub read_idle : (old : List Entry) → wants_read held ≡ false → (files → Fits before.table held) → StepsBy Stands (DueRead spare) site held (Some held) net files before before old old
  read_idle old isnt fits = step_none Stands (DueRead spare) site held net files before old old fits (λ f past s. (s, DueRead.idle (stands_wants before.table (world_of site before held.link past) held (ours past) s ∙ isnt)))

  module _ (old now : List Entry) (is : wants_read held ≡ true) where
    pub read_not_yet : (net → now ≡ told held.link (Ours (NotYet Reading) ∷ []) old) → (files → Fits before.table held) → StepsBy Stands (DueRead spare) site held (Some held) net files before before old now
    read_not_yet gains fits = then_step Stands Stands (DueRead spare) (DueSettles false) site held held (Some held) net files before before before old now now (Ours (NotYet Reading) ∷ []) (refl, tt) gains (λ trace. refl) (λ f. same_files held.link before held.file) refl
        (λ f past s. stands_not_yet before.table (world_of site before held.link past) held (ours past) Reading s)
        (λ f past all s settles. DueRead.reads (NotYet Reading) (stands_wants before.table (world_of site before held.link past) held (ours past) s ∙ is) tt settles)
        (step_none Stands (DueSettles false) site held net files before now now fits (λ f past s. (s, Settles.rests (stands_rests before.table (world_of site before held.link past) held past s))))

    pub read_failed : (net → now ≡ told held.link (Ours (Failed Reading) ∷ []) old) → StopsBy Stands (DueRead spare) site held held ending.ClientFault net files before before old now
    read_failed gains = step_stops Stands (DueRead spare) site held net files before old now ending.ClientFault held (Ours (Failed Reading) ∷ []) (refl, tt) gains (λ trace. refl) refl refl
        (λ f past s. (
          fails_right (world_of site before held.link past) (ours past) Reading (matches_right before.table (world_of site before held.link past) held (ours past) s.matches),
          (λ e. absurd (cc (e))),
          DueRead.reads (Failed Reading) (stands_wants before.table (world_of site before held.link past) held (ours past) s ∙ is) tt (Settles.fails refl),
        ))

    -- memory is wanted for what came
    pub read_yields : (new : Held) → spare ≡ 0 → (asked : ℕ) (bytes : List ℕ) → (net → now ≡ told held.link (Ours (Read asked bytes) ∷ []) old) → new.link ≡ held.link → new.file ≡ held.file → StopsBy Stands (DueRead spare) site held new ending.NoMemory net files before before old now
    read_yields new unspared asked bytes gains link file = step_stops Stands (DueRead spare) site held net files before old now ending.NoMemory new (Ours (Read asked bytes) ∷ []) (refl, tt) gains (λ trace. refl) link file
        (λ f past s. (
          matches_right before.table (world_of site before held.link past) (received held bytes) (Read asked bytes ∷ ours past) (matches_received before.table (world_of site before held.link past) held (ours past) asked bytes (wants_reads held is) s),
          (λ e. absurd (cc (e))),
          DueRead.reads (Read asked bytes) (stands_wants before.table (world_of site before held.link past) held (ours past) s ∙ is) tt (Settles.yields (unspared_wants spare (world_of site before held.link past) (ours past) asked bytes unspared)
              (received_yields before.table (world_of site before held.link past) held (ours past) asked bytes s (wants_reads held is) (sym s.matches.ended ∙ unended_by held is))),
        ))

    -- bytes came, and then what follows
    pub read_then : (after : Disk) (new : Held) (result : Option Ending) (asked : ℕ) (bytes : List ℕ) → (net → now ≡ told held.link (Ours (Read asked bytes) ∷ []) old)
        → SettlesTo (wants_memory (received held bytes)) site (received held bytes) new result files before after → GoesBy Stands (DueRead spare) site held new result net files before after old now
    read_then after new result asked bytes gains settles = then_settles Stands (DueRead spare) (wants_memory (received held bytes)) site held (received held bytes) new net files before after old now (Ours (Read asked bytes) ∷ []) (refl, tt) gains (λ trace. refl) refl refl
        (λ f past s. matches_received before.table (world_of site before held.link past) held (ours past) asked bytes (wants_reads held is) s)
        (λ f past all s settles. DueRead.reads (Read asked bytes) (stands_wants before.table (world_of site before held.link past) held (ours past) s ∙ is) tt
        (settles_more (world_of site after held.link past) (wants_memory (received held bytes)) (may_want_after_read spare (world_of site before held.link past) (ours past) (Read asked bytes))
        (received_wants before.table (world_of site before held.link past) held (ours past) asked bytes s (wants_reads held is) spare) (Ours (Read asked bytes) ∷ past) all settles))
        result settles

    -- the end came, and then what follows
    pub read_end_then : (after : Disk) (new : Held) (result : Option Ending) → (net → now ≡ told held.link (Ours ReadEnd ∷ []) old)
        → SettlesTo (wants_memory (received_end held)) site (received_end held) new result files before after → GoesBy Stands (DueRead spare) site held new result net files before after old now
    read_end_then after new result gains settles = then_settles Stands (DueRead spare) (wants_memory (received_end held)) site held (received_end held) new net files before after old now (Ours ReadEnd ∷ []) (refl, tt) gains (λ trace. refl) refl refl
        (λ f past s. matches_end before.table (world_of site before held.link past) held (ours past) (wants_reads held is) s)
        (λ f past all s settles. DueRead.reads ReadEnd (stands_wants before.table (world_of site before held.link past) held (ours past) s ∙ is) tt
        (settles_more (world_of site after held.link past) (wants_memory (received_end held)) false (λ e. sym (ended_wants held s.waiting) ∙ e) (Ours ReadEnd ∷ past) all settles))
        result settles
