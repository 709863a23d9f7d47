-- Files that are given back, one client after the other.
use Rattle.std.proofs.Common.{◌≡◌, ◌<◌, ℕ, List, [], ◌∷◌, ◌++◌, length, Option, Some, None, append-nil, refl, sym, ◌∙◌, ap, subst, arith, inl, inr}
use Rattle.std.proofs.lemmas.Bool.{cases_eq}
use Rattle.buffer_pool.specs.State.{PoolState}
use Rattle.buffer_pool.specs.Kept.{Kept, HeldWithin}
use Rattle.lt_world.specs.Disk.{Disk, Table, without_file}
use Rattle.lt_world.proofs.Disks.{released_own, released_other}
use Rattle.server_model.specs.Held.{Held, kept_at}
use Rattle.server_model.specs.Files.{file_of, IsOpened, Backs, Drops}
use Rattle.server_model.proofs.Changing.{IsAt, at_is, removes}
use Rattle.server_model.proofs.FileSteps.{drops}
use Rattle.server_model.proofs.Turning.{backs_step, kept_fits}
use Rattle.server_model.proofs.Tables.{kept_at-first, kept_at-past}
use Rattle.chunkqueue.specs.Store.{unused}
use Rattle.connection.specs.Connection.{Connected}
use Rattle.server_core.specs.Table.{helds, numbers_of, AllAbove, Rising, freed, all_freed}
use Rattle.server_core.proofs.Buffered.{each_within, each_removed}
use Rattle.server_core.proofs.Listed.{helds_append, rising_once, rising_remove}

freed_drops : (file : Option ℕ) (a b : Disk) → Drops file a b → b ≡ freed file a
freed_drops None a b is = is
freed_drops (Some file) a b is = is

all_freed_push : (table : List Held) (x : Held) (disk : Disk) → all_freed (table ++ x ∷ []) disk ≡ all_freed table (freed x.file disk)
all_freed_push [] x disk = refl
all_freed_push (held ∷ table) x disk = ap (freed held.file) (all_freed_push table x disk)

-- the last link is above those before it
above_last : (n : ℕ) (table : List Held) (x : Held) → AllAbove n (table ++ x ∷ []) → n < x.link
above_last n [] x above = above.0
above_last n (held ∷ table) x above = above_last n table x above.1

last_alone : (table : List Held) (x : Held) → Rising (table ++ x ∷ []) → kept_at x.link table ≡ None
last_alone [] x rising = refl
last_alone (held ∷ table) x rising = kept_at-past x.link held table (λ e. omega (arith, e, above_last held.link table x rising.0)) ∙ last_alone table x rising.1

module _ (old rest : List Connected) (x : Connected) (is : old ≡ rest ++ x ∷ []) where
  split : helds old ≡ helds rest ++ x.held ∷ []
  split = ap helds is ∙ helds_append rest (x ∷ [])

  last_at : Rising (helds old) → IsAt x.held.link (helds old) (helds rest) x.held []
  last_at rising = record { split = split; link_is = refl; first = last_alone (helds rest) x.held (subst Rising split rising) }

  last_kept : Rising (helds old) → kept_at x.held.link (helds old) ≡ Some x.held
  last_kept rising = at_is x.held.link (helds old) (helds rest) x.held [] (last_at rising)

  pub popped_rising : Rising (helds old) → Rising (helds rest)
  popped_rising rising = subst Rising (append-nil (helds rest)) (rising_remove (helds rest) x.held [] (subst Rising split rising))

  -- its file is open
  pub popped_open : (opened : Table) → Rising (helds old) → Backs opened (helds old) → IsOpened opened x.held.file
  popped_open opened rising backs = (kept_fits opened x.held.link (helds old) x.held (last_kept rising) backs).is_open

  -- and those of the others stay so, once it is given back
  pub popped_backs : (a b : Disk) → Rising (helds old) → Backs a.table (helds old) → Drops x.held.file a b → Backs b.table (helds rest)
  popped_backs a b rising backs dropped =
      let change = removes x.held.link (helds old) (helds rest) x.held [] (last_at rising) (helds rest) (sym (append-nil (helds rest))) (rising_once (helds old) rising) in
      backs_step x.held.link (helds old) (helds rest) x.held None a b (last_kept rising) change backs (drops x.held.link a b x.held.file dropped) tt

  pub popped_disk : (a b first : Disk) → Drops x.held.file a b → all_freed (helds old) a ≡ first → all_freed (helds rest) b ≡ first
  popped_disk a b first dropped had =
      ap (all_freed (helds rest)) (freed_drops x.held.file a b dropped)
      ∙ sym (all_freed_push (helds rest) x.held a)
      ∙ ap (λ t. all_freed t a) (sym (ap helds is ∙ helds_append rest (x ∷ [])))
      ∙ had

  pub popped_within : (store : PoolState) → Kept unused [] store (numbers_of old) → HeldWithin store (length x.numbers)
  popped_within store had = each_within store store old rest [] x is had

  pub popped_each : (store next : PoolState) → Kept store x.numbers next [] → Kept unused [] store (numbers_of old) → Kept unused [] next (numbers_of rest)
  popped_each store next kept had = each_removed store next old rest [] x is had kept rest (sym (append-nil rest))

-- a file that isn't open stays so
freed_none : (file : Option ℕ) (disk : Disk) (f : ℕ) → disk.table f ≡ None → (freed file disk).table f ≡ None
freed_none None disk f none = none
freed_none (Some g) disk f none = elim (cases_eq g f) [
  | inl same ↦ ap (without_file g disk.table) (sym same) ∙ released_own g disk.table
  | inr apart ↦ released_other g f disk.table (λ e. apart (sym e)) ∙ none
]

all_freed_none : (table : List Held) (disk : Disk) (f : ℕ) → disk.table f ≡ None → (all_freed table disk).table f ≡ None
all_freed_none [] disk f none = none
all_freed_none (held ∷ table) disk f none = freed_none held.file (all_freed table disk) f (all_freed_none table disk f none)

freed_own : (file : Option ℕ) (disk : Disk) (f : ℕ) → file ≡ Some f → (freed file disk).table f ≡ None
freed_own None disk f is = absurd (cc (is))
freed_own (Some g) disk f is = let same : g ≡ f = cc (is) in ap (without_file g disk.table) (sym same) ∙ released_own g disk.table

-- a file that is kept is given back
freed_kept : (table : List Held) (disk : Disk) (link f : ℕ) → file_of (kept_at link table) ≡ Some f → (all_freed table disk).table f ≡ None
freed_kept [] disk link f is = absurd (cc (is))
freed_kept (held ∷ table) disk link f is = elim (cases_eq held.link link) [
  | inl same ↦ freed_own held.file (all_freed table disk) f (sym (ap file_of (kept_at-first link held table same)) ∙ is)
  | inr apart ↦ freed_none held.file (all_freed table disk) f (freed_kept table disk link f (sym (ap file_of (kept_at-past link held table apart)) ∙ is))
]

-- where just kept files are open, none is open after it
pub none_open : (table : List Held) (before after : Disk) → after ≡ all_freed table before → ((f : ℕ) (bytes : List ℕ) → before.table f ≡ Some bytes → (link : ℕ) × (file_of (kept_at link table) ≡ Some f)) → (f : ℕ) → after.table f ≡ None
none_open table before after is opened f = ap (λ (d : Disk). d.table f) is ∙ by (before.table f) refl
  where
    by : (o : Option (List ℕ)) → before.table f ≡ o → (all_freed table before).table f ≡ None
    by None none = all_freed_none table before f none
    by (Some bytes) some = let kept = opened f bytes some in freed_kept table before kept.0 f kept.1
