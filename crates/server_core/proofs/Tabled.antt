-- A step for one client, in the table.
use Rattle.std.proofs.Common.{◌≡◌, ◌≤◌, ℕ, ◌<◌, List, [], ◌∷◌, ◌++◌, length, get_or, set, Option, Some, None, refl, sym, ◌∙◌, ap, subst, arith}
use Rattle.std.proofs.lemmas.List.{get_or-set_same}
use Rattle.buffer_pool.specs.State.{PoolState}
use Rattle.buffer_pool.specs.Kept.{Kept, HeldWithin}
use Rattle.lt_world.specs.declared.net.Address.{Address}
use Rattle.lt_world.specs.declared.net.Ending.{Ending}
use Rattle.lt_world.specs.Disk.{Disk, Table}
use Rattle.lt_world.specs.Trace.{Act, Entry, Close, said}
use Rattle.server_model.specs.Site.{Site}
use Rattle.server_model.specs.Deeds.{Ours, told}
use Rattle.server_model.specs.Held.{Held, IsPlace, kept_at}
use Rattle.server_model.specs.Steps.{arrived}
use Rattle.server_model.specs.Files.{IsOpened, Backs, Drops, IsTable}
use Rattle.server_model.specs.Serves.{Stands}
use Rattle.server_model.specs.Turns.{Seen, DueOn, StepsBy, TurnsOn}
use Rattle.server_model.proofs.Changing.{Changes, table_on}
use Rattle.server_model.proofs.Requests.{front_of_nil}
use Rattle.server_model.proofs.Turning.{IsReady, turn_step, backs_step, readable_ready, writable_ready, IsQuiet, readable_quiet, writable_quiet}
use Rattle.connection.specs.Connection.{Connected}
use Rattle.server_core.specs.declared.step.Ready.{Ready}
use Rattle.server_core.specs.declared.step.Ready.TheVariants as ready
use Rattle.server_core.specs.Steps.{IsResting, event_of}
use Rattle.server_core.specs.Table.{helds, serving, held_count, Rising, AllResting, IsKept}
use Rattle.server_core.proofs.Buffered.{each_pushed}
use Rattle.server_core.proofs.Listed.{helds_append, count_append, rising_push, resting_push}

pub place_as : (link : ℕ) (conns other : List Connected) (i : ℕ) → other ≡ conns → IsPlace link (helds other) (Some i) → IsPlace link (helds conns) (Some i)
place_as link conns other i is place = subst (λ (t : List Connected). IsPlace link (helds t) (Some i)) is place

pub none_as : (link : ℕ) (conns other : List Connected) → other ≡ conns → kept_at link (helds other) ≡ None → kept_at link (helds conns) ≡ None
none_as link conns other is none = ap (λ (t : List Connected). kept_at link (helds t)) (sym is) ∙ none

-- what is told by a close
pub close_told : (l m : ℕ) (e : Ending) (old now : List Entry) → l ≡ m → now ≡ said l (Close e ∷ []) old → now ≡ told m (Ours (Close e) ∷ []) old
close_told l m e old now same is = is ∙ ap (λ (n : ℕ). said n (Close e ∷ []) old) same

-- that a link is ready is no deed, and nothing is due for one that isn't kept
pub is_ready : (r : Ready) → IsReady (event_of r)
is_ready ready.Reading = readable_ready
is_ready ready.Writing = writable_ready

pub is_quiet : (r : Ready) → IsQuiet (event_of r)
is_quiet ready.Reading = readable_quiet
is_quiet ready.Writing = writable_quiet

module _ (event : Act) (ready : IsReady event)
    (link : ℕ) (site : Site) (conns next : List Connected) (held : Held) (now : Option Held) (net files : Type 0) (spare : ℕ) (before after : Seen) (old told_now : List Entry)
    (here : held.link ≡ link) (kept : kept_at link (helds conns) ≡ Some held) (change : Changes link (helds conns) (helds next) now) (backs : files → Backs before.disk.table (helds conns))
    (step : StepsBy Stands (DueOn event spare before after held.link) site held now net files before.disk after.disk old told_now) where
  pub conns_turn : before.faults ≤ after.faults → TurnsOn event link (serving site conns) (serving site next) net files spare before after old told_now
  conns_turn rises =
      let P : ℕ → Type 0 = λ l. (kept_at l (helds conns) ≡ Some held) → Changes l (helds conns) (helds next) now → TurnsOn event l (serving site conns) (serving site next) net files spare before after old told_now in
      subst P here (λ k ch. turn_step event ready site (helds conns) (helds next) held now net files spare before after old told_now k ch backs step rises) kept change

  pub conns_backs : files → Backs after.disk.table (helds next)
  conns_backs f =
      let P : ℕ → Type 0 = λ l. (kept_at l (helds conns) ≡ Some held) → Changes l (helds conns) (helds next) now → Backs after.disk.table (helds next) in
      subst P here (λ k ch. backs_step held.link (helds conns) (helds next) held now before.disk after.disk k ch (backs f) (step.does f) (step.fits f)) kept change

pub conns_table : (links more link : ℕ) (conns next : List Connected) (now : Option Held) → Changes link (helds conns) (helds next) now → more ≡ links → link < links → IsTable links (helds conns) → IsTable more (helds next)
conns_table links more link conns next now change same below is = table_on links more link (helds conns) (helds next) now is change (omega (arith, same)) (omega (arith, same, below))

arrived_rests : (link : ℕ) (peer local : Address) → IsResting (arrived link peer local)
arrived_rests link peer local = (front_of_nil, refl)

-- a client that arrives is kept
pub push_kept : (link : ℕ) (peer local : Address) (conns next : List Connected) (new : Connected) → new.held ≡ arrived link peer local → new.numbers ≡ [] → next ≡ conns ++ new ∷ [] → IsTable link (helds conns)
    → (store : PoolState) → IsKept store conns → IsKept store next
push_kept link peer local conns next new is none pushed table store kept =
    let pushed_table : helds next ≡ helds conns ++ new.held ∷ [] = ap helds pushed ∙ helds_append conns (new ∷ []) in
    record {
      counted = omega (arith, kept.counted, ap held_count pushed, count_append conns (new ∷ []), ap length none);
      each = each_pushed store conns next new none pushed kept.each;
      rising = subst Rising (sym pushed_table) (rising_push link (helds conns) new.held table.below (omega (arith, ap (λ (h : Held). h.link) is)) kept.rising);
      resting = subst AllResting (sym pushed_table) (resting_push (helds conns) new.held (subst IsResting (sym is) (arrived_rests link peer local)) kept.resting);
    }

-- the connection that is lent of a client
pub lent_at : (conns : List Connected) (i : ℕ) (client conn : Connected) → conn ≡ client → client ≡ get_or conns i client → conn ≡ get_or conns i conn
lent_at conns i client conn same at = subst (λ (k : Connected). k ≡ get_or conns i k) (sym same) at

-- the client that is to be closed, taken out of the list
pub taken_is : (conns : List Connected) (i : ℕ) (closing taken : Connected) → i < length conns → taken ≡ get_or (set conns i closing) i taken → taken ≡ closing
taken_is conns i closing taken below is = is ∙ get_or-set_same conns i closing taken below

pub taken_open : (opened : Table) (taken closing : Connected) → taken ≡ closing → IsOpened opened closing.held.file → IsOpened opened taken.held.file
taken_open opened taken closing is here = subst (λ (k : Connected). IsOpened opened k.held.file) (sym is) here

pub within_as : (store : PoolState) (taken closing : Connected) → taken ≡ closing → HeldWithin store (length closing.numbers) → HeldWithin store (length taken.numbers)
within_as store taken closing is within = subst (λ (k : Connected). HeldWithin store (length k.numbers)) (sym is) within

pub kept_as : (store next : PoolState) (taken closing : Connected) → taken ≡ closing → Kept store taken.numbers next [] → Kept store closing.numbers next []
kept_as store next taken closing is kept = subst (λ (k : Connected). Kept store k.numbers next []) is kept

pub drops_at : (taken closing : Connected) (before after : Disk) → taken ≡ closing → Drops taken.held.file before after → Drops closing.held.file before after
drops_at taken closing before after is dropped = subst (λ (k : Connected). Drops k.held.file before after) is dropped
