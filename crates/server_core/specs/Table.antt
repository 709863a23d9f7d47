-- The table of clients that the code keeps.
use Rattle.std.specs.Prelude.{ℕ, ◌+◌, ◌<◌, List, [], ◌∷◌, ◌++◌, length, map, Option, Some, None}
use Rattle.lt_world.specs.Disk.{Disk, released}
use Rattle.buffer_pool.specs.State.{PoolState}
use Rattle.buffer_pool.specs.Kept.{Kept, HeldWithin}
use Rattle.chunkqueue.specs.Store.{unused}
use Rattle.server_model.specs.Site.{Site}
use Rattle.server_model.specs.Held.{Held, Serving}
use Rattle.connection.specs.Connection.{Connected}
use Rattle.server_core.specs.Steps.{IsResting}

-- what is kept for the clients
abbrev pub helds : List Connected → List Held
helds conns = map (λ c. c.held) conns

-- how many bytes the next write to each offers
abbrev pub offers_of : List Connected → List ℕ
offers_of conns = map (λ c. c.offers) conns

abbrev pub serving : Site → List Connected → Serving
serving site conns = record { site = site; table = helds conns }

-- how many buffers their queues hold
abbrev pub held_count : List Connected → ℕ
held_count [] = 0
held_count (c ∷ conns) = length c.numbers + held_count conns

-- the numbers of these buffers, a client's after another's
abbrev pub numbers_of : List Connected → List ℕ
numbers_of [] = []
numbers_of (c ∷ conns) = c.numbers ++ numbers_of conns

-- each link is above n
abbrev pub AllAbove : ℕ → List Held → Type 0
AllAbove n [] = Unit {0}
AllAbove n (held ∷ table) = (n < held.link) × AllAbove n table

-- each link is above those before it
abbrev pub Rising : List Held → Type 0
Rising [] = Unit {0}
Rising (held ∷ table) = AllAbove held.link table × Rising table

-- no request is to be answered
abbrev pub AllResting : List Held → Type 0
AllResting [] = Unit {0}
AllResting (held ∷ table) = IsResting held × AllResting table

-- how the clients stand between two turns
pub record IsKept (store : PoolState) (conns : List Connected) : Type 0 where
  pub counted : HeldWithin store (held_count conns)
  -- every buffer that was made since the store was new is spare, or in a queue of one client
  pub each : Kept unused [] store (numbers_of conns)
  pub rising : Rising (helds conns)
  pub resting : AllResting (helds conns)

-- after this file was given back
abbrev pub freed : Option ℕ → Disk → Disk
freed None disk = disk
freed (Some file) disk = released file disk

-- after every file was given back that is kept for the clients, the last client's first
abbrev pub all_freed : List Held → Disk → Disk
all_freed [] disk = disk
all_freed (held ∷ table) disk = freed held.file (all_freed table disk)
