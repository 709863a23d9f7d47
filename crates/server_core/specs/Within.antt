-- What the fields of a server stand for.
use Rattle.std.specs.Prelude.{◌≡◌, ℕ, ◌+◌, nat_lt, List, map, flat_map, vec_capacity, if◌then◌else◌}
use Rattle.buffer_pool.specs.State.{PoolState}
use Rattle.buffer_pool.specs.Kept.{places}
use Rattle.server_model.specs.Site.{Site}
use Rattle.server_model.specs.Held.{Held, Serving}
use Rattle.connection.specs.Connection.{Connected}
use Rattle.server_core.specs.Places.{ArePlaces}
use Rattle.server_core.specs.Table.{helds, offers_of, IsKept}
use Rattle.server_core.specs.declared.server.Server.TheInside.{Inside}

-- what a server keeps
pub record Running : Type 0 where
  pub site : Site
  pub table : List Held
  -- how many bytes the next write to each client of the table offers
  pub offers : List ℕ
  -- the numbers of the buffers in the queues of each
  pub queued : List (List ℕ)
  -- the spare buffers, how many were made, and how many bytes were put into buffers or moved in them so far
  pub pool : PoolState

-- of that what it serves
abbrev pub serving_at : Running → Serving
serving_at s = record { site = s.site; table = s.table }

-- the numbers in all queues
abbrev pub joined : List (List ℕ) → List ℕ
joined queued = flat_map (λ (numbers : List ℕ). numbers) queued

-- each buffer that was made is in one place, spare or in a queue of one open client, and no other number is anywhere
abbrev pub IsEachBufferOnce : Running → Type 0
IsEachBufferOnce s = (n : ℕ) → places n s.pool.free + places n (joined s.queued) ≡ (if nat_lt n s.pool.made then 1 else 0)

abbrev pub running_of : Inside → Running
running_of s = record {
  site = s.planner.site;
  table = helds s.clients.items;
  offers = offers_of s.clients.items;
  queued = map (λ (c : Connected). c.numbers) s.clients.items;
  pool = s.store;
}

pub record IsServer (s : Inside) : Type 0 where
  pub kept : IsKept s.store s.clients.items
  pub places : ArePlaces s.clients.items s.places.items (vec_capacity s.clients) (vec_capacity s.places)
