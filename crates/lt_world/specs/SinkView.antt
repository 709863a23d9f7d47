-- For proofs alone: the fields of a sink in memory.
use Rattle.std.specs.Prelude.{◌≤◌, vec_len, vec_capacity}
use Rattle.lt_world.specs.declared.mem_sink.MemSink.TheInside.{Inside}
use Rattle.lt_world.specs.SinkRuns.{Poured}

-- the fields as the sink that they stand for
abbrev pub poured_of : Inside → Poured
poured_of a = record { bytes = a.bytes.items; room = a.room; fails = a.fails; made = a.made; faults = a.faults }

-- the memory of the whole room is there
pub record HasRoom (a : Inside) : Type 0 where
  pub filled : vec_len a.bytes ≤ a.room
  pub reserved : a.room ≤ vec_capacity a.bytes
