-- What the fields of a buffer stand for.
use Rattle.std.specs.Prelude.{◌-◌, ◌≤◌, take, drop}
use Rattle.buffer_pool.specs.State.{ChunkState}
use Rattle.buffer_pool.specs.declared.buffer.Buffer.TheInside.{Inside}
use Rattle.buffer_pool.specs.declared.buffer.TheConstants.{BUFFER_SIZE}

-- the bytes from the start up to the end, and the room after them
abbrev pub held : Inside → ChunkState
held b = record { number = b.number; kind = b.kind; bytes = drop b.start (take b.end b.bytes); room = BUFFER_SIZE - b.end }

abbrev pub IsHeld : Inside → Type 0
IsHeld b = (b.start ≤ b.end) × (b.end ≤ BUFFER_SIZE)
