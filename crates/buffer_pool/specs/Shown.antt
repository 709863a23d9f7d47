-- What a view shows.
use Rattle.buffer_pool.specs.State.{ChunkState}
use Rattle.buffer_pool.specs.declared.views.View.{View}

-- the chunk as it is
abbrev pub shown : View → ChunkState
shown v = record { number = v.number; kind = v.kind; bytes = v.bytes.now; room = v.room }
