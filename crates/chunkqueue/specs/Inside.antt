-- What the fields of a file segment stand for.
use Rattle.std.specs.Prelude.{◌≡◌, ◌+◌, ◌^◌, ◌≤◌, ◌<◌, take, drop, vec_len}
use Rattle.chunkqueue.specs.Ranged.{Ranged}
use Rattle.buffer_pool.specs.declared.buffer.TheConstants.{BUFFER_SIZE}
use Rattle.chunkqueue.specs.declared.file_segment.FileSegment.TheInside.{Inside}

abbrev pub ranged_of : Inside → Ranged
ranged_of s = record { file = s.file.0; start = s.start; len = s.len; staged = drop s.read (take s.filled s.buffer.items) }

pub record IsFileSegment (s : Inside) : Type 0 where
  pub within : s.start + s.len < 2 ^ 63
  pub buffer : vec_len s.buffer ≡ BUFFER_SIZE
  pub read : s.read ≤ s.filled
  pub filled : s.filled ≤ BUFFER_SIZE
  pub left : s.filled ≤ s.read + s.len
