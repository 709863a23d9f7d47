-- One link as a script plays it (README.md of this crate, 'How a script is played').
use Rattle.std.specs.Prelude.{ℕ, ◌+◌, ◌-◌, min, Bool, true, false, List, [], ◌∷◌, ◌++◌, length, take, drop, get_or, if◌then◌else◌}
use Rattle.lt_world.specs.Trace.{Act, Read, ReadEnd, NotYet, Failed, Reading}

-- a link as the script sees it
pub record Side : Type 0 where
  pub is_open : Bool
  -- the bytes that the script gave to it so far
  pub given : List ℕ
  -- how many of them were read
  pub seen : ℕ
  -- nothing comes after them
  pub ended : Bool
  -- each later read fails
  pub reads_fail : Bool
  -- each later write fails
  pub writes_fail : Bool

-- a link that arrives
abbrev pub fresh_side : Side
fresh_side = record { is_open = true; given = []; seen = 0; ended = false; reads_fail = false; writes_fail = false }

-- a link that never arrived
abbrev pub no_side : Side
no_side = record { is_open = false; given = []; seen = 0; ended = false; reads_fail = false; writes_fail = false }

-- the link of this number
abbrev pub side_at : ℕ → List Side → Side
side_at link sides = get_or sides link no_side

-- what can still be read
abbrev pub unread : Side → List ℕ
unread side = drop side.seen side.given

-- these bytes, where so many were asked for; where there are none, the end or nothing yet
abbrev pub some_read : ℕ → List ℕ → Bool → Act
some_read size [] ended = if ended then ReadEnd else NotYet Reading
some_read size (byte ∷ bytes) ended = Read size (byte ∷ bytes)

-- the answer of a read: what can be read, up to the buffer, else the end, else nothing yet; where reads fail, none of it
abbrev pub gives : ℕ → Side → Act
gives size side = if side.reads_fail then Failed Reading else some_read size (take size (unread side)) side.ended

-- after a read
abbrev pub with_read : ℕ → Side → Side
with_read size side = record side { seen = if side.reads_fail then side.seen else side.seen + min size (length side.given - side.seen) }

-- after more bytes were given
abbrev pub with_bytes : List ℕ → Side → Side
with_bytes bytes side = record side { given = side.given ++ bytes }

-- after the script ended it
abbrev pub with_end : Side → Side
with_end side = record side { ended = true }

-- after `rfail`
abbrev pub with_failing_reads : Side → Side
with_failing_reads side = record side { reads_fail = true }

-- after `wfail`
abbrev pub with_failing_writes : Side → Side
with_failing_writes side = record side { writes_fail = true }

-- after it was closed
abbrev pub with_close : Side → Side
with_close side = record side { is_open = false }
