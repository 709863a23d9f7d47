-- For proofs alone: the notes of reads and writes.
use Rattle.std.specs.Prelude.{ℕ, zero, suc}
use Rattle.lt_world.specs.declared.net.Got.{Got}
use Rattle.lt_world.specs.declared.net.Got.TheVariants as got
use Rattle.script_net.specs.declared.notes.Done.{Done}
use Rattle.script_net.specs.declared.notes.Done.TheVariants as done

-- the note of a read that asked for so many bytes and began here
abbrev pub read_done : Got → ℕ → ℕ → Done
read_done (got.Bytes len) asked at = done.Read asked at len
read_done got.End asked at = done.ReadEnd
read_done got.NotYet asked at = done.ReadNotYet
read_done got.Failed asked at = done.ReadFailed

-- the note of a write of so many bytes, of which so many were taken
abbrev pub write_done : ℕ → ℕ → ℕ → Done
write_done offered at zero = done.WriteNotYet
write_done offered at (suc n) = done.Wrote offered at (suc n)
