use Rattle.chunkqueue.specs.Items.{items_of, memory_front}
use Rattle.connection.proofs.Slicing.{Sees}
use Rattle.connection.proofs.looking.scanned.Given as goal

abbrev pub invariant-loop-slice : goal.invariant-loop-slice
invariant-loop-slice l = Sees (memory_front (items_of l.input)) l.slice-iterator l.scan
