use Rattle.chunkqueue.specs.Items.{items_of, memory_front}
use Rattle.connection.proofs.Slicing.{Gathers}
use Rattle.connection.proofs.looking.gathered.Given as goal

abbrev pub invariant-loop-slice : goal.invariant-loop-slice
invariant-loop-slice l = Gathers (memory_front (items_of l.input)) l.slice-iterator l.n l.text
