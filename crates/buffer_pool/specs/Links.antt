-- How nodes are linked, and what a chain of them owns.
use Rattle.std.specs.Prelude.{zero, suc, ℕ, List, [], ◌∷◌, map}
use base.Fml.{Lft, Fml, ftrue, fsep}
use denote.Sharing.{nothing, beside}
use denote.Struct.Lending.{lent_at}
use denote.RawPtr.{Ptr}
use Rattle.std_alloc.specs.Box.Ownership.{box_owns}
use Rattle.std_heap.specs.contracts.GlobalAllocator.TheImpl.{ghosts}
use Rattle.buffer_pool.specs.State.{ChunkState}
use Rattle.buffer_pool.specs.declared.node.Node.{Node}
use Rattle.buffer_pool.specs.contracts.node.Node.{the_row}

-- a node and its place
abbrev pub Cell : Type 0
Cell = Ptr × Node

abbrev pub state_of : Node → ChunkState
state_of n = n.buffer

abbrev pub states_of : List Cell → List ChunkState
states_of = map (λ c. state_of c.1)

-- the node n lies at p, with the right to free its memory
abbrev pub owned_at : Ptr → Node → Fml
owned_at p n = box_owns (ghosts.dealloc_token n.heap) the_row p n

-- the cell's node, which points to p
abbrev pub node_at : Cell → Ptr → Fml
node_at c p = owned_at c.0 (record c.1 { next = p })

-- where the first node lies, and p where there is none
abbrev pub first_or : List Cell → Ptr → Ptr
first_or [] p = p
first_or (c ∷ cs) p = c.0

-- where the last node lies, and p where there is none
abbrev pub last_or : List Cell → Ptr → Ptr
last_or [] p = p
last_or (c ∷ cs) p = last_or cs c.0

-- where the node at index i lies, and p where there is none
abbrev pub place_or : List Cell → ℕ → Ptr → Ptr
place_or [] i p = p
place_or (c ∷ cs) zero p = c.0
place_or (c ∷ cs) (suc i) p = place_or cs i p

-- each node points to the one after it, and the last one to p
abbrev pub links : List Cell → Ptr → Fml
links [] p = ftrue
links (c ∷ cs) p = fsep (node_at c (first_or cs p)) (links cs p)

-- what a `&` to the chain holds of the same
abbrev pub links_lent : List Cell → Ptr → Lft → Fml
links_lent [] p = nothing
links_lent (c ∷ cs) p = beside (lent_at the_row c.0 (record c.1 { next = first_or cs p })) (links_lent cs p)
