-- A chain whose last node is lent.
use Rattle.std.specs.Prelude.{◌≡◌, List, [], ◌∷◌}
use Rattle.std.proofs.Common.{sym, ◌∙◌, refl}
use Rattle.std.specs.Borrow.{Lends, MutBor, Fml}
use denote.RawPtr.{Ptr}
use Rattle.buffer_pool.specs.Links.{Cell, first_or, last_or}
use Rattle.buffer_pool.specs.declared.node.Node.{Node}
use Rattle.buffer_pool.specs.declared.nodes.Nodes.{Nodes}
use Rattle.buffer_pool.specs.contracts.node.Node.{the_row as node_row}
use Rattle.buffer_pool.specs.contracts.nodes.Nodes.{the_row}

-- the same places, with w as the last node
abbrev pub set_last : List Cell → Node → List Cell
set_last [] w = []
set_last (c ∷ []) w = (c.0, w) ∷ []
set_last (c ∷ d ∷ cs) w = c ∷ set_last (d ∷ cs) w

pub first_or-set_last : (cs : List Cell) (w : Node) (p : Ptr) → first_or (set_last cs w) p ≡ first_or cs p
first_or-set_last [] w p = refl
first_or-set_last (c ∷ []) w p = refl
first_or-set_last (c ∷ d ∷ cs) w p = refl

pub last_or-set_last : (cs : List Cell) (w : Node) (p : Ptr) → last_or (set_last cs w) p ≡ last_or cs p
last_or-set_last [] w p = refl
last_or-set_last (c ∷ []) w p = refl
last_or-set_last (c ∷ d ∷ cs) w p = last_or-set_last (d ∷ cs) w c.0

-- the chain d with w as its last node
abbrev pub ending_with : Nodes → Node → Nodes
ending_with d w = record {
  head = d.head;
  tail = d.tail;
  cells = set_last d.cells w;
  end = w.next;
  placed = (d.placed.0 ∙ sym (first_or-set_last d.cells w d.head), d.placed.1 ∙ sym (last_or-set_last d.cells w d.tail));
}

-- s ends with the last value behind r as its last node
abbrev pub LendsLast : MutBor Nodes → MutBor Node → Fml
LendsLast s r = Lends the_row node_row s r (ending_with s.now)
