-- The last cell of a chain.
use Rattle.std.proofs.Common.{◌≡◌, suc, List, [], ◌∷◌, ◌++◌, length, refl, ap, sym, subst, ◌∙◌, ◌-◌, ◌<◌, slice_index_or, arith}
use Rattle.buffer_pool.specs.declared.node.Node.{Node}
use Rattle.buffer_pool.specs.Lending.{set_last}
use Rattle.buffer_pool.specs.Links.{Cell, state_of, states_of}
use Rattle.buffer_pool.specs.Edits.{last_of, with_last}
use Rattle.buffer_pool.specs.State.{ChunkState}

at_end : (ns : List Cell) (m : Cell) (w : Node) → set_last (ns ++ m ∷ []) w ≡ ns ++ (m.0, w) ∷ []
at_end [] m w = refl
at_end (x ∷ []) m w = refl
at_end (x ∷ y ∷ ns) m w = ap (λ cs. x ∷ cs) (at_end (y ∷ ns) m w)

pub set_last-snoc : (cs ns : List Cell) (m : Cell) (w : Node) → cs ≡ ns ++ m ∷ [] → set_last cs w ≡ ns ++ (m.0, w) ∷ []
set_last-snoc cs ns m w e = ap (λ l. set_last l w) e ∙ at_end ns m w

ending : (ns : List Cell) (m : Cell) → state_of m.1 ≡ last_of (states_of (ns ++ m ∷ []))
ending [] m = refl
ending (x ∷ []) m = refl
ending (x ∷ y ∷ ns) m = ending (y ∷ ns) m

pub last_state : (cs ns : List Cell) (m : Cell) → cs ≡ ns ++ m ∷ [] → state_of m.1 ≡ last_of (states_of cs)
last_state cs ns m e = subst (λ l. state_of m.1 ≡ last_of (states_of l)) (sym e) (ending ns m)

-- what a chain holds once its last node is w
pub states_set_last : (cs : List Cell) (w : Node) → states_of (set_last cs w) ≡ with_last (states_of cs) (state_of w)
states_set_last [] w = refl
states_set_last (c ∷ []) w = refl
states_set_last (c ∷ d ∷ cs) w = ap (λ l. state_of c.1 ∷ l) (states_set_last (d ∷ cs) w)

pub length_set_last : (cs : List Cell) (w : Node) → length (states_of (set_last cs w)) ≡ length (states_of cs)
length_set_last [] w = refl
length_set_last (c ∷ []) w = refl
length_set_last (c ∷ d ∷ cs) w = ap suc (length_set_last (d ∷ cs) w)

last_index : (c : ChunkState) (cs : List ChunkState) (d : ChunkState) → slice_index_or (c ∷ cs) (length cs) d ≡ last_of (c ∷ cs)
last_index c [] d = refl
last_index c (x ∷ cs) d = last_index x cs d

less_one : (c : ChunkState) (cs : List ChunkState) → length (c ∷ cs) - 1 ≡ length cs
less_one c cs = omega arith

-- the last chunk is the one at the last index
pub index_last : (cs : List ChunkState) (d : ChunkState) → 0 < length cs → slice_index_or cs (length cs - 1) d ≡ last_of cs
index_last [] d h = absurd (omega (arith, h))
index_last (c ∷ cs) d h = ap (λ n. slice_index_or (c ∷ cs) n d) (less_one c cs) ∙ last_index c cs d
