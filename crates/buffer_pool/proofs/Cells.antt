-- Lists of cells, with no memory: the places and the states of a chain's nodes.
use Rattle.std.proofs.Common.{◌≡◌, ℕ, zero, suc, ◌+◌, ◌-◌, ◌<◌, List, [], ◌∷◌, ◌++◌, length, slice_index_or, refl, ap, subst, ◌∙◌, arith}
use denote.RawPtr.{Ptr}
use Rattle.buffer_pool.specs.declared.node.Node.{Node}
use Rattle.buffer_pool.specs.Links.{Cell, state_of, states_of, first_or, last_or, place_or}

-- a list that is not empty has a first item
pub uncons : {Y : Type 0} (xs : List Y) → 0 < length xs → (y : Y) × (ys : List Y) × (xs ≡ y ∷ ys)
uncons [] p = absurd (omega arith)
uncons (y ∷ ys) p = (y, ys, refl)

ending : {Y : Type 0} (x : Y) (xs : List Y) → (ys : List Y) × (y : Y) × (x ∷ xs ≡ ys ++ y ∷ [])
ending x [] = ([], x, refl)
ending x (z ∷ zs) = let on = ending z zs in (x ∷ on.0, on.1, ap (λ l. x ∷ l) on.2)

-- and a last one
pub unsnoc : {Y : Type 0} (xs : List Y) → 0 < length xs → (ys : List Y) × (y : Y) × (xs ≡ ys ++ y ∷ [])
unsnoc [] p = absurd (omega arith)
unsnoc (x ∷ xs) p = ending x xs

-- where the first node lies
pub first_or-more : (cs ds : List Cell) (p : Ptr) → 0 < length cs → first_or (cs ++ ds) p ≡ first_or cs p
first_or-more [] ds p h = absurd (omega arith)
first_or-more (x ∷ cs) ds p h = refl

pub first_or-same : (cs : List Cell) (p : Ptr) → first_or cs p ≡ first_or cs (first_or cs p)
first_or-same [] p = refl
first_or-same (x ∷ cs) p = refl

-- where the last node lies
pub last_or-snoc : (cs : List Cell) (c : Cell) (p : Ptr) → last_or (cs ++ c ∷ []) p ≡ c.0
last_or-snoc [] c p = refl
last_or-snoc (x ∷ cs) c p = last_or-snoc cs c x.0

pub last_or-rest : (cs : List Cell) (p t : Ptr) → t ≡ last_or cs p → t ≡ last_or cs t
last_or-rest [] p t e = refl
last_or-rest (x ∷ cs) p t e = e

pub last_or-append : (cs : List Cell) (c : Cell) (ds : List Cell) (p : Ptr) → last_or (cs ++ c ∷ ds) p ≡ last_or ds c.0
last_or-append [] c ds p = refl
last_or-append (x ∷ cs) c ds p = last_or-append cs c ds x.0

-- a chain has as many states as nodes
pub states-length : (cs : List Cell) → length (states_of cs) ≡ length cs
states-length [] = refl
states-length (c ∷ cs) = ap suc (states-length cs)

pub has : (cs : List Cell) → 0 < length (states_of cs) → 0 < length cs
has [] h = h
has (x ∷ cs) h = omega arith

pub has_at : (cs : List Cell) (i : ℕ) → i < length (states_of cs) → i < length cs
has_at [] i h = h
has_at (x ∷ cs) i h = subst (λ n. i < n) (ap suc (states-length cs)) h

pub less : (c : Cell) (cs : List Cell) (i : ℕ) → suc i < length (c ∷ cs) → i < length cs
less c cs i h = omega (arith, h)

-- the node at index i, as it lies in memory
unfoldable pub node_of : (cs : List Cell) (p : Ptr) (i : ℕ) → i < length cs → Node
node_of [] p i h = absurd (omega (arith, h))
node_of (c ∷ cs) p zero h = record c.1 { next = first_or cs p }
node_of (c ∷ cs) p (suc i) h = node_of cs p i (less c cs i h)

-- it has the state at that index
pub node_of-state : (cs : List Cell) (p : Ptr) (i : ℕ) (h : i < length cs) → state_of (node_of cs p i h) ≡ slice_index_or (states_of cs) i (state_of (node_of cs p i h))
unfolding node_of
node_of-state [] p i h = absurd (omega (arith, h))
node_of-state (c ∷ cs) p zero h = refl
node_of-state (c ∷ cs) p (suc i) h = node_of-state cs p i (less c cs i h)

first_or-place : (cs : List Cell) (p q : Ptr) → 0 < length cs → first_or cs p ≡ place_or cs zero q
first_or-place [] p q h = absurd (omega (arith, h))
first_or-place (c ∷ cs) p q h = refl

-- and it points to the place of the next one
pub node_of-next : (cs : List Cell) (p q : Ptr) (i : ℕ) (h : i < length cs) → suc i < length cs → (node_of cs p i h).next ≡ place_or cs (suc i) q
unfolding node_of
node_of-next [] p q i h m = absurd (omega (arith, h))
node_of-next (c ∷ cs) p q zero h m = first_or-place cs p q (less c cs zero m)
node_of-next (c ∷ cs) p q (suc i) h m = node_of-next cs p q i (less c cs i h) (less c cs (suc i) m)

-- the head is the place at index 0
pub head_place : (cs : List Cell) (p q : Ptr) → 0 < length (states_of cs) → p ≡ first_or cs q → p ≡ place_or cs 0 p
head_place [] p q h e = absurd (omega (arith, h))
head_place (c ∷ cs) p q h e = e

last_place : (c : Cell) (cs : List Cell) (p q : Ptr) → last_or cs c.0 ≡ place_or (c ∷ cs) (length cs) q
last_place c [] p q = refl
last_place c (d ∷ cs) p q = last_place d cs p q

last_index : (c : Cell) (cs : List Cell) → length cs ≡ length (states_of (c ∷ cs)) - 1
last_index c cs = omega (arith, states-length cs)

-- the tail is the place at the last index
pub tail_place : (cs : List Cell) (p q : Ptr) → 0 < length (states_of cs) → p ≡ last_or cs q → p ≡ place_or cs (length (states_of cs) - 1) p
tail_place [] p q h e = absurd (omega (arith, h))
tail_place (c ∷ cs) p q h e = e ∙ last_place c cs p p ∙ ap (λ n. place_or (c ∷ cs) n p) (last_index c cs)

pub one_more : (i : ℕ) → suc i ≡ i + 1
one_more i = omega arith
