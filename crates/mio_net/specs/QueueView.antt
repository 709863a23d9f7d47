-- The queue of numbers as contracts see it.
use Rattle.std.specs.Prelude.{◌≡◌, ℕ, ◌+◌, ◌≤◌, List, [], ◌∷◌, Bool, false, if◌then◌else◌, slice_index_or, sum_by, vec_len}
use Rattle.std.specs.VecDeque.{deque_len, deque_capacity}
use Rattle.mio_net.specs.declared.queue.Queue.TheInside.{Inside}
use Rattle.mio_net.specs.Turns.{stands_in}

abbrev pub numbers_of : Inside → List ℕ
numbers_of a = a.numbers.items

abbrev pub spare : Bool → ℕ
spare b = if b then 0 else 1

abbrev pub IsOnce : List ℕ → Type 0
IsOnce [] = Unit {0}
IsOnce (n ∷ ns) = (stands_in n ns ≡ false) × IsOnce ns

-- a number has its flag exactly while it waits, and there is room for each that has none
pub record IsQueue (a : Inside) : Type 0 where
  pub flags : vec_len a.waits ≡ 8193
  pub same : (n : ℕ) → slice_index_or a.waits.items n false ≡ stands_in n a.numbers.items
  pub once : IsOnce a.numbers.items
  pub room : deque_len a.numbers + sum_by spare a.waits.items ≤ 8193
  pub reserved : 8193 ≤ deque_capacity a.numbers
