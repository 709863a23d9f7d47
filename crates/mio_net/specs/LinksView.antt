-- The open links as contracts see them.
use Rattle.std.specs.Prelude.{◌≡◌, ℕ, ◌<◌, ◌≤◌, ◌^◌, Some, None, slice_index_or, sum_by, vec_len}
use Rattle.mio_net.specs.declared.links.Places.TheInside.{Inside}
use Rattle.mio_net.specs.Links.{Links, one}

abbrev pub links_of : Inside → Links
links_of a = record { places = a.places.items; next = a.next }

-- a link stands at its place and is below the next number, and open links are counted
pub record AreLinks (a : Inside) : Type 0 where
  pub all : vec_len a.places ≡ 4096
  pub below : (place number : ℕ) → slice_index_or a.places.items place None ≡ Some number → number < a.next
  pub counted : a.open ≡ sum_by one a.places.items
  pub fits : a.next ≤ 2 ^ 32
