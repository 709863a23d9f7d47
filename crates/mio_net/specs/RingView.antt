-- The ring of marks as contracts see it.
use Rattle.std.specs.Prelude.{◌≡◌, vec_len}
use Rattle.mio_net.specs.declared.ring.Ring.TheInside.{Inside}
use Rattle.mio_net.specs.Turns.{Turns}

abbrev pub turns_of : Inside → Turns
turns_of a = record { marks = a.marked.items; waiting = a.queue }

pub record IsRing (a : Inside) : Type 0 where
  pub all : vec_len a.marked ≡ 8193
