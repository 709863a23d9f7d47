-- For proofs alone: what is kept for one link.
use Rattle.std.specs.Prelude.{◌-◌, ◌≤◌, length, is_none, vec_len, vec_capacity}
use Rattle.script_net.specs.declared.port.Port.TheInside.{Inside}
use Rattle.script_net.specs.PortView.{PortView}

-- the fields as what they keep
abbrev pub kept_of : Inside → PortView
kept_of a = record {
  side = record { is_open = is_none a.ending; given = a.given.items; seen = a.seen; ended = a.ended; reads_fail = a.reads_fail; writes_fail = a.writes_fail };
  taken = a.taken.items;
  ending = a.ending;
  room = vec_capacity a.taken - vec_len a.taken;
}

-- no more was read than was given
abbrev pub IsPort : Inside → Type 0
IsPort a = a.seen ≤ length a.given.items
