-- What a client's own deeds tell beside its requests: where it came from, which no later act changes.
use Rattle.std.proofs.Common.{◌≡◌, List, [], ◌∷◌, false, Some, refl}
use Rattle.lt_world.specs.declared.net.Address.{Address}
use Rattle.lt_world.specs.Trace.{Act, Accepted, Readable, Writable, Read, ReadEnd, NotYet, Failed, Wrote, Connect, Close}
use Rattle.server_model.specs.Deeds.{Deed, Ours, ours}
use Rattle.server_model.specs.Client.{CameFrom}
use Rattle.server_model.specs.World.{Side, side_after, side_of, is_arrival}

-- an act that isn't an arrival tells nothing of it
pub side_stays : (act : Act) (side : Side) → is_arrival act ≡ false → side_after act side ≡ side
side_stays (Accepted peer local) side isnt = absurd (cc (isnt))
side_stays Readable side isnt = refl
side_stays Writable side isnt = refl
side_stays (Read asked bytes) side isnt = refl
side_stays ReadEnd side isnt = refl
side_stays (NotYet way) side isnt = refl
side_stays (Failed way) side isnt = refl
side_stays (Wrote offered bytes) side isnt = refl
side_stays (Connect owner to link) side isnt = refl
side_stays (Close e) side isnt = refl

-- a client that came so tells so
pub came_side : (peer local : Address) (deeds : List Deed) → CameFrom peer local (ours deeds) → (side_of deeds).arrival ≡ Some (record { peer = peer; local = local })
came_side peer local [] came = absurd came
came_side peer local (Ours act ∷ deeds) came = by (came_side peer local deeds) act came
  where
    by : (CameFrom peer local (ours deeds) → (side_of deeds).arrival ≡ Some (record { peer = peer; local = local })) → (a : Act) → CameFrom peer local (a ∷ ours deeds)
        → (side_after a (side_of deeds)).arrival ≡ Some (record { peer = peer; local = local })
    by rest (Accepted from to) c = (λ i. Some (record { peer = c.0 i; local = c.1 i }))
    by rest Readable c = rest c
    by rest Writable c = rest c
    by rest (Read asked bytes) c = rest c
    by rest ReadEnd c = rest c
    by rest (NotYet way) c = rest c
    by rest (Failed way) c = rest c
    by rest (Wrote offered bytes) c = rest c
    by rest (Connect owner to link) c = rest c
    by rest (Close e) c = rest c
