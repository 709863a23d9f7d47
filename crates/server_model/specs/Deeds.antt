-- What was done for one client, the newest first: its own part of a trace.
use Rattle.std.specs.Prelude.{◌≡◌, ℕ, List, [], ◌∷◌, Bool, true, false, ◌&&◌, ◌==◌, if◌then◌else◌}
use Rattle.lt_world.specs.Acts.{is_deed}
use Rattle.lt_world.specs.Trace.{Act, Entry, Readable, Writable}

pub data Deed : Type 0 where
  -- on its own link
  Ours : Act → Deed

abbrev pub own : ℕ → List Entry → List Deed
own client [] = []
own client (entry ∷ trace) = if is_deed entry.act && entry.link == client then Ours entry.act ∷ own client trace else own client trace

-- the acts of its own link
abbrev pub ours : List Deed → List Act
ours [] = []
ours (Ours act ∷ deeds) = act ∷ ours deeds

-- these deeds of a client, on top of a trace
abbrev pub told : ℕ → List Deed → List Entry → List Entry
told client [] trace = trace
told client (Ours act ∷ deeds) trace = record { link = client; act = act } ∷ told client deeds trace

abbrev pub AreDeeds : List Deed → Type 0
AreDeeds [] = Unit {0}
AreDeeds (Ours act ∷ deeds) = (is_deed act ≡ true) × AreDeeds deeds

-- the deeds among the acts of a link
abbrev pub deeds_in : List Act → List Deed
deeds_in [] = []
deeds_in (act ∷ acts) = if is_deed act then Ours act ∷ deeds_in acts else deeds_in acts
