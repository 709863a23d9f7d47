-- What a net has answered, the newest answer first (src/net.rt, the trait `Net`).
use Rattle.std.specs.Prelude.{◌≡◌, ℕ, ◌+◌, max, List, [], ◌∷◌, ◌++◌, Bool, true, false, Option, Some, if◌then◌else◌, ◌==◌}
use Rattle.lt_world.specs.declared.net.Address.{Address}
use Rattle.lt_world.specs.declared.net.Owner.{Owner}
use Rattle.lt_world.specs.declared.net.Ending.{Ending}

-- which way bytes were to go
pub data Way : Type 0 where
  Reading : Way
  Writing : Way

-- what was done on one link
pub data Act : Type 0 where
  -- a client arrived: the peer's address, the local one
  Accepted : Address → Address → Act
  Readable : Act
  Writable : Act
  -- how many bytes were asked for, and those that came
  Read : ℕ → List ℕ → Act
  ReadEnd : Act
  -- a read gave nothing, or a write took nothing
  NotYet : Way → Act
  -- a read or a write failed
  Failed : Way → Act
  -- how many bytes were offered, and those that were taken
  Wrote : ℕ → List ℕ → Act
  -- a link to a gateway was asked for, on the client's side: for which request, where to, and which link came
  Connect : Owner → Address → Option ℕ → Act
  Close : Ending → Act

-- an act, and the number of its link
pub record Entry : Type 0 where
  pub link : ℕ
  pub act : Act

-- these acts of one link, the newest first, on top of a trace
abbrev pub said : ℕ → List Act → List Entry → List Entry
said link [] trace = trace
said link (act ∷ acts) trace = record { link = link; act = act } ∷ said link acts trace

-- the acts of one link in a trace
abbrev pub own : ℕ → List Entry → List Act
own link [] = []
own link (entry ∷ trace) = if entry.link == link then entry.act ∷ own link trace else own link trace

-- the act gave this link
abbrev pub dials : Act → ℕ → Bool
dials (Connect owner to (Some dialled)) link = dialled == link
dials act link = false

-- a link of this number has come before
abbrev pub names : ℕ → List Entry → Bool
names link [] = false
names link (entry ∷ trace) = if entry.link == link then true else if dials entry.act link then true else names link trace

-- whose link it is: that of the client for which it was dialled, else its own
abbrev pub client_of : ℕ → List Entry → ℕ
client_of link [] = link
client_of link (entry ∷ trace) = if dials entry.act link then entry.link else client_of link trace

-- the entries of a client's own link and of the links that were dialled for it
abbrev pub entries_of : ℕ → List Entry → List Entry
entries_of client [] = []
entries_of client (entry ∷ trace) = if client_of entry.link trace == client then entry ∷ entries_of client trace else entries_of client trace

-- above the link that an act gave
abbrev pub dial_bound : Act → ℕ
dial_bound (Connect owner to (Some dialled)) = dialled + 1
dial_bound act = 0

-- above each link that a trace names
abbrev pub link_bound : List Entry → ℕ
link_bound [] = 0
link_bound (entry ∷ trace) = max (max (entry.link + 1) (dial_bound entry.act)) (link_bound trace)

-- nothing that was told is taken back
abbrev pub Extends : List Entry → List Entry → Type 0
Extends before after = (more : List Entry) × (after ≡ more ++ before)
