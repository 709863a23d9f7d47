-- The places of clients.
use Rattle.std.specs.Prelude.{◌≡◌, ℕ, ◌+◌, ◌≤◌, List, [], ◌∷◌, length}
use Rattle.connection.specs.Connection.{Connected}
use Rattle.server_model.specs.Due.{connection_limit}

-- no buffer is held in a place that no client has
abbrev pub AllFree : List Connected → Type 0
AllFree [] = Unit {0}
AllFree (c ∷ places) = (c.numbers ≡ []) × AllFree places

-- the clients and the places that are free are as many as clients may be open, and each list has room for so many
pub record ArePlaces (clients places : List Connected) (clients_room places_room : ℕ) : Type 0 where
  pub all : length clients + length places ≡ connection_limit
  pub clients_fit : connection_limit ≤ clients_room
  pub places_fit : connection_limit ≤ places_room
  pub free : AllFree places
