-- The connection of a client of the table.
use Rattle.std.specs.Borrow.{Lends, MutBor, Fml}
use Rattle.connection.specs.Connection.{Connected}
use Rattle.connection.specs.contracts.connection.Conn as conn
use Rattle.server_core.specs.contracts.client.Client.{the_row}

abbrev pub LendsConn : MutBor Connected → MutBor Connected → Fml
LendsConn client result = Lends the_row conn.the_row client result (λ (c : Connected). c)
