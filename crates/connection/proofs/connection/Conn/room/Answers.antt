use Rattle.std.proofs.Common.{ap, ◌∙◌, sym}
use Rattle.chunkqueue.specs.Items.{items_of}
use Rattle.server_model.specs.Steps.{is_read_at}
use Rattle.connection.specs.Connection.{Connected}
use Rattle.connection.specs.Inside.{connected_of}
use Rattle.connection.proofs.Memory.{front_length}
use Rattle.connection.proofs.Rests.{room_is}
use Rattle.connection.proofs.connection.Conn.room.Goals as goal

pub returns-then-not-self : goal.returns-then-not-self
returns-then-not-self c = record {
  room = room_is (connected_of c.self.inside).held c.args.self.now.held c.len.result (ap (λ (x : Connected). x.held) c.self.view_is) (ap (λ (x : Connected). is_read_at x.held.stage) c.self.view_is ∙ sym c.reads.ensures ∙ c.if-reads.true) c.if-not-self.true
      (front_length (items_of c.self.inside.input) c.self.invariant.memory ∙ sym c.len.ensures.count);
}
