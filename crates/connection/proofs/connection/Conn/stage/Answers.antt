use Rattle.std.proofs.Common.{◌≡◌, length, ap, subst}
use Rattle.std.specs.Prelude.{OnOk}
use Rattle.chunkqueue.specs.Items.{front_of}
use Rattle.connection.specs.Connection.{Connected}
use Rattle.connection.proofs.Buffers.{third_kept}
use Rattle.connection.proofs.Offering.{offered_on}
use Rattle.connection.proofs.Rests.{staged_within, rests_same}
use Rattle.connection.proofs.connection.Conn.stage.Goals as goal

pub invariant_of-self : goal.invariant_of-self
invariant_of-self g c = record {
  memory = c.self.invariant.memory;
  within = c.self.invariant.within;
  seen = c.self.invariant.seen;
  staged = staged_within c.stage.result c.self.inside.output c.stage.new.self c.stage.ensures.items c.stage.ensures.staged c.stage.ensures.err c.self.invariant.staged;
  rests = rests_same c.self.inside.number c.self.inside.progress c.self.inside.output c.stage.new.self c.self.inside.file c.stage.ensures.items c.self.invariant.rests;
  content = c.self.invariant.content;
  few = c.self.invariant.few;
  empty = c.self.invariant.empty;
}

pub returns-clause-kept : goal.returns-clause-kept
returns-clause-kept g c =
    third_kept c.args.store.now c.stage.new.store c.args.self.now.numbers c.self.inside.input.numbers c.self.inside.body.numbers c.self.inside.output.numbers c.stage.new.self.numbers (ap (λ (x : Connected). x.numbers) c.self.view_is) c.stage.ensures.kept

pub returns-clause-offers : goal.returns-clause-offers
returns-clause-offers g c =
    subst (λ (x : Connected). OnOk c.stage.result (length (front_of c.stage.new.self) ≡ x.offers)) c.self.view_is
    (offered_on c.stage.result c.self.inside.output c.stage.new.self c.stage.ensures.items c.stage.ensures.staged (λ idle. (c.stage.ensures.idle idle).1))
