use Rattle.std.proofs.Common.{List, map, ◌++◌, ap, ◌∙◌}
use Rattle.chunkqueue.specs.Items.{Item, Byte, Contents, items_of}
use Rattle.connection.specs.Connection.{Connected, content_at}
use Rattle.connection.specs.Stages.{is_whole}
use Rattle.connection.proofs.Buffers.{taken_kept}
use Rattle.connection.proofs.Replying.{content_whole}
use Rattle.connection.proofs.connection.Conn.take_body.Goals as goal

pub returns-clause-moved : goal.returns-clause-moved
returns-clause-moved c =
    c.append_all.ensures.items
    ∙ ap (λ (l : List Item). items_of c.args.into.now ++ l)
    (content_whole c.self.inside.number c.self.inside.progress c.self.inside.body c.self.invariant.content (ap (λ (x : Connected). is_whole x.held.stage) c.self.view_is ∙ c.requires.whole)
    ∙ ap (λ (x : Connected). map Byte (content_at x.held.stage)) c.self.view_is)

pub returns-clause-kept : goal.returns-clause-kept
returns-clause-kept c =
    taken_kept c.args.store.now c.append_all.new.store c.args.self.now.numbers c.self.inside.input.numbers c.self.inside.body.numbers c.self.inside.output.numbers c.args.into.now.numbers c.append_all.new.from.numbers
    c.append_all.new.self.numbers (ap (λ (x : Connected). x.numbers) c.self.view_is) c.append_all.ensures.kept (ap (λ (q : Contents). q.numbers) c.append_all.ensures.from)
