use Rattle.std.proofs.Common.{◌≡◌, ◌<◌, nat_lt, true, ap, sym, ◌∙◌, arith}
use Rattle.std.proofs.lemmas.Bool.Decides.{nat_tests}
use Rattle.chunkqueue.specs.Items.{items_of, memory_front}
use Rattle.connection.specs.Connection.{Connected}
use Rattle.connection.specs.Stages.{feeds}
use Rattle.connection.specs.declared.progress.Progress.TheVariants as progress
use Rattle.connection.proofs.Feeding.{feeds_some}
use Rattle.connection.proofs.connection.Conn.feeds.Goals as goal

pub returns-then-len-gt0 : goal.returns-then-len-gt0
returns-then-len-gt0 c =
    let some : 0 < c.len.result = omega (arith, c.if-len-gt0.true) in
    let is : c.self.inside.progress ≡ progress.Taking c.in-Taking.field-0 c.in-Taking.body = cc c.in-Taking.is in
    let yes : nat_lt 0 c.len.result ≡ true = grind (arith, nat_tests, some) in
    yes
    ∙ sym (feeds_some c.self.inside.number c.self.inside.progress c.in-Taking.field-0 c.in-Taking.body c.self.inside.input (memory_front (items_of c.self.inside.body)) is c.self.invariant.memory (omega (arith, some, c.len.ensures.count)))
    ∙ ap (λ (x : Connected). feeds x.held) c.self.view_is
