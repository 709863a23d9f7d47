use Rattle.std.proofs.Common.{◌≡◌, ◌<◌, ◌-◌, ◌^◌, true, refl, ap, sym, subst, ◌∙◌, arith}
use Rattle.chunkqueue.specs.Items.{items_of, count_of, memory_front}
use Rattle.connection.specs.Connection.{Connected}
use Rattle.connection.specs.Inside.{connected_of, stage_by, IsAt, IsContentAt, IsSeen}
use Rattle.connection.specs.Progress.{progress_after, has_memory}
use Rattle.connection.specs.declared.progress.Progress.{Progress}
use Rattle.connection.specs.declared.progress.Progress.TheVariants as progress
use Rattle.connection.proofs.Buffers.{fed_kept}
use Rattle.connection.proofs.Memory.{fills_less}
use Rattle.connection.proofs.Feeding.{all_in, if_ok, fed_held, fed_rests, fed_empty, fed_seen, fed_queues}
use Rattle.connection.proofs.connection.Conn.feed.Goals as goal

pub feed-answer-requires-clause-memory : goal.feed-answer-requires-clause-memory
feed-answer-requires-clause-memory c = all_in (items_of c.self.inside.input) c.self.invariant.memory

pub invariant_of-self-2 : goal.invariant_of-self-2
invariant_of-self-2 c =
    let head = c.in-Taking.field-0 in
    let s = c.feed-answer.new.self in
    let is : c.self.inside.progress ≡ progress.Taking head c.in-Taking.body = cc c.in-Taking.is in
    let was : c.replace.result ≡ progress.Taking head s = cc c.replace.ensures.value in
    let now : c.after.result ≡ progress_after (progress.Taking head s) c.feed-answer.result = c.after.ensures ∙ ap (λ (p : Progress). progress_after p c.feed-answer.result) was in
    let few : count_of c.self.inside.body < 2 ^ 62 - 65536 = omega (arith, c.if-len-ge-CONTENT_LIMIT.false, c.len.ensures.count) in
    let q = fed_queues c.in-Taking.body s c.self.inside.input c.self.inside.body c.feed-answer.new.input c.feed-answer.new.body c.feed-answer.ensures.takes c.self.invariant.memory c.self.invariant.within c.self.invariant.content
    (omega (arith, few)) in
    record {
      memory = q.memory;
      within = q.within;
      seen = subst (λ (p : Progress). IsSeen p c.feed-answer.new.input) (sym now) (fed_seen head s c.feed-answer.result c.feed-answer.new.input);
      staged = c.self.invariant.staged;
      rests = subst (λ (p : Progress). IsAt c.self.inside.number p c.self.inside.output c.self.inside.file) (sym now)
          (fed_rests c.self.inside.number head c.in-Taking.body s c.feed-answer.result c.self.inside.output c.self.inside.file
          (subst (λ (p : Progress). IsAt c.self.inside.number p c.self.inside.output c.self.inside.file) is c.self.invariant.rests));
      content = q.content;
      few = q.few;
      empty = subst (λ (p : Progress). IsContentAt p c.feed-answer.new.body) (sym now) (fed_empty head s c.feed-answer.result c.feed-answer.new.body);
    }

pub returns-clause-ok : goal.returns-clause-ok
returns-clause-ok c =
    let head = c.in-Taking.field-0 in
    let s = c.feed-answer.new.self in
    let is : c.self.inside.progress ≡ progress.Taking head c.in-Taking.body = cc c.in-Taking.is in
    let was : c.replace.result ≡ progress.Taking head s = cc c.replace.ensures.value in
    let now : c.after.result ≡ progress_after (progress.Taking head s) c.feed-answer.result = c.after.ensures ∙ ap (λ (p : Progress). progress_after p c.feed-answer.result) was in
    if_ok c.with_memory.result (has_memory c.feed-answer.result ≡ true) _ c.with_memory.ensures
    (λ had.
    ap (λ (p : Progress). record (connected_of c.self.inside).held { stage = stage_by c.self.inside.number p (memory_front (items_of c.feed-answer.new.body)); input = memory_front (items_of c.feed-answer.new.input) }) now
    ∙ fed_held (connected_of c.self.inside).held c.args.self.now.held c.self.inside.number head c.in-Taking.body s c.self.inside.input c.self.inside.body c.feed-answer.new.input c.feed-answer.new.body c.feed-answer.result
    (ap (λ (x : Connected). x.held) c.self.view_is) (ap (λ (p : Progress). stage_by c.self.inside.number p (memory_front (items_of c.self.inside.body))) is) refl c.self.invariant.memory c.self.invariant.content
    c.feed-answer.ensures.answer c.feed-answer.ensures.stands c.feed-answer.ensures.data c.feed-answer.ensures.rest had)

pub returns-clause-filled : goal.returns-clause-filled
returns-clause-filled c =
    let few : count_of c.self.inside.body < 2 ^ 62 - 65536 = omega (arith, c.if-len-ge-CONTENT_LIMIT.false, c.len.ensures.count) in
    let q = fed_queues c.in-Taking.body c.feed-answer.new.self c.self.inside.input c.self.inside.body c.feed-answer.new.input c.feed-answer.new.body c.feed-answer.ensures.takes c.self.invariant.memory c.self.invariant.within c.self.invariant.content
    (omega (arith, few)) in
    fills_less c.args.store.now.filled c.feed-answer.new.store.filled c.args.self.now.held.input c.self.inside.input c.feed-answer.new.input (ap (λ (x : Connected). x.held.input) c.self.view_is) c.self.invariant.memory q.memory
    c.feed-answer.ensures.filled

pub returns-clause-kept : goal.returns-clause-kept
returns-clause-kept c =
    fed_kept c.args.store.now c.feed-answer.new.store c.args.self.now.numbers c.self.inside.input.numbers c.self.inside.body.numbers c.self.inside.output.numbers c.feed-answer.new.input.numbers c.feed-answer.new.body.numbers
    (ap (λ (x : Connected). x.numbers) c.self.view_is) c.feed-answer.ensures.kept
