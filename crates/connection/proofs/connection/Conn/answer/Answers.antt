use Rattle.std.proofs.Common.{◌≡◌, ℕ, List, length, map, ◌++◌, append_assoc, ap, sym, ◌∙◌, arith}
use Rattle.chunkqueue.specs.Items.{Item, Byte, Contents, items_of, count_of, memory_front}
use Rattle.server_model.specs.Held.{Answering}
use Rattle.server_model.specs.Steps.{answered, number_of, is_in_memory}
use Rattle.connection.specs.Connection.{Connected, file_number}
use Rattle.connection.specs.Inside.{connected_of, stage_by}
use Rattle.connection.proofs.Buffers.{answer_kept}
use Rattle.connection.proofs.Replying.{number_by, replied, Replied, not_none}
use Rattle.connection.proofs.connection.Conn.answer.Goals as goal

pub invariant_of-self-2 : goal.invariant_of-self-2
invariant_of-self-2 c =
    let r : Replied c.self.inside.output c.append_all.new.self =
    replied c.self.inside.output c.push_bytes.new.self c.args.body.now c.append_all.new.self c.args.head.now c.requires.some c.in_ok-push_bytes.ensures.ok c.push_bytes.ensures.staged c.append_all.ensures.items
    c.append_all.ensures.staged in
    let none : count_of c.empty_into.new.self ≡ 0 = ap count_of c.empty_into.ensures.empty in
    record {
      memory = c.self.invariant.memory;
      within = c.self.invariant.within;
      seen = tt;
      staged = omega (arith, ap (λ (l : List ℕ). length l) r.staged, r.more, c.self.invariant.staged);
      rests = (
        (λ gone. absurd (not_none c.append_all.new.self r.some gone)),
        (λ follows. omega (arith, number_by c.self.inside.number c.self.inside.progress (memory_front (items_of c.self.inside.body)), ap (λ (x : Connected). number_of x.held.stage) c.self.view_is, c.requires.number follows)),
      );
      content = ap (λ (q : Contents). is_in_memory (items_of q)) c.empty_into.ensures.empty;
      few = omega (arith, none);
      empty = ap items_of c.empty_into.ensures.empty;
    }

pub returns-clause-ok : goal.returns-clause-ok
returns-clause-ok c =
    let r : Replied c.self.inside.output c.append_all.new.self =
    replied c.self.inside.output c.push_bytes.new.self c.args.body.now c.append_all.new.self c.args.head.now c.requires.some c.in_ok-push_bytes.ensures.ok c.push_bytes.ensures.staged c.append_all.ensures.items
    c.append_all.ensures.staged in
    let number : c.self.inside.number ≡ number_of (stage_by c.self.inside.number c.self.inside.progress (memory_front (items_of c.self.inside.body))) =
    sym (number_by c.self.inside.number c.self.inside.progress (memory_front (items_of c.self.inside.body))) in
    let owed : items_of c.append_all.new.self ≡ items_of c.self.inside.output ++ (map Byte c.args.head.now ++ items_of c.args.body.now) =
    c.append_all.ensures.items ∙ ap (λ (l : List Item). l ++ items_of c.args.body.now) c.in_ok-push_bytes.ensures.ok ∙ append_assoc (items_of c.self.inside.output) (map Byte c.args.head.now) (items_of c.args.body.now) in
    (λ i. record (connected_of c.self.inside).held { stage = Answering (number i) c.args.last; owed = owed i; staged = r.staged i; file = file_number c.args.file })
    ∙ ap (λ (x : Connected). answered x.held (map Byte c.args.head.now ++ items_of c.args.body.now) (file_number c.args.file) c.args.last) c.self.view_is

pub returns-clause-kept : goal.returns-clause-kept
returns-clause-kept c =
    answer_kept c.args.store.now c.push_bytes.new.store c.append_all.new.store c.empty_into.new.store c.args.self.now.numbers c.self.inside.input.numbers c.self.inside.body.numbers c.self.inside.output.numbers c.args.body.now.numbers
    c.push_bytes.new.self.numbers c.append_all.new.self.numbers c.append_all.new.from.numbers c.empty_into.new.self.numbers (ap (λ (x : Connected). x.numbers) c.self.view_is) c.push_bytes.ensures.kept c.append_all.ensures.kept
    (ap (λ (q : Contents). q.numbers) c.append_all.ensures.from) c.empty_into.ensures.kept (ap (λ (q : Contents). q.numbers) c.empty_into.ensures.empty)
