use Rattle.std.proofs.Common.{◌≡◌, ℕ, List, ◌++◌, map, ap, sym, ◌∙◌, subst}
use Rattle.chunkqueue.specs.Items.{Byte, Contents, items_of}
use Rattle.fcgi_records.specs.Feeding.{bytes_of}
use Rattle.fcgi_records.specs.States.{answer_from}
use Rattle.fcgi_records.specs.Reading.{state_after, stdout_in}
use Rattle.fcgi_gateway.proofs.Fed.{pushed, pushed_memory, pushed_bytes, gained_memory, gained_bytes, told_is, fed_kept}
use Rattle.fcgi_gateway.proofs.hearing.feed.Goals as goal

pub feed-answered-requires-clause-memory : goal.feed-answered-requires-clause-memory
feed-answered-requires-clause-memory c = pushed_memory c.push_bytes.new.self c.args.bytes.now (pushed c.new-input.result c.push_bytes.new.self c.args.bytes.now c.new-input.ensures.empty c.in-Ok.ensures.ok)

pub returns-in-Ok-told-clause-answer : goal.returns-in-Ok-told-clause-answer
returns-in-Ok-told-clause-answer c =
    c.in-Ok-told.ensures.same ∙ told_is c.feed-answered.result _ c.in-Ok-told.ensures.told c.feed-answered.ensures.answer
    ∙ ap (λ (l : List ℕ). answer_from (state_after c.args.reader.now l)) (pushed_bytes c.push_bytes.new.self c.args.bytes.now (pushed c.new-input.result c.push_bytes.new.self c.args.bytes.now c.new-input.ensures.empty c.in-Ok.ensures.ok))

pub returns-in-Ok-told-clause-stands : goal.returns-in-Ok-told-clause-stands
returns-in-Ok-told-clause-stands c =
    told_is c.feed-answered.result _ c.in-Ok-told.ensures.told c.feed-answered.ensures.stands
    ∙ ap (state_after c.args.reader.now) (pushed_bytes c.push_bytes.new.self c.args.bytes.now (pushed c.new-input.result c.push_bytes.new.self c.args.bytes.now c.new-input.ensures.empty c.in-Ok.ensures.ok))

pub returns-in-Ok-told-clause-stdout : goal.returns-in-Ok-told-clause-stdout
returns-in-Ok-told-clause-stdout c =
    gained_bytes c.args.out.now c.feed-answered.new.out (stdout_in c.args.reader.now (bytes_of c.push_bytes.new.self)) c.requires.memory (told_is c.feed-answered.result _ c.in-Ok-told.ensures.told c.feed-answered.ensures.stdout)
    ∙ ap (λ (l : List ℕ). bytes_of c.args.out.now ++ stdout_in c.args.reader.now l) (pushed_bytes c.push_bytes.new.self c.args.bytes.now (pushed c.new-input.result c.push_bytes.new.self c.args.bytes.now c.new-input.ensures.empty c.in-Ok.ensures.ok))

pub returns-in-Ok-told-clause-memory : goal.returns-in-Ok-told-clause-memory
returns-in-Ok-told-clause-memory c = gained_memory c.args.out.now c.feed-answered.new.out c.feed-answered.ensures.takes.moved c.requires.memory c.feed-answered.ensures.takes.gained

pub returns-in-Err-told-clause-memory : goal.returns-in-Err-told-clause-memory
returns-in-Err-told-clause-memory c = gained_memory c.args.out.now c.feed-answered.new.out c.feed-answered.ensures.takes.moved c.requires.memory c.feed-answered.ensures.takes.gained

pub returns-in-Ok-told-clause-kept : goal.returns-in-Ok-told-clause-kept
returns-in-Ok-told-clause-kept c =
    fed_kept c.args.store.now c.push_bytes.new.store c.feed-answered.new.store c.close-2.new.store c.args.out.now.numbers c.new-input.result.numbers c.push_bytes.new.self.numbers c.feed-answered.new.out.numbers c.feed-answered.new.input.numbers
    (ap (λ (q : Contents). q.numbers) c.new-input.ensures.empty) c.push_bytes.ensures.kept c.feed-answered.ensures.kept c.close-2.ensures.kept

pub returns-in-Err-told-clause-kept : goal.returns-in-Err-told-clause-kept
returns-in-Err-told-clause-kept c =
    fed_kept c.args.store.now c.push_bytes.new.store c.feed-answered.new.store c.close-2.new.store c.args.out.now.numbers c.new-input.result.numbers c.push_bytes.new.self.numbers c.feed-answered.new.out.numbers c.feed-answered.new.input.numbers
    (ap (λ (q : Contents). q.numbers) c.new-input.ensures.empty) c.push_bytes.ensures.kept c.feed-answered.ensures.kept c.close-2.ensures.kept
