use Rattle.std.proofs.Common.{arith, ◌∙◌}
use Rattle.chunkqueue.proofs.Cutting.{IfOk-map, part_whole, part_inside, place_whole}
use Rattle.chunkqueue.proofs.stealing.split.Goals as goal

pub returns-then-left-eq0-clause-ok : goal.returns-then-left-eq0-clause-ok
returns-then-left-eq0-clause-ok c =
    part_whole c.args.list.now c.replace.result c.replace.new.dest c.args.n _ _ c.place_of-count.ensures.place c.requires.held c.requires.first c.requires.some c.if-left-eq0.true
    (c.replace.ensures.value ∙ c.in-Ok.ensures.items) (c.replace.ensures.after ∙ c.in-Ok.ensures.tail)

pub returns-clause-ok : goal.returns-clause-ok
returns-clause-ok c =
    IfOk-map c.cut.result
    (λ front made. part_inside c.args.list.now c.split_off.new.self c.in-Ok.rest front c.cut.new.list c.args.n _ _ c.place_of-count.ensures.place c.requires.held c.requires.first (omega arith) c.in-Ok.ensures.items c.in-Ok.ensures.tail made.0 made.1)
    c.cut.ensures.ok

pub returns-clause-whole : goal.returns-clause-whole
returns-clause-whole c = λ all. absurd (place_whole c.args.list.now c.args.n _ _ c.place_of-count.ensures.place all (omega arith))
