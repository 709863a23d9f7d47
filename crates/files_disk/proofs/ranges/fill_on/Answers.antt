use Rattle.std.proofs.Common.{ap, ◌∙◌, take, drop}
use Rattle.files_disk.proofs.Filling.{filled_on}
use Rattle.files_disk.proofs.ranges.fill_on.Goals as goal

pub returns-in-Ok-clause-front : goal.returns-in-Ok-clause-front
returns-in-Ok-clause-front g c told front =
    let given = c.in-Ok.ensures.bytes told in
    let there = c.in-Ok.ensures.within in
    let at = c.in-Some.ensures in
    let bytes = g.F.ReadAt.bytes c.args.file.now in
    filled_on c.args.filled c.in-Ok.n c.args.start c.args.buf.now c.read_at.new.buf _ bytes c.requires there.0 front
    (given.next ∙ ap (λ start. take c.in-Ok.n (drop start bytes)) at.1)
