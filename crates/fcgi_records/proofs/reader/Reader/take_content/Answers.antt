use Rattle.std.proofs.Common.{◌≡◌, false, ap, ◌∙◌, subst, arith}
use Rattle.fcgi_records.specs.States.{is_broken, is_framing}
use Rattle.fcgi_records.specs.Feeding.{Takes}
use Rattle.fcgi_records.proofs.FeedingLemmas.{content_next, content_takes, takes_same}
use Rattle.fcgi_records.proofs.reader.Reader.take_content.Goals as goal

pub returns-in-Ok-clause-takes : goal.returns-in-Ok-clause-takes
returns-in-Ok-clause-takes c =
    let at : c.self.inside.state ≡ c.args.self.now = c.self.view_is in
    let open_is : is_broken c.self.inside.state ≡ false = ap is_broken at ∙ c.requires.open in
    let line_is : is_framing c.self.inside.state ≡ false = ap is_framing at ∙ c.requires.framing in
    subst (λ s. Takes s c.args.input.now c.args.out.now c.without-self-inside.result c.steal.new.from c.steal.new.self) c.self.view_is
    (content_takes c.self.inside.state c.without-self-inside.result c.args.input.now c.args.out.now c.steal.new.from c.steal.new.self c.min-n.result c.requires.memory
    (content_next c.self.inside.state open_is line_is c.self.invariant) (omega (arith, c.min-n.ensures, c.left.ensures)) (omega (arith, c.min-n.ensures, c.len.ensures.count))
    c.without-self-inside.ensures.next c.in-Ok.ensures.items c.in-Ok.ensures.from)

pub returns-in-Err-clause-takes : goal.returns-in-Err-clause-takes
returns-in-Err-clause-takes c = takes_same c.args.self.now c.args.input.now c.args.out.now c.steal.new.from c.steal.new.self c.in-Err.ensures.err.0 c.in-Err.ensures.err.1
