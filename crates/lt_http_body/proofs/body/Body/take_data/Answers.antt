use Rattle.std.proofs.Common.{◌≡◌, false, ap, ◌∙◌, subst, arith}
use Rattle.lt_http_body.specs.Standings.{is_over, is_in_line}
use Rattle.lt_http_body.specs.Feeding.{Takes}
use Rattle.lt_http_body.proofs.FeedingLemmas.{data_next, data_takes, takes_same}
use Rattle.lt_http_body.proofs.body.Body.take_data.Goals as goal

pub returns-in-Ok-clause-takes : goal.returns-in-Ok-clause-takes
returns-in-Ok-clause-takes c =
    let at : c.self.inside.standing ≡ c.args.self.now = c.self.view_is in
    let open_is : is_over c.self.inside.standing.state ≡ false = ap (λ s. is_over s.state) at ∙ c.requires.open in
    let line_is : is_in_line c.self.inside.standing.state ≡ false = ap (λ s. is_in_line s.state) at ∙ c.requires.line in
    subst (λ s. Takes s c.args.input.now c.args.body.now c.without-self-inside.result c.steal.new.from c.steal.new.self) c.self.view_is
    (data_takes c.self.inside.standing c.without-self-inside.result c.args.input.now c.args.body.now c.steal.new.from c.steal.new.self c.min-n.result c.requires.memory
    (data_next c.self.inside.standing.state open_is line_is c.self.invariant) (omega (arith, c.min-n.ensures, c.left.ensures)) (omega (arith, c.min-n.ensures, c.len.ensures.count))
    c.without-self-inside.ensures.next c.in-Ok.ensures.items c.in-Ok.ensures.from)

pub returns-in-Err-clause-takes : goal.returns-in-Err-clause-takes
returns-in-Err-clause-takes c = takes_same c.args.self.now c.args.input.now c.args.body.now c.steal.new.from c.steal.new.self c.in-Err.ensures.err.0 c.in-Err.ensures.err.1
