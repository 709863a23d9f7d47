use Rattle.std.proofs.Common.{◌∙◌, arith}
use Rattle.regex.specs.Locations.{location}
use Rattle.conditions.specs.Groups.{text_of}
use Rattle.conditions.proofs.Keeping.{one_more, all_copied}
use Rattle.conditions.proofs.kept.groups_at.Goals as goal

pub loop-n-preserved : goal.loop-n-preserved
loop-n-preserved c =
    one_more c.loop-n.groups c.push-in-loop-n.new.self c.args.whole.now c.in_ok-from_bytes-2.field-0
    (λ n. text_of c.args.hay.now (location c.args.places.now n)) c.loop-n.n (omega arith) c.in_ok-push-2.ensures.ok c.loop-n.invariant
    (c.in_ok-from_bytes-2.ensures ∙ c.text_at.ensures)

pub returns : goal.returns
returns c =
    all_copied c.loop-n.groups c.args.whole.now (λ n. text_of c.args.hay.now (location c.args.places.now n)) c.loop-n.n (omega arith) c.loop-n.invariant
