use Rattle.std.proofs.Common.{ap, sym, ◌∙◌, position}
use Rattle.conf_value.specs.Joining.{has_key}
use Rattle.conf_value.specs.Places.{place_in}
use Rattle.conf_value.proofs.Placing.{grown, on_ok, stays}
use Rattle.conf_value.proofs.array.add_by.Goals as goal

pub returns-in-Some-clause-places : goal.returns-in-Some-clause-places
returns-in-Some-clause-places c = λ q.
    stays c.args.pairs.now c.args.pair (place_in c.args.places.now) c.in-Some.place c.requires (sym c.in-Some.ensures) q ∙ ap (position (has_key q)) (sym c.replace-first.ensures.rest)

pub returns-in_ok-note-in-None-clause-places : goal.returns-in_ok-note-in-None-clause-places
returns-in_ok-note-in-None-clause-places c = on_ok c.push.result
    (λ e q. grown c.args.pairs.now c.args.pair (place_in c.args.places.now) (place_in c.note.new.self) c.len.result c.len.ensures c.requires c.in_ok-note-in-None.ensures q ∙ ap (position (has_key q)) (sym e))
    c.push.ensures.ok
