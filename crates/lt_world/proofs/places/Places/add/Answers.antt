use Rattle.std.proofs.Common.{◌++◌, ◌∷◌, [], not, ◌∙◌, ap, if◌then◌else◌}
use Rattle.lt_world.specs.Standing.{node_of}
use Rattle.lt_world.specs.PlaceView.{placed_by}
use Rattle.lt_world.proofs.Placing.{placed-push}
use Rattle.lt_world.proofs.places.Places.add.Goals as goal

pub returns-clause-ok : goal.returns-clause-ok
returns-clause-ok c =
    ap placed_by (c.push.ensures.items ∙ ap (λ b. if b then c.self.inside.places.items ++ record { path = c.in_ok-path.path; standing = c.args.standing } ∷ [] else c.self.inside.places.items) (c.is_err.ensures.negation ∙ ap not c.if-is_err.false))
    ∙ placed-push c.self.inside.places.items _ ∙ (λ i. c.self.view_is i ++ record { path = c.in_ok-path.ensures i; node = node_of c.args.standing } ∷ [])
