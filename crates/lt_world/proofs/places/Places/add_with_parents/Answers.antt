use Rattle.std.proofs.Common.{◌∙◌, ap}
use Rattle.lt_world.specs.Memory.{tree_by, with_node}
use Rattle.lt_world.specs.Standing.{node_of}
use Rattle.lt_world.proofs.Placing.{tree-push}
use Rattle.lt_world.proofs.Results.{on_ok}
use Rattle.lt_world.proofs.places.Places.add_with_parents.Goals as goal

pub returns-clause-ok : goal.returns-clause-ok
returns-clause-ok c = on_ok c.add.result c.add.ensures.ok (λ added. ap tree_by added ∙ tree-push c.add_parents.new.self c.args.path.now (node_of c.args.standing) ∙ ap (with_node c.args.path.now (node_of c.args.standing)) c.in_ok-add_parents.ensures.ok)
