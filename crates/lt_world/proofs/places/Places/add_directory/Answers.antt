use Rattle.std.proofs.Common.{sym, ◌∙◌, ap}
use Rattle.lt_world.specs.Disk.{Directory}
use Rattle.lt_world.specs.Memory.{tree_by}
use Rattle.lt_world.specs.Standing.{node_of}
use Rattle.lt_world.proofs.Placing.{tree-again, tree-push}
use Rattle.lt_world.proofs.Results.{on_ok}
use Rattle.lt_world.proofs.places.Places.add_directory.Goals as goal

pub returns-in-Some-Directory-clause-ok : goal.returns-in-Some-Directory-clause-ok
returns-in-Some-Directory-clause-ok c = sym (tree-again c.args.self.now c.args.path.now Directory (c.in-Some-Directory.ensures ∙ ap node_of c.in-Some-Directory.field-0-is))

pub returns-clause-ok : goal.returns-clause-ok
returns-clause-ok c = on_ok c.add.result c.add.ensures.ok (λ added. ap tree_by added ∙ tree-push c.args.self.now c.args.path.now Directory)
