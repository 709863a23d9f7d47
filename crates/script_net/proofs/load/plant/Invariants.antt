use Rattle.std.proofs.Common.{◌≡◌, drop}
use Rattle.lt_world.specs.Memory.{tree_of}
use Rattle.script_net.specs.Loads.{planted}
use Rattle.script_net.proofs.load.plant.Given as goal

abbrev pub invariant-loop-file : goal.invariant-loop-file
invariant-loop-file l = record {
  tree : planted (drop l.file-index l.script) (tree_of l.files) ≡ planted l.script (tree_of l.initial.files);
  rest : l.files ≡ record l.initial.files { places = l.files.places };
}
