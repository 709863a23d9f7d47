use Rattle.static_files.specs.MediaTypes.{type_of}
use Rattle.static_files.proofs.TypeLookup.{at_third, at_second, at_first, at_last}
use Rattle.static_files.proofs.type_index.TypeIndex.longest.Goals as goal

pub returns-in-Some : goal.returns-in-Some
returns-in-Some c = at_third c.args.path.now c.args.self.now (type_of c.in-Some.entry) c.in-Some.ensures

pub returns-in-Some-longest_of : goal.returns-in-Some-longest_of
returns-in-Some-longest_of c = at_second c.args.path.now c.args.self.now (type_of c.in-Some-longest_of.entry) c.in_default.ensures c.in-Some-longest_of.ensures

pub returns-in-Some-longest_of-2 : goal.returns-in-Some-longest_of-2
returns-in-Some-longest_of-2 c =
    at_first c.args.path.now c.args.self.now (type_of c.in-Some-longest_of-2.entry) c.in_default.ensures c.in_default-longest_of.ensures c.in-Some-longest_of-2.ensures

pub returns : goal.returns
returns c = at_last c.args.path.now c.args.self.now _ c.in_default.ensures c.in_default-longest_of.ensures c.in_default-longest_of-2.ensures c.longest_of-4.ensures
