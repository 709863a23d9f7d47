use Rattle.std.proofs.Common.{arith}
use Rattle.settings.proofs.FewLists.{taken_within}
use Rattle.settings.proofs.places.place_of.Goals as goal

pub lists_of-requires : goal.lists_of-requires
lists_of-requires c = let h = taken_within c.in-Some.at c.args.settings.now in omega (arith, h, c.requires.lists)

pub overflow_add-result : goal.overflow_add-result
overflow_add-result c = let h = taken_within c.in-Some.at c.args.settings.now in omega (arith, h, c.requires.lists, c.lists_of.ensures)
