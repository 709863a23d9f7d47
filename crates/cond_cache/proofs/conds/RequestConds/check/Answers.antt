use Rattle.conditions.specs.Attributes.{attributes_of}
use Rattle.cond_cache.proofs.Places.{checked}
use Rattle.cond_cache.proofs.conds.RequestConds.check.Goals as goal

pub returns-clause-truth : goal.returns-clause-truth
returns-clause-truth g c =
    checked (attributes_of c.args.attrs.now) c.args.config.now c.requires.form c.find.new.places c.find.ensures.comes.right c.args.block c.requires.block c.find.result c.find.ensures.found
