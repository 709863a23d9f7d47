use Rattle.std.proofs.Common.{refl}
use Rattle.chunkqueue.proofs.Cutting.{few, stolen_room, stolen_invariant, stolen_items, left_staged}
use Rattle.chunkqueue.proofs.plain.PlainQueueQueue.steal.Goals as goal

pub take_front-requires-clause-countable : goal.take_front-requires-clause-countable
take_front-requires-clause-countable c = few c.args.from.now c.from.inside.chain c.from.inside.len c.from.view_is c.from.invariant

pub extend-requires : goal.extend-requires
extend-requires c =
    stolen_room c.args.self.now c.args.from.now c.self.inside.chain c.from.inside.chain c.in-Ok.front c.take_front.new.self c.self.inside.len c.from.inside.len c.args.n c.self.view_is c.from.view_is c.self.invariant c.from.invariant c.in-Ok.ensures.ok
    c.requires.within c.requires.fits

pub invariant_of-self : goal.invariant_of-self
invariant_of-self c =
    stolen_invariant c.args.self.now c.args.from.now c.self.inside.chain c.from.inside.chain c.in-Ok.front c.take_front.new.self c.extend.new.self c.self.inside.len c.from.inside.len c.args.n c.self.view_is c.from.view_is c.self.invariant c.from.invariant c.in-Ok.ensures.ok
    c.requires.within c.requires.fits c.extend.ensures

pub returns-in-Ok-clause-items : goal.returns-in-Ok-clause-items
returns-in-Ok-clause-items c =
    stolen_items c.args.self.now c.args.from.now c.self.inside.chain c.from.inside.chain c.in-Ok.front _ c.take_front.new.self c.extend.new.self c.args.n c.self.view_is c.from.view_is c.in-Ok.ensures.ok refl c.extend.ensures

pub returns-in-Ok-clause-rest : goal.returns-in-Ok-clause-rest
returns-in-Ok-clause-rest c = λ some. left_staged c.from.inside.chain c.in-Ok.front c.take_front.new.self c.args.n c.in-Ok.ensures.ok
