use Rattle.buffer_pool.specs.Shown.{shown}
use Rattle.chunkqueue.proofs.Viewing.{front_shown}
use Rattle.chunkqueue.proofs.looking.front_of.Goals as goal

pub returns-in-Some-clause-front : goal.returns-in-Some-clause-front
returns-in-Some-clause-front c = front_shown c.args.chunks.now (shown c.in-Some.view) c.in-Some.ensures.first.0 c.in-Some.ensures.first.1 c.in-Some.ensures.first.2
