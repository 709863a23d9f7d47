use Rattle.std.proofs.Common.{arith}
use Rattle.buffer_pool.proofs.Keeping.{kept_both}
use Rattle.chunkqueue.specs.Items.{items_of}
use Rattle.connection.proofs.Memory.{skipped}
use Rattle.connection.proofs.looking.skip.Goals as goal

pub loop-left-preserved : goal.loop-left-preserved
loop-left-preserved c =
    let s = skipped (items_of c.loop-left.input) (items_of c.advance.new.self) (items_of c.args.input.now) c.min-taken.result c.loop-left.left c.args.n c.advance.ensures.items (omega (arith, c.min-taken.ensures)) c.loop-left.invariant.memory c.loop-left.invariant.within c.loop-left.invariant.items in
    record {
      memory = s.memory;
      within = s.within;
      items = s.items;
      filled = omega (arith, c.advance.ensures.filled, c.loop-left.invariant.filled);
      kept = kept_both c.args.store.now c.loop-left.store c.advance.new.store c.args.input.now.numbers c.loop-left.input.numbers c.advance.new.self.numbers c.loop-left.invariant.kept c.advance.ensures.kept;
    }
