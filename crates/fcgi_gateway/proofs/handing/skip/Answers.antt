use Rattle.std.proofs.Common.{arith, ap, sym, ◌∙◌, drop, length, List, ℕ}
use Rattle.std.proofs.lemmas.List.{drop-drop}
use Rattle.buffer_pool.proofs.Keeping.{kept_both}
use Rattle.chunkqueue.specs.Items.{Item, items_of}
use Rattle.fcgi_gateway.proofs.Skipped.{skipped}
use Rattle.fcgi_gateway.proofs.handing.skip.Goals as goal

pub loop-left-preserved : goal.loop-left-preserved
loop-left-preserved c =
    let s = skipped (items_of c.loop-left.queue) (items_of c.advance.new.self) (items_of c.args.queue.now) c.min-taken.result c.loop-left.left c.args.n c.advance.ensures.items (omega (arith, c.min-taken.ensures)) c.loop-left.invariant.memory c.loop-left.invariant.within c.loop-left.invariant.items in
    record {
      memory = s.memory;
      within = s.within;
      items = s.items;
      filled = omega (arith, c.advance.ensures.filled, c.loop-left.invariant.filled);
      kept = kept_both c.args.store.now c.loop-left.store c.advance.new.store c.args.queue.now.numbers c.loop-left.queue.numbers c.advance.new.self.numbers c.loop-left.invariant.kept c.advance.ensures.kept;
    }
