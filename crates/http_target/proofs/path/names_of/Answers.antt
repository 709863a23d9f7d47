use Rattle.std.proofs.Common.{[], ap, ◌∙◌, rules, tests, fold}
use Rattle.std.proofs.lemmas.Iterator.Consumers.{YieldsList-at, YieldsList-end}
use Rattle.std.proofs.lemmas.Iterator.Splits.{YieldsList-from_slice_split}
use Rattle.http_target.specs.Path.{is_slash, is_open, keep, last_of}
use Rattle.http_target.proofs.path.names_of.Goals as goal

-- the loop has seen just the segments
pub returns : goal.returns
returns c =
    let parts = c.split-segment-items.ensures in
    let seen = YieldsList-end
    (YieldsList-at c.into_iter-segment-iterator.ensures.into_iter_gives
    (YieldsList-from_slice_split _ is_slash c.args.path.now parts.rest parts.done parts.closure (λ x r q k. search (rules, tests))))
    c.loop-segment.yielded _ c.loop-segment.yielded_by _ _ c.in-None.is c.next.ensures.steps in
    record {
      names = c.loop-segment.invariant.names ∙ ap (fold keep []) seen.0;
      directory = c.is_open.ensures ∙ ap is_open (c.loop-segment.invariant.last ∙ ap last_of seen.0);
    }
