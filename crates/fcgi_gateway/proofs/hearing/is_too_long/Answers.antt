use Rattle.std.proofs.Common.{◌≡◌, ap, sym, ◌∙◌, arith}
use Rattle.cgi_text.specs.Head.{section_end}
use Rattle.chunkqueue.specs.Items.{items_of}
use Rattle.fcgi_records.specs.Feeding.{bytes_of}
use Rattle.fcgi_records.proofs.FeedingLemmas.{bytes_count}
use Rattle.fcgi_gateway.specs.Heard.{start_at}
use Rattle.fcgi_gateway.proofs.FrontLemmas.{section_front, short_enough, left_is}
use Rattle.fcgi_gateway.proofs.hearing.is_too_long.Goals as goal

pub returns-then-len-le-ANSWER_LIMIT : goal.returns-then-len-le-ANSWER_LIMIT
returns-then-len-le-ANSWER_LIMIT c = short_enough (bytes_of c.args.out.now) (omega (arith, c.if-len-le-ANSWER_LIMIT.true, c.len.ensures.count, bytes_count (items_of c.args.out.now) c.requires.memory))

pub returns : goal.returns
returns c =
    left_is (bytes_of c.args.out.now) c.len-2.result c.start_of.result c.saturating_sub.result
    (c.len-2.ensures.count ∙ sym (bytes_count (items_of c.args.out.now) c.requires.memory))
    (c.start_of.ensures ∙ ap start_at (ap section_end (c.split_at.ensures.front ∙ c.peek-n.ensures.bytes) ∙ section_front c.peek-n.result (bytes_of c.args.out.now) c.peek-n.ensures.count))
    c.saturating_sub.ensures
