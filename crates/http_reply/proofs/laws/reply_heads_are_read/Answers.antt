use Rattle.http_reply.proofs.ReadingLemmas.{reply_head-reads}
use Rattle.http_reply.proofs.laws.reply_heads_are_read.Goals as goal

pub returns : goal.returns
returns c = reply_head-reads
