use Rattle.http_reply.proofs.ReadingLemmas.{error_reply-reads}
use Rattle.http_reply.proofs.laws.error_replies_are_read.Goals as goal

pub returns : goal.returns
returns c = error_reply-reads
