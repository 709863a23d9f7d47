use Rattle.lt_bytes.proofs.QuotingLemmas.{byte_again}
use Rattle.lt_bytes.proofs.laws.quoted_bytes_are_read_back.Goals as goal

pub returns : goal.returns
returns c = byte_again
