use Rattle.lt_bytes.proofs.QuotingLemmas.{text_again}
use Rattle.lt_bytes.proofs.laws.quoted_texts_are_read_in_one_way.Goals as goal

pub returns : goal.returns
returns c = text_again
