use Rattle.cgi_text.proofs.PairLemmas.{pairs_read}
use Rattle.cgi_text.proofs.laws.pairs_are_read_back.Goals as goal

pub returns : goal.returns
returns c = pairs_read
