use Rattle.cgi_text.specs.Params.{params_of}
use Rattle.cgi_text.proofs.PairLemmas.{few_bytes_read}
use Rattle.cgi_text.proofs.laws.params_are_read_back.Goals as goal

pub returns : goal.returns
returns c = λ r. few_bytes_read (params_of r)
