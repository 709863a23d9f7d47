use Rattle.std.proofs.lemmas.Fmt.{decimal_injective}
use Rattle.lt_bytes.proofs.NumberLemmas.{number_again}
use Rattle.lt_bytes.proofs.laws.digits_are_read_back.Goals as goal

pub returns : goal.returns
returns c = record { value = number_again; one = decimal_injective }
