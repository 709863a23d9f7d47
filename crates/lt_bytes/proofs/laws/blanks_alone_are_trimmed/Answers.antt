use Rattle.lt_bytes.proofs.WordLemmas.{trimmed_lem}
use Rattle.lt_bytes.proofs.laws.blanks_alone_are_trimmed.Goals as goal

pub returns : goal.returns
returns c = trimmed_lem
