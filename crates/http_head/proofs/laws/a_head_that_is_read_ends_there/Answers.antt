use Rattle.http_head.specs.declared.limits.TheConstants.{HEAD_LIMIT}
use Rattle.http_head.proofs.GrammarLemmas.{end_of_head, lines_of_head}
use Rattle.http_head.proofs.EndLemmas.{read_ends_at}
use Rattle.http_head.proofs.laws.a_head_that_is_read_ends_there.Goals as goal

pub returns : goal.returns
returns c = record { lines = lines_of_head; end = end_of_head; at = read_ends_at HEAD_LIMIT }
