use Rattle.rewrite.proofs.EndLaws.{passes_within, looped_at, same_at}
use Rattle.rewrite.proofs.laws.a_rewriting_ends.Goals as goal

pub returns : goal.returns
returns c = record { passes = passes_within; looped = looped_at; same = same_at }
