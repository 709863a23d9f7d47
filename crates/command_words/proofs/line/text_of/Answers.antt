use Rattle.std.proofs.Common.{◌∙◌}
use Rattle.clap.specs.Words.{found_of}
use Rattle.command_words.proofs.RowLemmas.{first_is}
use Rattle.command_words.proofs.line.text_of.Goals as goal

pub returns : goal.returns
returns c = c.get_str.ensures ∙ first_is (found_of c.args.matches.now) c.args.id.now
