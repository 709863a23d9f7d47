use Rattle.std.proofs.Common.{◌∙◌, sym, map}
use Rattle.std.specs.Prelude.{string_bytes}
use Rattle.clap.specs.Words.{app_of, kind_of, rows_of, found_of, matches_of}
use Rattle.command_words.specs.Lines.{options, option_line, option_words}
use Rattle.command_words.proofs.RowLemmas.{taken, refused, options_free, options_simple}
use Rattle.command_words.proofs.line.read_options.Goals as goal

pub returns-in-Some-clause-line : goal.returns-in-Some-clause-line
unfolding option_words
returns-in-Some-clause-line c =
    let parse = c.in-Ok-try_get_matches_from.ensures in
    let words = map string_bytes c.args.words.now in
    taken options (app_of c.in-Ok.command) words (rows_of (found_of c.in-Ok-try_get_matches_from.matches)) option_line c.in-Ok.ensures options_free options_simple parse.kinds (λ s. (parse.matches s).0)
    ∙ sym c.in-Some.ensures.line

pub returns-in-Ok-try_get_matches_from-clause-usage : goal.returns-in-Ok-try_get_matches_from-clause-usage
unfolding option_words
returns-in-Ok-try_get_matches_from-clause-usage c = λ _.
    let parse = c.in-Ok-try_get_matches_from.ensures in
    let words = map string_bytes c.args.words.now in
    taken options (app_of c.in-Ok.command) words (rows_of (found_of c.in-Ok-try_get_matches_from.matches)) option_line c.in-Ok.ensures options_free options_simple parse.kinds (λ s. (parse.matches s).0)
    ∙ sym c.in-None.ensures.line

pub returns-clause-usage : goal.returns-clause-usage
unfolding option_words
returns-clause-usage c = λ _.
    let words = map string_bytes c.args.words.now in
    refused options (app_of c.in-Ok.command) words (kind_of c.in-Err.error) (option_line (matches_of options words)) c.in-Ok.ensures options_free c.in-Err.ensures.kinds (λ e. c.in_default-kind.not-OutOfMemory (c.kind.ensures ∙ e))
