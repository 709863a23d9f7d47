use Rattle.std.proofs.Common.{◌∙◌, sym, map}
use Rattle.std.specs.Prelude.{string_bytes}
use Rattle.clap.specs.Words.{app_of, kind_of, rows_of, found_of, matches_of}
use Rattle.command_words.specs.Lines.{replay, replay_line, replay_words}
use Rattle.command_words.proofs.RowLemmas.{taken, refused, replay_free, replay_simple}
use Rattle.command_words.proofs.line.read_replay.Goals as goal

pub returns-in-Some-clause-line : goal.returns-in-Some-clause-line
unfolding replay_words
returns-in-Some-clause-line c =
    let parse = c.in-Ok-try_get_matches_from.ensures in
    let words = map string_bytes c.args.words.now in
    taken replay (app_of c.in-Ok.command) words (rows_of (found_of c.in-Ok-try_get_matches_from.matches)) replay_line c.in-Ok.ensures replay_free replay_simple parse.kinds (λ s. (parse.matches s).0)
    ∙ sym c.in-Some.ensures.line

pub returns-in-Ok-try_get_matches_from-clause-usage : goal.returns-in-Ok-try_get_matches_from-clause-usage
unfolding replay_words
returns-in-Ok-try_get_matches_from-clause-usage c = λ _.
    let parse = c.in-Ok-try_get_matches_from.ensures in
    let words = map string_bytes c.args.words.now in
    taken replay (app_of c.in-Ok.command) words (rows_of (found_of c.in-Ok-try_get_matches_from.matches)) replay_line c.in-Ok.ensures replay_free replay_simple parse.kinds (λ s. (parse.matches s).0)
    ∙ sym c.in-None.ensures.line

pub returns-clause-usage : goal.returns-clause-usage
unfolding replay_words
returns-clause-usage c = λ _.
    let words = map string_bytes c.args.words.now in
    refused replay (app_of c.in-Ok.command) words (kind_of c.in-Err.error) (replay_line (matches_of replay words)) c.in-Ok.ensures replay_free c.in-Err.ensures.kinds (λ e. c.in_default-kind.not-OutOfMemory (c.kind.ensures ∙ e))
