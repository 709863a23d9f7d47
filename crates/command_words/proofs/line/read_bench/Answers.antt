use Rattle.std.proofs.Common.{◌∙◌, sym, map}
use Rattle.std.specs.Prelude.{string_bytes}
use Rattle.clap.specs.Words.{app_of, kind_of, rows_of, found_of, matches_of}
use Rattle.command_words.specs.Lines.{bench, bench_line, bench_words}
use Rattle.command_words.proofs.RowLemmas.{taken, refused, bench_free, bench_simple}
use Rattle.command_words.proofs.line.read_bench.Goals as goal

pub returns-in-Some-clause-line : goal.returns-in-Some-clause-line
unfolding bench_words
returns-in-Some-clause-line c =
    let parse = c.in-Ok-try_get_matches_from.ensures in
    let words = map string_bytes c.args.words.now in
    taken bench (app_of c.in-Ok.command) words (rows_of (found_of c.in-Ok-try_get_matches_from.matches)) bench_line c.in-Ok.ensures bench_free bench_simple parse.kinds (λ s. (parse.matches s).0)
    ∙ sym c.in-Some.ensures.line

pub returns-in-Ok-try_get_matches_from-clause-usage : goal.returns-in-Ok-try_get_matches_from-clause-usage
unfolding bench_words
returns-in-Ok-try_get_matches_from-clause-usage c = λ _.
    let parse = c.in-Ok-try_get_matches_from.ensures in
    let words = map string_bytes c.args.words.now in
    taken bench (app_of c.in-Ok.command) words (rows_of (found_of c.in-Ok-try_get_matches_from.matches)) bench_line c.in-Ok.ensures bench_free bench_simple parse.kinds (λ s. (parse.matches s).0)
    ∙ sym c.in-None.ensures.line

pub returns-clause-usage : goal.returns-clause-usage
unfolding bench_words
returns-clause-usage c = λ _.
    let words = map string_bytes c.args.words.now in
    refused bench (app_of c.in-Ok.command) words (kind_of c.in-Err.error) (bench_line (matches_of bench words)) c.in-Ok.ensures bench_free c.in-Err.ensures.kinds (λ e. c.in_default-kind.not-OutOfMemory (c.kind.ensures ∙ e))
