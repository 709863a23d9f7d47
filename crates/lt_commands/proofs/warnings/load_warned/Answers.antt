use Rattle.std.proofs.Common.{◌≡◌, ℕ, List, ◌++◌, ap, sym, ◌∙◌}
use Rattle.lt_commands.specs.Warnings.{warning_lines}
use Rattle.lt_commands.proofs.OfflineLemmas.{is_complete_load}
use Rattle.lt_commands.proofs.warnings.load_warned.Goals as goal

pub returns-in-Err-clause-only : goal.returns-in-Err-clause-only
returns-in-Err-clause-only g c told loaded has = is_complete_load loaded c.in-Err.status (c.in-Err.ensures.only told loaded has)

pub returns-in-Ok-write_all-clause-warns : goal.returns-in-Ok-write_all-clause-warns
returns-in-Ok-write_all-clause-warns g c told texts_told loaded has =
    let same : c.in-Ok.loaded ≡ loaded = c.in-Ok.ensures.only texts_told loaded has in
    let text : c.bytes.result.now ≡ warning_lines loaded = c.bytes.ensures.value ∙ c.in-Ok-warning_lines.ensures ∙ ap warning_lines same in
    c.in-Ok-write_all.ensures.writes told ∙ ap (λ (t : List ℕ). g.S.Sink.bytes c.args.sink.now ++ t) text

pub returns-in-Err-write_all-clause-warns : goal.returns-in-Err-write_all-clause-warns
returns-in-Err-write_all-clause-warns g c told texts_told loaded has =
    let same : c.in-Ok.loaded ≡ loaded = c.in-Ok.ensures.only texts_told loaded has in
    let text : c.bytes.result.now ≡ warning_lines loaded = c.bytes.ensures.value ∙ c.in-Ok-warning_lines.ensures ∙ ap warning_lines same in
    let wrote = c.in-Err-write_all.ensures.writes told in
    (wrote.front, wrote.begins.0, sym text ∙ wrote.begins.1, wrote.got)
