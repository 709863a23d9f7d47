use Rattle.std.proofs.Common.{◌≡◌, ◌++◌, ap, le_refl, sym, ◌∙◌}
use Rattle.conf_parse.specs.Print.{printed}
use Rattle.conf_parse.specs.declared.tree.Tree.{Tree}
use Rattle.lt_commands.proofs.OfflineLemmas.{is_complete, read_faults}
use Rattle.lt_commands.proofs.commands.print_conf.Goals as goal

pub returns-in-Ok-write_all-clause-prints : goal.returns-in-Ok-write_all-clause-prints
returns-in-Ok-write_all-clause-prints g c told texts_told tree held =
    let same : c.in-Ok.tree ≡ tree = c.in-Ok.ensures.only texts_told tree held in
    let text : c.bytes.result.now ≡ printed tree = c.bytes.ensures.value ∙ c.in-Ok-print.ensures ∙ ap printed same in
    c.in-Ok-write_all.ensures.writes told ∙ ap (λ t. g.S.Sink.bytes c.args.sink.now ++ t) text

pub returns-clause-prints : goal.returns-clause-prints
returns-clause-prints g c told texts_told tree held =
    let same : c.in-Ok.tree ≡ tree = c.in-Ok.ensures.only texts_told tree held in
    let text : c.bytes.result.now ≡ printed tree = c.bytes.ensures.value ∙ c.in-Ok-print.ensures ∙ ap printed same in
    let wrote = c.in-Err-write_all.ensures.writes told in
    (wrote.front, wrote.begins.0, sym text ∙ wrote.begins.1, wrote.got)

pub returns-in-Err-clause-complete : goal.returns-in-Err-clause-complete
returns-in-Err-clause-complete g c told has = is_complete has.0 c.in-Err.status (c.in-Err.ensures.only told has.0 has.1)

pub returns-in-Err-clause-faults : goal.returns-in-Err-clause-faults
returns-in-Err-clause-faults g c patterns = read_faults Tree c.in-Err.status _ _ _ (le_refl _) c.in-Err.ensures.cause
