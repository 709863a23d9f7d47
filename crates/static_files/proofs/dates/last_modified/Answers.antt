use Rattle.std.proofs.Common.{Some, refl, ap, sym, ◌∙◌, true≢false}
use Rattle.static_files.proofs.Calendar.{written, unwritten}
use Rattle.static_files.proofs.dates.last_modified.Goals as goal

pub returns-in-Ok : goal.returns-in-Ok
returns-in-Ok c = ap (λ text. Some text) c.to_bytes.ensures ∙ written c.in-Ok.date c.args.time c.in-Ok.ensures.value (c.in-Ok.ensures.succeeds.0 refl)

pub returns-in-Err : goal.returns-in-Err
returns-in-Err c = unwritten c.args.time (λ early. true≢false (sym (c.in-Err.ensures.succeeds.1 early)))
