use Rattle.std.proofs.Common.{Err, inl, inr, sym, ap, ◌∙◌, rules}
use Rattle.http_head.proofs.HeadLemmas.{PassesLines, not_taken, parts_say}
use Rattle.http_head.proofs.TakenLemmas.{values_valid}
use Rattle.http_head.proofs.VersionLemmas.{read_passes}
use Rattle.http_head.proofs.head.read_head.Goals as goal

pub returns-in-Err : goal.returns-in-Err
returns-in-Err c =
    let head = c.args.head.now in
    let passes : PassesLines head = read_passes head _ _ (search rules) c.in-Some.ensures.some in
    elim c.in-Err.ensures.bad [
      | inl e ↦ inl e
      | inr p ↦ inr (not_taken head _ _ passes c.in-Some.ensures.some p.1 ∙ ap (λ e. Err e) (sym p.0))
    ]

pub returns : goal.returns
returns c =
    let head = c.args.head.now in
    let passes : PassesLines head = read_passes head _ _ (search rules) c.in-Some.ensures.some in
    parts_say head _ _ passes c.in-Some.ensures.some c.of.result.now c.of-2.result.now c.in-Ok.fields c.judged.result
    c.in-Ok.ensures.ok.0 c.in-Ok.ensures.ok.1 c.of.ensures c.of-2.ensures c.judged.ensures

pub read_fields-requires-clause-valid : goal.read_fields-requires-clause-valid
read_fields-requires-clause-valid c = values_valid c.args.head.now _ _ c.in-Some.ensures.some
