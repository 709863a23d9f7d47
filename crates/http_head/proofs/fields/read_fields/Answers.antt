use Rattle.std.proofs.Common.{inl, inr}
use Rattle.http_head.proofs.FieldsLemmas.{IsFilled-next, refused_part, value_at}
use Rattle.http_head.proofs.fields.read_fields.Goals as goal

pub returns-in-Err-clause-bad : goal.returns-in-Err-clause-bad
returns-in-Err-clause-bad c = elim c.in-Err.ensures.bad [
  | inl e ↦ inl e
  | inr p ↦ inr (p.0, refused_part c.in-Ok.values c.args.buf.now c.args.headers.now c.loop-header.header-index _ c.loop-header-test.true c.in-Ok.ensures.0 p.1)
]

pub loop-header-preserved : goal.loop-header-preserved
loop-header-preserved c =
    IsFilled-next c.in-Ok.values c.args.buf.now c.args.headers.now c.loop-header.header-index _ _ _ _ c.loop-header-test.true c.in-Ok.ensures.0
    c.loop-header.invariant c.in-Ok-field.ensures.ok.0 c.in-Ok-field.ensures.ok.1 c.in-Ok-append.ensures.ok

pub field-requires-clause-valid : goal.field-requires-clause-valid
field-requires-clause-valid c = value_at c.in-Ok.values c.args.buf.now c.args.headers.now c.loop-header.header-index _ c.in-Ok.ensures.0 c.loop-header-test.true c.requires.valid
