use Rattle.std.proofs.Common.{inl, inr}
use Rattle.http_head.proofs.SharedLemmas.{shared_field, shared_refused}
use Rattle.http_head.proofs.fields.field.Goals as goal

pub returns-in-Err-clause-bad : goal.returns-in-Err-clause-bad
returns-in-Err-clause-bad c = elim c.in-Err.ensures.bad [
  | inl e ↦ inl e
  | inr p ↦ inr (p.0, shared_refused c.args.names.now c.args.values.now c.args.header.now c.requires.lower p.1)
]

pub returns-in-Ok-value_of-clause-ok : goal.returns-in-Ok-value_of-clause-ok
returns-in-Ok-value_of-clause-ok c =
    shared_field c.args.names.now c.args.values.now c.args.header.now c.in-Ok.name c.in-Ok-value_of.value c.requires.lower
    c.in-Ok.ensures.ok.0 c.in-Ok.ensures.ok.1 c.requires.valid c.in-Ok-value_of.ensures.ok
