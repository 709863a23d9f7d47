use Rattle.cgi_text.proofs.ParamLemmas.{all_fields}
use Rattle.cgi_text.proofs.values.push_fields.Goals as goal

pub returns : goal.returns
returns c =
    all_fields c.args.fields.now c.loop-name.name-iterator c.args.text.now c.loop-name.text c.keys_len-names.ensures.valid.unique
    c.in-None.ensures.steps.0 c.loop-name.invariant
