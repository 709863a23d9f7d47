use Rattle.std.proofs.Common.{◌∙◌, ap, sym}
use Rattle.settings.specs.Keys.{key_among}
use Rattle.settings.proofs.Due.{key_of_is}
use Rattle.settings.proofs.key.key_of.Goals as goal

pub returns : goal.returns
returns c = c.key_among.ensures ∙ ap (λ keys. key_among keys c.args.name.now) c.as_slice.ensures ∙ sym (key_of_is c.args.name.now)
