use Rattle.std.proofs.Common.{List, ◌∙◌, subst}
use Rattle.conditions.specs.Attributes.{attributes_of}
use Rattle.cond_cache.specs.Truths.{truth_of}
use Rattle.settings.specs.declared.key.Key.{Key}
use Rattle.settings.specs.Indexed.{AreDue, winner}
use Rattle.request_settings.proofs.Valued.{values_found}
use Rattle.request_settings.proofs.values.settings_now.Goals as goal

pub returns-in-Ok-clause-values : goal.returns-in-Ok-clause-values
returns-in-Ok-clause-values g c =
    let due = subst (λ (keys : List Key). AreDue (winner c.args.config.now.blocks (truth_of c.args.config.now.blocks (attributes_of c.args.attrs.now))) keys c.in-Ok.counting) c.as_slice.ensures c.in-Ok.ensures.due in
    c.settings_from.ensures.values ∙ values_found c.args.config.now.blocks (attributes_of c.args.attrs.now) c.in-Ok.counting due
