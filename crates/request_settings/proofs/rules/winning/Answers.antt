use Rattle.std.proofs.Common.{◌≡◌, List, ◌∙◌, ap, subst}
use Rattle.conditions.specs.Attributes.{attributes_of}
use Rattle.cond_cache.specs.Truths.{truth_of}
use Rattle.settings.specs.declared.key.Key.{Key}
use Rattle.settings.specs.Indexed.{AreDue, winner}
use Rattle.settings.specs.Used.{Values}
use Rattle.request_settings.specs.declared.rules.TheConstants.{RULE_KEYS}
use Rattle.request_settings.proofs.Valued.{once_found, repeat_found}
use Rattle.request_settings.proofs.rules.winning.Goals as goal

pub returns-in-Ok-clause-once : goal.returns-in-Ok-clause-once
returns-in-Ok-clause-once g c =
    let due : AreDue (winner c.args.config.now.blocks (truth_of c.args.config.now.blocks (attributes_of c.args.attrs.now))) RULE_KEYS c.in-Ok.counting =
    subst (λ (keys : List Key). AreDue (winner c.args.config.now.blocks (truth_of c.args.config.now.blocks (attributes_of c.args.attrs.now))) keys c.in-Ok.counting) c.as_slice.ensures c.in-Ok.ensures.due in
    ap (λ (v : Values). v.url_rewrite_once) c.settings_from-settings.ensures.values
    ∙ once_found c.args.config.now.blocks (attributes_of c.args.attrs.now) c.in-Ok.counting due.0 due.1.0

pub returns-in-Ok-clause-repeat : goal.returns-in-Ok-clause-repeat
returns-in-Ok-clause-repeat g c =
    let due : AreDue (winner c.args.config.now.blocks (truth_of c.args.config.now.blocks (attributes_of c.args.attrs.now))) RULE_KEYS c.in-Ok.counting =
    subst (λ (keys : List Key). AreDue (winner c.args.config.now.blocks (truth_of c.args.config.now.blocks (attributes_of c.args.attrs.now))) keys c.in-Ok.counting) c.as_slice.ensures c.in-Ok.ensures.due in
    ap (λ (v : Values). v.url_rewrite_repeat) c.settings_from-settings.ensures.values
    ∙ repeat_found c.args.config.now.blocks (attributes_of c.args.attrs.now) c.in-Ok.counting due.0 due.1.1.0
