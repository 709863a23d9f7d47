use Rattle.std.proofs.Common.{◌≡◌, sym, ◌∙◌, ap}
use Rattle.std.specs.Prelude.{slice_get}
use Rattle.conditions.specs.Attributes.{attributes_of}
use Rattle.cond_cache.specs.Truths.{truth_of}
use Rattle.settings.specs.Indexed.{last_true}
use Rattle.settings.proofs.Last.{within}
use Rattle.request_settings.proofs.Valued.{size_found}
use Rattle.request_settings.proofs.values.request_size_now.Goals as goal

pub last_true-requires-clause-places : goal.last_true-requires-clause-places
last_true-requires-clause-places g c = λ at place is.
    within c.args.config.now.blocks _ at place (sym (ap (λ ps. slice_get ps at) (c.places-places.ensures c.args.config.now.blocks c.requires.index)) ∙ is)

pub returns-in-Ok-clause-size : goal.returns-in-Ok-clause-size
returns-in-Ok-clause-size g c =
    let t = truth_of c.args.config.now.blocks (attributes_of c.args.attrs.now) in
    c.request_size_at.ensures.value
    ∙ size_found c.args.config.now.blocks (attributes_of c.args.attrs.now) c.in-Ok.place (c.in-Ok.ensures.place ∙ ap (last_true t) (c.places-places.ensures c.args.config.now.blocks c.requires.index))
