use Rattle.std.proofs.Common.{◌≡◌, ◌∙◌, ap, sym, arith}
use Rattle.conditions.specs.Attributes.{attributes_of}
use Rattle.cond_cache.specs.Truths.{truth_of}
use Rattle.settings.specs.Used.{RuleList}
use Rattle.request_settings.proofs.Ruling.{once_wins, repeat_wins}
use Rattle.request_settings.proofs.rules.lists_now.Goals as goal

pub hold-requires-clause-block : goal.hold-requires-clause-block
hold-requires-clause-block g c =
    let w = once_wins c.args.config.now c.requires.form (attributes_of c.args.attrs.now) c.args.matchers.now c.requires.rules in
    let low = w.within in
    let same = ap (λ (r : RuleList). r.block) c.in-Ok.ensures.once in
    omega (arith, low, same)

pub hold-requires-clause-holds : goal.hold-requires-clause-holds
hold-requires-clause-holds g c =
    let w = once_wins c.args.config.now c.requires.form (attributes_of c.args.attrs.now) c.args.matchers.now c.requires.rules in
    ap (λ (r : RuleList). truth_of c.args.config.now.blocks (attributes_of c.args.attrs.now) r.block) c.in-Ok.ensures.once ∙ w.held

pub hold-requires-2-clause-block : goal.hold-requires-2-clause-block
hold-requires-2-clause-block g c =
    let w = repeat_wins c.args.config.now c.requires.form (attributes_of c.args.attrs.now) c.args.matchers.now c.requires.rules in
    let low = w.within in
    let same = ap (λ (r : RuleList). r.block) c.in-Ok.ensures.repeat in
    omega (arith, low, same)

pub hold-requires-2-clause-holds : goal.hold-requires-2-clause-holds
hold-requires-2-clause-holds g c =
    let w = repeat_wins c.args.config.now c.requires.form (attributes_of c.args.attrs.now) c.args.matchers.now c.requires.rules in
    ap (λ (r : RuleList). truth_of c.args.config.now.blocks (attributes_of c.args.attrs.now) r.block) c.in-Ok.ensures.repeat ∙ w.held
