use Rattle.std.proofs.Common.{◌≡◌, List, IfOk, ◌∙◌, ap, sym, subst}
use Rattle.conditions.specs.Attributes.{Attributes, attributes_of}
use Rattle.cond_cache.proofs.Asked.{few_asked}
use Rattle.rewrite.specs.declared.next.Next.{Next}
use Rattle.rewrite.specs.Rules.{Lists}
use Rattle.rewrite.specs.Rewriting.{next_of}
use Rattle.request_settings.specs.Attributes.{attributes_on}
use Rattle.request_settings.specs.Lists.{list_on, lists_on}
use Rattle.request_settings.proofs.Lending.{numbered_as, both_lists}
use Rattle.request_settings.proofs.Ruling.{once_wins, repeat_wins}
use Rattle.request_settings.proofs.lists.RequestListsChoices.next.Goals as goal

pub returns-in_default-clause-few : goal.returns-in_default-clause-few
returns-in_default-clause-few g c = few_asked _ _ _ c.in_default.ensures.right

pub next_of-requires-clause-once : goal.next_of-requires-clause-once
next_of-requires-clause-once g c =
    let w = once_wins c.args.self.now.config.now c.requires.patterns.form (attributes_of c.attrs_of-attrs.result) c.args.matchers.now c.requires.patterns.rules in
    numbered_as _ _ _ _ _ _ c.in-Ok.ensures.matchers c.in-Ok.ensures.once c.lent-once.ensures.first c.lent-once.ensures.pairs w.numbered

pub next_of-requires-clause-repeat : goal.next_of-requires-clause-repeat
next_of-requires-clause-repeat g c =
    let w = repeat_wins c.args.self.now.config.now c.requires.patterns.form (attributes_of c.attrs_of-attrs.result) c.args.matchers.now c.requires.patterns.rules in
    numbered_as _ _ _ _ _ _ c.in-Ok.ensures.matchers c.in-Ok.ensures.repeat c.lent-repeat.ensures.first c.lent-repeat.ensures.pairs w.numbered

pub returns-clause-next : goal.returns-clause-next
returns-clause-next g c =
    let blocks = c.args.self.now.config.now.blocks in
    let a = attributes_of c.attrs_of-attrs.result in
    let once = c.lent-once.ensures.list blocks a c.in-Ok.ensures.right ∙ ap (list_on blocks a) c.in-Ok.ensures.once in
    let repeat = c.lent-repeat.ensures.list blocks a c.in-Ok.ensures.right ∙ ap (list_on blocks a) c.in-Ok.ensures.repeat in
    let lists = both_lists blocks a _ _ once repeat ∙ ap (lists_on blocks) c.attrs_of-attrs.ensures in
    let on = attributes_on c.args.self.now.arrival c.args.self.now.head.now c.args.target.now in
    subst (λ raw. IfOk c.next_of.result (λ next. next ≡ next_of (lists_on blocks on) raw)) c.bytes.ensures.value
    (subst (λ (ls : Lists). IfOk c.next_of.result (λ next. next ≡ next_of ls c.bytes.result.now)) lists c.next_of.ensures.next)

pub returns-clause-few : goal.returns-clause-few
returns-clause-few g c = few_asked _ _ _ c.in-Ok.ensures.right
