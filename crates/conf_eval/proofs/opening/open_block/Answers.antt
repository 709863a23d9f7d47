use Rattle.std.proofs.Common.{◌≡◌, ◌++◌, ◌∷◌, [], Some, None}
use Rattle.conf_eval.specs.Answers.{kept}
use Rattle.conf_eval.specs.Opening as spec
use Rattle.conf_eval.specs.Sound.{Opens}
use Rattle.conf_eval.proofs.Heads.{grows_open, opened_there, opened_behind}
use Rattle.conf_eval.proofs.Sounds.{on_ok}
use Rattle.conf_eval.proofs.opening.open_block.Goals as goal

pub returns-in-Some-clause-ran : goal.returns-in-Some-clause-ran
returns-in-Some-clause-ran g c texts = rw c.in-Some.is (c.open_on.ensures.ran texts)

pub returns-in-Some-clause-grows : goal.returns-in-Some-clause-grows
returns-in-Some-clause-grows g c =
    let old = c.args.loading.now.built.blocks in
    let new = c.open_on.new.loading.built.blocks in
    on_ok c.open_on.result (λ (o : Opens old c.args.scopes.now new). grows_open old new (spec.block c.args.scopes.now o.behind (Some o.condition)) o.is) c.open_on.ensures.opens

pub returns-in-Some-clause-opens : goal.returns-in-Some-clause-opens
returns-in-Some-clause-opens g c =
    let old = c.args.loading.now.built.blocks in
    let new = c.open_on.new.loading.built.blocks in
    on_ok c.open_on.result (λ (o : Opens old c.args.scopes.now new). opened_there c.args.scopes.now old new (spec.block c.args.scopes.now o.behind (Some o.condition)) o.is c.requires.scopes) c.open_on.ensures.opens

pub returns-in-Some-clause-branch : goal.returns-in-Some-clause-branch
returns-in-Some-clause-branch g c =
    let old = c.args.loading.now.built.blocks in
    let new = c.open_on.new.loading.built.blocks in
    on_ok c.open_on.result (λ (o : Opens old c.args.scopes.now new). opened_behind c.args.condition.now c.args.scopes.now old new o.behind o.condition o.is) c.open_on.ensures.opens

pub returns-in-None-clause-ran : goal.returns-in-None-clause-ran
returns-in-None-clause-ran g c texts = rw c.in-None.is (c.open_bare.ensures.ran (kept texts (g.M.PatternMaker.calls c.args.maker.now)))

pub returns-in-None-clause-grows : goal.returns-in-None-clause-grows
returns-in-None-clause-grows g c =
    let old = c.args.loading.now.built.blocks in
    let new = c.open_bare.new.loading.built.blocks in
    let b = spec.block c.args.scopes.now c.args.behind None in
    on_ok c.open_bare.result (λ (p : new ≡ old ++ b ∷ []). grows_open old new b p) c.open_bare.ensures.opens

pub returns-in-None-clause-opens : goal.returns-in-None-clause-opens
returns-in-None-clause-opens g c =
    let old = c.args.loading.now.built.blocks in
    let new = c.open_bare.new.loading.built.blocks in
    let b = spec.block c.args.scopes.now c.args.behind None in
    on_ok c.open_bare.result (λ (p : new ≡ old ++ b ∷ []). opened_there c.args.scopes.now old new b p c.requires.scopes) c.open_bare.ensures.opens
