use Rattle.std.proofs.Common.{◌≡◌, ◌∙◌, List, [], Ok, ap, subst, refl}
use Rattle.conf_value.specs.declared.block.Warning.{Warning}
use Rattle.conf_eval.specs.Built.{Built}
use Rattle.conf_eval.specs.Settings.{State, blocks_of}
use Rattle.conf_eval.specs.Answers.{Ran, kept}
use Rattle.conf_eval.specs.Calls.{no_calls}
use Rattle.conf_eval.specs.Kept.{state_of}
use Rattle.conf_eval.specs.Load.{root, start}
use Rattle.conf_eval.proofs.Loads.{load_ends}
use Rattle.conf_eval.proofs.loader.load.Goals as goal

-- what was loaded before the first text
abbrev first : Built → List Warning → State
first built warnings = record { blocks = built.blocks; warnings = warnings; patterns = built.patterns; files = 0; room = 1048576 }

pub returns-in-Ok-root-clause-loads : goal.returns-in-Ok-root-clause-loads
returns-in-Ok-root-clause-loads g c told =
    let L = g.X.Texts.texts c.args.texts.now in
    let begins : first c.in-Ok.built c.new-2.result ≡ start = ap (λ (b : Built). first b c.new-2.result) c.in-Ok.ensures ∙ ap (λ (w : List Warning). first (record { blocks = blocks_of []; patterns = [] }) w) c.new-2.ensures in
    let earlier = kept (g.X.Texts.calls c.args.texts.now) (g.M.PatternMaker.calls c.args.maker.now) in
    let later = kept (g.X.Texts.calls c.root.new.texts) (g.M.PatternMaker.calls c.root.new.maker) in
    load_ends L c.args.name.now earlier later (state_of c.root.new.loading) c.finish.result
    (subst (λ (s : State). Ran (root L c.args.name.now) s earlier later (Ok tt) (state_of c.root.new.loading)) begins (c.in-Ok-root.ensures.ran told)) c.finish.ensures.closes

pub returns-in_default-clause-loads : goal.returns-in_default-clause-loads
returns-in_default-clause-loads g c told = record { asked = no_calls; calls = refl; gives = tt }
