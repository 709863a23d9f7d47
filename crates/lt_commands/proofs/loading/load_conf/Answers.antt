use Rattle.std.proofs.Common.{ℕ, List, sym, subst, ap, ◌∙◌}
use Rattle.std.specs.Prelude.{Ok, Err}
use Rattle.conf_eval.specs.Answers.{Loads, kept}
use Rattle.conf_eval.specs.Load.{load}
use Rattle.conf_eval.specs.declared.fault.LoadError.{LoadError}
use Rattle.conf_eval.proofs.FirstCall.{missing_root}
use Rattle.lt_commands.specs.declared.status.Status.TheVariants as status
use Rattle.lt_commands.specs.Loading.{HasConf}
use Rattle.lt_commands.proofs.LoadLemmas.{only_conf}
use Rattle.lt_commands.proofs.loading.load_conf.Goals as goal

pub returns-in-Ok-clause-only : goal.returns-in-Ok-clause-only
returns-in-Ok-clause-only g c told loaded has =
    let loads = c.in-Ok.ensures.loads told in
    only_conf (g.X.Texts.texts c.args.texts.now) c.as_bytes.result.now loaded (subst (λ (n : List ℕ). HasConf (g.X.Texts.texts c.args.texts.now) n loaded) (sym c.as_bytes.ensures.value) has) loads.asked (Ok c.in-Ok.loaded) loads.gives

pub returns-in-Err-Conf-clause-only : goal.returns-in-Err-Conf-clause-only
returns-in-Err-Conf-clause-only g c told loaded has =
    let loads = subst (λ (x : LoadError). Loads (load (g.X.Texts.texts c.args.texts.now) c.as_bytes.result.now) (kept (g.X.Texts.calls c.args.texts.now) (g.M.PatternMaker.calls c.args.maker.now)) (kept (g.X.Texts.calls c.load.new.texts) (g.M.PatternMaker.calls c.load.new.maker)) (Err x)) c.in-Err-Conf.field-0-is (c.in-Err-Conf.ensures.loads told) in
    only_conf (g.X.Texts.texts c.args.texts.now) c.as_bytes.result.now loaded (subst (λ (n : List ℕ). HasConf (g.X.Texts.texts c.args.texts.now) n loaded) (sym c.as_bytes.ensures.value) has) loads.asked (Err (status.Conf c.in-Err-Conf.fault)) loads.gives

pub returns-in-Err-RootMissing-clause-only : goal.returns-in-Err-RootMissing-clause-only
returns-in-Err-RootMissing-clause-only g c told loaded has =
    let loads = subst (λ (x : LoadError). Loads (load (g.X.Texts.texts c.args.texts.now) c.as_bytes.result.now) (kept (g.X.Texts.calls c.args.texts.now) (g.M.PatternMaker.calls c.args.maker.now)) (kept (g.X.Texts.calls c.load.new.texts) (g.M.PatternMaker.calls c.load.new.maker)) (Err x)) c.in-Err-RootMissing.field-0-is (c.in-Err-RootMissing.ensures.loads told) in
    only_conf (g.X.Texts.texts c.args.texts.now) c.as_bytes.result.now loaded (subst (λ (n : List ℕ). HasConf (g.X.Texts.texts c.args.texts.now) n loaded) (sym c.as_bytes.ensures.value) has) loads.asked (Err (status.Missing 1)) (cc, loads.gives)

pub returns-in-Err-RootMissing-clause-says : goal.returns-in-Err-RootMissing-clause-says
returns-in-Err-RootMissing-clause-says g c told =
    let loads = subst (λ (x : LoadError). Loads (load (g.X.Texts.texts c.args.texts.now) c.as_bytes.result.now) (kept (g.X.Texts.calls c.args.texts.now) (g.M.PatternMaker.calls c.args.maker.now)) (kept (g.X.Texts.calls c.load.new.texts) (g.M.PatternMaker.calls c.load.new.maker)) (Err x)) c.in-Err-RootMissing.field-0-is (c.in-Err-RootMissing.ensures.loads told) in
    (cc, ap (g.X.Texts.texts c.args.texts.now) (sym c.as_bytes.ensures.value) ∙ (missing_root (g.X.Texts.texts c.args.texts.now) c.as_bytes.result.now loads.asked loads.gives).0)
