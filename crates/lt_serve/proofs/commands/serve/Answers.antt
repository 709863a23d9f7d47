use Rattle.std.proofs.Common.{List, ℕ, sym, subst, inl}
use Rattle.server_model.specs.Site.{site_at}
use Rattle.server_core.specs.Steps.{seen_as}
use Rattle.lt_commands.specs.Loading.{HasConf, HasSomeConf}
use Rattle.conf_eval.specs.Answers.{kept}
use Rattle.lt_serve.specs.Serving.{TextsSay, Asks, announced}
use Rattle.lt_serve.proofs.RunLemmas.{unserved}
use Rattle.lt_serve.proofs.ServeLemmas.{one_conf, memory_alone, wordless, wordless_ends, wordless_faults, wordless_texts, wordless_asks, wordless_complete, wordless_says, of_line}
use Rattle.lt_serve.proofs.commands.serve.Goals as goal

-- ---- the words give no name

pub returns-in-Err-clause-words : goal.returns-in-Err-clause-words
returns-in-Err-clause-words g c = wordless c.in-Err.status _ c.in-Err.ensures.refused

pub returns-in-Err-clause-texts : goal.returns-in-Err-clause-texts
returns-in-Err-clause-texts g c told conf spelled = wordless_texts c.in-Err.status _ conf (memory_alone c.in-Err.status _ conf c.in-Err.ensures.refused spelled)

pub returns-in-Err-clause-asks : goal.returns-in-Err-clause-asks
returns-in-Err-clause-asks g c told conf spelled = wordless_asks c.in-Err.status conf _ _ (memory_alone c.in-Err.status _ conf c.in-Err.ensures.refused spelled)

pub returns-in-Err-clause-faults : goal.returns-in-Err-clause-faults
returns-in-Err-clause-faults g c = wordless_faults c.in-Err.status _ _ _ c.in-Err.ensures.refused

pub returns-in-Err-clause-ends : goal.returns-in-Err-clause-ends
returns-in-Err-clause-ends g c = wordless_ends c.in-Err.status _ _ _ _ c.in-Err.ensures.refused c.requires.unasked

pub returns-in-Err-clause-complete : goal.returns-in-Err-clause-complete
returns-in-Err-clause-complete g c told conf spelled has = wordless_complete c.in-Err.status (memory_alone c.in-Err.status _ conf c.in-Err.ensures.refused spelled)

pub returns-in-Err-clause-serves : goal.returns-in-Err-clause-serves
returns-in-Err-clause-serves g c net files = inl (c.requires.untold net)

pub returns-in-Err-clause-spelled : goal.returns-in-Err-clause-spelled
returns-in-Err-clause-spelled g c net files told conf loaded spelled has =
    unserved (site_at loaded.config.blocks) (seen_as (g.F.Files.disk c.args.files.now) (g.F.Files.faults c.args.files.now) (g.F.Files.reads c.args.files.now)) _ (c.requires.uncalled files) (c.requires.untold net)

pub returns-in-Err-clause-says : goal.returns-in-Err-clause-says
returns-in-Err-clause-says g c sink_told told conf loaded spelled has = wordless_says c.in-Err.status (announced loaded) _ (memory_alone c.in-Err.status _ conf c.in-Err.ensures.refused spelled)

pub returns-in-Err-clause-since : goal.returns-in-Err-clause-since
returns-in-Err-clause-since g c = g.met.N.Waits.later_since _ _ (g.met.N.Net.later_same c.args.net.now)

-- ---- they do

pub returns-in-Ok-clause-words : goal.returns-in-Ok-clause-words
returns-in-Ok-clause-words g c = of_line c.serve_conf.result _ c.in-Ok.conf.now c.serve_conf.ensures.line c.in-Ok.ensures.conf

pub returns-in-Ok-clause-texts : goal.returns-in-Ok-clause-texts
returns-in-Ok-clause-texts g c told conf spelled =
    subst (λ (n : List ℕ). TextsSay c.serve_conf.result (g.X.Texts.texts c.args.texts.now) n) (one_conf _ _ _ c.in-Ok.ensures.conf spelled) (c.serve_conf.ensures.texts told)

pub returns-in-Ok-clause-asks : goal.returns-in-Ok-clause-asks
returns-in-Ok-clause-asks g c told conf spelled =
    subst (λ (n : List ℕ). Asks c.serve_conf.result n (g.X.Texts.texts c.args.texts.now) (kept (g.X.Texts.calls c.args.texts.now) (g.M.PatternMaker.calls c.args.maker.now)) (kept (g.X.Texts.calls c.serve_conf.new.texts) (g.M.PatternMaker.calls c.serve_conf.new.maker))) (one_conf _ _ _ c.in-Ok.ensures.conf spelled) (c.serve_conf.ensures.asks told)

pub returns-in-Ok-clause-complete : goal.returns-in-Ok-clause-complete
returns-in-Ok-clause-complete g c told conf spelled has =
    c.serve_conf.ensures.complete told (subst (λ (n : List ℕ). HasSomeConf (g.X.Texts.texts c.args.texts.now) n) (sym (one_conf _ _ _ c.in-Ok.ensures.conf spelled)) has)

pub returns-in-Ok-clause-spelled : goal.returns-in-Ok-clause-spelled
returns-in-Ok-clause-spelled g c net files told conf loaded spelled has =
    c.serve_conf.ensures.spelled net files told loaded (subst (λ (n : List ℕ). HasConf (g.X.Texts.texts c.args.texts.now) n loaded) (sym (one_conf _ _ _ c.in-Ok.ensures.conf spelled)) has)

pub returns-in-Ok-clause-says : goal.returns-in-Ok-clause-says
returns-in-Ok-clause-says g c sink_told told conf loaded spelled has =
    c.serve_conf.ensures.says sink_told told loaded (subst (λ (n : List ℕ). HasConf (g.X.Texts.texts c.args.texts.now) n loaded) (sym (one_conf _ _ _ c.in-Ok.ensures.conf spelled)) has)
