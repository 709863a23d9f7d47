use Rattle.std.proofs.Common.{◌≡◌, ℕ, List, ap, sym, subst, ◌∙◌}
use Rattle.std.specs.Prelude.{Option, Err}
use Rattle.lt_script.specs.declared.script.Script.{Script}
use Rattle.script_net.specs.Playing.{Playing}
use Rattle.conf_eval.specs.declared.fault.Loaded.{Loaded}
use Rattle.lt_commands.specs.Reading.{ScriptSays}
use Rattle.lt_commands.proofs.OfflineLemmas.{play_says, play_complete, play_memory, conf_says, script_says, is_complete, is_complete_load, complete_load, read_faults}
use Rattle.lt_commands.proofs.ServingLemmas.{unrun, unserved_some, undone, unloaded, served_for}
use Rattle.lt_commands.proofs.AskingLemmas.{conf_asks, script_asks, play_asks}
use Rattle.lt_commands.specs.Runs.{asked_of}
use Rattle.lt_commands.proofs.commands.replay.Goals as goal

pub returns-clause-texts : goal.returns-clause-texts
returns-clause-texts g c told =
    let kept : g.X.Texts.texts c.load_conf.new.texts c.args.script.now ≡ g.X.Texts.texts c.args.texts.now c.args.script.now = ap (λ (texts : List ℕ → Option (List ℕ)). texts c.args.script.now) (c.load_conf.ensures.texts told) in
    let said = c.in-Ok-read_script.ensures.says told in
    play_says c.play.result _ (g.X.Texts.texts c.args.texts.now) c.args.conf.now c.args.script.now c.play.ensures.ends (c.in-Ok.loaded, c.in-Ok.ensures.says told) (c.in-Ok-read_script.script, (said.0, sym kept ∙ said.1, said.2, said.3))

pub returns-in-Err-clause-texts : goal.returns-in-Err-clause-texts
returns-in-Err-clause-texts g c told = conf_says c.in-Err.status (g.X.Texts.texts c.args.texts.now) c.args.conf.now c.args.script.now (c.in-Err.ensures.says told)

pub returns-in-Err-read_script-clause-texts : goal.returns-in-Err-read_script-clause-texts
returns-in-Err-read_script-clause-texts g c told =
    let kept : g.X.Texts.texts c.load_conf.new.texts c.args.script.now ≡ g.X.Texts.texts c.args.texts.now c.args.script.now = ap (λ (texts : List ℕ → Option (List ℕ)). texts c.args.script.now) (c.load_conf.ensures.texts told) in
    script_says c.in-Err-read_script.status (g.X.Texts.texts c.args.texts.now) c.args.conf.now c.args.script.now (c.in-Ok.loaded, c.in-Ok.ensures.says told)
    (subst (λ (held : Option (List ℕ)). ScriptSays (Err c.in-Err-read_script.status) held) kept (c.in-Err-read_script.ensures.says told))

pub returns-in-Err-clause-complete : goal.returns-in-Err-clause-complete
returns-in-Err-clause-complete g c told has said = is_complete_load has.0 c.in-Err.status (c.in-Err.ensures.only told has.0 has.1)

pub returns-in-Err-read_script-clause-complete : goal.returns-in-Err-read_script-clause-complete
returns-in-Err-read_script-clause-complete g c told has said =
    let kept : g.X.Texts.texts c.load_conf.new.texts c.args.script.now ≡ g.X.Texts.texts c.args.texts.now c.args.script.now = ap (λ (texts : List ℕ → Option (List ℕ)). texts c.args.script.now) (c.load_conf.ensures.texts told) in
    let held = said.1 in
    complete_load c.in-Err-read_script.status (is_complete said.0 c.in-Err-read_script.status (c.in-Err-read_script.ensures.only told said.0 (held.0, kept ∙ held.1, held.2, held.3)))

pub returns-clause-complete : goal.returns-clause-complete
returns-clause-complete g c told has said = play_complete c.play.result _ c.play.ensures.ends

pub returns-in-Err-clause-serves : goal.returns-in-Err-clause-serves
returns-in-Err-clause-serves g c = unserved_some c.in-Err.status _ _ (ap asked_of c.requires.files) (ap (λ (p : Playing). p.game.trace) c.requires.net)

pub returns-in-Err-clause-spelled : goal.returns-in-Err-clause-spelled
returns-in-Err-clause-spelled g c told loaded said has held =
    unrun loaded said c.in-Err.status _ _ (ap asked_of c.requires.files) (ap (λ (p : Playing). p.game.trace) c.requires.net)
    (λ done. absurd (unloaded c.in-Err.status _ _ _ _ c.in-Err.ensures.cause done))

pub returns-in-Err-read_script-clause-serves : goal.returns-in-Err-read_script-clause-serves
returns-in-Err-read_script-clause-serves g c = unserved_some c.in-Err-read_script.status _ _ (ap asked_of c.requires.files) (ap (λ (p : Playing). p.game.trace) c.requires.net)

pub returns-in-Err-read_script-clause-spelled : goal.returns-in-Err-read_script-clause-spelled
returns-in-Err-read_script-clause-spelled g c told loaded said has held =
    unrun loaded said c.in-Err-read_script.status _ _ (ap asked_of c.requires.files) (ap (λ (p : Playing). p.game.trace) c.requires.net)
    (λ done. absurd (undone Script c.in-Err-read_script.status _ _ c.in-Err-read_script.ensures.cause done))

pub returns-clause-serves : goal.returns-clause-serves
returns-clause-serves g c = record { loaded = c.in-Ok.loaded; in_form = c.in-Ok.ensures.in_form; said = c.in-Ok-read_script.script; serves = c.play.ensures.serves }

pub returns-clause-spelled : goal.returns-clause-spelled
returns-clause-spelled g c told loaded said has held =
    let kept : g.X.Texts.texts c.load_conf.new.texts c.args.script.now ≡ g.X.Texts.texts c.args.texts.now c.args.script.now = ap (λ (texts : List ℕ → Option (List ℕ)). texts c.args.script.now) (c.load_conf.ensures.texts told) in
    let same : c.in-Ok-read_script.script ≡ said = c.in-Ok-read_script.ensures.only told said (held.0, kept ∙ held.1, held.2, held.3) in
    served_for c.in-Ok.loaded loaded c.in-Ok-read_script.script said c.play.result _ _ c.play.ensures.serves (c.in-Ok.ensures.only told loaded has) same

pub returns-in-Err-clause-asks : goal.returns-in-Err-clause-asks
returns-in-Err-clause-asks g c told = conf_asks c.args.conf.now c.args.script.now (g.X.Texts.texts c.args.texts.now) _ _ c.in-Err.status (c.in-Err.ensures.asks told)

pub returns-in-Err-read_script-clause-asks : goal.returns-in-Err-read_script-clause-asks
returns-in-Err-read_script-clause-asks g c told =
    let kept : g.X.Texts.texts c.load_conf.new.texts c.args.script.now ≡ g.X.Texts.texts c.args.texts.now c.args.script.now = ap (λ (texts : List ℕ → Option (List ℕ)). texts c.args.script.now) (c.load_conf.ensures.texts told) in
    script_asks c.args.conf.now c.args.script.now (g.X.Texts.texts c.args.texts.now) _ (g.X.Texts.calls c.load_conf.new.texts) _ (g.M.PatternMaker.calls c.load_conf.new.maker) c.in-Err-read_script.status (c.in-Ok.loaded, c.in-Ok.ensures.asks told)
    (subst (λ (held : Option (List ℕ)). ScriptSays (Err c.in-Err-read_script.status) held) kept (c.in-Err-read_script.ensures.says told)) (c.in-Err-read_script.ensures.asks told)

pub returns-clause-asks : goal.returns-clause-asks
returns-clause-asks g c told =
    play_asks c.args.conf.now c.args.script.now (g.X.Texts.texts c.args.texts.now) _ (g.X.Texts.calls c.load_conf.new.texts) _ (g.M.PatternMaker.calls c.load_conf.new.maker) c.play.result _ c.play.ensures.ends (c.in-Ok.loaded, c.in-Ok.ensures.asks told) (c.in-Ok-read_script.ensures.asks told)

pub returns-clause-memory : goal.returns-clause-memory
returns-clause-memory g c = play_memory c.play.result _ c.play.ensures.ends

pub returns-in-Err-read_script-clause-faults : goal.returns-in-Err-read_script-clause-faults
returns-in-Err-read_script-clause-faults g c = read_faults Script c.in-Err-read_script.status _ _ _ c.load_conf.ensures.faults c.in-Err-read_script.ensures.cause
