use Rattle.std.proofs.Common.{◌≡◌, ap, subst, inl, inr}
use Rattle.conf_eval.specs.declared.fault.Loaded.{Loaded}
use Rattle.server_model.specs.Site.{site_at}
use Rattle.server_core.specs.Steps.{seen_as}
use Rattle.lt_commands.specs.Warnings.{warning_lines}
use Rattle.lt_serve.specs.Listening.{address_of, listening_line}
use Rattle.lt_serve.specs.Serving.{SaidTo}
use Rattle.lt_serve.proofs.RunLemmas.{unserved, served_as}
use Rattle.lt_serve.proofs.ServeLemmas.{loaded_line, loaded_texts, loaded_asks, loaded_ends, loaded_complete, loaded_faults, loaded_refused, said_both}
use Rattle.lt_serve.proofs.ServeLemmas.{refused_line, refused_faults, refused_ends, refused_says, refused_texts, refused_asks, refused_complete}
use Rattle.lt_serve.proofs.commands.serve_conf.Goals as goal

-- ---- no configuration was loaded

pub returns-in-Err-clause-line : goal.returns-in-Err-clause-line
returns-in-Err-clause-line g c = refused_line _ _ c.in-Err.status c.in-Err.ensures.cause

pub returns-in-Err-clause-texts : goal.returns-in-Err-clause-texts
returns-in-Err-clause-texts g c told = refused_texts c.in-Err.status _ _ (c.in-Err.ensures.says told)

pub returns-in-Err-clause-asks : goal.returns-in-Err-clause-asks
returns-in-Err-clause-asks g c told = refused_asks c.in-Err.status _ _ _ _ (c.in-Err.ensures.asks told)

pub returns-in-Err-clause-faults : goal.returns-in-Err-clause-faults
returns-in-Err-clause-faults g c = refused_faults _ _ c.in-Err.status c.in-Err.ensures.cause

pub returns-in-Err-clause-ends : goal.returns-in-Err-clause-ends
returns-in-Err-clause-ends g c = refused_ends _ _ c.in-Err.status _ _ _ c.in-Err.ensures.cause c.requires.unasked

pub returns-in-Err-clause-complete : goal.returns-in-Err-clause-complete
returns-in-Err-clause-complete g c told has = refused_complete c.in-Err.status (c.in-Err.ensures.only told has.0 has.1)

pub returns-in-Err-clause-serves : goal.returns-in-Err-clause-serves
returns-in-Err-clause-serves g c net files = inl (c.requires.untold net)

pub returns-in-Err-clause-spelled : goal.returns-in-Err-clause-spelled
returns-in-Err-clause-spelled g c net files told loaded has =
    unserved (site_at loaded.config.blocks) (seen_as (g.F.Files.disk c.args.files.now) (g.F.Files.faults c.args.files.now) (g.F.Files.reads c.args.files.now)) _ (c.requires.uncalled files) (c.requires.untold net)

pub returns-in-Err-clause-says : goal.returns-in-Err-clause-says
returns-in-Err-clause-says g c sink_told told loaded has =
    refused_says _ _ c.in-Err.status (warning_lines loaded) (listening_line (address_of loaded.config.blocks)) _ _ c.in-Err.ensures.cause (c.in-Err.ensures.warns sink_told told loaded has)

pub returns-in-Err-clause-since : goal.returns-in-Err-clause-since
returns-in-Err-clause-since g c = g.met.N.Waits.later_since _ _ (g.met.N.Net.later_same c.args.net.now)

-- ---- one was

pub returns-clause-line : goal.returns-clause-line
returns-clause-line g c = loaded_line _ _ _ c.serve_loaded.result c.serve_loaded.ensures.ends

pub returns-clause-texts : goal.returns-clause-texts
returns-clause-texts g c told = loaded_texts _ _ _ c.serve_loaded.result _ _ c.serve_loaded.ensures.ends (c.in-Ok.loaded, c.in-Ok.ensures.says told)

pub returns-clause-asks : goal.returns-clause-asks
returns-clause-asks g c told = loaded_asks _ _ _ c.serve_loaded.result _ _ _ _ c.serve_loaded.ensures.ends (c.in-Ok.loaded, c.in-Ok.ensures.asks told)

pub returns-clause-faults : goal.returns-clause-faults
returns-clause-faults g c = loaded_faults _ _ _ c.serve_loaded.result _ _ _ c.serve_loaded.ensures.ends c.load_warned.ensures.sink_faults c.serve_loaded.ensures.cause

pub returns-clause-ends : goal.returns-clause-ends
returns-clause-ends g c = loaded_ends _ _ _ c.serve_loaded.result c.serve_loaded.ensures.ends

pub returns-clause-complete : goal.returns-clause-complete
returns-clause-complete g c told has = loaded_complete _ _ _ c.serve_loaded.result c.serve_loaded.ensures.ends

pub returns-clause-serves : goal.returns-clause-serves
returns-clause-serves g c net files = inr (record { loaded = c.in-Ok.loaded; in_form = c.in-Ok.ensures.in_form; served = c.serve_loaded.ensures.served net files })

pub returns-clause-spelled : goal.returns-clause-spelled
returns-clause-spelled g c net files told loaded has =
    let same : c.in-Ok.loaded ≡ loaded = c.in-Ok.ensures.only told loaded has in
    served_as (site_at c.in-Ok.loaded.config.blocks) (site_at loaded.config.blocks) _ _ _ (c.serve_loaded.ensures.served net files) (ap (λ (l : Loaded). site_at l.config.blocks) same)

pub returns-clause-says : goal.returns-clause-says
returns-clause-says g c sink_told told loaded has =
    let same : c.in-Ok.loaded ≡ loaded = c.in-Ok.ensures.only told loaded has in
    let before = g.S.Sink.bytes c.args.sink.now in
    let mid = g.S.Sink.bytes c.load_warned.new.sink in
    let after = g.S.Sink.bytes c.serve_loaded.new.sink in
    said_both _ _ _ c.serve_loaded.result (warning_lines loaded) (listening_line (address_of loaded.config.blocks)) before mid after c.serve_loaded.ensures.ends
    (c.in-Ok.ensures.warns sink_told told loaded has)
    (subst (λ (l : Loaded). SaidTo c.serve_loaded.result (listening_line (address_of l.config.blocks)) mid after) same (c.serve_loaded.ensures.says sink_told))

pub returns-clause-refused : goal.returns-clause-refused
returns-clause-refused g c is = loaded_refused _ _ _ _ c.serve_loaded.result c.serve_loaded.ensures.ends c.serve_loaded.ensures.unasked is
