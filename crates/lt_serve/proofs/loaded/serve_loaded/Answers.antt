use Rattle.server_model.specs.Site.{site_at}
use Rattle.server_core.specs.Steps.{seen_as}
use Rattle.lt_serve.proofs.RunLemmas.{unserved}
use Rattle.lt_serve.proofs.loaded.serve_loaded.Goals as goal

pub returns-in_default-clause-served : goal.returns-in_default-clause-served
returns-in_default-clause-served g c net files =
    unserved (site_at c.args.loaded.now.config.blocks) (seen_as (g.F.Files.disk c.args.files.now) (g.F.Files.faults c.args.files.now) (g.F.Files.reads c.args.files.now)) _ (c.requires.uncalled files) (c.requires.untold net)

pub returns-then-is_err-clause-served : goal.returns-then-is_err-clause-served
returns-then-is_err-clause-served g c net files =
    unserved (site_at c.args.loaded.now.config.blocks) (seen_as (g.F.Files.disk c.args.files.now) (g.F.Files.faults c.args.files.now) (g.F.Files.reads c.args.files.now)) _ (c.requires.uncalled files) (c.requires.untold net)
