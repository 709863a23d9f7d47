use Rattle.std.proofs.Common.{◌∙◌, ap}
use Rattle.server_core.specs.Within.{Running}
use Rattle.server_core.specs.Table.{all_freed}
use Rattle.server_core.proofs.Closing.{none_open}
use Rattle.server_core.proofs.server.Server.close.Goals as goal

pub returns-clause-none_open : goal.returns-clause-none_open
returns-clause-none_open g c f trace serves = none_open c.args.self.table (g.F.Files.disk c.args.files.now) (g.F.Files.disk c.give_back.new.files)
    (c.give_back.ensures.disk f ∙ ap (λ (s : Running). all_freed s.table (g.F.Files.disk c.args.files.now)) c.self.view_is) serves.opened
