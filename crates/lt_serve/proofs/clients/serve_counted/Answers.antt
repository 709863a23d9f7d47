use Rattle.std.proofs.Common.{List, ap, sym, subst, ◌∙◌}
use Rattle.lt_world.specs.Disk.{Disk}
use Rattle.lt_world.specs.Trace.{Entry}
use Rattle.server_model.specs.Serves.{Serves}
use Rattle.server_core.specs.Steps.{seen_as}
use Rattle.server_core.specs.Within.{serving_at}
use Rattle.lt_serve.specs.Served.{IsGivenBack}
use Rattle.lt_serve.proofs.RunLemmas.{served_all, all_freed-calls}
use Rattle.lt_serve.proofs.clients.serve_counted.Goals as goal

pub run-finish-requires-clause-table : goal.run-finish-requires-clause-table
run-finish-requires-clause-table g c = c.requires.table _

pub returns-clause-served : goal.returns-clause-served
returns-clause-served g c net files =
    let disk = g.F.Files.disk c.args.files.now in
    let mid = c.run-finish.new.files in
    let empty = c.requires.serves disk (c.requires.uncalled files) (c.requires.unopened files) in
    let start = subst (λ (t : List Entry). Serves disk (serving_at c.args.server) t) (sym (c.requires.untold net)) empty in
    let back : IsGivenBack (seen_as (g.F.Files.disk mid) (g.F.Files.faults mid) (g.F.Files.reads mid)) (seen_as (g.F.Files.disk c.close.new.files) (g.F.Files.faults c.close.new.files) (g.F.Files.reads c.close.new.files)) = record {
      calls = ap (λ (d : Disk). d.calls) (c.close.ensures.disk files) ∙ all_freed-calls c.run-finish.new.server.table (g.F.Files.disk mid);
      reads = c.close.ensures.reads;
      faults = c.close.ensures.faults;
    } in
    served_all (serving_at c.run-finish.new.server) c.args.server.site _ _ _ (g.N.Net.trace c.args.net.now) (g.N.Net.trace c.run-finish.new.net)
    (c.requires.untold net) (c.run-finish.ensures.serves net files start) c.run-finish.ensures.site (c.run-finish.ensures.run net files start) back
