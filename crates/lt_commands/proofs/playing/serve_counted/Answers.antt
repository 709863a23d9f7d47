use Rattle.std.proofs.Common.{◌≡◌, ℕ, List, [], ap, refl, sym, subst, ◌∙◌}
use Rattle.lt_world.specs.Disk.{Disk}
use Rattle.lt_world.specs.Trace.{Entry}
use Rattle.lt_world.specs.Memory.{disk_of, tree_of, table_by, tree_by}
use Rattle.std.specs.Prelude.{Option}
use Rattle.lt_world.specs.FileRuns.{Leads-more}
use Rattle.lt_world.proofs.FileLaws.{stays}
use Rattle.server_model.specs.Serves.{Serves}
use Rattle.server_core.specs.Within.{serving_at}
use Rattle.lt_commands.proofs.RunLemmas.{serves_all, all_freed-calls}
use Rattle.lt_commands.specs.Runs.{Asked, asked_of}
use Rattle.lt_commands.proofs.playing.serve_counted.Goals as goal

pub run-finish-requires-clause-table : goal.run-finish-requires-clause-table
run-finish-requires-clause-table g c = c.requires.table _

pub run-finish-requires-clause-backs : goal.run-finish-requires-clause-backs
run-finish-requires-clause-backs g c told = c.requires.backs (disk_of c.args.files.now)

pub returns-clause-serves : goal.returns-clause-serves
returns-clause-serves g c =
    let before = c.args.files.now in
    let after = c.run-finish.new.files in
    let fresh : before.calls ≡ [] = ap (λ (a : Asked). a.calls) c.requires.fresh.unasked in
    let empty = c.requires.serves (disk_of before) fresh (λ file. ap (λ (slots : List (Option (List ℕ))). table_by slots file) c.requires.fresh.unopened) in
    let start = subst (λ (t : List Entry). Serves (disk_of before) (serving_at c.args.server) t) (sym c.requires.begins) empty in
    let closed : c.close.new.files.calls ≡ after.calls = ap (λ (d : Disk). d.calls) (c.close.ensures.disk tt) ∙ all_freed-calls c.run-finish.new.server.table (disk_of after) in
    serves_all (disk_of after) (disk_of before) (serving_at c.run-finish.new.server) c.args.server.site (tree_of before) (asked_of c.close.new.files) _ _ _ _ c.args.net.now.game.trace c.run-finish.new.net.game.trace
    c.requires.begins (ap (λ (a : Asked). a.faults) c.requires.fresh.unasked) refl fresh (ap (λ (a : Asked). a.reads) c.requires.fresh.unasked) (c.run-finish.ensures.serves tt tt start) c.run-finish.ensures.site
    (ap tree_by (stays before after c.run-finish.ensures.files_later.leads)) (sym closed) c.close.ensures.faults (sym c.close.ensures.reads) (c.run-finish.ensures.run tt tt start)

pub returns-clause-leads : goal.returns-clause-leads
returns-clause-leads g c = Leads-more c.args.files.now c.run-finish.new.files c.close.new.files c.run-finish.ensures.files_later.leads c.close.ensures.later.leads
