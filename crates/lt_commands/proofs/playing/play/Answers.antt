use Rattle.std.proofs.Common.{rules, ◌≡◌, refl}
use Rattle.script_net.specs.Playing.{prepared}
use Rattle.lt_world.specs.Memory.{tree_of, no_files}
use Rattle.script_net.specs.Loads.{planted}
use Rattle.server_model.specs.Site.{site_at}
use Rattle.lt_commands.specs.declared.status.Status.TheVariants as status
use Rattle.lt_commands.specs.Planned.{ArePlanned, FailsAsPlanned}
use Rattle.lt_commands.specs.Runs.{asked_of}
use Rattle.lt_commands.proofs.PlannedLemmas.{none_fails}
use Rattle.lt_commands.proofs.RunLemmas.{served_as}
use Rattle.lt_commands.proofs.ServingLemmas.{unrun}
use Rattle.lt_commands.proofs.playing.play.Goals as goal

pub returns-then-is_err-clause-serves : goal.returns-then-is_err-clause-serves
returns-then-is_err-clause-serves g c = unrun c.args.loaded.now c.args.script.now status.NoMemory _ _ c.begin.ensures.fresh.unasked c.begin.ensures.untold (λ done. absurd (cc done))

pub returns-in-Err-clause-serves : goal.returns-in-Err-clause-serves
returns-in-Err-clause-serves g c = unrun c.args.loaded.now c.args.script.now status.NoMemory _ _ c.begin.ensures.fresh.unasked c.begin.ensures.untold (λ done. absurd (cc done))

pub returns-in-Ok-clause-serves : goal.returns-in-Ok-clause-serves
returns-in-Ok-clause-serves g c =
    let said = c.args.script.now in
    let site = site_at c.args.loaded.now.config.blocks in
    let left = asked_of c.play_begun.new.files in
    let begun : c.begin.new.net ≡ prepared said = search rules in
    let tree_is : tree_of c.begin.new.files ≡ planted said.files (tree_of no_files) = search rules in
    let plans : ArePlanned said.faults c.begin.new.files = search rules in
    let fails : FailsAsPlanned said.faults left = record { before = c.begin.new.files; after = c.play_begun.new.files; begins = plans; leads = c.play_begun.ensures.leads; left_is = refl } in
    record {
      served = served_as c.in-Ok.server.site site (tree_of c.begin.new.files) (planted said.files (tree_of no_files)) left c.play_begun.new.net.game.trace c.play_begun.ensures.serves c.in-Ok.ensures.site tree_is;
      planned = fails;
      sound = none_fails said.faults left fails;
      calm = λ calm none. c.play_begun.ensures.calm said begun calm (none_fails said.faults left fails none);
      plays = c.play_begun.ensures.plays said begun;
    }
