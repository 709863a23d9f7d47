use Rattle.std.proofs.Common.{◌≡◌, ap, refl, subst, sym}
use Rattle.lt_script.specs.declared.script.Script.{Script}
use Rattle.script_net.specs.Playing.{Playing}
use Rattle.script_gen.specs.Generated.{generated}
use Rattle.lt_commands.specs.declared.status.Status.TheVariants as status
use Rattle.lt_commands.specs.Planned.{AreNotOfFiles}
use Rattle.lt_commands.specs.Runs.{asked_of}
use Rattle.lt_commands.proofs.BenchLemmas.{unrun_bench}
use Rattle.lt_commands.proofs.OfflineLemmas.{bench_says, play_faults, play_line, play_memory, play_runs}
use Rattle.lt_commands.proofs.ServingLemmas.{served_for, unserved_some}
use Rattle.lt_commands.proofs.benching.bench.Goals as goal

pub returns-in_default-clause-serves : goal.returns-in_default-clause-serves
returns-in_default-clause-serves g c = unserved_some status.NoMemory _ _ (ap asked_of c.requires.files) (ap (λ (p : Playing). p.game.trace) c.requires.net)

pub returns-in_default-clause-benched : goal.returns-in_default-clause-benched
returns-in_default-clause-benched g c = unrun_bench c.args.clients status.NoMemory _ _ refl (ap asked_of c.requires.files) (ap (λ (p : Playing). p.game.trace) c.requires.net)

pub returns-in_default-generate-clause-serves : goal.returns-in_default-generate-clause-serves
returns-in_default-generate-clause-serves g c = unserved_some status.NoMemory _ _ (ap asked_of c.requires.files) (ap (λ (p : Playing). p.game.trace) c.requires.net)

pub returns-in_default-generate-clause-benched : goal.returns-in_default-generate-clause-benched
returns-in_default-generate-clause-benched g c = unrun_bench c.args.clients status.NoMemory _ _ refl (ap asked_of c.requires.files) (ap (λ (p : Playing). p.game.trace) c.requires.net)

pub returns-clause-says : goal.returns-clause-says
returns-clause-says g c = bench_says c.play.result _ c.play.ensures.ends (c.in-Ok.loaded, c.in-Ok.ensures.conf)

pub returns-clause-line : goal.returns-clause-line
returns-clause-line g c = play_line c.play.result _ c.play.ensures.ends

pub returns-clause-runs : goal.returns-clause-runs
returns-clause-runs g c is = play_runs c.play.result _ c.play.ensures.ends is

pub returns-clause-faults : goal.returns-clause-faults
returns-clause-faults g c texts patterns = play_faults c.play.result _ _ _ c.play.ensures.ends c.play.ensures.cause

pub returns-clause-memory : goal.returns-clause-memory
returns-clause-memory g c = play_memory c.play.result _ c.play.ensures.ends

pub returns-clause-serves : goal.returns-clause-serves
returns-clause-serves g c = record { loaded = c.in-Ok.loaded; in_form = c.in-Ok.ensures.in_form; said = c.in-Ok-generate.script; serves = c.play.ensures.serves }

pub returns-clause-benched : goal.returns-clause-benched
returns-clause-benched g c =
    let same : c.in-Ok-generate.script ≡ generated c.args.clients = c.in-Ok-generate.ensures.script in
    let unplanned : AreNotOfFiles c.in-Ok-generate.script.faults = subst (λ (s : Script). AreNotOfFiles s.faults) (sym same) refl in
    record {
      serves = λ loaded has. served_for c.in-Ok.loaded loaded c.in-Ok-generate.script (generated c.args.clients) c.play.result _ _ c.play.ensures.serves (c.in-Ok.ensures.only loaded has) same;
      calm = c.play.ensures.serves.calm c.in-Ok-generate.ensures.calm unplanned;
    }
