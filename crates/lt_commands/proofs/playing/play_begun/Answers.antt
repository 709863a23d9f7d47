use Rattle.lt_commands.proofs.OfflineLemmas.{plays_all}
use Rattle.lt_world.specs.Memory.{tree_of}
use Rattle.lt_commands.proofs.CalmLemmas.{calm_run}
use Rattle.lt_commands.specs.Runs.{asked_of}
use Rattle.lt_commands.proofs.playing.play_begun.Goals as goal

pub returns-in-Ok-clause-plays : goal.returns-in-Ok-clause-plays
returns-in-Ok-clause-plays g c said begins done = plays_all said c.args.net.now c.serve.new.net begins c.serve.ensures.later (c.serve.ensures.over c.in-Over.is)

pub returns-in-NoMemory-clause-calm : goal.returns-in-NoMemory-clause-calm
returns-in-NoMemory-clause-calm g c said begins calm unfailed = calm_run c.args.server.site (tree_of c.args.files.now) (asked_of c.serve.new.files) said c.args.net.now c.serve.new.net begins c.serve.ensures.later calm unfailed c.serve.ensures.serves

pub returns-in-Ok-clause-calm : goal.returns-in-Ok-clause-calm
returns-in-Ok-clause-calm g c said begins calm unfailed = calm_run c.args.server.site (tree_of c.args.files.now) (asked_of c.serve.new.files) said c.args.net.now c.serve.new.net begins c.serve.ensures.later calm unfailed c.serve.ensures.serves

pub returns-in-Err-clause-calm : goal.returns-in-Err-clause-calm
returns-in-Err-clause-calm g c said begins calm unfailed = calm_run c.args.server.site (tree_of c.args.files.now) (asked_of c.serve.new.files) said c.args.net.now c.serve.new.net begins c.serve.ensures.later calm unfailed c.serve.ensures.serves
