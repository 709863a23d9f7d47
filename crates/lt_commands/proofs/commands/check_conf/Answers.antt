use Rattle.std.specs.Prelude.{codes}
use Rattle.lt_commands.specs.Warnings.{warning_lines}
use Rattle.lt_commands.proofs.WarningLemmas.{front_behind, front_of_both, warned_undone}
use Rattle.lt_commands.proofs.commands.check_conf.Goals as goal

pub returns-in-Ok-clause-prints : goal.returns-in-Ok-clause-prints
returns-in-Ok-clause-prints g c told texts_told loaded has =
    let wrote = c.in-Err-write_all.ensures.writes told in
    front_behind (warning_lines loaded) (codes "Syntax OK\n") wrote.front wrote.begins.0 (g.S.Sink.bytes c.args.sink.now) (g.S.Sink.bytes c.load_warned.new.sink) (g.S.Sink.bytes c.write_all.new.sink)
    wrote.begins.1 (c.in-Ok.ensures.warns told texts_told loaded has) wrote.got

pub returns-clause-complete : goal.returns-clause-complete
returns-clause-complete g c told has = c.in-Err.ensures.only told has.0 has.1

pub returns-clause-prints : goal.returns-clause-prints
returns-clause-prints g c told texts_told loaded has =
    front_of_both c.in-Err.status (warning_lines loaded) (codes "Syntax OK\n") (g.S.Sink.bytes c.args.sink.now) (g.S.Sink.bytes c.load_warned.new.sink) (warned_undone c.in-Err.status _ _ c.in-Err.ensures.cause)
    (c.in-Err.ensures.warns told texts_told loaded has)
