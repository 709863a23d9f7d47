use Rattle.std.proofs.Common.{sym, append-nil}
use Rattle.conf_parse.proofs.Printed.{branches_none, branches_open}
use Rattle.conf_parse.proofs.statements.+statement.Goals as goal

pub chain-returns-then-room-eq0 : goal.chain-returns-then-room-eq0
chain-returns-then-room-eq0 t c = rw (branches_none c.args.room c.args.branches.now c.if-room-eq0.true) (sym (append-nil c.args.out.now))

pub chain-returns : goal.chain-returns
chain-returns t c = rw (branches_open c.args.room c.args.branches.now c.if-room-eq0.false) c.open_chain.ensures
