use Rattle.std.proofs.Common.{sym, append-nil}
use Rattle.conf_parse.proofs.Printed.{array_none, array_open}
use Rattle.conf_parse.proofs.printer.+value.Goals as goal

pub array-returns-then-room-eq0 : goal.array-returns-then-room-eq0
array-returns-then-room-eq0 t c = rw (array_none c.args.room c.args.items.now c.if-room-eq0.true) (sym (append-nil c.args.out.now))

pub array-returns : goal.array-returns
array-returns t c = rw (array_open c.args.room c.args.items.now c.if-room-eq0.false) c.open_array.ensures
