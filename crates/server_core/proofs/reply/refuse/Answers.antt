use Rattle.std.proofs.Common.{refl, sym, ap, None, Option, ℕ}
use Rattle.server_model.specs.Held.{Held}
use Rattle.server_core.specs.Sending.{refusal_items}
use Rattle.server_core.proofs.Settling.{given_text, holds_none}
use Rattle.server_core.proofs.reply.refuse.Goals as goal

pub returns-in_default-clause-given : goal.returns-in_default-clause-given
returns-in_default-clause-given c = (refl, holds_none c.args.conn.now.held c.requires.file)
