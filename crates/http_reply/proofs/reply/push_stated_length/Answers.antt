use Rattle.std.proofs.lemmas.List.{append-nil}
use Rattle.http_reply.proofs.reply.push_stated_length.Goals as goal

pub returns-in-Some : goal.returns-in-Some
returns-in-Some c = rw (c.in-Some.is, append-nil, ← c.decimal.ensures, ← c.bytes.ensures) c.push_field.ensures
