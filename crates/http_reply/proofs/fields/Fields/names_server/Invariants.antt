use Rattle.std.proofs.Common.{◌≡◌, drop, map}
use Rattle.http_reply.specs.FieldLines.{line_of}
use Rattle.http_reply.specs.Replies.{names_server}
use Rattle.http_reply.proofs.fields.Fields.names_server.Given as goal

abbrev pub invariant-loop-line : goal.invariant-loop-line
invariant-loop-line l = names_server (map line_of (drop l.line-index l.line-items)) ≡ names_server (map line_of l.line-items)
