use Rattle.std.proofs.Common.{◌≡◌, ◌++◌, take, map, flat_map}
use Rattle.http_reply.specs.FieldLines.{line_of}
use Rattle.http_reply.specs.Replies.{field_line}
use Rattle.http_reply.proofs.reply.push_lines.Given as goal

abbrev pub invariant-loop-line : goal.invariant-loop-line
invariant-loop-line l = l.text ≡ l.initial.text ++ flat_map field_line (map line_of (take l.line-index l.lines))
