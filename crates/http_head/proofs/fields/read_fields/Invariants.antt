use Rattle.std.proofs.Common.{map}
use Rattle.httparse.specs.Spans.{header_bytes}
use Rattle.http_head.specs.Fields.{IsFilled}
use Rattle.http_head.proofs.fields.read_fields.Given as goal

abbrev pub invariant-loop-header : goal.invariant-loop-header
invariant-loop-header l = IsFilled (map (header_bytes l.buf) l.headers) l.header-index l.fields
