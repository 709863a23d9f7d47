-- A chain of segments.
use Rattle.std.specs.Prelude.{List, [], Option, Some, None}
use Rattle.chunkqueue.specs.declared.segment.Segment.{Segment}

-- the segments of a list that may not be there yet
abbrev pub linked : Option (List Segment) → List Segment
linked None = []
linked (Some segments) = segments
