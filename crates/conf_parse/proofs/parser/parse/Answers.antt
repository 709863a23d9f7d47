use Rattle.conf_parse.proofs.Public.{found_of, only_of, refused_of, computed_of}
use Rattle.conf_parse.proofs.parser.parse.Goals as goal

pub returns : goal.returns
returns c = record {
  found = rw c.as_slice.ensures at (found_of 64 c.as_slice.result.now c.read.result c.read.ensures.exact);
  only = rw c.as_slice.ensures at (only_of 64 c.as_slice.result.now c.read.result c.read.ensures.exact);
  refused = rw c.as_slice.ensures at (refused_of 64 c.as_slice.result.now c.read.result c.read.ensures.exact);
  computed = rw c.as_slice.ensures at (computed_of c.as_slice.result.now c.read.result c.read.ensures.exact);
}
