use Rattle.std.proofs.Common.{◌≡◌, [], map, fold}
use Rattle.http_target.specs.Path.{keep, last_of}
use Rattle.http_target.proofs.path.names_of.Given as goal

abbrev pub invariant-loop-segment : goal.invariant-loop-segment
invariant-loop-segment l = record {
  names : map (λ s. s.now) l.kept.items ≡ fold keep [] (map (λ s. s.now) l.yielded);
  last : l.last ≡ last_of (map (λ s. s.now) l.yielded);
}
