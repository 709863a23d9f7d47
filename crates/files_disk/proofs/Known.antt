-- Known bytes over reads that gave nothing.
use Rattle.std.proofs.Common.{◌≡◌, ℕ, ◌<◌, List, ◌++◌, length, take, Option, Some, None, sym, ◌∙◌}
use Rattle.std.specs.Io.KnownBytes.{Keeps, Consumes, IsAtEnd}

pub keeps_same : (a : Option (List ℕ)) → Keeps a a
keeps_same None = tt
keeps_same (Some xs) = cc

pub keeps_on : (a b c : Option (List ℕ)) → Keeps a b → Keeps b c → Keeps a c
keeps_on None b c ab bc = tt
keeps_on (Some xs) None c ab bc = absurd ab
keeps_on (Some xs) (Some ys) None ab bc = absurd bc
keeps_on (Some xs) (Some ys) (Some zs) ab bc = bc ∙ ab

pub consumes_on : (a b c : Option (List ℕ)) (bytes : List ℕ) → Keeps a b → Consumes b c bytes → Consumes a c bytes
consumes_on None b c bytes ab bc = tt
consumes_on (Some xs) None c bytes ab bc = absurd ab
consumes_on (Some xs) (Some ys) None bytes ab bc = absurd bc
consumes_on (Some xs) (Some ys) (Some zs) bytes ab bc = sym ab ∙ bc
