-- For proofs alone: what stands at a path in the code, and how a list of places grows.
use Rattle.std.specs.Prelude.{◌≡◌, List, ℕ, ◌++◌, Option, Some, None}
use denote.Ref.{Bor}
use Rattle.lt_world.specs.declared.places.Standing.{Standing}
use Rattle.lt_world.specs.declared.places.Standing.TheVariants as standing
use Rattle.lt_world.specs.declared.places.Seen.{Seen}
use Rattle.lt_world.specs.declared.places.Seen.TheVariants as seen
use Rattle.lt_world.specs.Disk.{Node, Missing, Directory, File}
use Rattle.lt_world.specs.Memory.{Placed, last_at}

-- what stands there, as the tree has it
abbrev pub node_of : Standing → Node
node_of standing.Directory = Directory
node_of (standing.File content) = File content.bytes.value content.time

-- an answer is this node
abbrev pub Sees : Seen → Node → Type 0
Sees seen.Missing node = node ≡ Missing
Sees seen.Directory node = node ≡ Directory
Sees (seen.File content) node = node ≡ File content.now.bytes.value content.now.time

-- the last that was placed at a path is this, or nothing was
abbrev pub StandsLast : Option (Bor Standing) → List ℕ → List Placed → Type 0
StandsLast None path places = last_at path places Missing ≡ Missing
StandsLast (Some standing) path places = last_at path places Missing ≡ node_of standing.now

-- places are added at the end alone
abbrev pub AddsPlaces : List Placed → List Placed → Type 0
AddsPlaces before after = (more : List Placed) × (after ≡ before ++ more)
