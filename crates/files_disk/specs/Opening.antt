-- What opening makes of the table of opened files.
use Rattle.std.specs.Prelude.{◌≡◌, ℕ, ◌<◌, ◌^◌, List, Some, None, false}
use Rattle.slab.specs.Slab.{Slab, get, Updates, SameValues}
use Rattle.lt_world.specs.declared.files.Opened.{Opened}
use Rattle.lt_world.specs.declared.files.Opened.TheVariants as opens
use Rattle.lt_world.specs.Disk.{ends_in_slash}

-- a size below the limit, at a path that may name a file
abbrev pub RegularWithin : ℕ → List ℕ → Type 0
RegularWithin size path = (size < 2 ^ 62) × (ends_in_slash path ≡ false)

-- an opened file stands under a number that no open file had; each other number keeps its file, and all do where none
-- was opened
abbrev pub OpensOne : {F : Type 0} → Opened → Slab F → Slab F → Type 0
OpensOne {F} (opens.File file size time) before after = (get before file.0 ≡ None) × ((opened : F) × Updates before after file.0 (Some opened))
OpensOne other before after = SameValues before after
