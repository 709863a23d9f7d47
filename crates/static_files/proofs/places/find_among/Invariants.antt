use Rattle.std.proofs.Common.{◌≡◌, ◌≤◌, drop, Result}
use Rattle.lt_bytes.specs.declared.memory.NoMemory.{NoMemory}
use Rattle.lt_world.specs.Disk.{Disk}
use Rattle.static_files.specs.declared.places.Place.{Place}
use Rattle.static_files.specs.Places.{Tries}
use Rattle.static_files.specs.Texts.{texts_of}
use Rattle.static_files.proofs.places.find_among.Given as goal

-- what the names that are left come to is what all come to
abbrev pub invariant-loop-pair : goal.invariant-loop-pair
invariant-loop-pair g l = record {
  tries : g.F.Files.tells → (result : Result Place NoMemory) (after : Disk) → Tries l.owner l.path l.physical (texts_of (drop l.pair-index l.names)) (g.F.Files.disk l.files) result after → Tries l.owner l.path l.physical (texts_of l.names) (g.F.Files.disk l.initial.files) result after;
  faults : g.F.Files.faults l.initial.files ≤ g.F.Files.faults l.files;
  reads : g.F.Files.reads l.files ≡ g.F.Files.reads l.initial.files;
  later : g.F.Files.later l.initial.files l.files;
}
