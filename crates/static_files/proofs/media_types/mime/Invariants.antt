use Rattle.std.proofs.Common.{◌≡◌, ◌≤◌, drop, length}
use Rattle.std.specs.Prelude.{option_map}
use Rattle.static_files.specs.MediaTypes.{longest, type_of}
use Rattle.static_files.proofs.media_types.mime.Given as goal

abbrev pub invariant-loop-at : goal.invariant-loop-at
invariant-loop-at l = record { within : l.at ≤ length l.types; best : option_map type_of l.best ≡ longest l.path (drop l.at l.types) }

abbrev pub decreases-loop-at : goal.decreases-loop-at
decreases-loop-at l = l.at
