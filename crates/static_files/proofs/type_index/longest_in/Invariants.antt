use Rattle.std.proofs.Common.{◌≡◌, ◌≤◌, drop, length, map}
use Rattle.std.specs.Prelude.{option_map}
use Rattle.static_files.specs.MediaTypes.{type_of}
use Rattle.static_files.specs.TypeSlots.{has_window, longest_by}
use Rattle.static_files.proofs.type_index.longest_in.Given as goal

abbrev pub invariant-loop-at : goal.invariant-loop-at
invariant-loop-at l = record { within : l.at ≤ length l.entries; best : option_map type_of l.best ≡ longest_by (has_window l.window) l.path (map type_of (drop l.at l.entries)) }

abbrev pub decreases-loop-at : goal.decreases-loop-at
decreases-loop-at l = l.at
