use Rattle.std.proofs.Common.{◌≡◌, drop}
use Rattle.static_files.specs.Locations.{is_excluded}
use Rattle.static_files.specs.Texts.{texts_of}
use Rattle.static_files.proofs.locations.is_excluded.Given as goal

abbrev pub invariant-loop-extension : goal.invariant-loop-extension
invariant-loop-extension l = is_excluded (texts_of (drop l.extension-index l.extensions)) l.path ≡ is_excluded (texts_of l.extensions) l.path
