use Rattle.static_files.specs.Texts.{texts_of}
use Rattle.static_files.proofs.Placing.{tries_place}
use Rattle.static_files.proofs.places.find_file.Goals as goal

pub returns-clause-place : goal.returns-clause-place
returns-clause-place g c told =
    tries_place c.args.owner c.args.path.now c.args.physical.now (texts_of c.args.index.now) (g.F.Files.disk c.args.files.now) c.find_among.result (g.F.Files.disk c.find_among.new.files) (c.find_among.ensures.tries told)
