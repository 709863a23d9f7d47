use Rattle.http_target.proofs.SegmentLemmas.{normal_again, names_closed, segments_normal}
use Rattle.http_target.proofs.laws.normal_form.Goals as goal

pub returns-clause-same : goal.returns-clause-same
returns-clause-same c = normal_again

pub returns-clause-names : goal.returns-clause-names
returns-clause-names c = names_closed

pub returns-clause-segments : goal.returns-clause-segments
returns-clause-segments c = segments_normal
