use Rattle.exam_publish.proofs.PublishedLemmas.{same_enrolments}
use Rattle.exam_publish.proofs.laws.seated_as_enrolled.Goals as goal

pub returns : goal.returns
returns c I E T old known enrolled fits permitted was =
    same_enrolments I E T old known enrolled fits permitted was
