use Rattle.std.proofs.Common.{arith}
use Rattle.exam_reasons.proofs.PairLemmas.{exams_of_conflict}
use Rattle.exam_reasons.proofs.pairs.costly_conflicts.Goals as goal

-- both exams of a conflict exist
pub is_costly-requires-clause-exists : goal.is_costly-requires-clause-exists
is_costly-requires-clause-exists c =
    omega (
      arith,
      (exams_of_conflict c.args.enrolments.now c.args.conflicts.now
          c.loop-conflict.conflict-index c.conflict-item.result c.requires.listed c.loop-conflict-test.true
          c.conflict-item.is).0,
      c.requires.fits.enrolments,
      c.requires.fits.timetable,
    )

pub is_costly-requires-clause-other_exists : goal.is_costly-requires-clause-other_exists
is_costly-requires-clause-other_exists c =
    omega (
      arith,
      (exams_of_conflict c.args.enrolments.now c.args.conflicts.now
          c.loop-conflict.conflict-index c.conflict-item.result c.requires.listed c.loop-conflict-test.true
          c.conflict-item.is).1,
      c.requires.fits.enrolments,
      c.requires.fits.timetable,
    )
