use Rattle.std.proofs.Common.{ℕ, ◌<◌}
use Rattle.exam_model.specs.Timetable.{place_of}
use Rattle.exam_model.specs.Fits.{PlaceExists}
use Rattle.worked_examples.proofs.given.fits.Given as goal

abbrev pub invariant-exams : goal.invariant-exams
invariant-exams l = (k : ℕ) → k < l.exam → PlaceExists l.instance (place_of l.timetable k)
