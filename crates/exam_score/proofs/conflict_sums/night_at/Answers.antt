use Rattle.std.proofs.Common.{◌+◌, ◌<◌, ◌⊎◌, sym}
use Rattle.exam_model.specs.Timetable.{period_number, place_of}
use Rattle.exam_model.proofs.PlaceLemmas.{number_at}
use Rattle.exam_score.proofs.ConflictCostLemmas.{night_free}
use Rattle.exam_score.proofs.conflict_sums.night_at.Goals as goal

pub returns-then-are_apart : goal.returns-then-are_apart
returns-then-are_apart c =
    let T = c.args.timetable.now in
    let ns = c.args.periods.now in
    let x = c.args.conflict.now in
    let apart : (period_number (place_of T x.other) + 1 < period_number (place_of T x.exam))
    ⊎ (period_number (place_of T x.exam) + 1 < period_number (place_of T x.other)) =
    rw (
      ← number_at T ns x.exam c.requires.periods c.requires.exists,
      ← number_at T ns x.other c.requires.periods c.requires.other_exists,
      ← c.get.ensures,
      ← c.get-2.ensures,
    ) (c.are_apart.ensures c.if-are_apart.true) in
    sym (night_free c.args.instance.now.periods c.args.instance.now.weights (place_of T x.exam)
    (place_of T x.other) apart)
