use Rattle.std.proofs.Common.{length}
use Rattle.exam_model.specs.Enrolments.{IsAscending}
use Rattle.exam_score.specs.Folds.{IsFoldOf}
use Rattle.office_store.specs.FoldReads.{HasRead, RowsUnchanged}
use Rattle.office_store.specs.Folding.{HasTaken}
use Rattle.office_store.proofs.folding.fold_students.Given as goal

-- the students before the rest are taken
abbrev pub invariant-each : goal.invariant-each
invariant-each g l = record {
  taken : HasTaken g.S.Store l.fn.conn l.conn l.fold l.count l.students l.rest;
  up : IsAscending l.rest;
  of : IsFoldOf l.fold l.fn.empty.instance l.fn.empty.earlier l.fn.empty.later l.fn.empty.edited;
  read : HasRead g.S.Store l.fn.conn l.conn;
  same : RowsUnchanged g.S.Store l.fn.conn l.conn;
}

abbrev pub decreases-each : goal.decreases-each
decreases-each g l = length l.rest
