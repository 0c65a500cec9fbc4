use Rattle.std.proofs.Common.{List, sym, subst}
use Rattle.std.specs.Prelude.{IsPermutation}
use Rattle.exam_model.specs.Pairs.{Pair, pairs_of}
use Rattle.office_enrolment.specs.AfterBatch.{lines_with_effect}
use Rattle.office_enrolment.specs.Rows.{after_rows, pair_rows}
use Rattle.office_enrolment.proofs.RowLemmas.{rows_after_batch, same_pairs}
use Rattle.office_enrolment.proofs.laws.rows_follow_lines.Goals as goal

pub returns : goal.returns
returns c changes E done rows is judged are =
    let new : List Pair = after_rows pair_rows (lines_with_effect changes E) rows in
    subst (IsPermutation new) (same_pairs (pairs_of done.1))
    (rows_after_batch pair_rows changes E done rows is judged
    (subst (IsPermutation rows) (sym (same_pairs (pairs_of E))) are))
