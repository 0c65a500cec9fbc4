-- The rows of a timetable that may be published are the enrolments that it was published with.
use Rattle.std.specs.List.{list_any}
use Rattle.std.proofs.Common.{◌≡◌, List, length, None, sym, ◌∙◌, ap, arith}
use Rattle.std.proofs.lemmas.List.FromFn.{length-map-range_with_len}
use Rattle.exam_lists.proofs.Chains.{chain_from_index}
use Rattle.exam_model.specs.Enrolments.{Enrolled, AreEnrolments}
use Rattle.exam_model.specs.Fits.{Fits}
use Rattle.exam_model.specs.Instance.{Session, IsInstance}
use Rattle.exam_model.specs.Pairs.{pairs_of, is_pair}
use Rattle.exam_model.specs.Timetable.{Placing}
use Rattle.exam_model.proofs.PairLemmas.{are_pairs}
use Rattle.exam_model.proofs.SameSet.{same_set}
use Rattle.exam_publish.specs.declared.seat_row.SeatRow.{SeatRow}
use Rattle.exam_publish.specs.Permit.{publish_refusal}
use Rattle.exam_publish.specs.Rows.{RowBefore, students_in, enrolled_in}
use Rattle.exam_publish.specs.Seats.{AreSeated, seat_rows}
use Rattle.exam_publish.proofs.PlaceLemmas.{rows_exist}
use Rattle.exam_publish.proofs.RowLemmas.{pairs_in, are_enrolments, rows_numbered}
use Rattle.exam_publish.proofs.SeatLemmas.{are_seats}

pub same_enrolments : (I : Session) (E : Enrolled) (T : Placing) (old : List SeatRow) → IsInstance I
    → AreEnrolments E → Fits I E T → publish_refusal I E T ≡ None → AreSeated I old
    → enrolled_in (length I.exams) (seat_rows (pairs_of E) T old) ≡ E
same_enrolments I E T old known enrolled fits permitted was =
    let n = length I.exams in
    let rows : List SeatRow = seat_rows (pairs_of E) T old in
    let again : Enrolled = enrolled_in n rows in
    let are = are_seats I E T old fits enrolled permitted was in
    let sound = are.published in
    let order = chain_from_index RowBefore rows sound.in_order in
    let exist = rows_exist I rows T sound in
    let made = are_enrolments n rows (omega (arith, known.limits.counts.0.0))
    (omega (arith, known.limits.counts.0.1)) sound.few order exist
    (rows_numbered E rows enrolled are.pairs) in
    let pairs : pairs_of again ≡ pairs_of E = pairs_in n rows order exist ∙ are.pairs in
    same_set again E (length-map-range_with_len (students_in rows) 0 n ∙ sym fits.enrolments)
    made.ascending enrolled.ascending
    (λ s e. sym ((are_pairs again made).members s e) ∙ ap (list_any (is_pair s e)) pairs
    ∙ (are_pairs E enrolled).members s e)
