-- The sizes of exams by their rows, and the order of exams by size.
use Rattle.std.proofs.lemmas.Grind.{common_steps}
use Rattle.std.proofs.Common.{◌≡◌, ℕ, ◌<◌, List, length, ◌∙◌, ap, ap₂, one-mul, arith, slice_index, nat_lt, ◌==◌, ◌&&◌, ◌||◌, if◌then◌else◌}
use Rattle.std.proofs.lemmas.List.{length-map}
use Rattle.std.proofs.lemmas.List.Sums.{length-filter}
use Rattle.exam_model.specs.Enrolments.{size_of}
use Rattle.exam_model.specs.Instance.{Session}
use Rattle.exam_model.specs.Sums.{count_below}
use Rattle.exam_model.specs.Timetable.{Placing, place_of}
use Rattle.exam_model.proofs.SumLemmas.{sum_below-within}
use Rattle.exam_score.specs.FrontLoad.{is_larger, is_late, exam_front}
use Rattle.exam_publish.specs.declared.seat_row.SeatRow.{SeatRow}
use Rattle.exam_publish.specs.Groups.{is_of_exam}
use Rattle.exam_publish.specs.Rows.{enrolled_in}
use Rattle.exam_score.specs.Front.{is_larger_by, front_by}
use Rattle.exam_publish.specs.Tallies.{AreTallied}
use Rattle.exam_publish.proofs.RowLemmas.{students_at}

size_is : (n : ℕ) (rows : List SeatRow) (sizes : List ℕ)
    → AreTallied (λ e. 1) is_of_exam n rows sizes → (e : ℕ) → e < n
    → slice_index sizes e ≡ size_of (enrolled_in n rows) e
size_is n rows sizes are e lt = grind (arith, common_steps, one-mul, students_at, length-map, length-filter)

-- by the table or by the enrolments
pub front_is : (I : Session) (rows : List SeatRow) (T : Placing) (sizes : List ℕ) (e : ℕ)
    → AreTallied (λ e. 1) is_of_exam (length I.exams) rows sizes → e < length I.exams
    → front_by I sizes (place_of T e) e ≡ exam_front I (enrolled_in (length I.exams) rows) T e
front_is I rows T sizes e are within =
    let E = enrolled_in (length I.exams) rows in
    let size = size_is (length I.exams) rows sizes are in
    let same : (f : ℕ) → f < length I.exams → is_larger_by sizes f e ≡ is_larger E f e
    = λ f l. ap₂ (λ a b. nat_lt a b || ((b == a) && nat_lt f e)) (size e within) (size f l) in
    let count : count_below (length sizes) (λ f. is_larger_by sizes f e)
    ≡ count_below (length I.exams) (λ f. is_larger E f e)
    = grind (arith, common_steps, sum_below-within) in
    ap (λ n. if nat_lt n I.weights.front_exams && is_late I (place_of T e) then I.weights.front
    else 0)
    count
