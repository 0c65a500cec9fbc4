-- The text of one student's summands, from that of the student's enrolments.
use Rattle.std.proofs.Common.{◌≡◌, ◌∙◌, ◌++◌, ℕ, List, append_assoc}
use Rattle.std.specs.List.{flat_map}
use Rattle.exam_model.specs.Enrolments.{Enrolled}
use Rattle.exam_model.specs.Instance.{Session}
use Rattle.exam_model.specs.Timetable.{Placing}
use Rattle.exam_score.specs.Penalty.{personal_total}
use Rattle.exam_reasons.specs.Students.{AreOwn, own_share}
use Rattle.exam_reasons.specs.declared.reasons.PairKind.TheVariants.{Day, Night, Row, Spread}
use Rattle.office_check.specs.Check.{report}
use Rattle.office_check.specs.Student.{own_pairs_text, own_text, sum_line}
use Rattle.office_check.specs.Why.{all_pairs_text, pair_line}

-- the pairs of the student's enrolments are those of the student
own_pairs : (I : Session) (E own : Enrolled) (T : Placing) (s : ℕ) → AreOwn E s own
    → all_pairs_text I own T ≡ own_pairs_text I E T s Row ++ own_pairs_text I E T s Day
    ++ own_pairs_text I E T s Spread ++ own_pairs_text I E T s Night
own_pairs I E own T s are =
    λ i. flat_map (pair_line Row) (are.reasons I T Row i)
    ++ flat_map (pair_line Day) (are.reasons I T Day i)
    ++ flat_map (pair_line Spread) (are.reasons I T Spread i)
    ++ flat_map (pair_line Night) (are.reasons I T Night i)

-- the report, the pairs and their sum, which are the student's
pub own_text_is : (I : Session) (E own : Enrolled) (T : Placing) (s points : ℕ) (first : List ℕ)
    → AreOwn E s own → first ≡ report I E T → points ≡ personal_total (own_share I E T s)
    → first ++ all_pairs_text I own T ++ sum_line s points ≡ report I E T ++ own_text I E T s
own_text_is I E own T s points first are reported summed =
    (λ i. reported i ++ own_pairs I E own T s are i ++ sum_line s (summed i))
    ∙ append_assoc (report I E T) (own_pairs_text I E T s Row ++ own_pairs_text I E T s Day
    ++ own_pairs_text I E T s Spread ++ own_pairs_text I E T s Night)
    (sum_line s (personal_total (own_share I E T s)))
