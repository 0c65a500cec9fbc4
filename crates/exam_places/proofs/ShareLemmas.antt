-- The front load by the sizes of exams.
use Rattle.std.proofs.Common.{◌≡◌, ℕ, ◌<◌, cond, ◌&&◌, List, length, set, Some, sym, ◌∙◌, ap, arith}
use Rattle.exam_terms.specs.declared.place.Place.{Place}
use Rattle.exam_model.specs.Enrolments.{Enrolled}
use Rattle.exam_model.specs.Instance.{Session}
use Rattle.exam_model.specs.Timetable.{Placing}
use Rattle.exam_score.specs.Front.{AreSizes, front_by}
use Rattle.exam_score.specs.FrontLoad.{is_largest, is_late}
use Rattle.exam_score.proofs.FrontLemmas.{front_by_sizes}
use Rattle.exam_places.specs.Shares.{front_at}
use Rattle.exam_places.proofs.PlacedLemmas.{own_place}

-- the front load by the sizes
pub front_of_sizes : (I : Session) (E : Enrolled) (T : Placing) (e : ℕ) (a : Place) (sizes : List ℕ)
    → AreSizes E sizes → length E ≡ length I.exams → length T ≡ length I.exams → e < length I.exams
    → front_by I sizes (Some a) e ≡ front_at I E e a
front_of_sizes I E T e a sizes are enrolled fits within =
    let own = own_place T e (Some a) (omega arith) in
    ap (λ o. front_by I sizes o e) (sym own)
    ∙ front_by_sizes I E (set T e (Some a)) sizes e are enrolled (omega arith)
    ∙ ap (λ o. cond (is_largest I E e && is_late I o) I.weights.front 0) own
