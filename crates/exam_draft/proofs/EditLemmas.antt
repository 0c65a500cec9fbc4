-- How a swap is judged.
use Rattle.std.proofs.Common.{◌≡◌, ℕ, true, false, ◌==◌, [], ◌∷◌, Some}
use Rattle.std.specs.Prelude.{slice_set}
use Rattle.exam_model.specs.Instance.{Session}
use Rattle.exam_model.specs.Enrolments.{Enrolled}
use Rattle.exam_model.specs.Timetable.{Placing, place_of}
use Rattle.exam_terms.specs.declared.place.Place.{Place}
use Rattle.exam_draft.specs.Edits.{exam_exists, after_swap, if_unbroken}

-- two placed exams get each other's place, unless a breach names one of them there
pub swap_goes_on : (I : Session) (E : Enrolled) (T : Placing) (a b : ℕ) (p q : Place)
    → exam_exists I a ≡ true → exam_exists I b ≡ true
    → place_of T a ≡ Some p → place_of T b ≡ Some q → (a == b) ≡ false
    → if_unbroken I E (a ∷ (b ∷ [])) (slice_set (slice_set T a (Some q)) b (Some p))
    ≡ after_swap I E T a b
swap_goes_on I E T a b p q one other first second differ =
    rw (one, other, first, second, differ)
