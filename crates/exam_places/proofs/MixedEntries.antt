-- The mixed part at a place, by what an exam meets there.
use Rattle.std.proofs.Common.{◌≡◌, ℕ, cond, not, ◌&&◌, length, Option, Some, None, refl, ◌∙◌, ap₂, arith}
use Rattle.exam_lists.proofs.Booleans.{eqb_swap}
use Rattle.exam_terms.specs.declared.place.Place.{Place}
use Rattle.exam_rules.specs.Places.{is_one_place, place_satisfies}
use Rattle.exam_score.specs.MixedDurations.{is_at}
use Rattle.exam_places.specs.declared.unplaced_exam.UnplacedExam.{UnplacedExam}
use Rattle.exam_places.specs.Firsts.{is_found}
use Rattle.exam_places.specs.PlaceTable.{place_entry}
use Rattle.exam_places.specs.Shares.{mixed_share}
use Rattle.exam_places.proofs.FirstLemmas.{first_same, found_counts}

at_here : (at : Place) (o : Option Place)
    → is_at at.period at.room o ≡ place_satisfies (is_one_place at) o
at_here at None = refl
at_here at (Some q) =
    ap₂ (λ a b. a && b) (eqb_swap q.period at.period) (eqb_swap q.room at.room)

-- the weight, if some exam is there and none of them lasts as long
pub mixed_by_entry : (u : UnplacedExam) (at : Place)
    → cond (is_found ((place_entry u (length u.instance.now.exams) at).first)
    && not (is_found ((place_entry u (length u.instance.now.exams) at).as_long)))
    u.instance.now.weights.mixed 0
    ≡ mixed_share u.instance.now u.timetable.now u.exam at
mixed_by_entry u at = grind (arith, at_here, first_same, found_counts)
