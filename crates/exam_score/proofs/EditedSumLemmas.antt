-- Sums over the edited exams, with one more exam.
use Rattle.std.proofs.Common.{◌≡◌, ◌&&◌, ℕ, ◌+◌, ◌≤◌, cond, not, eqb, ltb, List, ◌∷◌, length, sym, ◌∙◌, ap, add-zero, arith}
use Rattle.std.proofs.lemmas.List.{nil_from_length}
use Rattle.exam_lists.proofs.Booleans.{cond_le, cond_and_not, cond_or}
use Rattle.exam_model.specs.Enrolments.{has_number}
use Rattle.exam_model.specs.Instance.{Session, IsInstance}
use Rattle.exam_model.proofs.SumLemmas.{sum_below-same, sum_below-add, sum_below-at, sum_below-le, sum_below-zeros}
use Rattle.exam_model.specs.Timetable.{Placing, place_of}
use Rattle.exam_score.specs.Front.{front_by}
use Rattle.exam_score.specs.Touched.{sum_over_exams}
use Rattle.exam_score.specs.Track.{exam_period, exam_room}
use Rattle.exam_score.proofs.SmallLemmas.{period_small, room_small}

-- one more exam counts if it exists and is not among the others
pub sum_more : (I : Session) (others : List ℕ) (g : ℕ → ℕ) (e : ℕ)
    → sum_over_exams I (e ∷ others) g
    ≡ cond (ltb e (length I.exams) && not (has_number others e)) (g e) 0
    + sum_over_exams I others g
sum_more I others g e =
    let n = length I.exams in
    sum_below-same _ _ (λ f. cond_or (eqb e f) (has_number others f) (g f)) n
    ∙ sum_below-add (λ f. cond (eqb e f) (cond (has_number others f) 0 (g f)) 0)
    (λ f. cond (has_number others f) (g f) 0) n
    ∙ ap (λ k. k + sum_over_exams I others g)
    (sum_below-at (λ f. cond (has_number others f) 0 (g f)) e n
    ∙ cond_and_not (ltb e n) (has_number others e) (g e))

-- none is left
pub sum_done : (I : Session) (total all : ℕ) (left : List ℕ) (g : ℕ → ℕ) → length left ≡ 0
    → total + sum_over_exams I left g ≡ all → total ≡ all
sum_done I total all left g done sum =
    sym (add-zero total) ∙ ap (λ n. total + n) (sym (sum_below-zeros (length I.exams)))
    ∙ ap (λ l. total + sum_over_exams I l g) (sym (nil_from_length left done)) ∙ sum

sum_small : (I : Session) (exams : List ℕ) (g : ℕ → ℕ) → IsInstance I → ((e : ℕ) → g e ≤ 100000)
    → sum_over_exams I exams g ≤ 200000000
sum_small I exams g known small =
    let few : length I.exams ≤ 2000 = known.limits.counts.0.1 in
    let sum = sum_below-le _ 100000 (length I.exams)
    (λ e l. cond_le (has_number exams e) (g e) 100000 (small e)) in
    omega (arith, few, sum)

pub periods_small : (I : Session) (T : Placing) (exams : List ℕ) → IsInstance I
    → sum_over_exams I exams (λ e. exam_period I (place_of T e)) ≤ 200000000
periods_small I T exams known =
    sum_small I exams _ known (λ e. period_small I known (place_of T e))

pub rooms_small : (I : Session) (T : Placing) (exams : List ℕ) → IsInstance I
    → sum_over_exams I exams (λ e. exam_room I (place_of T e)) ≤ 200000000
rooms_small I T exams known = sum_small I exams _ known (λ e. room_small I known (place_of T e))

pub front_small : (I : Session) (sizes : List ℕ) (T : Placing) (exams : List ℕ) → IsInstance I
    → sum_over_exams I exams (λ e. front_by I sizes (place_of T e) e) ≤ 200000000
front_small I sizes T exams known = grind (arith, cond_le, sum_small)
