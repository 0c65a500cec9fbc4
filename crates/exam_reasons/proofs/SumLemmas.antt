-- The points of reasons, added up.
use Rattle.std.proofs.lemmas.Grind.{common_steps}
use Rattle.std.specs.Prelude.{slice_get}
use Rattle.std.proofs.Common.{◌≡◌, ℕ, zero, suc, ◌+◌, ◌*◌, ◌==◌, Bool, cond, List, Option, Some, None, length, sum_by, refl, sym, ◌∙◌, ap, arith}
use Rattle.std.proofs.lemmas.Bool.{eqb-true}
use Rattle.std.proofs.lemmas.List.Sums.{sum_by-append}
use Rattle.std.proofs.lemmas.Option.{slice_get_past}
use Rattle.exam_lists.proofs.Booleans.{cond_below_or_none, cond_times}
use Rattle.exam_terms.specs.declared.place.Place.{Place}
use Rattle.exam_model.specs.Enrolments.{Enrolled}
use Rattle.exam_model.specs.Fits.{Fits}
use Rattle.exam_model.specs.Instance.{Session}
use Rattle.exam_model.specs.Sums.{count_below, sum_below}
use Rattle.exam_model.specs.Timetable.{Placing, place_of}
use Rattle.exam_model.proofs.SumLemmas.{sum_below-add, sum_below-at, sum_below-same, sum_below-times, sum_below-zeros}
use Rattle.exam_score.specs.FrontLoad.{exam_front}
use Rattle.exam_score.specs.Track.{exam_period, exam_room, period_penalty, period_part, room_part, room_penalty}
use Rattle.exam_reasons.specs.AddUp.{ReasonsAddUp}
use Rattle.exam_reasons.specs.Lists.{all_below, listed}
use Rattle.exam_reasons.specs.Reasons.{exams_in_period, exams_in_room, is_in_period, is_in_room, mixed_points, pair_points, pair_reason}
use Rattle.exam_reasons.specs.declared.reasons.PairKind.{PairKind}
use Rattle.exam_reasons.specs.declared.reasons.PairKind.TheVariants.{Day, Night, Row, Spread}

-- ---- the points of a list

-- a reason that is left out if it has no points
points_listed : {X : Type 0} (points : X → ℕ) (p : ℕ) (reason : X) → points reason ≡ p
    → sum_by points (listed (cond (p == 0) None (Some reason))) ≡ p
points_listed {X} points p reason is = grind (arith, common_steps, eqb-true)

-- the lists that numbers give, by the sum of each
points_below : {X : Type 0} (points : X → ℕ) (n : ℕ) (f : ℕ → List X) (g : ℕ → ℕ)
    → ((k : ℕ) → sum_by points (f k) ≡ g k) → sum_by points (all_below n f) ≡ sum_below n g
points_below points zero f g each = refl
points_below points (suc n) f g each =
    grind (arith, common_steps, points_below points n f g each, sum_by-append)

-- ---- amounts of places, once for each exam there

-- a sum over two numbers in either order
swapped : (g : ℕ → ℕ → ℕ) (n m : ℕ) → sum_below n (λ a. sum_below m (g a))
    ≡ sum_below m (λ b. sum_below n (λ a. g a b))
swapped g zero m = sym (sum_below-zeros m)
swapped g (suc n) m =
    ap (λ k. k + sum_below m (g n)) (swapped g n m)
    ∙ sym (sum_below-add (λ b. sum_below n (λ a. g a b)) (g n) m)

-- amounts by number, once for each exam there, add up to the costs of all exams
by_places : (amount : ℕ → ℕ) (test : ℕ → Option Place → Bool) (cost : Option Place → ℕ)
    (at : ℕ → Option Place) (n m : ℕ)
    → ((o : Option Place) → sum_below n (λ k. cond (test k o) (amount k) 0) ≡ cost o)
    → sum_below n (λ k. count_below m (λ e. test k (at e)) * amount k)
    ≡ sum_below m (λ e. cost (at e))
by_places amount test cost at n m one =
    sum_below-same _ _
    (λ k. sym (sum_below-times (λ e. cond (test k (at e)) 1 0) (amount k) m)
    ∙ sum_below-same _ _ (λ e. cond_times (test k (at e)) (amount k)) m) n
    ∙ swapped (λ k e. cond (test k (at e)) (amount k) 0) n m
    ∙ sum_below-same _ _ (λ e. one (at e)) m

one_period : (I : Session) (o : Option Place)
    → sum_below (length I.periods)
    (λ p. cond (is_in_period p o) (period_penalty (slice_get I.periods p)) 0)
    ≡ exam_period I o
one_period I None = sum_below-zeros (length I.periods)
one_period I (Some at) =
    sum_below-at (λ p. period_penalty (slice_get I.periods p)) at.period (length I.periods)
    ∙ cond_below_or_none (λ p. period_penalty (slice_get I.periods p)) at.period (length I.periods)
    (λ past. ap period_penalty (slice_get_past I.periods at.period past))

one_room : (I : Session) (o : Option Place)
    → sum_below (length I.rooms) (λ r. cond (is_in_room r o) (room_penalty (slice_get I.rooms r)) 0)
    ≡ exam_room I o
one_room I None = sum_below-zeros (length I.rooms)
one_room I (Some at) =
    sum_below-at (λ r. room_penalty (slice_get I.rooms r)) at.room (length I.rooms)
    ∙ cond_below_or_none (λ r. room_penalty (slice_get I.rooms r)) at.room (length I.rooms)
    (λ past. ap room_penalty (slice_get_past I.rooms at.room past))

periods_sum : (I : Session) (T : Placing) → length T ≡ length I.exams
    → sum_below (length I.periods)
    (λ p. exams_in_period T p * period_penalty (slice_get I.periods p)) ≡ period_part I T
periods_sum I T same =
    by_places (λ p. period_penalty (slice_get I.periods p)) is_in_period (exam_period I)
    (place_of T) (length I.periods) (length T) (one_period I)
    ∙ ap (λ n. sum_below n (λ e. exam_period I (place_of T e))) same

rooms_sum : (I : Session) (T : Placing) → length T ≡ length I.exams
    → sum_below (length I.rooms) (λ r. exams_in_room T r * room_penalty (slice_get I.rooms r))
    ≡ room_part I T
rooms_sum I T same =
    by_places (λ r. room_penalty (slice_get I.rooms r)) is_in_room (exam_room I) (place_of T)
    (length I.rooms) (length T) (one_room I)
    ∙ ap (λ n. sum_below n (λ e. exam_room I (place_of T e))) same

-- ---- all of it

-- the pairs of one kind
pub pairs_sum : (I : Session) (E : Enrolled) (T : Placing) (kind : PairKind)
    → sum_by (λ reason. reason.points)
    (all_below (length E) (λ f. all_below f (λ e. listed (pair_reason I E T kind e f))))
    ≡ sum_below (length E) (λ f. sum_below f (λ e. pair_points I E T kind e f))
pairs_sum I E T kind = grind (arith, common_steps, points_below, points_listed)

pub add_up : (I : Session) (E : Enrolled) (T : Placing) → Fits I E T → ReasonsAddUp I E T
add_up I E T fits = record {
  row = pairs_sum I E T Row;
  day = pairs_sum I E T Day;
  spread = pairs_sum I E T Spread;
  night = pairs_sum I E T Night;
  mixed = points_below _ (length I.rooms) _ _
      (λ r. points_below _ (length I.periods) _ (λ p. mixed_points I T r p)
      (λ p. points_listed _ (mixed_points I T r p) _ refl));
  front = points_below _ (length I.exams) _ (exam_front I E T)
      (λ e. points_listed _ (exam_front I E T e) _ refl);
  period = points_below _ (length I.periods) _
      (λ p. exams_in_period T p * period_penalty (slice_get I.periods p))
      (λ p. points_listed _ (exams_in_period T p * period_penalty (slice_get I.periods p)) _ refl)
      ∙ periods_sum I T fits.timetable;
  room = points_below _ (length I.rooms) _
      (λ r. exams_in_room T r * room_penalty (slice_get I.rooms r))
      (λ r. points_listed _ (exams_in_room T r * room_penalty (slice_get I.rooms r)) _ refl)
      ∙ rooms_sum I T fits.timetable;
}
