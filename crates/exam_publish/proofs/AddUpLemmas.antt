-- The shares add up to the penalty, part by part.
use Rattle.std.proofs.lemmas.Grind.{common_steps}
use Rattle.std.specs.List.{range_with_len}
use Rattle.std.proofs.Common.{◌≡◌, ℕ, zero, suc, ◌+◌, ◌*◌, ◌≤◌, Bool, cond, List, [], ◌∷◌, length, take, map, sum, sum_by, count_by, Option, Some, None, refl, sym, ◌∙◌, ap, arith, add-one, mul_comm, slice_get, map-id, take_all}
use Rattle.std.proofs.lemmas.List.Elements.{recursion_from_All}
use Rattle.std.proofs.lemmas.List.FromFn.{sum_by-map-range_with_len_more}
use Rattle.std.proofs.lemmas.List.Sums.{sum_by_more, sum-map}
use Rattle.std.proofs.lemmas.Option.{slice_get_past}
use Rattle.exam_lists.proofs.Chains.{chain_from_index}
use Rattle.exam_lists.proofs.Sums.{sum_by-add, sum_by-same, sum_by-times, sum_by-map}
use Rattle.exam_lists.proofs.Booleans.{cond_below_or_none, cond_times}
use Rattle.exam_model.specs.Fits.{period_of}
use Rattle.exam_model.specs.Instance.{Session, IsInstance}
use Rattle.exam_model.specs.Sums.{sum_below}
use Rattle.exam_model.specs.Timetable.{Placing, place_of}
use Rattle.exam_terms.specs.declared.place.Place.{Place}
use Rattle.exam_model.proofs.PairLemmas.{are_pairs}
use Rattle.exam_model.proofs.SumLemmas.{sum_below-same, sum_below-zeros, sum_below-turned, sum_below-at}
use Rattle.exam_score.specs.Cost.{row_cost, day_cost, spread_cost, night_cost}
use Rattle.exam_score.specs.Penalty.{PersonalPenalty}
use Rattle.exam_score.specs.Regrouping.{pair_part, candidate_cost, periods_of}
use Rattle.exam_score.specs.Track.{track, exam_period, exam_room, period_penalty, room_penalty, period_part, room_part}
use Rattle.exam_score.specs.FrontLoad.{exam_front}
use Rattle.exam_score.specs.MixedDurations.{room_mixed}
use Rattle.exam_score.proofs.RegroupingLemmas.{regrouped_by_students}
use Rattle.exam_publish.specs.declared.seat_row.SeatRow.{SeatRow}
use Rattle.exam_publish.specs.declared.share_lists.RoomShare.{RoomShare}
use Rattle.exam_publish.specs.AddUp.{AddUpTo}
use Rattle.exam_publish.specs.Changed.{rows_of, students_of}
use Rattle.exam_publish.specs.Rows.{AreNumbered, ArePublishedRows, RowBefore, IsAtExam, enrolled_in}
use Rattle.exam_publish.specs.Shares.{student_shares, exam_shares, period_share, period_shares, is_in_period, is_in_room, room_share, room_shares, shares_of}
use Rattle.exam_publish.proofs.RowLemmas.{pairs_in, are_enrolments, are_students, candidate_periods}
use Rattle.exam_publish.proofs.PlaceLemmas.{rows_exist}

-- ---- sums over the numbers of a list

range_sum : {X : Type 0} (g : X → ℕ) (f : ℕ → X) (n : ℕ)
    → sum_by g (map f (range_with_len 0 n)) ≡ sum_below n (λ k. g (f k))
range_sum g f zero = refl
range_sum g f (suc n) =
    ap (λ k. sum_by g (map f (range_with_len 0 k))) (sym (add-one n))
    ∙ sum_by-map-range_with_len_more g f 0 n n (omega arith)
    ∙ ap (λ k. k + g (f n)) (range_sum g f n)

plain_sum : (f : ℕ → ℕ) (n : ℕ) → sum (map f (range_with_len 0 n)) ≡ sum_below n f
plain_sum f n = grind (arith, map-id, range_sum, sum-map)

-- ---- periods and rooms

by_index : (cost : Option Place → ℕ) (T : Placing) (n : ℕ) → n ≤ length T
    → sum_by cost (take n T) ≡ sum_below n (λ e. cost (place_of T e))
by_index cost T zero h = refl
by_index cost T (suc n) h =
    ap (λ k. sum_by cost (take k T)) (sym (add-one n)) ∙ sum_by_more cost T n None (omega arith)
    ∙ ap (λ k. k + cost (place_of T n)) (by_index cost T n (omega arith))

-- amounts by number, once for each exam there, add up to the costs of all exams
by_places : (amount : ℕ → ℕ) (test : ℕ → Option Place → Bool) (cost : Option Place → ℕ)
    (n : ℕ) (T : Placing)
    → ((o : Option Place) → sum_below n (λ k. cond (test k o) (amount k) 0) ≡ cost o)
    → sum_below n (λ k. amount k * count_by (test k) T)
    ≡ sum_below (length T) (λ e. cost (place_of T e))
by_places amount test cost n T one =
    sum_below-same _ _
    (λ k. mul_comm (amount k) (count_by (test k) T)
    ∙ sym (sum_by-times (λ o. cond (test k o) 1 0) (amount k) T)
    ∙ sum_by-same _ _ (λ o. cond_times (test k o) (amount k)) T) n
    ∙ sum_below-turned (λ k o. cond (test k o) (amount k) 0) n T
    ∙ sum_by-same _ _ one T
    ∙ ap (sum_by cost) (sym (take_all (length T) T (omega arith)))
    ∙ by_index cost T (length T) (omega arith)

one_period : (I : Session) (o : Option Place)
    → sum_below (length I.periods)
    (λ p. cond (is_in_period p o) (period_penalty (slice_get I.periods p)) 0)
    ≡ exam_period I o
one_period I None = sum_below-zeros (length I.periods)
one_period I (Some at) =
    sum_below-at (λ p. period_penalty (slice_get I.periods p)) at.period (length I.periods)
    ∙ cond_below_or_none (λ p. period_penalty (slice_get I.periods p)) at.period (length I.periods)
    (λ past. ap period_penalty (slice_get_past I.periods at.period past))

one_room : (I : Session) (o : Option Place)
    → sum_below (length I.rooms) (λ r. cond (is_in_room r o) (room_penalty (slice_get I.rooms r)) 0)
    ≡ exam_room I o
one_room I None = sum_below-zeros (length I.rooms)
one_room I (Some at) =
    sum_below-at (λ r. room_penalty (slice_get I.rooms r)) at.room (length I.rooms)
    ∙ cond_below_or_none (λ r. room_penalty (slice_get I.rooms r)) at.room (length I.rooms)
    (λ past. ap room_penalty (slice_get_past I.rooms at.room past))

period_sum : (I : Session) (T : Placing) → length T ≡ length I.exams
    → sum (period_shares I T) ≡ period_part I T
period_sum I T same =
    plain_sum (period_share I T) (length I.periods)
    ∙ by_places (λ p. period_penalty (slice_get I.periods p)) is_in_period (exam_period I)
    (length I.periods) T (one_period I)
    ∙ ap (λ n. sum_below n (λ e. exam_period I (place_of T e))) same

room_sum : (I : Session) (T : Placing) → length T ≡ length I.exams
    → sum_by (λ share. share.penalty) (room_shares I T) ≡ room_part I T
room_sum I T same =
    range_sum (λ (share : RoomShare). share.penalty) (room_share I T) (length I.rooms)
    ∙ by_places (λ r. room_penalty (slice_get I.rooms r)) is_in_room (exam_room I)
    (length I.rooms) T (one_room I)
    ∙ ap (λ n. sum_below n (λ e. exam_room I (place_of T e))) same

-- ---- students

abbrev sittings : List SeatRow → ℕ → List ℕ
sittings rows s = map (λ row. row.period) (rows_of s rows)

-- the costs of the students' rows add up to the part of the penalty for pairs of exams
student_sum : (cost : ℕ → ℕ → ℕ) (I : Session) (rows : List SeatRow) (T : Placing) → IsInstance I
    → ArePublishedRows I rows T → AreNumbered rows
    → sum_by (λ s. candidate_cost cost (sittings rows s)) (students_of rows)
    ≡ pair_part cost (enrolled_in (length I.exams) rows) (period_of T)
student_sum cost I rows T known are numbered =
    let n = length I.exams in
    let E = enrolled_in n rows in
    let order = chain_from_index RowBefore rows are.in_order in
    let exist = rows_exist I rows T are in
    let pairs = pairs_in n rows order exist in
    let enrolled =
    are_enrolments n rows (omega (arith, known.limits.counts.0.0))
    (omega (arith, known.limits.counts.0.1)) are.few order exist
    (recursion_from_All (λ (row : SeatRow). row.student ≤ 999999999) rows numbered) in
    sym (regrouped_by_students cost E (period_of T) (students_of rows) (are_pairs E enrolled)
    (are_students n rows pairs)
    ∙ sum_by-same _ _
    (λ s. ap (candidate_cost cost)
    (ap (λ ps. periods_of ps (period_of T) s) pairs
    ∙ candidate_periods T rows s (recursion_from_All (IsAtExam T) rows are.at_exams)))
    (students_of rows))

-- ---- all of it

pub adds_up : (I : Session) (rows : List SeatRow) (T : Placing) → IsInstance I
    → ArePublishedRows I rows T → AreNumbered rows
    → AddUpTo (track I (enrolled_in (length I.exams) rows) T) (shares_of I rows T)
adds_up I rows T known are numbered =
    let E = enrolled_in (length I.exams) rows in
    let students = students_of rows in
    let row : sum_by (λ share. share.1.row) (student_shares I rows)
    ≡ pair_part (row_cost I.periods I.weights) E (period_of T)
    = grind (arith, common_steps, student_sum, sum_by-map) in
    let day : sum_by (λ share. share.1.day) (student_shares I rows)
    ≡ pair_part (day_cost I.periods I.weights) E (period_of T)
    = grind (arith, common_steps, student_sum, sum_by-map) in
    let spread : sum_by (λ share. share.1.spread) (student_shares I rows)
    ≡ pair_part (spread_cost I.periods I.weights) E (period_of T)
    = grind (arith, common_steps, student_sum, sum_by-map) in
    let night : sum_by (λ share. share.1.night) (student_shares I rows)
    ≡ pair_part (night_cost I.periods I.weights) E (period_of T)
    = grind (arith, common_steps, student_sum, sum_by-map) in
    let mixed : sum_by (λ share. share.mixed) (room_shares I T)
    ≡ sum_below (length I.rooms) (room_mixed I T)
    = range_sum (λ (share : RoomShare). share.mixed) (room_share I T) (length I.rooms) in
    let front : sum (exam_shares I rows T) ≡ sum_below (length I.exams) (exam_front I E T)
    = plain_sum (exam_front I E T) (length I.exams) in
    let period = period_sum I T are.exams in
    let room = room_sum I T are.exams in
    let personal =
    sum_by-add (λ (share : ℕ × PersonalPenalty). share.1.row + share.1.day + share.1.spread)
    (λ share. share.1.night) (student_shares I rows) in
    let by_periods =
    sum_by-add (λ (share : ℕ × PersonalPenalty). share.1.row + share.1.day)
    (λ share. share.1.spread) (student_shares I rows) in
    let is_same_day =
    sum_by-add (λ (share : ℕ × PersonalPenalty). share.1.row) (λ share. share.1.day)
    (student_shares I rows) in
    let in_rooms =
    sum_by-add (λ (share : RoomShare). share.penalty) (λ share. share.mixed)
    (room_shares I T) in
    record {
      row = row;
      day = day;
      spread = spread;
      night = night;
      mixed = mixed;
      front = front;
      period = period;
      room = room;
      total = omega arith;
    }
