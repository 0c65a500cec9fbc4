-- The answer of an edit, by the rules and by the shares.
use Rattle.std.proofs.Common.{◌≡◌, ℕ, zero, suc, ◌+◌, ◌<◌, Bool, true, [], ◌∷◌, length, map, set, Option, Some, None, refl, sym, ◌∙◌, ap, arith, rules, nat_lt, lt-ltb}
use Rattle.std.specs.List.{flat_map, range_with_len}
use Rattle.std.proofs.lemmas.List.{set-get_or}
use Rattle.exam_lists.proofs.Maps.{map-flat_map, map-map}
use Rattle.exam_lists.proofs.Ranges.{range_flat_map_same, range_map_same}
use Rattle.exam_terms.specs.declared.place.Place.{Place}
use Rattle.exam_model.specs.Enrolments.{Enrolled}
use Rattle.exam_model.specs.Instance.{Session, IsInstance}
use Rattle.exam_model.specs.Timetable.{Placing, place_of}
use Rattle.exam_rules.specs.declared.breach.Breach.{Breach}
use Rattle.exam_score.specs.Penalty.{total_of}
use Rattle.exam_score.specs.Track.{track}
use Rattle.exam_draft.specs.declared.edit.Edit.TheVariants as edit
use Rattle.exam_draft.specs.Edits.{unless_broken}
use Rattle.exam_places.specs.declared.place_row.PlaceRow.{PlaceRow}
use Rattle.exam_places.specs.Answers.{answer_at, answer_to, answers_of, place}
use Rattle.exam_places.specs.Places.{PlaceAnswer, breach_or, edit_answer, period_places, place_answer, place_row, places_of}
use Rattle.exam_places.specs.Shares.{period_share, place_share}
use Rattle.exam_places.specs.Unplaced.{IsUnplaced, IsWithout, answer_by, least_breach, row_by, rows_by, share_of, total_without}
use Rattle.exam_places.specs.declared.unplaced_exam.UnplacedExam.{UnplacedExam}
use Rattle.exam_places.proofs.TotalLemmas.{total_added}

-- the later of two places counts
pub set_twice : (T : Placing) (e : ℕ) (a b : Option Place) → set (set T e a) e b ≡ set T e b
set_twice [] e a b = refl
set_twice (x ∷ T) zero a b = refl
set_twice (x ∷ T) (suc e) a b = ap (λ U. x ∷ U) (set_twice T e a b)

answered : (I : Session) (E : Enrolled) (o : Option Breach) (U : Placing)
    → answer_to I E (unless_broken o U) ≡ edit_answer (breach_or o (total_of (track I E U)))
answered I E None U = refl
answered I E (Some b) U = refl

-- the edit that puts the exam there answers by the rules and the penalty
pub answer_is_edit : (I : Session) (E : Enrolled) (T : Placing) (e : ℕ) (a : Place)
    → nat_lt e (length I.exams) ≡ true → nat_lt a.period (length I.periods) ≡ true
    → nat_lt a.room (length I.rooms) ≡ true
    → answer_at I E T e a ≡ edit_answer (place_answer I E T e a)
answer_is_edit I E T e a exam period room = grind (arith, answered)

-- it doesn't matter whether the exam is placed before
pub place_cleared : (I : Session) (E : Enrolled) (T : Placing) (e : ℕ) (a : Place)
    → place_answer I E (set T e None) e a ≡ place_answer I E T e a
place_cleared I E T e a = search (rules, set_twice)

-- the penalty with an exam that was not placed
pub total_unplaced : (I : Session) → IsInstance I → (E : Enrolled) (W : Placing) (x : ℕ) (a : Place)
    → set W x None ≡ W
    → length E ≡ length I.exams → length W ≡ length I.exams → x < length I.exams
    → a.period < length I.periods → a.room < length I.rooms
    → total_of (track I E (set W x (Some a)))
    ≡ total_of (track I E W) + period_share I E W x a + place_share I W x a
total_unplaced I known E W x a unplaced enrolled fits within period room =
    total_added I known E W x a enrolled fits within period room
    ∙ ap (λ (U : Placing). total_of (track I E U) + period_share I E U x a + place_share I U x a)
    unplaced

-- ---- every place

-- every place, by the penalty without the exam
pub all_rows : (u : UnplacedExam) (T : Placing) (without : ℕ) → IsInstance u.instance.now
    → IsUnplaced u → u.timetable.now ≡ set T u.exam None → without ≡ total_without u
    → flat_map (rows_by u without) (range_with_len 0 (length u.instance.now.periods))
    ≡ places_of u.instance.now u.enrolments.now T u.exam
all_rows u T without known is cleared total =
    range_flat_map_same (rows_by u without) (period_places I E T e) 0 (length I.periods)
    (λ p lp. range_map_same (row_by u (without + share_of u (place p 0)) p) (place_row I E T e p)
    0 (length I.rooms)
    (λ r lr. ap (answered_row p r) (one p r (omega (arith, lp)) (omega (arith, lr)))))
  where
    I : Session
    I = u.instance.now

    E : Enrolled
    E = u.enrolments.now

    e : ℕ
    e = u.exam

    answered_row : ℕ → ℕ → PlaceAnswer → PlaceRow
    answered_row p r answer = record { period = p; room = r; answer = answer }

    one : (p r : ℕ) → p < length I.periods → r < length I.rooms
        → answer_by u (without + share_of u (place p 0)) (place p r)
        ≡ place_answer I E T e (place p r)
    one p r lp lr =
        ap (breach_or (least_breach u (place p r)))
        (ap (λ n. n + share_of u (place p 0) + place_share I u.timetable.now e (place p r)) total
        ∙ sym (total_unplaced I known E u.timetable.now e (place p r) is.unplaced is.fits.enrolments
        is.fits.timetable is.exists lp lr))
        ∙ ap (λ U. place_answer I E U e (place p r)) cleared
        ∙ place_cleared I E T e (place p r)

-- the penalty of a timetable that places the exam
pub total_placed : (u : UnplacedExam) (T : Placing) (at : Place) → IsInstance u.instance.now
    → IsUnplaced u → IsWithout u T → place_of T u.exam ≡ Some at
    → at.period < length u.instance.now.periods → at.room < length u.instance.now.rooms
    → total_of (track u.instance.now u.enrolments.now T)
    ≡ total_without u + share_of u at
    + place_share u.instance.now u.timetable.now u.exam at
total_placed u T at known is without placed period room =
    ap (λ U. total_of (track I E U)) (sym (ap (set T e) (sym placed) ∙ set-get_or T e None))
    ∙ total_added I known E T e at is.fits.enrolments without.fits.timetable is.exists period room
    ∙ ap (λ U. total_of (track I E U) + period_share I E U e at + place_share I U e at)
    (sym without.cleared)
  where
    I : Session
    I = u.instance.now

    E : Enrolled
    E = u.enrolments.now

    e : ℕ
    e = u.exam

-- that of a timetable that doesn't
pub total_missing : (u : UnplacedExam) (T : Placing) → IsWithout u T → place_of T u.exam ≡ None
    → total_of (track u.instance.now u.enrolments.now T) ≡ total_without u
total_missing u T without missing = grind (arith, set-get_or)

-- the edits answer what the rows say
pub places_answer : (I : Session) (E : Enrolled) (T : Placing) (e : ℕ) → e < length I.exams
    → map (λ (row : PlaceRow). edit_answer row.answer) (places_of I E T e) ≡ answers_of I E T e
places_answer I E T e exam =
    grind (
      arith,
      answer_is_edit,
      lt-ltb,
      map-flat_map,
      map-map,
      range_flat_map_same,
      range_map_same,
    )
