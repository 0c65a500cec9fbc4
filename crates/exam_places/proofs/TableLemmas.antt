-- Tables that are filled one exam at a time.
use Rattle.std.proofs.lemmas.Grind.{common_steps}
use Rattle.std.proofs.Common.{◌≡◌, ◌⊎◌, inl, inr, ℕ, ◌+◌, ◌*◌, ◌<◌, Bool, true, false, cond, ◌&&◌, ◌||◌, ◌==◌, List, length, get_or, set, take, Some, refl, sym, ◌∙◌, ap, arith, add-one, eqb-true, eq-eqb, add-zero, nat_lt, length-set, get_or-set_same, get_or-set_other}
use Rattle.std.specs.List.{list_any}
use Rattle.std.proofs.lemmas.Bool.{and_parts, and_from, cases_eq, false_from_ne_true, ne_eqb}
use Rattle.std.proofs.lemmas.List.Folds.{list_any_more}
use Rattle.std.proofs.lemmas.Nat.{same_from_place}
use Rattle.std.proofs.Math.Bool.{or-false, or-true}
use Rattle.exam_terms.specs.declared.place.Place.{Place}
use Rattle.exam_model.specs.Enrolments.{size_of}
use Rattle.exam_model.specs.Fits.{PlaceExists, slot_of}
use Rattle.exam_model.specs.Instance.{IsInstance, Session}
use Rattle.exam_model.specs.Timetable.{place_of}
use Rattle.exam_model.proofs.PlaceLemmas.{slot_within}
use Rattle.exam_model.specs.declared.rules.RoomRule.{RoomRule}
use Rattle.exam_rules.specs.Lines.{is_exclusive}
use Rattle.exam_rules.specs.Places.{is_one_place, place_satisfies}
use Rattle.exam_places.specs.declared.period_table.PeriodEntry.{PeriodEntry}
use Rattle.exam_places.specs.declared.place_table.PlaceEntry.{PlaceEntry}
use Rattle.exam_places.specs.declared.unplaced_exam.UnplacedExam.{UnplacedExam}
use Rattle.exam_places.specs.Firsts.{found_or}
use Rattle.exam_places.specs.PeriodTable.{IsPeriodTable, is_in, no_exams_in, period_entry, shared_with, with_shared}
use Rattle.exam_places.specs.PlaceTable.{IsPlaceTable, is_here, is_keeper, lasts_as, no_exams_at, place_entry, with_exam}
use Rattle.exam_places.proofs.FirstLemmas.{found_none}

-- ---- periods

-- the entry with one more exam, by whether that is in the period
period_more : UnplacedExam → ℕ → ℕ → Bool → PeriodEntry
period_more u i p b = record {
  shared = (period_entry u i p).shared + cond b (shared_with u i) 0;
  first = found_or (period_entry u i p).first (b && nat_lt 0 (shared_with u i)) i;
}

period_step : (u : UnplacedExam) (i p : ℕ)
    → period_entry u (i + 1) p ≡ period_more u i p (is_in u.timetable.now p i)
unfolding period_more
period_step u i p = rw add-one refl

in_period : (u : UnplacedExam) (i p : ℕ) → is_in u.timetable.now p i ≡ true
    → period_entry u (i + 1) p ≡ with_shared u i (period_entry u i p)
unfolding period_more
in_period u i p is = period_step u i p ∙ ap (period_more u i p) is

not_in_period : (u : UnplacedExam) (i p : ℕ) → is_in u.timetable.now p i ≡ false
    → period_entry u (i + 1) p ≡ period_entry u i p
unfolding period_more
not_in_period u i p isnt = grind (arith, add-zero, found_none, period_more, period_step)

-- an exam with a place
pub period_put : {u : UnplacedExam} {i : ℕ} {table : List PeriodEntry} {q : Place}
    {new : PeriodEntry}
    → IsPeriodTable u i table → place_of u.timetable.now i ≡ Some q
    → q.period < length u.instance.now.periods
    → new ≡ with_shared u i (get_or table q.period no_exams_in)
    → IsPeriodTable u (i + 1) (set table q.period new)
period_put {u} {i} {table} {q} {new} was placed within is = record {
  count = length-set table q.period new ∙ was.count;
  each = λ p lp. each p lp (cases_eq p q.period);
}
  where
    test : (p : ℕ) → is_in u.timetable.now p i ≡ (q.period == p)
    test p = ap (place_satisfies (λ at. at.period == p)) placed

    each : (p : ℕ) → p < length u.instance.now.periods → (p ≡ q.period) ⊎ (p ≡ q.period → ⊥)
        → get_or (set table q.period new) p no_exams_in ≡ period_entry u (i + 1) p
    each p lp (inl same) = grind (arith, eq-eqb, get_or-set_same, in_period, test, within)
    each p lp (inr other) = grind (arith, get_or-set_other, not_in_period, test)

-- ---- places

-- the entry with one more exam, by whether that is at the place
place_more : UnplacedExam → ℕ → Place → Bool → PlaceEntry
place_more u i at b = record {
  students = (place_entry u i at).students + cond b (size_of u.enrolments.now i) 0;
  first = found_or (place_entry u i at).first b i;
  as_long = found_or (place_entry u i at).as_long (b && lasts_as u.instance.now u.exam i) i;
  keeper = found_or (place_entry u i at).keeper (b && is_keeper u.instance.now i) i;
}

place_step : (u : UnplacedExam) (i : ℕ) (at : Place)
    → place_entry u (i + 1) at ≡ place_more u i at (is_here u.timetable.now at i)
unfolding place_more
place_step u i at = rw add-one refl

at_place : (u : UnplacedExam) (i : ℕ) (at : Place) → is_here u.timetable.now at i ≡ true
    → place_entry u (i + 1) at ≡ with_exam u i (place_entry u i at)
unfolding place_more
at_place u i at is = place_step u i at ∙ ap (place_more u i at) is

not_at_place : (u : UnplacedExam) (i : ℕ) (at : Place) → is_here u.timetable.now at i ≡ false
    → place_entry u (i + 1) at ≡ place_entry u i at
unfolding place_more
not_at_place u i at isnt = grind (arith, add-zero, found_none, place_more, place_step)

-- an exam with a place
pub place_put : {u : UnplacedExam} {i : ℕ} {table : List PlaceEntry} {q : Place} {new : PlaceEntry}
    → IsPlaceTable u i table → place_of u.timetable.now i ≡ Some q
    → PlaceExists u.instance.now (Some q)
    → new ≡ with_exam u i (get_or table (slot_of (length u.instance.now.rooms) q) no_exams_at)
    → IsPlaceTable u (i + 1) (set table (slot_of (length u.instance.now.rooms) q) new)
place_put {u} {i} {table} {q} {new} was placed exists is = record {
  count = length-set table (slot_of rooms q) new ∙ was.count;
  each = λ at lp lr. each at lp lr (cases_eq (slot_of rooms at) (slot_of rooms q));
}
  where
    rooms : ℕ
    rooms = length u.instance.now.rooms

    within : slot_of rooms q < length table
    within = omega (
      arith,
      slot_within (length u.instance.now.periods) rooms q exists.0 exists.1,
      was.count,
    )

    test : (at : Place) → is_here u.timetable.now at i ≡ is_one_place at q
    test at = ap (place_satisfies (is_one_place at)) placed

    each : (at : Place) → at.period < length u.instance.now.periods → at.room < rooms
        → (slot_of rooms at ≡ slot_of rooms q) ⊎ (slot_of rooms at ≡ slot_of rooms q → ⊥)
        → get_or (set table (slot_of rooms q) new) (slot_of rooms at) no_exams_at
        ≡ place_entry u (i + 1) at
    each at lp lr (inl same) =
        let parts = same_from_place at.period at.room q.period q.room rooms lr exists.1 same in
        let one : is_one_place at q ≡ true = grind (arith, common_steps, and_from, eq-eqb) in
        ap (λ k. get_or (set table (slot_of rooms q) new) k no_exams_at) same
        ∙ get_or-set_same table (slot_of rooms q) new no_exams_at within
        ∙ is
        ∙ ap (λ k. with_exam u i (get_or table k no_exams_at)) (sym same)
        ∙ ap (with_exam u i) (was.each at lp lr)
        ∙ sym (at_place u i at (test at ∙ one))
    each at lp lr (inr other) =
        grind (arith, and_parts, eqb-true, false_from_ne_true, get_or-set_other, not_at_place, test)

-- ---- rooms

-- the exams of one more line
pub keepers_more : (exams : ℕ) (lines : List RoomRule) (i x : ℕ) (line : RoomRule)
    (flags : List Bool)
    → length flags ≡ exams → x < exams → i < length lines → line ≡ get_or lines i line
    → x ≡ line.0
    → ((f : ℕ) → f < exams → get_or flags f false ≡ list_any (is_exclusive f) (take i lines))
    → (f : ℕ) → f < exams
    → get_or (set flags x true) f false ≡ list_any (is_exclusive f) (take (i + 1) lines)
keepers_more exams lines i x line flags count exists within is named each f lf =
    grind (
      arith,
      common_steps,
      cases_eq,
      eq-eqb,
      get_or-set_other,
      get_or-set_same,
      list_any_more,
      ne_eqb,
      or-false,
      or-true,
    )

-- the exam of a line exists
pub line_exists : (I : Session) → IsInstance I → (lines : List RoomRule) (i : ℕ) (line : RoomRule)
    → lines ≡ I.room_rules → i < length lines → line ≡ get_or lines i line
    → line.0 < length I.exams
line_exists I known lines i line are within is = grind (arith)
