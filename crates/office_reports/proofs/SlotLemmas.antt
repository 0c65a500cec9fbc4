-- Tables with an entry for each room and period, filled one exam or seat at a time.
use Rattle.std.proofs.Common.{◌≡◌, ℕ, ◌+◌, ◌*◌, ◌<◌, ◌⊎◌, inl, inr, true, false, ◌==◌, List, [], ◌∷◌, ◌++◌, length, get_or, slice_set, take, Some, None, sym, ◌∙◌, ap, ap₂, arith, eqb-true, eq-eqb}
use Rattle.std.specs.Prelude.{slice_get}
use Rattle.std.specs.List.{flat_map, range_with_len}
use Rattle.std.proofs.lemmas.Bool.{and_parts, and_from, cases_eq, false_from_ne_true}
use Rattle.std.proofs.lemmas.List.{length-set, get_or-set_same, get_or-set_other}
use Rattle.std.proofs.lemmas.List.Sums.{count_by_more_yes, count_by_more_no}
use Rattle.std.proofs.lemmas.Nat.{same_from_place}
use Rattle.exam_lists.proofs.Ranges.{range_filter_more, range_filter_same, range_flat_map_same}
use Rattle.exam_terms.specs.declared.place.Place.{Place}
use Rattle.exam_model.specs.Instance.{Session}
use Rattle.exam_model.specs.Fits.{PlaceExists, slot_of}
use Rattle.exam_model.specs.Timetable.{Placing, place_of}
use Rattle.exam_model.proofs.PlaceLemmas.{slot_within}
use Rattle.exam_publish.specs.Rows.{row_place}
use Rattle.exam_publish.specs.declared.seat_row.SeatRow.{SeatRow}
use Rattle.exam_rules.specs.Places.{is_one_place, place_satisfies}
use Rattle.office_reports.specs.Rooms.{capacity_of, exams_in, line_with, period_lines, place, place_line, seats_in}
use Rattle.office_reports.specs.Slots.{IsTable, entry_line, entry_lines, exams_below}

-- the same place means the same room and the same period
one_place : (p q : Place) → is_one_place p q ≡ true → (p.period ≡ q.period) × (p.room ≡ q.room)
one_place p q one =
    let parts = and_parts (p.period == q.period) (p.room == q.room) one in
    (eqb-true p.period q.period parts.0, eqb-true p.room q.room parts.1)

-- a change at one place changes its entry
table_put : {X : Type 0} (I : Session) (none : X) (before after : Place → X) (step : X → X)
    (table : List X) (q : Place) (new : X)
    → IsTable I none before table → q.period < length I.periods → q.room < length I.rooms
    → new ≡ step (get_or table (slot_of (length I.rooms) q) none)
    → ((p : Place) → is_one_place p q ≡ true → after p ≡ step (before p))
    → ((p : Place) → is_one_place p q ≡ false → after p ≡ before p)
    → IsTable I none after (slice_set table (slot_of (length I.rooms) q) new)
table_put {X} I none before after step table q new was hq hr is here elsewhere = record {
  count = length-set table (slot_of rooms q) new ∙ was.count;
  each = λ p pp pr. each p pp pr (cases_eq (slot_of rooms p) (slot_of rooms q));
}
  where
    rooms : ℕ
    rooms = length I.rooms

    within : slot_of rooms q < length table
    within = omega (arith, slot_within (length I.periods) rooms q hq hr, was.count)

    each : (p : Place) → p.period < length I.periods → p.room < rooms
        → (slot_of rooms p ≡ slot_of rooms q) ⊎ (slot_of rooms p ≡ slot_of rooms q → ⊥)
        → get_or (slice_set table (slot_of rooms q) new) (slot_of rooms p) none ≡ after p
    each p pp pr (inl same) =
        let parts = same_from_place p.period p.room q.period q.room rooms pr hr same in
        let one : is_one_place p q ≡ true = and_from (p.period == q.period) (p.room == q.room)
        (eq-eqb p.period q.period parts.0) (eq-eqb p.room q.room parts.1) in
        ap (λ k. get_or (slice_set table (slot_of rooms q) new) k none) same
        ∙ get_or-set_same table (slot_of rooms q) new none within
        ∙ is
        ∙ ap (λ k. step (get_or table k none)) (sym same)
        ∙ ap step (was.each p pp pr)
        ∙ sym (here p one)
    each p pp pr (inr other) =
        let apart : is_one_place p q ≡ false = false_from_ne_true (is_one_place p q) (λ one.
        let parts = one_place p q one in
        other (ap₂ (λ a b. a * rooms + b) parts.0 parts.1))
        in
        get_or-set_other table (slot_of rooms q) (slot_of rooms p) new none other
        ∙ was.each p pp pr
        ∙ sym (elsewhere p apart)

-- a place that doesn't exist in the session differs from each of its places
outside : (I : Session) (p q : Place) → (PlaceExists I (Some q) → ⊥)
    → p.period < length I.periods → p.room < length I.rooms → is_one_place p q ≡ false
outside I p q isnt pp pr = false_from_ne_true (is_one_place p q) (λ one.
    let parts = one_place p q one in
    let hq : q.period < length I.periods = omega (arith, parts.0) in
    let hr : q.room < length I.rooms = omega (arith, parts.1) in
    isnt (hq, hr))

-- one more exam, which is placed at q
pub exam_put : {I : Session} (T : Placing) (i : ℕ) {table : List (List ℕ)} {q : Place}
    {new : List ℕ}
    → IsTable I [] (exams_below T i) table → place_of T i ≡ Some q → PlaceExists I (Some q)
    → new ≡ get_or table (slot_of (length I.rooms) q) [] ++ i ∷ []
    → IsTable I [] (exams_below T (i + 1)) (slice_set table (slot_of (length I.rooms) q) new)
exam_put {I} T i {table} {q} {new} was placed exists is =
    table_put I [] (exams_below T i) (exams_below T (i + 1)) (λ xs. xs ++ i ∷ []) table q new
    was exists.0 exists.1 is
    (λ p one. range_filter_more (λ e. place_satisfies (is_one_place p) (place_of T e)) i
    (ap (place_satisfies (is_one_place p)) placed ∙ one))
    (λ p apart. range_filter_same (λ e. place_satisfies (is_one_place p) (place_of T e)) i
    (ap (place_satisfies (is_one_place p)) placed ∙ apart))

-- one more exam, whose place doesn't exist in the session
pub exam_outside : {I : Session} (T : Placing) (i : ℕ) {table : List (List ℕ)} {q : Place}
    → IsTable I [] (exams_below T i) table → place_of T i ≡ Some q
    → (PlaceExists I (Some q) → ⊥) → IsTable I [] (exams_below T (i + 1)) table
exam_outside {I} T i {table} {q} was placed isnt = record {
  count = was.count;
  each = λ p pp pr. was.each p pp pr
      ∙ sym (range_filter_same (λ e. place_satisfies (is_one_place p) (place_of T e)) i
      (ap (place_satisfies (is_one_place p)) placed ∙ outside I p q isnt pp pr));
}

-- one more exam, which is not placed
pub exam_unplaced : {I : Session} (T : Placing) (i : ℕ) {table : List (List ℕ)}
    → IsTable I [] (exams_below T i) table → place_of T i ≡ None
    → IsTable I [] (exams_below T (i + 1)) table
exam_unplaced {I} T i {table} was unplaced = record {
  count = was.count;
  each = λ p pp pr. was.each p pp pr
      ∙ sym (range_filter_same (λ e. place_satisfies (is_one_place p) (place_of T e)) i
      (ap (place_satisfies (is_one_place p)) unplaced));
}

-- whether the row r at index i is in a place
its_test : (rows : List SeatRow) (i : ℕ) (r : SeatRow) (q p : Place)
    → r ≡ get_or rows i r → q ≡ row_place r
    → is_one_place p (row_place (get_or rows i r)) ≡ is_one_place p q
its_test rows i r q p is at =
    ap (λ x. is_one_place p (row_place x)) (sym is) ∙ ap (is_one_place p) (sym at)

-- one more seat, which is at q
pub seat_put : {I : Session} (rows : List SeatRow) (i : ℕ) {table : List ℕ} {r : SeatRow}
    {q : Place} {new : ℕ}
    → IsTable I 0 (seats_in (take i rows)) table → i < length rows → r ≡ get_or rows i r
    → q ≡ row_place r → PlaceExists I (Some q)
    → new ≡ get_or table (slot_of (length I.rooms) q) 0 + 1
    → IsTable I 0 (seats_in (take (i + 1) rows)) (slice_set table (slot_of (length I.rooms) q) new)
seat_put {I} rows i {table} {r} {q} {new} was lt is at exists put =
    table_put I 0 (seats_in (take i rows)) (seats_in (take (i + 1) rows)) (λ n. n + 1) table q new
    was exists.0 exists.1 put
    (λ p one. count_by_more_yes (λ row. is_one_place p (row_place row)) rows i r lt
    (its_test rows i r q p is at ∙ one))
    (λ p apart. count_by_more_no (λ row. is_one_place p (row_place row)) rows i r lt
    (its_test rows i r q p is at ∙ apart))

-- one more seat, whose place doesn't exist in the session
pub seat_outside : {I : Session} (rows : List SeatRow) (i : ℕ) {table : List ℕ} {r : SeatRow}
    {q : Place}
    → IsTable I 0 (seats_in (take i rows)) table → i < length rows → r ≡ get_or rows i r
    → q ≡ row_place r → (PlaceExists I (Some q) → ⊥)
    → IsTable I 0 (seats_in (take (i + 1) rows)) table
seat_outside {I} rows i {table} {r} {q} was lt is at isnt = record {
  count = was.count;
  each = λ p pp pr. was.each p pp pr
      ∙ sym (count_by_more_no (λ row. is_one_place p (row_place row)) rows i r lt
      (its_test rows i r q p is at ∙ outside I p q isnt pp pr));
}

-- the lines by the tables are the report's
pub report_lines : {I : Session} (T : Placing) (rows : List SeatRow) {exams : List (List ℕ)}
    {used : List ℕ}
    → IsTable I [] (exams_in T) exams → IsTable I 0 (seats_in rows) used
    → flat_map (entry_lines I exams used) (range_with_len 0 (length I.periods))
    ≡ flat_map (period_lines I T rows) (range_with_len 0 (length I.periods))
report_lines {I} T rows {exams} {used} listed counted =
    range_flat_map_same (entry_lines I exams used) (period_lines I T rows) 0 (length I.periods)
    (λ p pp. range_flat_map_same (λ r. entry_line I exams used (place p r))
    (λ r. place_line I T rows (place p r)) 0 (length I.rooms)
    (λ r pr. same_line p r (omega arith) (omega arith)))
  where
    same_line : (p r : ℕ) → p < length I.periods → r < length I.rooms
        → entry_line I exams used (place p r) ≡ place_line I T rows (place p r)
    same_line p r pp pr =
        ap₂ (λ n here. line_with (place p r) n (capacity_of (slice_get I.rooms r)) here)
        (counted.each (place p r) pp pr) (listed.each (place p r) pp pr)
