-- The shares of a publication, read back from rows.
use Rattle.std.proofs.lemmas.Grind.{common_steps}
use Rattle.std.proofs.Common.{◌≡◌, ℕ, ◌+◌, ◌<◌, ◌≤◌, ◌^◌, List, [], ◌∷◌, ◌++◌, length, map, take, drop, All, Some, refl, sym, ◌∙◌, ap, arith, length-append, length-take, length-drop, rules}
use Rattle.std.specs.List.{AllByRecursion}
use Rattle.std.specs.Prelude.{IsPermutation}
use Rattle.std.proofs.lemmas.List.{drop_at, take_at}
use Rattle.std.proofs.lemmas.List.Elements.{All-from_recursion, recursion_from_All}
use Rattle.std.proofs.lemmas.List.FromFn.{length-map-range_with_len}
use Rattle.exam_lists.proofs.Each.{each_map}
use Rattle.exam_lists.proofs.Maps.{same_unmapped}
use Rattle.exam_model.specs.Enrolments.{IsAscending}
use Rattle.exam_model.specs.Instance.{IsInstance, Session}
use Rattle.exam_model.proofs.StudentLemmas.{each_with}
use Rattle.exam_score.specs.Penalty.{PersonalPenalty, personal_total}
use Rattle.exam_publish.specs.AddUp.{AreSmall}
use Rattle.exam_publish.specs.Changed.{rows_of, sorted_numbers, students_of}
use Rattle.exam_publish.specs.Shares.{Sharing, share_of, shares_of, student_shares}
use Rattle.exam_publish.specs.declared.seat_row.SeatRow.{SeatRow}
use Rattle.exam_publish.proofs.AddUpLemmas.{adds_up}
use Rattle.exam_publish.proofs.ShareLemmas.{published_small, shares_ascend}
use Rattle.exam_model.specs.Timetable.{Placing}
use Rattle.office_tables.specs.declared.tables.share_part.PartShareRow.{PartShareRow}
use Rattle.office_tables.specs.declared.tables.share_student.StudentShareRow.{StudentShareRow}
use Rattle.office_model.specs.Office.{Publication}
use Rattle.office_records.specs.FoundPublications.{HasPlacesAndSeats}
use Rattle.office_records.specs.SharesStored.{AreShared, IsShare, student_share_row}
use Rattle.office_records.specs.PartShares.{HasFewParts, HasShareOfEach, part_rows, plain_rows, room_rows}
use Rattle.exam_lists.proofs.Numbered.{length-rows, rows_same}
use Rattle.office_records.proofs.PartRowLemmas.{plain_are, room_share_back, rooms_are}
use Rattle.office_records.proofs.ShareRowLemmas.{share_back}

-- ---- how many

module _ (I : Session) (rows : List SeatRow) (T : Placing) where
  abbrev pub own : Sharing
  own = shares_of I rows T

  pub own_each : HasShareOfEach I own
  own_each = grind (arith, common_steps, length-map-range_with_len)

  pub few_parts : IsInstance I → HasFewParts own
  few_parts known =
      let n = own_each in
      let h = known.limits.counts in
      record { exams = omega arith; periods = omega arith; rooms = omega arith }

-- ---- numbers and amounts

-- a fact of numbers holds for them in order, each once
pub each_sorted : (P : ℕ → Type 0) (ss : List ℕ) → AllByRecursion P ss
    → AllByRecursion P (sorted_numbers ss)
each_sorted P [] a = tt
each_sorted P (s ∷ ss) a = each_with P s (sorted_numbers ss) a.0 (each_sorted P ss a.1)

-- a fact of each row's student
pub each_student : (P : ℕ → Type 0) (rows : List SeatRow)
    → AllByRecursion (λ (row : SeatRow). P row.student) rows → AllByRecursion P (students_of rows)
each_student P rows a =
    each_sorted P (map (λ (row : SeatRow). row.student) rows)
    (each_map P (λ (row : SeatRow). row.student) rows a)

both : (f : ℕ → PersonalPenalty) (xs : List ℕ) → AllByRecursion (λ s. s ≤ 999999999) xs
    → AllByRecursion (λ (share : ℕ × PersonalPenalty). personal_total share.1 < 2 ^ 62)
    (map (λ s. (s, f s)) xs)
    → AllByRecursion IsShare (map (λ s. (s, f s)) xs)
both f [] a b = tt
both f (x ∷ xs) a b = (record { student = a.0; total = b.0 }, both f xs a.1 b.1)

pub small : (I : Session) (p : Publication) → IsInstance I → HasPlacesAndSeats I p
    → AreSmall (shares_of I p.rows p.timetable)
small I p known has = search (rules, published_small, adds_up)

pub are_personal : (I : Session) (p : Publication) → IsInstance I → HasPlacesAndSeats I p
    → All IsShare (student_shares I p.rows)
are_personal I p known has =
    All-from_recursion IsShare (student_shares I p.rows)
    (both (λ s. share_of I.periods I.weights (rows_of s p.rows))
    (students_of p.rows)
    (each_student (λ s. s ≤ 999999999) p.rows
    (recursion_from_All (λ (row : SeatRow). row.student ≤ 999999999) p.rows has.numbered))
    (recursion_from_All (λ (share : ℕ × PersonalPenalty). personal_total share.1 < 2 ^ 62)
    (student_shares I p.rows) (small I p known has).students))

-- ---- from rows to shares

-- the shares that were read, part by part
pub record AreRead (I : Session) (students : List StudentShareRow) (rows : List PartShareRow)
    (shares : Sharing) : Type 0 where
  pub count : length rows ≡ length I.exams + length I.periods + length I.rooms
  pub personal : map student_share_row shares.students ≡ students
  pub of_exams : plain_rows 0 0 shares.exams ≡ take (length I.exams) rows
  pub of_periods : plain_rows 1 0 shares.periods
      ≡ take (length I.periods) (drop (length I.exams) rows)
  pub of_rooms : room_rows 0 shares.rooms ≡ drop (length I.periods) (drop (length I.exams) rows)

-- each exam, period and room has one share
pub each_has : (I : Session) (sorted : List StudentShareRow) (rows : List PartShareRow)
    (shares : Sharing) → AreRead I sorted rows shares → HasShareOfEach I shares
each_has I sorted rows shares read =
    let others = drop (length I.exams) rows in
    let after = length-drop (length I.exams) rows in
    let count = read.count in
    record {
      exams = omega (
        arith,
        length-rows (plain_are 0) 0 shares.exams,
        ap length read.of_exams,
        length-take (length I.exams) rows,
      );
      periods = omega (
        arith,
        length-rows (plain_are 1) 0 shares.periods,
        ap length read.of_periods,
        length-take (length I.periods) others,
      );
      rooms = omega (
        arith,
        length-rows rooms_are 0 shares.rooms,
        ap length read.of_rooms,
        length-drop (length I.periods) others,
      );
    }

-- the rows of a publication in their orders are those of its shares
pub own_read : {I : Session} {p : Publication} {students sorted : List StudentShareRow}
    {parts rows : List PartShareRow}
    → ((shares : List (ℕ × PersonalPenalty))
    → IsAscending (map (λ (share : ℕ × PersonalPenalty). share.0) shares)
    → IsPermutation students (map student_share_row shares)
    → sorted ≡ map student_share_row shares)
    → ((shares : Sharing) → IsPermutation parts (part_rows shares) → rows ≡ part_rows shares)
    → AreShared I (Some p) students parts
    → AreRead I sorted rows (shares_of I p.rows p.timetable)
own_read {I} {p} {rows = rows} only_students only_parts shared = record {
  count = omega (
    arith,
    ap length same,
    length-append of_exams (of_periods ++ of_rooms),
    length-append of_periods of_rooms,
    exams,
    periods,
    length-rows rooms_are 0 whole.rooms,
    each.rooms,
  );
  personal = sym (only_students (student_shares I p.rows) (shares_ascend I p.rows)
      shared.of_students);
  of_exams = sym (ap (take (length I.exams)) same ∙ take_at of_exams _ _ exams);
  of_periods = sym (ap (take (length I.periods)) others ∙ take_at of_periods _ _ periods);
  of_rooms = sym (ap (drop (length I.periods)) others ∙ drop_at of_periods _ _ periods);
}
  where
    whole : Sharing
    whole = shares_of I p.rows p.timetable

    of_exams : List PartShareRow
    of_exams = plain_rows 0 0 whole.exams

    of_periods : List PartShareRow
    of_periods = plain_rows 1 0 whole.periods

    of_rooms : List PartShareRow
    of_rooms = room_rows 0 whole.rooms

    each : HasShareOfEach I whole
    each = own_each I p.rows p.timetable

    same : rows ≡ part_rows whole
    same = only_parts whole shared.of_parts

    exams : length of_exams ≡ length I.exams
    exams = length-rows (plain_are 0) 0 whole.exams ∙ each.exams

    periods : length of_periods ≡ length I.periods
    periods = length-rows (plain_are 1) 0 whole.periods ∙ each.periods

    others : drop (length I.exams) rows ≡ of_periods ++ of_rooms
    others = ap (drop (length I.exams)) same ∙ drop_at of_exams _ _ exams

-- rows are those of one list of shares
pub one_read : {I : Session} {students : List StudentShareRow} {rows : List PartShareRow}
    {shares others : Sharing} → AreRead I students rows shares → AreRead I students rows others
    → shares ≡ others
one_read {shares = a} {others = b} is also = λ i. record {
  students = same_unmapped student_share_row share_back (λ x. refl) a.students b.students
      (is.personal ∙ sym also.personal) i;
  exams = rows_same (plain_are 0) (λ (row : PartShareRow). row.penalty) (λ n x. refl) 0 a.exams
      b.exams (is.of_exams ∙ sym also.of_exams) i;
  periods = rows_same (plain_are 1) (λ (row : PartShareRow). row.penalty) (λ n x. refl) 0
      a.periods b.periods (is.of_periods ∙ sym also.of_periods) i;
  rooms = rows_same rooms_are room_share_back (λ n x. refl) 0 a.rooms b.rooms
      (is.of_rooms ∙ sym also.of_rooms) i;
}
