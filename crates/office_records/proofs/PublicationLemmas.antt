-- The parts of a publication, and the enrolments that its rows represent.
use Rattle.std.proofs.Common.{◌≡◌, ◌≤◌, List, length, map, None, ◌≢◌, refl, sym, ◌∙◌, ap, ap₂, subst, arith}
use Rattle.std.specs.Prelude.{IsPermutation}
use Rattle.std.proofs.lemmas.List.Elements.{All-from_recursion, recursion_from_All}
use Rattle.std.proofs.lemmas.List.FromFn.{length-map-range_with_len}
use Rattle.std.proofs.lemmas.List.Sorted.{IsPermutation-refl, IsPermutation-sym, IsPermutation-trans}
use Rattle.std.proofs.lemmas.Option.{none-some}
use Rattle.exam_lists.proofs.Chains.{chain_from_index}
use Rattle.sqlite_trees.proofs.ListLemmas.{map-map}
use Rattle.exam_model.specs.Enrolments.{Enrolled, AreEnrolments}
use Rattle.exam_model.specs.Instance.{Session}
use Rattle.exam_model.specs.Pairs.{pairs_of}
use Rattle.exam_model.specs.Timetable.{Placing}
use Rattle.exam_publish.specs.Permit.{RefusesPublication, first_unplaced, least_breach, publish_fault, publish_refusal}
use Rattle.exam_publish.specs.Rows.{AreNumbered, ArePublishedRows, RowBefore, row_pair, enrolled_in, students_in}
use Rattle.exam_publish.specs.Seats.{AreSeated}
use Rattle.exam_publish.specs.declared.fault.PublishFault.{PublishFault}
use Rattle.exam_publish.specs.declared.fault.PublishFault.TheVariants.{Broken, NoMemory, Unplaced}
use Rattle.exam_publish.specs.declared.seat_row.SeatRow.{SeatRow}
use Rattle.exam_publish.proofs.PermitLemmas.{neither, none_unplaced}
use Rattle.exam_publish.proofs.PlaceLemmas.{rows_exist}
use Rattle.exam_publish.proofs.RowLemmas.{are_enrolments, pairs_in, rows_numbered}
use Rattle.office_tables.specs.declared.tables.enrol.EnrolRow.{EnrolRow}
use Rattle.office_model.specs.Office.{AreEnrolled, IsPublication, Publication}
use Rattle.office_model.proofs.RecordLemmas.{are_enrolled as enrolled_of_exams}
use Rattle.office_records.specs.Found.{AreEnrolRows}
use Rattle.office_records.specs.FoundPublications.{HasPlacesAndSeats, publication, seat_pair}
use Rattle.office_records.specs.TableRows.{enrol_row}
use Rattle.office_records.proofs.MemoryLemmas.{same_enrolments}

module _ (I : Session) (rows : List SeatRow) (T : Placing) (are : ArePublishedRows I rows T) where
  -- the enrolments of the rows
  abbrev pub enrolled : Enrolled
  enrolled = enrolled_in (length I.exams) rows

  same_pairs : pairs_of enrolled ≡ map row_pair rows
  same_pairs =
      pairs_in (length I.exams) rows (chain_from_index RowBefore rows are.in_order)
      (rows_exist I rows T are)

  -- the students of enrolments have numbers
  pub numbered_from : AreEnrolments enrolled → AreNumbered rows
  numbered_from set =
      All-from_recursion (λ (row : SeatRow). row.student ≤ 999999999) rows
      (rows_numbered enrolled rows set (sym same_pairs))

  -- rows with numbers represent enrolments, if there are enrolments of the session's exams
  pub are_enrolled : (E : Enrolled) → AreEnrolled I E → AreNumbered rows → AreEnrolled I enrolled
  are_enrolled E known numbered =
      enrolled_of_exams I enrolled set
      (length-map-range_with_len (students_in rows) 0 (length I.exams))
    where
      set : AreEnrolments enrolled
      set =
          let low = known.set.exams.0 in
          let high = known.set.exams.1 in
          let long = known.exams in
          are_enrolments (length I.exams) rows (omega (arith, low, long))
          (omega (arith, high, long)) are.few
          (chain_from_index RowBefore rows are.in_order) (rows_exist I rows T are)
          (recursion_from_All (λ (row : SeatRow). row.student ≤ 999999999) rows numbered)

  -- the pairs of the rows are those of the enrolments
  pub enrol_rows_are : AreEnrolled I enrolled → (pairs : List EnrolRow) → pairs ≡ map seat_pair rows
      → AreEnrolRows I pairs enrolled
  enrol_rows_are known pairs is = record {
    enrolled = known;
    rows = subst (IsPermutation pairs)
        (is ∙ sym (map-map enrol_row row_pair rows) ∙ ap (map enrol_row) (sym same_pairs))
        (IsPermutation-refl pairs);
  }

  module _ (pairs : List EnrolRow) (is : pairs ≡ map seat_pair rows) (E : Enrolled)
      (found : AreEnrolRows I pairs E) where
    -- enrolments with those pairs are the enrolments of the rows
    same_as_rows : AreEnrolled I enrolled → E ≡ enrolled
    same_as_rows known =
        same_enrolments I E enrolled found.enrolled known
        (IsPermutation-trans _ _ _ (IsPermutation-sym _ _ found.rows)
        (enrol_rows_are known pairs is).rows)

    -- rows that break no rule are a publication
    pub is_publication : AreSeated I rows → AreNumbered rows → publish_refusal I E T ≡ None
        → IsPublication I (publication T rows)
    is_publication seated numbered permitted =
        let known = are_enrolled E found.enrolled numbered in record {
          rows = are;
          seated = seated;
          enrolled = known;
          unbroken = ap (λ F. least_breach I F T) (sym (same_as_rows known))
              ∙ (neither (first_unplaced T) (least_breach I E T) permitted).1;
        }

    -- a publication breaks no rule
    not_refused : IsPublication I (publication T rows) → publish_refusal I E T ≡ None
    not_refused known =
        ap (λ F. publish_refusal I F T) (same_as_rows known.enrolled)
        ∙ ap₂ publish_fault (none_unplaced T known.rows.complete) known.unbroken

    -- a refusal for another reason than memory
    pub never_refused : (fault : PublishFault) → fault ≢ NoMemory → RefusesPublication I E T fault
        → IsPublication I (publication T rows) → ⊥
    never_refused (Unplaced e) other refused known =
        none-some (Unplaced e) (sym (not_refused known) ∙ refused)
    never_refused (Broken b) other refused known =
        none-some (Broken b) (sym (not_refused known) ∙ refused)
    never_refused NoMemory other refused known = other refl

-- the conditions of a publication without those on the rules
pub has_places_and_seats : (I : Session) (p : Publication) → IsPublication I p
    → HasPlacesAndSeats I p
has_places_and_seats I p is = record {
  rows = is.rows;
  seated = is.seated;
  numbered = numbered_from I p.rows p.timetable is.rows is.enrolled.set;
}
