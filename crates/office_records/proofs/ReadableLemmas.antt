-- The numbers in the tables of an office fit 32 bits, so no row is skipped as foreign.
use Rattle.std.proofs.Common.{◌≡◌, ℕ, ◌<◌, ◌≤◌, Bool, true, false, List, [], ◌∷◌, map, length, Some, None, Option, refl, sym, ◌∙◌, arith, subst, eqb, cond, get_or}
use Rattle.std.specs.Prelude.{◌^◌, All, IsSome, is_some, slice_get}
use Rattle.std.specs.List.{AllByRecursion}
use Rattle.std.proofs.lemmas.Bool.Decides.{nat_tests}
use Rattle.std.proofs.lemmas.List.Sorted.{IsPermutation-sym}
use Rattle.std.proofs.lemmas.List.Elements.{All-from_recursion, recursion_from_All}
use Rattle.std.proofs.lemmas.List.Folds.{list_any_at}
use Rattle.exam_lists.proofs.Keys.{all_of_key, each_key}
use Rattle.sqlite.specs.Effect.{Database}
use Rattle.sqlite_trees.proofs.ListLemmas.{all-permutation, all_weaker, all_both, all-map, all_from_map, all-slice_get}
use Rattle.exam_model.specs.Fits.{PlaceExists}
use Rattle.exam_model.specs.Pairs.{Pair, is_pair, pairs_of}
use Rattle.exam_model.proofs.PairLemmas.{are_pairs, from_within}
use Rattle.exam_model.specs.Timetable.{Placing}
use Rattle.exam_terms.specs.declared.place.Place.{Place}
use Rattle.exam_model.specs.Instance.{Session, IsInstance}
use Rattle.exam_model.specs.Limits.{RoomInLimits}
use Rattle.exam_model.specs.declared.parts.Room.{Room}
use Rattle.exam_publish.specs.Changed.{rows_of, students_of}
use Rattle.exam_publish.specs.Rows.{AreNumbered, IsAtExam, row_place}
use Rattle.exam_publish.specs.Seats.{HasSeat, IsSeatOf}
use Rattle.exam_publish.specs.Shares.{share_of, shares_of, student_shares}
use Rattle.exam_publish.specs.declared.seat_row.SeatRow as publish
use Rattle.exam_publish.proofs.PlaceLemmas.{row_exists}
use Rattle.exam_score.specs.Penalty.{PersonalPenalty}
use Rattle.office_tables.specs.declared.version.Version.{Version}
use Rattle.office_tables.specs.Tables.{AreReadable, Tables}
use Rattle.office_tables.specs.Adopting.{IsForeign}
use Rattle.office_tables.specs.Tables.Owner.{FitsOwner}
use Rattle.office_tables.specs.Tables.Enrol.{FitsEnrol}
use Rattle.office_tables.specs.Tables.Draft.{FitsDraft}
use Rattle.office_tables.specs.Tables.Slot.{FitsSlot}
use Rattle.office_tables.specs.Tables.Placed.{FitsPlacement}
use Rattle.office_tables.specs.Tables.Seat.{FitsSeat}
use Rattle.office_tables.specs.Tables.ShareStudent.{FitsStudentShare}
use Rattle.office_tables.specs.Tables.SharePart.{FitsPartShare}
use Rattle.office_tables.specs.declared.tables.owner.OwnerRow.{OwnerRow}
use Rattle.office_tables.specs.declared.tables.draft.DraftRow.{DraftRow}
use Rattle.office_tables.specs.declared.tables.slot.SlotRow.{SlotRow}
use Rattle.office_model.specs.Office.{OfficeState, Records, Publication, AreRecords, IsOffice, IsPublication}
use Rattle.office_model.specs.Publishing.{publication_rows}
use Rattle.office_records.specs.Publications.{placed_from, placed_rows, stored_seat}
use Rattle.office_records.specs.PartShares.{part_rows, part_share_rows, plain_rows}
use Rattle.office_records.specs.SharesStored.{student_share_row, student_share_rows}
use Rattle.office_records.specs.Representation.{IsSound, TablesRepresentOffice, RepresentsOfficeIn}
use Rattle.office_records.specs.FoundPublications.{placed_slot}
use Rattle.office_records.specs.TableRows.{some_dept, number_if, slot_rows, slots_from, enrol_row}
use Rattle.exam_lists.proofs.Numbered.{each_numbered}
use Rattle.office_records.proofs.PartRowLemmas.{each_part, no_share, plain_are, rooms_are}
use Rattle.office_records.proofs.PlacedRowLemmas.{placed_slots}
use Rattle.office_records.proofs.PublicationLemmas.{has_places_and_seats}
use Rattle.office_records.proofs.SharesLemmas.{each_student, few_parts}
use Rattle.office_records.proofs.SlotLemmas.{rows_each}

-- ---- the rows of places

-- the rows of a draft's places
places_fit : (I : Session) → IsInstance I → (d : ℕ) (T : Placing) → d ≤ 8
    → length T ≡ length I.exams → All (PlaceExists I) T → AllByRecursion FitsSlot (slots_from d 0 T)
places_fit I known d T low long exist =
    let counts = known.limits.counts in
    rows_each FitsSlot d 0 T (λ e n at within is there.
    let here : PlaceExists I (Some at) = subst (PlaceExists I) there (exist e None within) in (
      omega (arith, low),
      omega (arith, is, within, long, counts),
      omega (arith, here.0, counts),
      omega (arith, here.1, counts),
    ))

-- ---- the rows of one key

module _ (r : Records) (is : AreRecords r) where
  dept_is : (e : ℕ) (b : Bool) → eqb (r.owner_of e) 0 ≡ b
      → AllByRecursion (λ d. (d ≤ 999) × (e < length r.session.exams))
      (cond b [] (r.owner_of e ∷ []))
  dept_is e true f = tt
  dept_is e false f = ((is.departments e, is.owned e (grind (arith, nat_tests, f))), tt)

  owners_fit : (e : ℕ) (rows : List OwnerRow) → map (λ o. o.dept) rows ≡ some_dept (r.owner_of e)
      → AllByRecursion (λ (o : OwnerRow). o.exam ≡ e) rows → AllByRecursion FitsOwner rows
  owners_fit e rows depts keys =
      let few = is.session.limits.counts.0.1 in
      all_both (λ (o : OwnerRow). o.exam ≡ e)
      (λ (o : OwnerRow). (o.dept ≤ 999) × (e < length r.session.exams)) FitsOwner
      (λ o key dept. (omega (arith, key, dept.1, few), omega (arith, dept.0))) rows keys
      (all_from_map (λ d. (d ≤ 999) × (e < length r.session.exams)) (λ (o : OwnerRow). o.dept) rows
      (subst (AllByRecursion (λ d. (d ≤ 999) × (e < length r.session.exams))) (sym depts)
      (dept_is e (eqb (r.owner_of e) 0) refl)))

  number_is : (d : ℕ) (b : Bool) → is_some (r.draft d) ≡ b
      → AllByRecursion (λ n. n ≤ 8) (number_if b d)
  number_is d false e = tt
  number_is d true e = ((is.numbered d e).1, tt)

  drafts_fit : (d : ℕ) (rows : List DraftRow) → map (λ x. x.no) rows ≡ number_if (is_some (r.draft d)) d
      → AllByRecursion FitsDraft rows
  drafts_fit d rows numbers =
      all_weaker (λ (x : DraftRow). x.no ≤ 8) FitsDraft (λ x few. omega (arith, few)) rows
      (all_from_map (λ n. n ≤ 8) (λ (x : DraftRow). x.no) rows
      (subst (AllByRecursion (λ n. n ≤ 8)) (sym numbers) (number_is d (is_some (r.draft d)) refl)))

  slots_fit : (d : ℕ) (o : Option Placing) → r.draft d ≡ o → AllByRecursion FitsSlot (slot_rows d o)
  slots_fit d None e = tt
  slots_fit d (Some T) e =
      let fits = is.drafts d T e in
      places_fit r.session is.session d T (is.numbered d (subst IsSome (sym e) refl)).1
      fits.timetable fits.places

  pairs_fit : AllByRecursion (λ p. FitsEnrol (enrol_row p)) (pairs_of r.enrolments)
  pairs_fit =
      recursion_from_All (λ p. FitsEnrol (enrol_row p)) pairs (λ k d within.
      let p : Pair = get_or pairs k d in
      let own : is_pair p.student p.exam p ≡ true = grind (arith, nat_tests) in
      let exam = All-from_recursion (λ (p : Pair). p.exam < 2000) pairs
      (from_within 2000 0 r.enrolments
      (omega (arith, is.enrolled.exams, is.session.limits.counts.0.1))) k d within in
      let student = is.enrolled.set.numbers p.exam p.student
      (sym ((are_pairs r.enrolments is.enrolled.set).members p.student p.exam)
      ∙ list_any_at (is_pair p.student p.exam) pairs k d within own) in
      (omega (arith, student), omega (arith, exam)))
    where
      pairs : List Pair
      pairs = pairs_of r.enrolments

-- ---- a publication

-- the rows of a publication have numbers of students
pub are_numbered : (I : Session) (p : Publication) → IsPublication I p → AreNumbered p.rows
are_numbered I p is = (has_places_and_seats I p is).numbered

module _ (I : Session) (known : IsInstance I) where
  placements_fit : (T : Placing) → length T ≡ length I.exams → All (PlaceExists I) T
      → AllByRecursion FitsPlacement (placed_from 0 T)
  placements_fit T long exist =
      all_weaker (λ row. FitsSlot (placed_slot row)) FitsPlacement
      (λ row fits. (fits.1, fits.2, fits.3)) (placed_from 0 T)
      (all_from_map FitsSlot placed_slot (placed_from 0 T)
      (subst (AllByRecursion FitsSlot) (sym (placed_slots 0 T))
      (places_fit I known 0 T (omega arith) long exist)))

  few_of_kind : (kind : ℕ) (shares : List ℕ) → kind ≤ 2 → length shares ≤ 2000
      → AllByRecursion FitsPartShare (plain_rows kind 0 shares)
  few_of_kind kind shares low few =
      each_numbered (plain_are kind) FitsPartShare 0 0 shares
      (λ k m within is. (omega (arith, low), omega (arith, few, within, is)))

  parts_fit : (p : Publication)
      → AllByRecursion FitsPartShare (part_rows (shares_of I p.rows p.timetable))
  parts_fit p =
      let shares = shares_of I p.rows p.timetable in
      let few = few_parts I p.rows p.timetable known in
      each_part FitsPartShare shares (few_of_kind 0 shares.exams (omega arith) few.exams)
      (few_of_kind 1 shares.periods (omega arith) (omega (arith, few.periods)))
      (each_numbered rooms_are FitsPartShare no_share 0 shares.rooms
      (λ k m within is. (omega arith, omega (arith, few.rooms, within, is))))

  module _ (p : Publication) (is : IsPublication I p) where
    place_narrow : (at : Place) → PlaceExists I (Some at)
        → (at.period < 2 ^ 32) × (at.room < 2 ^ 32)
    place_narrow at exists =
        let counts = known.limits.counts in
        (omega (arith, exists.0, counts), omega (arith, exists.1, counts))

    seat_narrow : (row : publish.SeatRow) (room : Option Room) → slice_get I.rooms row.room ≡ room
        → IsSeatOf room row.seat → row.seat < 2 ^ 32
    seat_narrow row None e none = absurd none
    seat_narrow row (Some room) e seat =
        let within = all-slice_get RoomInLimits I.rooms row.room room e
        (recursion_from_All RoomInLimits I.rooms known.limits.rooms) in
        omega (arith, seat.1, within.0)

    row_fits : (row : publish.SeatRow) → row.student ≤ 999999999 → IsAtExam p.timetable row
        → HasSeat I row → FitsSeat (stored_seat row)
    row_fits row few at seat =
        let exam = row_exists p.timetable row at in
        let place = place_narrow (row_place row)
        (subst (PlaceExists I) at (is.rows.places row.exam None exam)) in (
          omega (arith, few),
          omega (arith, exam, is.rows.exams, known.limits.counts),
          place.0,
          place.1,
          seat_narrow row (slice_get I.rooms row.room) refl seat,
        )

    seats_fit : AllByRecursion FitsSeat (map stored_seat p.rows)
    seats_fit =
        all-map FitsSeat stored_seat p.rows
        (recursion_from_All (λ row. FitsSeat (stored_seat row)) p.rows
        (λ k d within. row_fits (get_or p.rows k d) (are_numbered I p is k d within)
        (is.rows.at_exams k d within) (is.seated.within k d within)))

    shares_fit : AllByRecursion FitsStudentShare (map student_share_row (student_shares I p.rows))
    shares_fit =
        all-map FitsStudentShare student_share_row (student_shares I p.rows)
        (all-map (λ (share : ℕ × PersonalPenalty). FitsStudentShare (student_share_row share))
        (λ s. (s, share_of I.periods I.weights (rows_of s p.rows))) (students_of p.rows)
        (all_weaker (λ s. s ≤ 999999999) (λ s. s < 2 ^ 32) (λ s few. omega (arith, few))
        (students_of p.rows)
        (each_student (λ s. s ≤ 999999999) p.rows
        (recursion_from_All (λ (row : publish.SeatRow). row.student ≤ 999999999) p.rows
        (are_numbered I p is)))))

  -- the publication fits, if there is one
  published_fits : (o : Option Publication) → ((p : Publication) → o ≡ Some p → IsPublication I p)
      → AllByRecursion FitsPlacement (placed_rows o)
      × AllByRecursion FitsSeat (map stored_seat (publication_rows o))
      × AllByRecursion FitsStudentShare (student_share_rows I o)
      × AllByRecursion FitsPartShare (part_share_rows I o)
  published_fits None each = (tt, tt, tt, tt)
  published_fits (Some p) each =
      let is = each p refl in (
        placements_fit p.timetable is.rows.exams is.rows.places,
        seats_fit p is,
        shares_fit p is,
        parts_fit p,
      )

-- ---- the tables

pub are_readable : (t : Tables) (o : OfficeState) → TablesRepresentOffice t o → IsSound t o
    → IsOffice o
    → AreReadable t
are_readable t None represents sound is = subst AreReadable (sym represents) (record {
  row = record { published = false; instance = [] };
  meta = refl;
  owner = tt;
  enrol = tt;
  draft = tt;
  slot = tt;
  placed = tt;
  seat = tt;
  share_student = tt;
  share_part = tt;
  batch = tt;
})
are_readable t (Some r) represents sound is = record {
  row = _;
  meta = represents.meta;
  owner = each_key (λ (o : OwnerRow). o.exam) FitsOwner t.owner
      (λ e. owners_fit r is e _ (represents.owner e)
      (all_of_key (λ (o : OwnerRow). o.exam) e t.owner));
  enrol = all-permutation FitsEnrol _ _ (IsPermutation-sym _ _ represents.enrol)
      (all-map FitsEnrol enrol_row (pairs_of r.enrolments) (pairs_fit r is));
  draft = each_key (λ (x : DraftRow). x.no) FitsDraft t.draft
      (λ d. drafts_fit r is d _ (represents.draft d));
  slot = each_key (λ (x : SlotRow). x.draft) FitsSlot t.slot
      (λ d. all-permutation FitsSlot _ _ (IsPermutation-sym _ _ (represents.slot d))
      (slots_fit r is d (r.draft d) refl));
  placed = all-permutation FitsPlacement _ _ (IsPermutation-sym _ _ represents.published.placed)
      published.0;
  seat = all-permutation FitsSeat _ _ (IsPermutation-sym _ _ represents.published.seat) published.1;
  share_student = all-permutation FitsStudentShare _ _
      (IsPermutation-sym _ _ sound.shared.of_students) published.2;
  share_part = all-permutation FitsPartShare _ _ (IsPermutation-sym _ _ sound.shared.of_parts)
      published.3;
  batch = represents.batches.fit;
}
  where
    published : AllByRecursion FitsPlacement (placed_rows r.published)
        × AllByRecursion FitsSeat (map stored_seat (publication_rows r.published))
        × AllByRecursion FitsStudentShare (student_share_rows r.session r.published)
        × AllByRecursion FitsPartShare (part_share_rows r.session r.published)
    published = published_fits r.session is.session r.published is.publication

-- a database that represents an office, in any version, is not foreign
pub not_foreign_in : (version : Version) (db : Database) (o : OfficeState)
    → RepresentsOfficeIn version db o
    → IsForeign db → ⊥
not_foreign_in version db o kept foreign =
    foreign version kept.held (are_readable kept.held o kept.represents kept.sound kept.office)
    kept.tables
