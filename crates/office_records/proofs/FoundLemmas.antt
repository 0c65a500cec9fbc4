-- The publication found is the only one with these rows.
use Rattle.std.proofs.lemmas.Grind.{common_steps}
use Rattle.std.proofs.Common.{◌≡◌, Bool, true, false, List, [], map, Option, Some, None, Result, Ok, Err, sym, ◌∙◌, ap, subst, true≢false, arith, subst₂}
use Rattle.std.specs.Prelude.{◌↔◌, IfErr, IsPermutation, IsTrue, OnErr, Vec}
use Rattle.std.specs.declared.alloc.Global.{Global}
use Rattle.exam_lists.proofs.Permutations.{IsPermutation-nil}
use Rattle.exam_model.specs.Instance.{Session}
use Rattle.exam_model.specs.Timetable.{Placing}
use Rattle.exam_publish.specs.declared.seat_row.SeatRow as publish
use Rattle.exam_publish.specs.Rows.{AreNumbered, RowsInOrder}
use Rattle.office_tables.specs.declared.tables.placed.PlacedRow.{PlacedRow}
use Rattle.office_tables.specs.declared.tables.share_part.PartShareRow.{PartShareRow}
use Rattle.office_tables.specs.declared.tables.seat.SeatRow.{SeatRow}
use Rattle.office_tables.specs.declared.tables.share_student.StudentShareRow.{StudentShareRow}
use Rattle.office_model.specs.Office.{IsPublication, Publication}
use Rattle.office_records.specs.Publications.{ArePublicationRows, stored_seat}
use Rattle.office_records.specs.FoundPublications.{ArePlaces, ArePublished, HasPlacesAndSeats, publication}
use Rattle.office_records.specs.SharesStored.{AreShared}
use Rattle.office_records.specs.declared.fault.RecordFault.{RecordFault}
use Rattle.office_records.specs.declared.fault.RecordFault.TheVariants.{BadRows}
use Rattle.office_records.proofs.PlacedRowLemmas.{same_places}
use Rattle.office_records.proofs.PublicationLemmas.{has_places_and_seats}

-- a timetable and its seats, if there are such
abbrev Found : Type 0
Found = Option (Placing × Vec publish.SeatRow Global)

module _ (I : Session) (mark : Bool) (places : List PlacedRow) (seats : List SeatRow) where
  -- no publication of the session has these rows
  abbrev pub NoneHas : Type 0
  NoneHas =
      (published : Option Publication) → ArePublicationRows mark places seats published
      → ArePublished I published → ⊥

  -- no other publication of the session has them
  abbrev HasOnly : Option Publication → Type 0
  HasOnly own =
      (published : Option Publication) → ArePublicationRows mark places seats published
      → ArePublished I published → own ≡ published

  -- ---- nothing is published

  module _ (unmarked : mark ≡ false) where
    pub nothing_has_them : (r : Result Found RecordFault) → OnErr r (places ≡ [] → seats ≡ [] → ⊥)
        → IfErr r (λ e. e ≡ BadRows → NoneHas)
    nothing_has_them (Ok found) bad = tt
    nothing_has_them (Err fault) bad = λ _. each bad
      where
        each : (places ≡ [] → seats ≡ [] → ⊥) → NoneHas
        each bad None are is =
            bad (IsPermutation-nil places are.represents.placed) (IsPermutation-nil seats are.represents.seat)
        each bad (Some p) are is = true≢false (sym are.marked ∙ unmarked)

  -- ---- something is published

  module _ (marked : mark ≡ true) where
    marked_none : ArePublicationRows mark places seats None → ⊥
    marked_none are = true≢false (sym marked ∙ are.marked)

    pub places_are : (p : Publication) → ArePublicationRows mark places seats (Some p)
        → IsPublication I p
        → ArePlaces I places p.timetable
    places_are p are is = grind (arith, common_steps)

    -- no seats have these rows
    pub no_seats : ((own : List publish.SeatRow) → RowsInOrder own → AreNumbered own
        → IsPermutation seats (map stored_seat own) → ⊥) → NoneHas
    no_seats none None are is = marked_none are
    no_seats none (Some p) are is =
        none p.rows is.rows.in_order (has_places_and_seats I p is).numbered are.represents.seat

    module _ (T : Placing) (rows : List publish.SeatRow) (places_is : ArePlaces I places T)
        (seats_only : (own : List publish.SeatRow) → RowsInOrder own
        → IsPermutation seats (map stored_seat own) → rows ≡ own) where
      one : (p : Publication) → ArePublicationRows mark places seats (Some p) → IsPublication I p
          → publication T rows ≡ p
      one p are is = λ i. record {
        timetable = same_places I places T p.timetable places_is (places_are p are is) i;
        rows = seats_only p.rows is.rows.in_order are.represents.seat i;
      }

      pub only_one : HasOnly (Some (publication T rows))
      only_one None are is = absurd (marked_none are)
      only_one (Some p) are is = ap Some (one p are is)

      -- they are refused
      pub refused_rows : (sound : Bool)
          → IsTrue sound ↔ HasPlacesAndSeats I (publication T rows) → sound ≡ false → NoneHas
      refused_rows sound decides untrue None are is = marked_none are
      refused_rows sound decides untrue (Some p) are is =
          true≢false
          (sym (decides.1
          (subst (HasPlacesAndSeats I) (sym (one p are is)) (has_places_and_seats I p is)))
          ∙ untrue)

-- ---- with shares

-- shares of the same publication in the same rows
pub shared_same : {I : Session} {o p : Option Publication} {students others : List StudentShareRow}
    {parts rows : List PartShareRow} → o ≡ p → students ≡ others → parts ≡ rows
    → AreShared I o students parts → AreShared I p others rows
shared_same {I} {p = p} {students = students} {parts = parts} same one other are =
    subst₂ (AreShared I p) one other (subst (λ o. AreShared I o students parts) same are)

-- if nothing is published, there is no share
pub no_shares : (I : Session) (students : List StudentShareRow) (parts : List PartShareRow)
    → AreShared I None students parts → (students ≡ []) × (parts ≡ [])
no_shares I students parts are = (IsPermutation-nil students are.of_students, IsPermutation-nil parts are.of_parts)
