-- The writes of a publication, and what they make of the tables.
use Rattle.std.proofs.Common.{◌≡◌, ◌≢◌, ℕ, zero, suc, ◌+◌, ◌-◌, ◌<◌, ◌≤◌, List, length, filter, map, Some, None, Ok, Err, refl, sym, ◌∙◌, ap, subst, arith, true, not, ◌&&◌, eqb, ◌∷◌, ◌++◌, [], reverse, Option, Result, ap₂}
use Rattle.std.specs.Prelude.{IsPermutation, Vec, slice_get, slice_index, ◌||◌, is_some, option_map}
use Rattle.std.specs.declared.alloc.Global.{Global}
use Rattle.std.proofs.lemmas.Option.{get_or_from_slice_get, slice_get_within}
use Rattle.std.proofs.lemmas.List.FromFn.{length-map-range_with_len}
use Rattle.std.proofs.lemmas.List.Sorted.{IsPermutation-refl, length_permutation, IsPermutation-sym, IsPermutation-trans}
use Rattle.std.specs.List.{list_any}
use Rattle.std.proofs.lemmas.List.{append-nil, nil_from_length}
use Rattle.std.proofs.lemmas.Simd.{map-map}
use Rattle.exam_model.specs.Enrolments.{Enrolled, IsAscending, has_number}
use Rattle.exam_model.specs.Instance.{IsInstance, Session}
use Rattle.exam_model.specs.Pairs.{pairs_of}
use Rattle.exam_model.specs.Timetable.{Placing}
use Rattle.exam_publish.specs.Permit.{RefusesPublication, publish_refusal}
use Rattle.exam_publish.specs.Seats.{seat_rows}
use Rattle.exam_publish.specs.Shares.{period_share, room_share, shares_among, student_shares}
use Rattle.exam_publish.specs.Rows.{enrolled_in, RowsInOrder}
use Rattle.exam_publish.specs.declared.fault.PublishFault.{PublishFault}
use Rattle.exam_publish.specs.declared.fault.PublishFault.TheVariants.{Broken, NoMemory, Unplaced}
use Rattle.office_tables.specs.declared.tables.seat.SeatRow.{SeatRow}
use Rattle.exam_score.specs.Penalty.{Penalty, PersonalPenalty, total_of}
use Rattle.exam_score.specs.Track.{track}
use Rattle.exam_score.specs.FrontLoad.{exam_front}
use Rattle.office_model.specs.Office.{Records, AreRecords, OfficeState, Publication}
use Rattle.office_model.specs.Publishing.{draft_published, publication_rows, publication_counts, published_as}
use Rattle.office_model.specs.declared.fault.StoreFault.{StoreFault}
use Rattle.office_model.specs.declared.fault.StoreFault.TheVariants.{Refused, Store}
use Rattle.office_records.specs.FoundPublications.{publication}
use Rattle.office_records.specs.Memory.{memory_of}
use Rattle.office_records.specs.Publications.{placed_rows, placed_from, stored_seat}
use Rattle.office_records.specs.PartShares.{HasFewParts, part_share_rows}
use Rattle.office_records.specs.SharesStored.{share_rows_of, student_share_row, retimed_students, share_rows_without, student_share_rows}
use Rattle.office_tables.specs.declared.tables.placed.PlacedRow.{PlacedRow}
use Rattle.office_store.specs.NewPublications.{AreInserted, Publishes, IsInserted, InsertsOrRefuses, candidates_before, mark_text}
use Rattle.office_store.specs.Running.{IsFault}
use Rattle.office_store.specs.declared.new_publication.NewPublication.{NewPublication}
use Rattle.exam_lists.proofs.Booleans.{eqb_swap}
use Rattle.exam_lists.proofs.Filters.{filter-map}
use Rattle.exam_lists.proofs.Maps.{map_back}
use Rattle.exam_lists.proofs.Tests.{any_map}
use Rattle.exam_lists.proofs.Permutations.{IsPermutation-reverse_as, IsPermutation-reverse_over}
use Rattle.sqlite.specs.Effect.{Database}
use Rattle.exam_model.specs.Fits.{Fits}
use Rattle.exam_publish.proofs.PublishedLemmas.{same_enrolments}
use Rattle.office_tables.specs.Alterations.{after_all}
use Rattle.office_tables.specs.Tables.{no_part_shares, with_part_share, with_placement, without_placement, with_seat, without_seat, with_student_share, without_student_share, Tables}
use Rattle.office_tables.specs.Tables.Metadata.{Meta}
use Rattle.office_tables.proofs.AlterationLemmas.{part_shares_put, placements_gone, placements_put, seats_put, seats_gone, student_shares_gone, student_shares_put}
use Rattle.office_tables.specs.declared.tables.placed.DeletePlacement.{DeletePlacement}
use Rattle.office_tables.specs.Tables.Placed.{InsertPlacement}
use Rattle.office_tables.specs.Tables.Seat.{InsertSeat}
use Rattle.office_tables.specs.Tables.SharePart.{InsertPartShare}
use Rattle.office_tables.specs.declared.tables.seat.DeleteSeat.{DeleteSeat}
use Rattle.office_tables.specs.declared.tables.share_student.DeleteStudentShare.{DeleteStudentShare}
use Rattle.office_tables.specs.declared.tables.share_student.InsertStudentShare.{InsertStudentShare}
use Rattle.office_tables.specs.declared.tables.share_student.StudentShareRow.{StudentShareRow}
use Rattle.office_model.proofs.RecordLemmas.{old_seated, published_records}
use Rattle.office_records.specs.SeatsStored.{rows_beside, seats_without}
use Rattle.office_records.specs.Representation.{RepresentsOffice, IsSound, TablesRepresentRecords}
use Rattle.office_records.specs.TableRows.{meta_row, session_text}
use Rattle.office_store.specs.ChangedPlacements.{changed_rows, exams_of, placements_without}
use Rattle.office_store.specs.PublicationChanges.{mark_put, meta_after, places_put, publication_put, seats_left, shares_put}
use Rattle.office_store.specs.RowPuts.{deleted_placement, placement_put, seat_gone}
use Rattle.office_store.specs.Memory.{HasPublished, IsMemoryOf}
use Rattle.office_store.specs.declared.memory.OfficeMemory.{OfficeMemory}
use Rattle.office_store.proofs.ChangedPlacementLemmas.{AreOwnExams, own_exams, stored_put}
use Rattle.office_store.proofs.CommandLemmas.{MovesBy, Remembers, RowsChanged}
use Rattle.office_store.proofs.RunLemmas.{by_publication}
use Rattle.office_store.proofs.RememberingLemmas.{next_is, published_changed}
use Rattle.office_model.specs.declared.fault.Refusal.TheVariants as refusal
use Rattle.exam_publish.specs.declared.seat_row.SeatRow as publish
use Rattle.office_records.proofs.RepublicationLemmas as republication
use Rattle.office_records.proofs.SeatDifferenceLemmas as differences

-- ---- how many candidates

-- a number in ascending numbers is no smaller than its index
rises : (xs : List ℕ) → IsAscending xs → (i : ℕ) → i < length xs → i ≤ slice_index xs i
rises xs h zero within = omega arith
rises xs h (suc i) within =
    let before = rises xs h i (omega arith) in
    let less = h i (suc i) (omega arith) within in
    omega (arith, before, less)

pub count_within : (xs : List ℕ) (last : ℕ) → IsAscending xs
    → Some last ≡ slice_get xs (length xs - 1) → length xs ≤ last + 1
count_within xs last h is =
    let within = slice_get_within xs (length xs - 1) last (sym is) in
    let here : slice_index xs (length xs - 1) ≡ last
    = get_or_from_slice_get xs (length xs - 1) last 0 (sym is) in
    let least = rises xs h (length xs - 1) within in
    omega (arith, within, here, least)

-- ---- how many shares

-- no more parts have a share than a session has
pub few_parts : (I : Session) (rows : List publish.SeatRow) (T : Placing) (students : List ℕ)
    → IsInstance I → HasFewParts (shares_among I rows T students)
few_parts I rows T students known =
    let exams : length (shares_among I rows T students).exams ≡ length I.exams
    = length-map-range_with_len (exam_front I (enrolled_in (length I.exams) rows) T) 0
    (length I.exams) in
    let periods : length (shares_among I rows T students).periods ≡ length I.periods
    = length-map-range_with_len (period_share I T) 0 (length I.periods) in
    let rooms : length (shares_among I rows T students).rooms ≡ length I.rooms
    = length-map-range_with_len (room_share I T) 0 (length I.rooms) in
    record {
      exams = omega (arith, exams, known.limits.counts);
      periods = omega (arith, periods, known.limits.counts);
      rooms = omega (arith, rooms, known.limits.counts);
    }

-- the rows of the shares of some candidates
pub rows_among : (students : List ℕ) (shares : List (ℕ × PersonalPenalty))
    → map student_share_row (filter (λ share. has_number students share.0) shares)
    ≡ share_rows_of students (map student_share_row shares)
rows_among students shares =
    sym (filter-map (λ row. has_number students row.student) student_share_row shares)

-- ---- refusals

-- a draft that may not be published is refused for that
refused_so : (d : ℕ) (r : Records) (T : Placing) (fault : PublishFault) → r.draft d ≡ Some T
    → publish_refusal r.session r.enrolments T ≡ Some fault
    → draft_published d (Some r) ≡ Err (Refused (refusal.Publish fault))
refused_so d r T fault there is = rw (there, is) refl

module _ (d : ℕ) (r : Records) (I : Session) (E : Enrolled) (T : Placing)
    (memory : memory_of (Some r) ≡ Some (I, E)) (there : r.draft d ≡ Some T) where
  both : ◌≡◌ {A = Session × Enrolled} (r.session, r.enrolments) (I, E)
  both = cc

  pub permit_refused : (fault : PublishFault) (e : StoreFault) → RefusesPublication I E T fault
      → (fault ≡ NoMemory → e ≡ Store) → (fault ≢ NoMemory → e ≡ Refused (refusal.Publish fault))
      → IsFault (draft_published d (Some r)) e
  permit_refused fault e refuses memory refused =
      go fault (subst (λ (p : Session × Enrolled). RefusesPublication p.0 p.1 T fault) (sym both)
      refuses) memory refused
    where
      go : (fault : PublishFault) → RefusesPublication r.session r.enrolments T fault
          → (fault ≡ NoMemory → e ≡ Store)
          → (fault ≢ NoMemory → e ≡ Refused (refusal.Publish fault))
          → IsFault (draft_published d (Some r)) e
      go NoMemory is memory refused =
          subst (IsFault (draft_published d (Some r))) (sym (memory refl)) tt
      go (Unplaced n) is memory refused =
          subst (IsFault (draft_published d (Some r))) (sym (refused (λ e. absurd cc)))
          (refused_so d r T (Unplaced n) there is)
      go (Broken b) is memory refused =
          subst (IsFault (draft_published d (Some r))) (sym (refused (λ e. absurd cc)))
          (refused_so d r T (Broken b) there is)

  -- ---- the writes

  pub publishes : (before : List PlacedRow) (old : List publish.SeatRow)
      (rows : Vec publish.SeatRow Global)
      (penalty : ℕ) (new : NewPublication) (U : Placing) (parts : Penalty)
      → publish_refusal I E T ≡ None
      → before ≡ placed_rows r.published → old ≡ publication_rows r.published
      → rows.items ≡ seat_rows (pairs_of E) T old → penalty ≡ total_of (track I E T)
      → AreInserted I T before old rows.items penalty new → U ≡ T → parts ≡ track I E T
      → Publishes d r (Ok (new, (U, rows), parts))
  publishes before old rows penalty new U parts permitted were was are costs put same priced = record {
    timetable = T;
    draft = there;
    permitted = subst (λ (p : Session × Enrolled). publish_refusal p.0 p.1 T ≡ None) (sym both)
        permitted;
    before = before;
    were = subst (IsPermutation before) were (IsPermutation-refl before);
    put = subst (λ (p : Session × Enrolled). AreInserted p.0 T before (publication_rows r.published)
        (seat_rows (pairs_of p.1) T (publication_rows r.published))
        (total_of (track p.0 p.1 T)) new)
        (sym both)
        (subst (λ n. AreInserted I T before (publication_rows r.published)
        (seat_rows (pairs_of E) T (publication_rows r.published)) n new) costs
        (subst (λ l. AreInserted I T before (publication_rows r.published) l penalty new)
        (are ∙ ap (seat_rows (pairs_of E) T) was)
        (subst (λ l. AreInserted I T before l rows.items penalty new) was put)));
    made = ap (λ S. Some (publication S rows.items)) same
        ∙ ap (λ l. Some (publication T l))
        (are ∙ ap (seat_rows (pairs_of E) T) was
        ∙ ap (λ (p : Session × Enrolled).
        seat_rows (pairs_of p.1) T (publication_rows r.published)) (sym both));
    priced = ap (λ (p : Session × Enrolled). track p.0 p.1 T) both ∙ sym priced;
  }

-- ---- what the parts of the transaction make of the tables, one after the other

-- whether a candidate is among those whose rows are deleted
among : {X : Type 0} (student : X → ℕ) (s : ℕ) (its : List X)
    → list_any (λ it. eqb s (student it)) its ≡ has_number (map student its) s
among student s [] = refl
among student s (it ∷ its) =
    ap₂ (λ a b. a || b) (eqb_swap s (student it)) (among student s its)

pub places_gone_after : (its : List DeletePlacement) (t : Tables)
    → after_all (λ (it : DeletePlacement). without_placement it.exam) its t
    ≡ record t {
      placed = placements_without (map (λ (it : DeletePlacement). it.exam) its) t.placed;
    }
places_gone_after its t =
    placements_gone its t
    ∙ (λ i. record t {
      placed = filter
          (λ row. not (among (λ (it : DeletePlacement). it.exam) row.exam its i))
          t.placed;
    })

pub shares_gone_after : (its : List DeleteStudentShare) (t : Tables)
    → after_all (λ (it : DeleteStudentShare). without_student_share it.student) its t
    ≡ record t {
      share_student = share_rows_without (map (λ (it : DeleteStudentShare). it.student) its)
          t.share_student;
    }
shares_gone_after its t =
    student_shares_gone its t
    ∙ (λ i. record t {
      share_student = filter
          (λ row. not (among (λ (it : DeleteStudentShare). it.student) row.student its i))
          t.share_student;
    })

-- writes with the same lists are those of the new publication
pub places_made : (new : NewPublication) {away : List DeletePlacement} {ps : List InsertPlacement}
    {gone : List DeleteSeat} {ss : List InsertSeat}
    → away ≡ new.deleted_placements.items → ps ≡ new.placements.items
    → gone ≡ new.seats_gone.items → ss ≡ new.seats.items → (t : Tables)
    → after_all (λ (it : InsertSeat). with_seat it.row) ss
    (after_all (λ (it : DeleteSeat). without_seat it.student it.exam) gone
    (after_all (λ (it : InsertPlacement). with_placement it.row) ps
    (after_all (λ (it : DeletePlacement). without_placement it.exam) away (mark_put new.text t))))
    ≡ places_put new t
places_made new {away = away} {ps = ps} {gone = gone} {ss = ss} a b c d t =
    let all_seats : Tables → Tables = λ u. after_all (λ (it : InsertSeat). with_seat it.row) ss
    (after_all (λ (it : DeleteSeat). without_seat it.student it.exam) gone u) in
    ap (λ u. all_seats (after_all (λ (it : InsertPlacement). with_placement it.row) ps u))
    (places_gone_after away (mark_put new.text t))
    ∙ ap all_seats (placements_put ps _)
    ∙ ap (after_all (λ (it : InsertSeat). with_seat it.row) ss) (seats_gone gone _) ∙ seats_put ss _
    ∙ (λ i. record t {
      meta = meta_after new.text t.meta;
      placed = reverse (map (λ (it : InsertPlacement). it.row) (b i))
          ++ placements_without (map (λ (it : DeletePlacement). it.exam) (a i)) t.placed;
      seat = reverse (map (λ (it : InsertSeat). it.row) (d i)) ++ seats_left (c i) t.seat;
    })

pub shares_made : (new : NewPublication) {gone : List DeleteStudentShare}
    {students : List InsertStudentShare} {parts : List InsertPartShare}
    → gone ≡ new.deleted_shares.items → students ≡ new.students.items → parts ≡ new.parts.items
    → (t : Tables)
    → after_all (λ (it : InsertPartShare). with_part_share it.row) parts
    (no_part_shares (after_all (λ (it : InsertStudentShare). with_student_share it.row) students
    (after_all (λ (it : DeleteStudentShare). without_student_share it.student) gone t)))
    ≡ shares_put new t
shares_made new {gone = gone} {students = students} {parts = parts} a b c t =
    let all_parts : Tables → Tables = λ u. after_all (λ (it : InsertPartShare). with_part_share it.row)
    parts (no_part_shares u) in
    ap (λ u. all_parts (after_all (λ (it : InsertStudentShare). with_student_share it.row) students u))
    (shares_gone_after gone t)
    ∙ ap all_parts (student_shares_put students _) ∙ part_shares_put parts _
    ∙ (λ i. record t {
      share_student = reverse (map (λ (it : InsertStudentShare). it.row) (b i))
          ++ share_rows_without (map (λ (it : DeleteStudentShare). it.student) (a i)) t.share_student;
      share_part = append-nil (reverse (map (λ (it : InsertPartShare). it.row) (c i))) i;
    })

-- ---- the rows that are inserted

-- no exam has two published placements
own_of : (published : Option Publication) (before : List PlacedRow)
    → IsPermutation before (placed_rows published) → AreOwnExams before
own_of None before were = own_exams [] before were
own_of (Some p) before were = own_exams p.timetable before were

-- the placements afterwards are those of the timetable: unchanged ones and inserted ones
placed_in : (published : Option Publication) (rows before placed : List PlacedRow)
    (gone : List DeletePlacement) (put : List InsertPlacement)
    → gone ≡ map deleted_placement (changed_rows before rows)
    → put ≡ map placement_put (changed_rows rows before)
    → IsPermutation before (placed_rows published) → IsPermutation placed before
    → IsPermutation (reverse (map (λ (it : InsertPlacement). it.row) put)
    ++ placements_without (map (λ (it : DeletePlacement). it.exam) gone) placed) rows
placed_in published rows before placed gone put away come were are =
    IsPermutation-trans _ _ _
    (IsPermutation-reverse_over (λ (l : List ℕ). placements_without l placed)
    (map (λ (it : DeletePlacement). it.exam) gone) (exams_of (changed_rows before rows))
    (map (λ (it : InsertPlacement). it.row) put) (changed_rows rows before)
    (ap (map (λ (it : DeletePlacement). it.exam)) away
    ∙ map-map (λ (it : DeletePlacement). it.exam) deleted_placement (changed_rows before rows))
    (ap (map (λ (it : InsertPlacement). it.row)) come
    ∙ map_back placement_put (λ (it : InsertPlacement). it.row) (λ x. refl)
    (changed_rows rows before)))
    (stored_put rows before placed (own_of published before were) are)

-- afterwards the row about the office says that something is published of the session, whether it
-- is written or says so already
meta_in : (I : Session) (published : Option Publication) (before : List PlacedRow)
    (text : Option (Vec ℕ Global)) → IsPermutation before (placed_rows published)
    → option_map (λ (text : Vec ℕ Global). text.items) text ≡ mark_text I before
    → (meta : List Meta) → meta ≡ meta_row (is_some published) I ∷ []
    → meta_after text meta ≡ meta_row true I ∷ []
meta_in I published [] None were is meta stood = absurd cc
meta_in I published [] (Some text) were is meta stood =
    let same : text.items ≡ session_text I = cc in
    ap (λ text. record { published = true; instance = text } ∷ []) same
meta_in I published (row ∷ before) (Some text) were is meta stood = absurd cc
meta_in I None (row ∷ before) None were is meta stood =
    absurd (let long = length_permutation _ _ were in omega (arith, long))
meta_in I (Some p) (row ∷ before) None were is meta stood = stood

-- a publication without seats has no candidates' shares
shares_of_none : (I : Session) (published : Option Publication) → publication_rows published ≡ []
    → student_share_rows I published ≡ []
shares_of_none I None none = refl
shares_of_none I (Some p) none =
    ap (λ (rows : List publish.SeatRow). map student_share_row (student_shares I rows)) none

-- the seats of a publication are in order
old_in_order : (r : Records) → AreRecords r → RowsInOrder (publication_rows r.published)
old_in_order r is =
    by_publication is (λ published. RowsInOrder (publication_rows published))
    (λ i j d l m. absurd (omega arith)) (λ p known. known.rows.in_order)

-- and so are those of the new one
new_in_order : (r : Records) (T : Placing) → AreRecords r → Fits r.session r.enrolments T
    → publish_refusal r.session r.enrolments T ≡ None → RowsInOrder (published_as r T).rows
new_in_order r T is fits permitted =
    ((published_records r T is fits permitted).publication (published_as r T) refl).rows.in_order

-- the stored seats without those that are deleted
left_without : (gone stored : List SeatRow) → seats_left (map seat_gone gone) stored
    ≡ seats_without gone stored
left_without gone stored =
    λ i. filter
    (λ (row : SeatRow). not (any_map
    (λ (it : DeleteSeat). eqb row.student it.student && eqb row.exam it.exam) seat_gone gone i))
    stored

-- if nothing was published before, no share is stored, so none need be deleted
none_before : (I : Session) (published : Option Publication) (who : List ℕ)
    (stored : List StudentShareRow) → IsPermutation stored (student_share_rows I published)
    → share_rows_without (candidates_before (publication_rows published) who) stored
    ≡ share_rows_without who stored
none_before I published who stored are = go (publication_rows published) refl
  where
    nobody : publication_rows published ≡ [] → stored ≡ []
    nobody none =
        nil_from_length stored
        (sym (length_permutation _ _ are) ∙ ap length (shares_of_none I published none))

    go : (rows : List publish.SeatRow) → publication_rows published ≡ rows
        → share_rows_without (candidates_before rows who) stored ≡ share_rows_without who stored
    go [] is =
        ap (share_rows_without []) (nobody is) ∙ sym (ap (share_rows_without who) (nobody is))
    go (row ∷ rows) is = refl

-- ---- the office

module _ (r : Records) (T : Placing) (is : AreRecords r) (fits : Fits r.session r.enrolments T)
    (permitted : publish_refusal r.session r.enrolments T ≡ None) where
  abbrev new_one : Publication
  new_one = published_as r T

  module _ (before : List PlacedRow) (were : IsPermutation before (placed_rows r.published))
      (penalty : ℕ) (new : NewPublication)
      (put : AreInserted r.session T before (publication_rows r.published) new_one.rows penalty new)
      (t : Tables) where
    abbrev retimed : List ℕ
    retimed = retimed_students (publication_rows r.published) new_one.rows

    seat_in : RowsInOrder (publication_rows r.published) → RowsInOrder new_one.rows
        → IsPermutation t.seat (map stored_seat (publication_rows r.published))
        → IsPermutation (publication_put new t).seat (map stored_seat new_one.rows)
    seat_in up up' stored =
        let come = map stored_seat (rows_beside (publication_rows r.published) new_one.rows) in
        let gone = map stored_seat (rows_beside new_one.rows (publication_rows r.published)) in
        IsPermutation-trans _ _ _
        (IsPermutation-reverse_over (λ (l : List DeleteSeat). seats_left l t.seat)
        new.seats_gone.items (map seat_gone gone)
        (map (λ (it : InsertSeat). it.row) new.seats.items) come
        put.seats_gone
        (ap (map (λ (it : InsertSeat). it.row)) put.seats
        ∙ map_back _ (λ (it : InsertSeat). it.row) (λ x. refl) come))
        (subst (λ l. IsPermutation (come ++ l) (map stored_seat new_one.rows))
        (sym (left_without gone t.seat))
        (differences.seats_put (publication_rows r.published) new_one.rows up up' t.seat stored))

    share_of_rows : IsPermutation t.share_student (student_share_rows r.session r.published)
        → IsPermutation (publication_put new t).share_student
        (student_share_rows r.session (Some new_one))
    share_of_rows stored =
        let all = student_share_rows r.session (Some new_one) in
        let before = candidates_before (publication_rows r.published) retimed in
        IsPermutation-trans _ _ _
        (IsPermutation-reverse_over (λ (l : List ℕ). share_rows_without l t.share_student)
        (map (λ (it : DeleteStudentShare). it.student) new.deleted_shares.items) before
        (map (λ (it : InsertStudentShare). it.row) new.students.items) (share_rows_of retimed all)
        (ap (map (λ (it : DeleteStudentShare). it.student)) put.deleted_shares
        ∙ map_back _ (λ (it : DeleteStudentShare). it.student) (λ x. refl) before)
        (ap (map (λ (it : InsertStudentShare). it.row)) put.students
        ∙ map_back _ (λ (it : InsertStudentShare). it.row) (λ x. refl)
        (share_rows_of retimed all)))
        (subst (λ l. IsPermutation (share_rows_of retimed all ++ l) all)
        (sym (none_before r.session r.published retimed t.share_student stored))
        (republication.shares_put r.session r.published new_one t.share_student stored))

    published_represents : TablesRepresentRecords t r
        → TablesRepresentRecords (publication_put new t) (record r { published = Some new_one })
    published_represents h = record {
      meta = meta_in r.session r.published before new.text were put.text t.meta h.meta;
      owner = h.owner;
      enrol = h.enrol;
      draft = h.draft;
      slot = h.slot;
      published = record {
        placed = placed_in r.published (placed_from 0 T) before t.placed new.deleted_placements.items
            new.placements.items put.deleted_placements put.placements were
            (IsPermutation-trans _ _ _ h.published.placed (IsPermutation-sym _ _ were));
        seat = seat_in (old_in_order r is) (new_in_order r T is fits permitted) h.published.seat;
      };
      batches = h.batches;
    }

    published_sound : IsSound t (Some r)
        → IsSound (publication_put new t) (Some (record r { published = Some new_one }))
    published_sound h = record {
      scored = h.scored;
      shared = record {
        of_students = share_of_rows h.shared.of_students;
        of_parts = IsPermutation-reverse_as _ (part_share_rows r.session (Some new_one))
            (ap (map (λ (it : InsertPartShare). it.row)) put.parts
            ∙ map_back _ (λ (it : InsertPartShare). it.row) (λ x. refl)
            (part_share_rows r.session (Some new_one)));
      };
    }

  -- the database represents the office with the publication
  published_kept : (a b : Database) (before : List PlacedRow)
      → IsPermutation before (placed_rows r.published) → (penalty : ℕ) (new : NewPublication)
      → AreInserted r.session T before (publication_rows r.published) new_one.rows penalty new
      → RepresentsOffice a (Some r) → RowsChanged (publication_put new) a b
      → RepresentsOffice b (Some (record r { published = Some new_one }))
  published_kept a b before were penalty new put kept makes = record {
    held = publication_put new kept.held;
    tables = makes kept.held kept.tables;
    represents = published_represents before were penalty new put kept.held kept.represents;
    sound = published_sound before were penalty new put kept.held kept.sound;
    office = published_records r T is fits permitted;
  }

-- ---- what the command returns

publish_gives : (d : ℕ) (r : Records) (T : Placing) → r.draft d ≡ Some T
    → publish_refusal r.session r.enrolments T ≡ None
    → draft_published d (Some r)
    ≡ Ok (
      publication_counts r (published_as r T),
      Some (record r {
        published = Some (published_as
            r T);
      }),
    )
publish_gives d r T there permitted = rw (there, permitted) refl

-- ---- the calls that publish

-- the writes for an office's records are those for the office
in_office : (d : ℕ) (r : Records)
    (result : Result (NewPublication × (Placing × Vec publish.SeatRow Global) × Penalty) StoreFault)
    → Publishes d r result → InsertsOrRefuses d (Some r) result
in_office d r (Ok new) puts = record { records = r; is = refl; put = puts }
in_office d r (Err fault) refused = refused

-- what is in memory decides for each office that is represented
pub puts_in_memory : {m : OfficeMemory} {I : Session} {E : Enrolled} → m.kept ≡ Some (I, E) → (d : ℕ)
    (result : Result (NewPublication × (Placing × Vec publish.SeatRow Global) × Penalty) StoreFault)
    (o : OfficeState) → IsMemoryOf o m
    → ((r : Records) → o ≡ Some r → memory_of (Some r) ≡ Some (I, E) → IsMemoryOf (Some r) m
    → Publishes d r result)
    → InsertsOrRefuses d o result
puts_in_memory kept d result None is publishes = absurd (let none = is.session ∙ kept in cc)
puts_in_memory kept d result (Some r) is publishes =
    in_office d r result (publishes r refl (is.session ∙ kept) is)

module _ {d : ℕ} {a : Database} {m : OfficeMemory} {new : NewPublication}
    {published : Placing × Vec publish.SeatRow Global} {penalty : Penalty}
    (puts : (o : OfficeState) → IsMemoryOf o m → IsInserted d o new published penalty) where
  -- the transaction changes the office as the command does
  pub publication_moves : MovesBy (publication_put new) (draft_published d) new.counts a m
  publication_moves b makes o kept is =
      let of = puts o is in
      let r = of.records in
      let put = of.put in
      let T = put.timetable in
      let held = subst (RepresentsOffice a) of.is kept in
      let fits = held.office.drafts d T put.draft in (
        Some (record r { published = Some (published_as r T) }),
        ap (draft_published d) of.is ∙ publish_gives d r T put.draft put.permitted
            ∙ ap (λ n. Ok (n, Some (record r { published = Some (published_as r T) })))
            (sym put.put.counts),
        published_kept r T held.office fits put.permitted a b put.before put.were _ new put.put held
            makes,
      )

  -- what is in memory afterwards is of the office after the command
  pub publication_remembers : {n : OfficeMemory} → HasPublished published penalty m n
      → Remembers (draft_published d) new.counts a m n
  publication_remembers {n = n} has o kept is next gives =
      let of = puts o is in
      let r = of.records in
      let put = of.put in
      let T = put.timetable in
      let held = subst (RepresentsOffice a) of.is kept in
      let enrolled = same_enrolments r.session r.enrolments T (publication_rows r.published)
      held.office.session held.office.enrolled.set (held.office.drafts d T put.draft) put.permitted
      (old_seated r held.office) in
      subst (λ o. IsMemoryOf o n)
      (next_is (ap (draft_published d) (sym of.is) ∙ gives)
      (publish_gives d r put.timetable put.draft put.permitted))
      (published_changed r m n published penalty (published_as r put.timetable)
      (subst (λ o. IsMemoryOf o m) of.is is) has put.made
      (ap (λ (E : Enrolled). track r.session E T) enrolled ∙ put.priced))
