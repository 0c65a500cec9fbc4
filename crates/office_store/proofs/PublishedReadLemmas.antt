-- What memory and the rows of shares mean for the publication.
use Rattle.std.proofs.Common.{◌≡◌, ℕ, ◌≤◌, List, ◌∷◌, ◌++◌, Option, Some, [], None, Ok, Err, Result, refl, sym, ◌∙◌, ap, subst, length, arith}
use Rattle.std.specs.Prelude.{IfOk, IsErrAnd, IsPermutation, Vec, option_map}
use Rattle.std.specs.declared.alloc.Global.{Global}
use Rattle.std.proofs.lemmas.List.{nil_from_length}
use Rattle.std.proofs.lemmas.List.FromFn.{length-map-range_with_len}
use Rattle.std.proofs.lemmas.List.Sorted.{IsPermutation-sym, IsPermutation-trans, length_permutation}
use Rattle.exam_model.specs.Enrolments.{Enrolled}
use Rattle.exam_model.specs.Instance.{Session, IsInstance}
use Rattle.exam_model.specs.Timetable.{Placing}
use Rattle.exam_publish.specs.Shares.{Sharing, exam_shares, shares_of}
use Rattle.exam_publish.proofs.AddUpLemmas.{adds_up}
use Rattle.sqlite.specs.Effect.{Database}
use Rattle.office_tables.specs.Tables.{Tables}
use Rattle.office_tables.specs.declared.tables.share_part.PartShareRow.{PartShareRow}
use Rattle.office_tables.specs.declared.tables.share_student.StudentShareRow.{StudentShareRow}
use Rattle.office_model.specs.Office.{AreRecords, IsOffice, IsPublication, OfficeState, Publication, Records}
use Rattle.office_model.specs.declared.fault.StoreFault.{StoreFault}
use Rattle.office_records.specs.Memory.{Memory, memory_of}
use Rattle.office_records.specs.Faults.{store_fault}
use Rattle.office_records.specs.SharesStored.{AreShared}
use Rattle.office_records.specs.PartShares.{part_rows, plain_rows}
use Rattle.office_records.specs.Representation.{RepresentsOffice, IsSound, TablesRepresentOffice}
use Rattle.office_records.proofs.ReadableLemmas.{are_numbered}
use Rattle.office_records.specs.declared.fault.RecordFault.{RecordFault}
use Rattle.office_records.specs.declared.fault.RecordFault.TheVariants.{BadRows, NoMemory}
use Rattle.exam_publish.specs.declared.seat_row.SeatRow as publish
use Rattle.office_records.specs.FoundPublications.{publication_from}
use Rattle.office_store.specs.Memory.{IsMemoryOf}
use Rattle.office_store.specs.declared.memory.OfficeMemory.{OfficeMemory}
use Rattle.office_model.specs.Step.{publication_in}
use Rattle.office_store.specs.Publications.{AddUpIn, Shown, StoredAddUp, publication_shown, shares_in, timetable_shown}
use Rattle.office_store.specs.OfficeRows.{AreShareRowsOf, part_rows_in, student_rows_in}
use Rattle.office_store.specs.Running.{QueryOutcome, ReturnsValue}
use Rattle.office_store.proofs.RunLemmas.{by_publication, remembered_of, nothing_kept}

-- ---- the rows of each table

pub student_shares_read : (t : Tables) (o : OfficeState) (rows : List StudentShareRow)
    → TablesRepresentOffice t o → IsSound t o → IsPermutation t.share_student rows
    → IsPermutation rows (student_rows_in o)
student_shares_read t None rows represents sound p =
    IsPermutation-sym _ _ (subst (λ (t : Tables). IsPermutation t.share_student rows) represents p)
student_shares_read t (Some r) rows represents sound p =
    IsPermutation-trans _ _ _ (IsPermutation-sym _ _ p) sound.shared.of_students

pub part_shares_read : (t : Tables) (o : OfficeState) (rows : List PartShareRow)
    → TablesRepresentOffice t o
    → IsSound t o → IsPermutation t.share_part rows → IsPermutation rows (part_rows_in o)
part_shares_read t None rows represents sound p =
    IsPermutation-sym _ _ (subst (λ (t : Tables). IsPermutation t.share_part rows) represents p)
part_shares_read t (Some r) rows represents sound p =
    IsPermutation-trans _ _ _ (IsPermutation-sym _ _ p) sound.shared.of_parts

-- ---- what the rows mean

-- the records of the memory, if the rows are theirs
module _ (o : OfficeState) {I : Session} {E : Enrolled} {m : Memory}
    (kept_is : m ≡ Some (I, E)) where
  pub shares_returned : (office : IsOffice o) → memory_of o ≡ m → {students : List StudentShareRow}
      {parts : List PartShareRow} → AreShareRowsOf o students parts
      → (result : Result (Option Sharing) StoreFault)
      → ((r : Records) → AreRecords r → r.session ≡ I
      → AreShared r.session r.published students parts → ReturnsValue (shares_in (Some r)) result)
      → ReturnsValue (shares_in o) result
  shares_returned office is {students = students} {parts = parts} rows result meaning =
      let of = remembered_of o I E (is ∙ kept_is) in
      let theirs = subst (λ o. AreShareRowsOf o students parts) of.is rows in
      subst (λ o. ReturnsValue (shares_in o) result) (sym of.is)
      (meaning of.records (subst IsOffice of.is office) of.session
      (record { of_students = theirs.of_students; of_parts = theirs.of_parts }))

-- without a session there are no shares
pub none_shared : (o : OfficeState) (m : Memory) → m ≡ None → memory_of o ≡ m → None ≡ shares_in o
none_shared o m none is = sym (ap shares_in (nothing_kept o (is ∙ none)))

-- a refusal of valid rows means out of memory
pub returned_fault : {A : Type 0} (expected : A) (result : Result A StoreFault)
    (fault : RecordFault)
    → IsErrAnd result (λ e. e ≡ store_fault fault) → (fault ≡ BadRows → ⊥)
    → ReturnsValue expected result
returned_fault expected (Ok x) fault is good = absurd is
returned_fault expected (Err e) NoMemory is good = is
returned_fault expected (Err e) BadRows is good = absurd (good refl)

-- ---- what is in memory

-- the publication in memory, with the session
published_is : (o : OfficeState) (m : OfficeMemory) → IsMemoryOf o m → {X : Type 0}
    (show : Publication → X) → option_map (λ (found : Session × Publication). show found.1) (publication_in o)
    ≡ option_map show (publication_from m.published)
published_is None m is show = ap (option_map show) is.published
published_is (Some r) m is show = go r.published ∙ ap (option_map show) is.published
  where
    go : (published : Option Publication)
        → option_map (λ (found : Session × Publication). show found.1)
        (option_map (λ p. (r.session, p)) published) ≡ option_map show published
    go None = refl
    go (Some p) = refl

abbrev shown_of : Publication → Shown
shown_of p = (p.timetable, p.rows)

-- the office shows the publication in memory
pub published_shown : {o : OfficeState} {m : OfficeMemory} → IsMemoryOf o m → {T U : Placing}
    {rows : Vec publish.SeatRow Global} {items : List publish.SeatRow} → m.published ≡ Some (T, rows)
    → U ≡ T → items ≡ rows.items → ReturnsValue (publication_shown o) (Ok (Some (U, items)))
published_shown {o = o} {m = m} is at same also =
    (λ i. Some (same i, also i))
    ∙ sym (published_is o m is shown_of
    ∙ ap (λ found. option_map shown_of (publication_from found)) at)

pub none_shown : {o : OfficeState} {m : OfficeMemory} → IsMemoryOf o m → m.published ≡ None
    → None ≡ publication_shown o
none_shown {o = o} {m = m} is at =
    sym (published_is o m is shown_of
    ∙ ap (λ found. option_map shown_of (publication_from found)) at)

-- or only its timetable
pub places_shown : {o : OfficeState} {m : OfficeMemory} → IsMemoryOf o m → {T U : Placing}
    {rows : Vec publish.SeatRow Global} → m.published ≡ Some (T, rows) → U ≡ T
    → ReturnsValue (timetable_shown o) (Ok (Some U))
places_shown {o = o} {m = m} is at same =
    ap Some same ∙ sym (published_is o m is (λ (p : Publication). p.timetable)
    ∙ ap (λ found. option_map (λ (p : Publication). p.timetable) (publication_from found)) at)

pub none_placed : {o : OfficeState} {m : OfficeMemory} → IsMemoryOf o m → m.published ≡ None
    → None ≡ timetable_shown o
none_placed {o = o} {m = m} is at =
    sym (published_is o m is (λ (p : Publication). p.timetable)
    ∙ ap (λ found. option_map (λ (p : Publication). p.timetable) (publication_from found)) at)

-- ---- the shares

-- a publication has shares of exams, periods and rooms
has_part : (I : Session) (p : Publication) → IsInstance I
    → part_rows (shares_of I p.rows p.timetable) ≡ [] → ⊥
has_part I p known none =
    let long : length (exam_shares I p.rows p.timetable) ≡ length I.exams
    = length-map-range_with_len _ 0 (length I.exams) in
    go (exam_shares I p.rows p.timetable) _ (omega (arith, long, known.limits.counts)) none
  where
    go : (xs : List ℕ) (more : List PartShareRow) → 1 ≤ length xs
        → plain_rows 0 0 xs ++ more ≡ [] → ⊥
    go [] more some none = omega (arith, some)
    go (x ∷ xs) more some none = absurd cc

pub shares_none : {r : Records} → AreRecords r → {students : List StudentShareRow}
    {parts : List PartShareRow} → AreShared r.session r.published students parts
    → length parts ≡ 0 → ReturnsValue (shares_in (Some r)) (Ok None)
shares_none {r = r} is {students = students} {parts = parts} shared none =
    by_publication is (λ published. AreShared r.session published students parts
    → None ≡ shares_in (Some (record r { published = published }))) (λ shared. refl)
    (λ p known shared. absurd (has_part r.session p is.session
    (nil_from_length _ (let long = length_permutation _ _ shared.of_parts in omega (arith, long, none)))))
    shared

pub shares_some : (r : Records) (I : Session) → AreRecords r → r.session ≡ I
    → (students : List StudentShareRow) (parts : List PartShareRow)
    → AreShared r.session r.published students parts → 1 ≤ length parts → (shares : Sharing)
    → ((p : Publication) → AreShared I (Some p) students parts
    → shares ≡ shares_of I p.rows p.timetable)
    → ReturnsValue (shares_in (Some r)) (Ok (Some shares))
shares_some r I is same students parts shared some shares only =
    subst (λ I. AreShared I r.published students parts
    → Some shares ≡ option_map (λ (p : Publication). shares_of I p.rows p.timetable) r.published)
    (sym same) (go r.published) shared ∙ meaning r.published
  where
    go : (published : Option Publication) → AreShared I published students parts
        → Some shares ≡ option_map (λ (p : Publication). shares_of I p.rows p.timetable) published
    go None shared =
        absurd (let long = length_permutation _ _ shared.of_parts in omega (arith, long, some))
    go (Some p) shared = ap Some (only p shared)

    meaning : (published : Option Publication)
        → option_map (λ (p : Publication). shares_of r.session p.rows p.timetable) published
        ≡ shares_in (Some (record r { published = published }))
    meaning None = refl
    meaning (Some p) = refl

-- an office with rows of shares has a publication
pub shares_good : (r : Records) (I : Session) → AreRecords r → r.session ≡ I
    → (students : List StudentShareRow) (parts : List PartShareRow)
    → AreShared r.session r.published students parts → 1 ≤ length parts
    → ((p : Publication) → IsPublication I p → AreShared I (Some p) students parts → ⊥) → ⊥
shares_good r I is same students parts shared some bad =
    by_publication is (λ published. AreShared r.session published students parts → ⊥)
    (λ shared. let long = length_permutation _ _ shared.of_parts in omega (arith, long, some))
    (subst (λ I. (p : Publication) → IsPublication I p → AreShared I (Some p) students parts → ⊥)
    (sym same) bad) shared

-- the shares of an office add up
pub add_up : (o : OfficeState) → IsOffice o → (shares : Option Sharing) → shares ≡ shares_in o
    → AddUpIn o shares
add_up None is shares e = subst (AddUpIn None) (sym e) tt
add_up (Some r) is shares e =
    subst (AddUpIn (Some r)) (sym e)
    (by_publication is (λ published. AddUpIn (Some (record r { published = published }))
    (shares_in (Some (record r { published = published })))) tt
    (λ p known. (
      (r.session, p),
      refl,
      adds_up r.session p.rows p.timetable is.session known.rows (are_numbered r.session p known),
    )))

-- and so do the rows that it keeps
pub stored_add_up : (d : Database) (o : OfficeState) (kept : RepresentsOffice d o)
    → StoredAddUp o kept.held.share_student kept.held.share_part
stored_add_up d None kept = tt
stored_add_up d (Some r) kept =
    by_publication kept.office
    (λ published. AreShared r.session published kept.held.share_student kept.held.share_part
    → StoredAddUp (Some (record r { published = published })) kept.held.share_student
    kept.held.share_part) (λ shared. tt)
    (λ p known shared. (
      shares_of r.session p.rows p.timetable,
      record { of_students = shared.of_students; of_parts = shared.of_parts },
      adds_up r.session p.rows p.timetable kept.office.session known.rows
          (are_numbered r.session p known),
    )) kept.sound.shared

-- the shares that are returned add up
pub adds_up_in : (o : OfficeState) (Stays : OfficeState → Type 0)
    (result : Result (Option Sharing) StoreFault) → IsOffice o
    → QueryOutcome (shares_in o) o Stays result
    → IfOk result (AddUpIn o)
adds_up_in o Stays (Ok shares) is shown = add_up o is shares shown.0
adds_up_in o Stays (Err fault) is shown = tt
