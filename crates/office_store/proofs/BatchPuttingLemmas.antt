-- A batch: what refuses it, and what an accepted one writes.
use Rattle.std.proofs.Common.{◌≡◌, ◌≢◌, ◌⊎◌, inl, inr, ◌≤◌, ℕ, true, false, List, ◌∷◌, length, Option, Some, None, option_map, Result, Ok, Err, refl, sym, ◌∙◌, ap, subst, arith, [], ◌+◌, ◌<◌, map, reverse, filter, not, if◌then◌else◌}
use Rattle.std.specs.Prelude.{IfSome, is_some, nat_le, nat_lt, ◌==◌, ◌&&◌}
use Rattle.std.specs.List.{list_all}
use Rattle.std.proofs.lemmas.Bool.Decides.{nat_tests}
use Rattle.std.proofs.lemmas.Option.{same_Some, some_pair_parts}
use Rattle.std.proofs.lemmas.List.{append-nil}
use Rattle.std.proofs.lemmas.List.Sorted.{IsPermutation-reverse}
use Rattle.exam_lists.proofs.Options.{is_some-map}
use Rattle.sqlite.specs.Effect.{Database}
use Rattle.sqlite_trees.proofs.ListLemmas.{all_weaker}
use Rattle.exam_terms.specs.Refusing.{◌>>=◌, unless}
use Rattle.exam_model.specs.Enrolments.{AreEnrolments, Enrolled, has_number, pair_count}
use Rattle.exam_model.specs.Instance.{Session}
use Rattle.exam_model.specs.Timetable.{Placing}
use Rattle.exam_model.specs.declared.change.Change.{Change}
use Rattle.exam_draft.specs.declared.fault.EditFault.TheVariants.{NoSuch}
use Rattle.exam_score.specs.Rescoring.{OthersUnchanged}
use Rattle.exam_score.specs.Track.{track}
use Rattle.office_tables.specs.declared.tables.draft.DraftRow.{DraftRow}
use Rattle.office_enrolment.specs.AfterBatch.{Refuses, lines_with_effect, after_batch, current_enrolments, names_exam, lines_in}
use Rattle.office_enrolment.specs.Keeping.{batch_stored}
use Rattle.office_enrolment.proofs.OfficeLemmas.{as_office}
use Rattle.office_enrolment.proofs.OthersLemmas.{others_after}
use Rattle.office_model.specs.BatchLines.{after_change, counts_after, enrolment_result, no_counts, has_effect, after_changes}
use Rattle.office_model.specs.Batches.{newly_enrolled, batch_enrolled, batch_of_number, batch_numbered}
use Rattle.office_model.specs.Commands.{CommandResult}
use Rattle.office_model.specs.Office.{Records, AreRecords, IsOffice, OfficeState}
use Rattle.office_model.specs.declared.counts.Counts.{Counts}
use Rattle.office_model.specs.declared.fault.StoreFault.{StoreFault}
use Rattle.office_model.specs.declared.fault.StoreFault.TheVariants.{Refused, TooMany}
use Rattle.office_records.specs.Memory.{draft_at, memory_of, with_penalty}
use Rattle.office_records.specs.Representation.{RepresentsOffice, IsSound, TablesRepresentRecords}
use Rattle.office_records.specs.TableRows.{number_if, enrol_row, stored_batch}
use Rattle.office_records.specs.declared.drafts.Draft.{Draft}
use Rattle.office_store.specs.Memory.{AreDraftRows, AreRescored, AreScored, IsMemoryOf, rescored_draft, IsBatchApplied}
use Rattle.office_store.specs.NewBatches.{AreDraftsWith, students_of, Enrols, IsNewFor, drafts_after, with_line, new_batch_put}
use Rattle.office_store.specs.Running.{IsFault}
use Rattle.office_store.specs.declared.memory.OfficeMemory.{OfficeMemory}
use Rattle.office_store.proofs.RememberingLemmas.{twice, after_lines, next_is}
use Rattle.office_store.proofs.EditCallLemmas.{there_of}
use Rattle.office_batches.specs.BatchText.{batch_in}
use Rattle.office_tables.specs.Alterations.{after_all}
use Rattle.office_tables.specs.Tables.{no_drafts, with_draft, with_batch, with_enrol, without_enrol, Tables}
use Rattle.office_tables.specs.Tables.Batches.{Batch}
use Rattle.office_tables.specs.declared.tables.draft.InsertDraft.{InsertDraft}
use Rattle.office_tables.specs.declared.tables.enrol.EnrolRow.{EnrolRow}
use Rattle.office_tables.proofs.AlterationLemmas.{drafts_put}
use Rattle.office_enrolment.specs.Rows.{after_row, after_rows, pair_of}
use Rattle.office_enrolment.proofs.KeptLemmas.{Ascend, they_ascend}
use Rattle.office_enrolment.proofs.LineLemmas.{accepted, all_after, line_again, line_ascends}
use Rattle.office_records.specs.BatchRows.{batch_put, enrol_rows}
use Rattle.office_records.specs.Found.{AreDrafts}
use Rattle.office_records.proofs.BatchPutLemmas.{batch_sound, batch_represents, drafts_moved}
use Rattle.office_store.specs.declared.new_batch.NewBatch.{NewBatch}
use Rattle.office_store.specs.declared.new_batch.LineWrite.{LineWrite}
use Rattle.office_store.proofs.CommandLemmas.{Denies, MovesBy, Remembers}
use Rattle.office_store.proofs.RunLemmas.{remembered_of}
use Rattle.office_model.specs.declared.fault.Refusal.TheVariants as refusal
use Rattle.office_enrolment.specs.Keeping as keeping

-- lines are refused only for too many pairs
lines_fault : (changes : List Change) (E : Enrolled) (n : Counts) (fault : StoreFault)
    → enrolment_result changes E n ≡ Err fault → fault ≡ TooMany
lines_fault [] E n fault is = absurd (cc is)
lines_fault (change ∷ changes) E n fault is =
    let rest : Result (Counts × Enrolled) StoreFault
    = enrolment_result changes (after_change change E) (counts_after change E n) in
    elim (nat_le (pair_count (after_change change E)) 200000) as (λ b.
    (unless b TooMany >>= λ _. rest) ≡ Err fault → fault ≡ TooMany) [
      | true ↦ λ later. lines_fault changes (after_change change E) (counts_after change E n) fault later
      | false ↦ λ here. cc here
    ] is

batch_fault : (changes : List Change) (E : Enrolled) (fault : StoreFault)
    → after_batch changes E ≡ Err fault
    → (fault ≡ Refused (refusal.Edit NoSuch)) ⊎ (fault ≡ TooMany)
batch_fault changes E fault is =
    elim (list_all (names_exam E) changes) as (λ b.
    (unless b (Refused (refusal.Edit NoSuch)) >>= λ _. enrolment_result changes E no_counts) ≡ Err fault
    → (fault ≡ Refused (refusal.Edit NoSuch)) ⊎ (fault ≡ TooMany)) [
      | true ↦ λ later. inr (lines_fault changes E no_counts fault later)
      | false ↦ λ here. inl (cc here)
    ] is

module _ (number : ℕ) (bytes : List ℕ) (changes : List Change) (r : Records)
    (exams : length r.enrolments ≡ length r.session.exams) where
  abbrev newly : CommandResult Counts
  newly = newly_enrolled number bytes changes r

  judged_so : (judged : Result (Counts × Enrolled) StoreFault)
      → after_batch changes r.enrolments ≡ judged
      → newly ≡ (judged >>= batch_stored number bytes r)
  judged_so judged is =
      as_office number bytes changes r exams
      ∙ ap (λ (j : Result (Counts × Enrolled) StoreFault). j >>= batch_stored number bytes r) is

  -- the batch is refused for its lines, or memory runs out
  pub lines_refuse : (fault : StoreFault) → Refuses (after_batch changes r.enrolments) fault
      → IsFault newly fault
  lines_refuse fault (inr memory) = subst (IsFault newly) (sym memory) tt
  lines_refuse fault (inl is) =
      let refused : newly ≡ Err fault = judged_so (Err fault) is in
      elim (batch_fault changes r.enrolments fault is) [
        | inl none ↦ subst (IsFault newly) (sym none) (refused ∙ ap Err none)
        | inr many ↦ subst (IsFault newly) (sym many) (refused ∙ ap Err many)
      ]

  -- there is no room
  pub no_room : (done : Counts × Enrolled) → after_batch changes r.enrolments ≡ Ok done
      → 10000 ≤ length r.batches → newly ≡ Err TooMany
  no_room done is full =
      let none : nat_lt (length r.batches) 10000 ≡ false = grind (arith, nat_tests, full) in
      judged_so (Ok done) is ∙ rw none refl

-- the enrolments in memory are those of the records
pub same_enrolled : (r : Records) (I : Session) (E : Enrolled)
    → ◌≡◌ {A = Option (Session × Enrolled)} (Some (r.session, r.enrolments)) (Some (I, E))
    → (r.session ≡ I) × (r.enrolments ≡ E)
same_enrolled r I E is = some_pair_parts r.session I r.enrolments E is

-- the drafts in memory have their penalties by the enrolments in memory
pub memory_scored : (r : Records) (m : OfficeMemory) (I : Session) (E : Enrolled)
    → IsMemoryOf (Some r) m → memory_of (Some r) ≡ Some (I, E) → AreScored I E m.drafts
memory_scored r m I E is kept d draft at =
    (there_of d r draft (sym (is.drafts d) ∙ at)).scored
    ∙ ap (λ (s : Session × Enrolled). track s.0 s.1 draft.timetable) (same_Some _ _ kept)

-- ---- enrolments that a batch made, or left

pub made_exams : (made : Option Enrolled) (E : Enrolled) (n : ℕ) → length (current_enrolments made E) ≡ n
    → IfSome made (λ F. length F ≡ n)
made_exams (Some F) E n is = is
made_exams None E n is = tt

-- only the students of acting lines sit other exams
pub made_others : (changes : List Change) (E : Enrolled) (made : Option Enrolled) (counts : Counts)
    (lines : List Change) → AreEnrolments E → after_batch changes E ≡ Ok (counts, current_enrolments made E)
    → lines ≡ lines_with_effect changes E → IfSome made (OthersUnchanged (students_of lines) E)
made_others changes E (Some F) counts lines known is are = λ s e other.
    others_after changes E (counts, F) known is s e
    (subst (λ (l : List Change). has_number (students_of l) s ≡ false) are other)
made_others changes E None counts lines known is are = tt

-- ---- drafts with other enrolments

-- rows of rescored drafts are an office's drafts with these enrolments
rows_rewritten : (db : Database) (r : Records) (m : OfficeMemory) (F : Enrolled)
    (made : List (Option Draft)) (rows : List DraftRow) → RepresentsOffice db (Some r)
    → IsMemoryOf (Some r) m
    → length F ≡ length r.session.exams → AreRescored r.session F m.drafts made
    → AreDraftRows made rows → AreDraftsWith r F rows
rows_rewritten db r m F made rows kept is exams scored are = record {
  slots = kept.held.slot;
  are = record {
    numbered = kept.office.numbered;
    fits = λ d T there.
        let fits = kept.office.drafts d T there in
        record { enrolments = exams; timetable = fits.timetable; places = fits.places };
    rows = λ d. are.numbers d ∙ ap (λ b. number_if b d) (there_too d);
    slots = kept.represents.slot;
    scored = all_weaker _ _
        (λ row priced T there. priced (with_penalty r.session F T) (at row.no T there))
        rows are.scored;
  };
}
  where
    made_at : (d : ℕ) → draft_at made d ≡ option_map (with_penalty r.session F) (r.draft d)
    made_at d = scored d ∙ ap (option_map (rescored_draft r.session F)) (is.drafts d)
        ∙ twice r.session r.session r.enrolments F (r.draft d)

    there_too : (d : ℕ) → is_some (draft_at made d) ≡ is_some (r.draft d)
    there_too d = ap is_some (made_at d) ∙ is_some-map (with_penalty r.session F) (r.draft d)

    at : (d : ℕ) (T : Placing) → r.draft d ≡ Some T
        → draft_at made d ≡ Some (with_penalty r.session F T)
    at d T there = made_at d ∙ ap (option_map (with_penalty r.session F)) there

-- the drafts in memory are the rescored ones, if the batch made any
pub latest_drafts : (db : Database) (r : Records) (m : OfficeMemory) (I : Session)
    (made : Option Enrolled) (drafts : List (Option Draft)) (rows : List DraftRow)
    → RepresentsOffice db (Some r) → IsMemoryOf (Some r) m → r.session ≡ I
    → IfSome made (λ F. length F ≡ length I.exams)
    → IfSome made (λ F. AreRescored I F m.drafts drafts) → AreDraftRows drafts rows
    → made ≢ None → AreDraftsWith r (current_enrolments made r.enrolments) rows
latest_drafts db r m I (Some F) drafts rows kept is same exams scored are some =
    rows_rewritten db r m F drafts rows kept is
    (subst (λ (J : Session). length F ≡ length J.exams) (sym same) exams)
    (subst (λ J. AreRescored J F m.drafts drafts) (sym same) scored) are
latest_drafts db r m I None drafts rows kept is same exams scored are some = absurd (some refl)

-- ---- what the parts of the transaction make of the tables, one after the other

-- one line
line_is : (change : Change) (t : Tables)
    → with_line change t ≡ record t { enrol = after_row enrol_rows change t.enrol }
line_is change t =
    elim change.add as (λ b. (if b then with_enrol (enrol_row (pair_of change)) t
    else without_enrol change.student change.exam t)
    ≡ record t {
      enrol = if b then enrol_row (pair_of change) ∷ t.enrol
          else filter (λ (r : EnrolRow).
          not ((r.student == change.student) && (r.exam == change.exam))) t.enrol;
    }) [
      | true ↦ refl
      | false ↦ refl
    ]

-- all lines
lines_made : (its : List LineWrite) (t : Tables)
    → after_all (λ (it : LineWrite). with_line it.change) its t
    ≡ record t { enrol = after_rows enrol_rows (map (λ (it : LineWrite). it.change) its) t.enrol }
lines_made [] t = refl
lines_made (it ∷ rest) t =
    ap (after_all (λ (it : LineWrite). with_line it.change) rest) (line_is it.change t)
    ∙ lines_made rest (record t { enrol = after_row enrol_rows it.change t.enrol })

-- the lines, the drafts and the batch
all_made : (lines : List LineWrite) (drafts : List InsertDraft) (row : Batch) (t : Tables)
    → with_batch row (after_all (λ (it : InsertDraft). with_draft it.row) drafts
    (no_drafts (after_all (λ (it : LineWrite). with_line it.change) lines t)))
    ≡ batch_put (map (λ (it : LineWrite). it.change) lines)
    (reverse (map (λ (it : InsertDraft). it.row) drafts)) row t
all_made lines drafts row t =
    ap (λ (u : Tables). with_batch row (after_all (λ (it : InsertDraft). with_draft it.row) drafts
    (no_drafts u))) (lines_made lines t)
    ∙ ap (with_batch row) (drafts_put drafts _)
    ∙ ap (λ (l : List DraftRow).
    batch_put (map (λ (it : LineWrite). it.change) lines) l row t) (append-nil _)

-- writes with the same lists are those of the new batch
pub batch_made : (number : ℕ) (bytes : List ℕ) (new : NewBatch) (lines : List LineWrite)
    (drafts : List InsertDraft) → lines ≡ new.lines.items → drafts ≡ new.drafts.items
    → new.lines.items ≢ [] → (t : Tables)
    → with_batch (stored_batch (record { no = number; bytes = bytes; counts = new.counts }))
    (after_all (λ (it : InsertDraft). with_draft it.row) drafts
    (no_drafts (after_all (λ (it : LineWrite). with_line it.change) lines t)))
    ≡ new_batch_put number bytes new t
batch_made number bytes new lines drafts a b some t =
    let row : Batch
    = stored_batch (record { no = number; bytes = bytes; counts = new.counts }) in
    let new_rows : List DraftRow = map (λ (it : InsertDraft). it.row) new.drafts.items in
    all_made lines drafts row t
    ∙ (λ i. batch_put (map (λ (it : LineWrite). it.change) (a i))
    (reverse (map (λ (it : InsertDraft). it.row) (b i))) row t)
    ∙ ap (λ (l : List DraftRow).
    batch_put (map (λ (it : LineWrite). it.change) new.lines.items) l row t)
    (sym (all_new new.lines.items new_rows t.draft some))
  where
    all_new : (its : List LineWrite) (new_rows old : List DraftRow) → its ≢ []
        → drafts_after its new_rows old ≡ reverse new_rows
    all_new [] new_rows old some = absurd (some refl)
    all_new (it ∷ its) new_rows old some = refl

-- if no line acts, only the batch is written
pub idle_made : (number : ℕ) (bytes : List ℕ) (new : NewBatch) → new.lines.items ≡ []
    → (t : Tables)
    → with_batch (stored_batch (record { no = number; bytes = bytes; counts = new.counts })) t
    ≡ new_batch_put number bytes new t
idle_made number bytes new none t =
    sym (ap (λ (its : List LineWrite). batch_put (map (λ (it : LineWrite). it.change) its)
    (drafts_after its (map (λ (it : InsertDraft). it.row) new.drafts.items) t.draft)
    (stored_batch (record { no = number; bytes = bytes; counts = new.counts })) t) none)

-- what a line writes
pub line_comes : (change : Change) (row : EnrolRow) → change.add ≡ true
    → row ≡ enrol_row (pair_of change) → (t : Tables) → with_enrol row t ≡ with_line change t
line_comes change row add is t =
    ap (λ (r : EnrolRow). with_enrol r t) is
    ∙ sym (ap (λ b. if b then with_enrol (enrol_row (pair_of change)) t
    else without_enrol change.student change.exam t) add)

pub line_goes : (change : Change) (s e : ℕ) → change.add ≡ false → s ≡ change.student
    → e ≡ change.exam → (t : Tables) → without_enrol s e t ≡ with_line change t
line_goes change s e drop who what t =
    ap (λ n. without_enrol n e t) who ∙ ap (λ n. without_enrol change.student n t) what
    ∙ sym (ap (λ b. if b then with_enrol (enrol_row (pair_of change)) t
    else without_enrol change.student change.exam t) drop)

-- ---- no line acts

-- the enrolments stay
idle_lines : (changes : List Change) (E : Enrolled) → Ascend E → lines_with_effect changes E ≡ []
    → after_changes changes E ≡ E
idle_lines [] E up none = refl
idle_lines (change ∷ changes) E up none =
    let F : Enrolled = after_change change E in
    let lines : List Change = lines_with_effect changes F in
    elim (has_effect change E) as (λ b. has_effect change E ≡ b → (if b then change ∷ lines else lines) ≡ []
    → after_changes changes F ≡ E) [
      | true ↦ λ does some. absurd (cc some)
      | false ↦ λ idle rest.
          idle_lines changes F (line_ascends change E up) rest ∙ line_again change E up idle
    ] refl none

idle_batch : (changes : List Change) (E : Enrolled) (done : Counts × Enrolled)
    → AreEnrolments E → after_batch changes E ≡ Ok done → lines_with_effect changes E ≡ [] → done.1 ≡ E
idle_batch changes E done is judged none =
    all_after changes E no_counts done (accepted changes E done judged).1
    ∙ idle_lines changes E (they_ascend E is) none

-- the rows of an office are those of its drafts
drafts_stored : (t : Tables) (r : Records) → TablesRepresentRecords t r → AreRecords r
    → IsSound t (Some r) → AreDrafts r.session r.enrolments t.draft t.slot r.draft
drafts_stored t r represents is sound = record {
  numbered = is.numbered;
  fits = is.drafts;
  rows = represents.draft;
  slots = represents.slot;
  scored = sound.scored;
}

-- the drafts after the lines are those of the office, rescored or as they were
left_drafts : (r : Records) (t : Tables) (changes : List Change) (done : Counts × Enrolled)
    → AreRecords r → TablesRepresentRecords t r → IsSound t (Some r)
    → after_batch changes r.enrolments ≡ Ok done → (its : List LineWrite) (new_rows : List DraftRow)
    → map (λ (it : LineWrite). it.change) its ≡ lines_with_effect changes r.enrolments
    → (its ≢ [] → AreDraftsWith r done.1 new_rows)
    → AreDraftsWith r done.1 (drafts_after its new_rows t.draft)
left_drafts r t changes done is represents sound judged [] new_rows lines scored = record {
  slots = t.slot;
  are = subst (λ (E : Enrolled). AreDrafts r.session E t.draft t.slot r.draft)
      (sym (idle_batch changes r.enrolments done is.enrolled.set judged (sym lines)))
      (drafts_stored t r represents is sound);
}
left_drafts r t changes done is represents sound judged (it ∷ its) new_rows lines scored =
    let again = scored (λ none. cc none) in
    record {
      slots = again.slots;
      are = drafts_moved r.session done.1 new_rows (reverse new_rows) again.slots r.draft
          (IsPermutation-reverse new_rows) again.are;
    }

-- ---- what the command returns

module _ (number : ℕ) (bytes : List ℕ) {changes : List Change}
    (spelled : batch_in bytes ≡ Ok changes) where
  gives_new : (r : Records) → batch_numbered number r.batches ≡ None
      → batch_enrolled number bytes (Some r) ≡ newly_enrolled number bytes changes r
  gives_new r none = rw (spelled, none) refl

  new_gives : (r : Records) (done : Counts × Enrolled)
      → length r.enrolments ≡ length r.session.exams → after_batch changes r.enrolments ≡ Ok done
      → length r.batches < 10000
      → newly_enrolled number bytes changes r
      ≡ Ok (done.0, Some (keeping.records_with_batch number bytes r done))
  new_gives r done exams after room =
      let there : nat_lt (length r.batches) 10000 ≡ true = grind (arith, nat_tests, room) in
      as_office number bytes changes r exams
      ∙ ap (λ (judged : Result (Counts × Enrolled) StoreFault).
      judged >>= keeping.batch_stored number bytes r) after
      ∙ ap (λ b. unless b TooMany >>= λ _.
      Ok (done.0, Some (keeping.records_with_batch number bytes r done))) there

  -- ---- the command, by what is in memory and the database that is read

  module _ {I : Session} {E : Enrolled} {a : Database} (m : OfficeMemory)
      (at_hand : m.kept ≡ Some (I, E))
      (is_new : (o : OfficeState) → RepresentsOffice a o → batch_of_number o number ≡ None) where
    -- the writes are those of the command, whatever records the database represents
    abbrev pub Comes : Result NewBatch StoreFault → Type 0
    Comes result = (r : Records) → RepresentsOffice a (Some r) → memory_of (Some r) ≡ Some (I, E)
        → IsMemoryOf (Some r) m → Enrols changes r result

    -- the records of an office with this memory
    record IsOf (o : OfficeState) : Type 0 where
      records : Records
      is : o ≡ Some records
      here : RepresentsOffice a (Some records)
      kept : memory_of (Some records) ≡ Some (I, E)
      memory : IsMemoryOf (Some records) m

    records_of : (o : OfficeState) → RepresentsOffice a o → IsMemoryOf o m → IsOf o
    records_of o kept is =
        let of = remembered_of o I E (is.session ∙ at_hand) in
        record {
          records = of.records;
          is = of.is;
          here = subst (RepresentsOffice a) of.is kept;
          kept = subst (λ o. memory_of o ≡ Some (I, E)) of.is (is.session ∙ at_hand);
          memory = subst (λ o. IsMemoryOf o m) of.is is;
        }

    pub enrol_denied : (e : StoreFault) → Comes (Err e) → Denies (batch_enrolled number bytes) e a m
    enrol_denied e comes o kept is =
        let of = records_of o kept is in
        subst (λ gives. IsFault gives e)
        (sym (ap (batch_enrolled number bytes) of.is
        ∙ gives_new of.records (is_new (Some of.records) of.here)))
        (comes of.records of.here of.kept of.memory number bytes)

    module _ (small : number ≤ 999999999)
        (counted : (changes : List Change) (E : Enrolled) (done : Counts × Enrolled)
        → after_batch changes E ≡ Ok done → lines_in done.0 ≡ length changes)
        (few : (bytes : List ℕ) (changes : List Change) → batch_in bytes ≡ Ok changes
        → length changes ≤ 1048576)
        (leaves : (number : ℕ) (bytes : List ℕ) (old new : OfficeState) (counts : Counts)
        → number ≤ 999999999 → IsOffice old → batch_enrolled number bytes old ≡ Ok (counts, new)
        → IsOffice new) {new : NewBatch} (comes : Comes (Ok new)) where
      abbrev row : Batch
      row = stored_batch (record { no = number; bytes = bytes; counts = new.counts })

      abbrev done : Records → Counts × Enrolled
      done r = (new.counts, current_enrolments new.enrolments r.enrolments)

      abbrev next : Records → Records
      next r = keeping.records_with_batch number bytes r (done r)

      gives : (r : Records) → RepresentsOffice a (Some r) → IsNewFor changes r new
          → batch_enrolled number bytes (Some r) ≡ Ok (new.counts, Some (next r))
      gives r here made =
          gives_new r (is_new (Some r) here)
          ∙ new_gives r (done r) here.office.enrolled.exams made.after made.room

      pub enrol_moves : MovesBy (new_batch_put number bytes new) (batch_enrolled number bytes) new.counts a m
      enrol_moves b makes o kept is =
          let of = records_of o kept is in
          let r = of.records in
          let here = of.here in
          let made = comes r here of.kept of.memory in
          let left : List DraftRow = drafts_after new.lines.items
          (map (λ (it : InsertDraft). it.row) new.drafts.items) here.held.draft in
          let again : AreDraftsWith r (done r).1 left
          = left_drafts r here.held changes (done r) here.office here.represents here.sound made.after
          new.lines.items _ made.lines made.drafts in (
            Some (next r),
            ap (batch_enrolled number bytes) of.is ∙ gives r here made,
            record {
              held = new_batch_put number bytes new here.held;
              tables = makes here.held here.tables;
              represents = subst (λ (l : List Change).
                  TablesRepresentRecords (batch_put l left row here.held) (next r)) (sym made.lines)
                  (batch_represents number bytes changes r (done r) here.office made.after here.held
                  left again.slots again.are small
                  (let each = counted changes r.enrolments (done r) made.after in
                  let all = few bytes changes spelled in omega (arith, each, all)) here.represents);
              sound = subst (λ (l : List Change). IsSound (batch_put l left row here.held)
                  (Some (next r))) (sym made.lines)
                  (batch_sound number bytes changes r (done r) here.office made.after here.held left
                  again.slots again.are here.sound);
              office = leaves number bytes (Some r) (Some (next r)) new.counts small here.office
                  (gives r here made);
            },
          )

      pub enrol_remembers : {n : OfficeMemory} → n.batches ≡ m.batches + 1 → n.published ≡ m.published
          → n.priced ≡ m.priced → IsBatchApplied I E new.enrolments new.rescored m n
          → (AreScored I E m.drafts
          → IfSome new.enrolments (λ F. AreRescored I F m.drafts new.rescored))
          → Remembers (batch_enrolled number bytes) new.counts a m n
      enrol_remembers {n = n} batches published priced renewed rescored o kept is after is_next =
          let of = records_of o kept is in
          let r = of.records in
          let more : length (next r).batches ≡ length r.batches + 1 = omega arith in
          subst (λ o. IsMemoryOf o n)
          (next_is (ap (batch_enrolled number bytes) (sym of.is) ∙ is_next)
          (gives r of.here (comes r of.here of.kept of.memory)))
          (after_lines at_hand of.memory (next r).batches new.rescored more batches published priced
          new.enrolments renewed (rescored (memory_scored r m I E of.memory of.kept)))
