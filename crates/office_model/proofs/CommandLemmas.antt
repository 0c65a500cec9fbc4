-- What commands don't change.
use Rattle.std.proofs.Common.{◌≡◌, ◌≢◌, ℕ, Bool, true, false, List, [], ◌∷◌, Option, Some, None, refl, sym, ◌∙◌, ap, true≢false, if◌then◌else◌}
use Rattle.std.specs.Prelude.{Result, Ok, Err, IfOk, ◌==◌, nat_le, nat_lt, length, is_none}
use Rattle.std.specs.List.{list_all}
use Rattle.std.proofs.lemmas.Bool.{eq-eqb}
use Rattle.exam_terms.specs.Refusing.{◌>>=◌, unless, else_err}
use Rattle.exam_model.specs.declared.change.Change.{Change}
use Rattle.exam_model.specs.Changes.{exams_sat, with_pair, without_pair}
use Rattle.exam_model.specs.Enrolments.{Enrolled, pair_count}
use Rattle.exam_model.specs.Timetable.{Placing}
use Rattle.exam_model.proofs.StudentLemmas.{with_others, without_others}
use Rattle.exam_draft.specs.Edits.{exam_exists, edit_result}
use Rattle.exam_draft.specs.declared.edit.Edit.{Edit}
use Rattle.exam_draft.specs.declared.fault.EditFault.TheVariants as edit
use Rattle.exam_publish.specs.Changed.{rows_of}
use Rattle.office_batches.specs.BatchText.{batch_in}
use Rattle.office_files.specs.declared.fault.FileFault.{FileFault}
use Rattle.office_model.specs.declared.counts.Counts.{Counts}
use Rattle.office_model.specs.declared.fault.StoreFault.{StoreFault}
use Rattle.office_model.specs.declared.fault.StoreFault.TheVariants.{TooMany, Refused, BatchDiffers, NoDraft, DraftTaken}
use Rattle.office_model.specs.declared.fault.Refusal.TheVariants as refusal
use Rattle.office_model.specs.Office.{OfficeState, Records, KeptBatch, set_at}
use Rattle.office_model.specs.Views.{view_of, view_from}
use Rattle.office_model.specs.Publishing.{publication_rows}
use Rattle.office_model.specs.Commands.{renamed_fault, records_or_refusal, set_owner_result}
use Rattle.office_model.specs.DraftCommands.{draft_made, draft_dropped, draft_edited, is_draft_number, first_timetable}
use Rattle.office_model.specs.BatchLines.{after_change, enrolment_result, counts_after, no_counts}
use Rattle.office_model.specs.Batches.{changes_to, newly_enrolled, enrolled_by, batch_enrolled, lines_if_new, batch_of_number, batch_numbered, same_bytes}

-- a fact about a judgement's result, if each part before it allows it
pub bind : {A B F : Type 0} (P : A → Type 0) (m : Result B F) (f : B → Result A F)
    → ((x : B) → IfOk (f x) P) → IfOk (m >>= f) P
bind P (Ok x) f h = h x
bind P (Err e) f h = tt

-- the same, by a fact about the part before it
pub bind_by : {A B F : Type 0} (Q : B → Type 0) (P : A → Type 0) (m : Result B F)
    (f : B → Result A F) → IfOk m Q → ((x : B) → Q x → IfOk (f x) P) → IfOk (m >>= f) P
bind_by Q P (Ok x) f q h = h x q
bind_by Q P (Err e) f q h = tt

-- ---- a batch that names others

-- if no line of a list names the candidate, neither does the first, nor any after it
pub named_others : (s : ℕ) (change : Change) (changes : List Change)
    → changes_to s (change ∷ changes) ≡ []
    → ((change.student == s) ≡ false) × (changes_to s changes ≡ [])
named_others s change changes h = go (change.student == s) refl h
  where
    is_cons : List Change → Bool
    is_cons [] = false
    is_cons (x ∷ xs) = true

    go : (b : Bool) → (change.student == s) ≡ b
        → (if b then change ∷ changes_to s changes else changes_to s changes) ≡ []
        → ((change.student == s) ≡ false) × (changes_to s changes ≡ [])
    go true e h = absurd (true≢false (ap is_cons h))
    go false e h = (e, h)

-- another student's line doesn't change the candidate's exams
pub others_kept : (s : ℕ) (change : Change) (E : Enrolled) → (change.student == s) ≡ false
    → exams_sat (after_change change E) s ≡ exams_sat E s
others_kept s change E other = go change.add
  where
    is_other : s ≢ change.student
    is_other same = true≢false (sym (eq-eqb change.student s (sym same)) ∙ other)

    go : (b : Bool)
        → exams_sat (if b then with_pair E change.student change.exam
        else without_pair E change.student change.exam) s ≡ exams_sat E s
    go true = with_others E change.student change.exam s is_other
    go false = without_others E change.student change.exam s is_other

-- lines that name others don't change the candidate's exams
enrolled_others : (s : ℕ) (changes : List Change) (E : Enrolled) (n : Counts)
    → changes_to s changes ≡ []
    → IfOk (enrolment_result changes E n) (λ done. exams_sat done.1 s ≡ exams_sat E s)
enrolled_others s [] E n h = refl
enrolled_others s (change ∷ changes) E n h =
    let o = named_others s change changes h in
    bind (λ done. exams_sat done.1 s ≡ exams_sat E s)
    (unless (nat_le (pair_count (after_change change E)) 200000) TooMany)
    (λ _. enrolment_result changes (after_change change E) (counts_after change E n))
    (λ _. weaker (enrolment_result changes (after_change change E) (counts_after change E n))
    (others_kept s change E o.0)
    (enrolled_others s changes (after_change change E) (counts_after change E n) o.1))
  where
    weaker : (m : Result (Counts × Enrolled) StoreFault)
        → exams_sat (after_change change E) s ≡ exams_sat E s
        → IfOk m (λ done. exams_sat done.1 s ≡ exams_sat (after_change change E) s)
        → IfOk m (λ done. exams_sat done.1 s ≡ exams_sat E s)
    weaker (Ok done) e h = h ∙ e
    weaker (Err fault) e h = tt

keeps_view : (s : ℕ) (r : Records) (E : Enrolled) (batches : List KeptBatch)
    → exams_sat E s ≡ exams_sat r.enrolments s
    → view_of s (Some (record r { enrolments = E; batches = batches })) ≡ view_of s (Some r)
keeps_view s r E batches h =
    ap (λ exams. view_from r.session exams r.published (rows_of s (publication_rows r.published))) h

-- a new batch that names others doesn't change the candidate's view
new_batch : (s number : ℕ) (bytes : List ℕ) (changes : List Change) (r : Records)
    → changes_to s changes ≡ []
    → IfOk (newly_enrolled number bytes changes r) (λ x. view_of s x.1 ≡ view_of s (Some r))
new_batch s number bytes changes r h =
    bind (λ x. view_of s x.1 ≡ view_of s (Some r))
    (unless (list_all (λ change. exam_exists r.session change.exam) changes)
    (Refused (refusal.Edit edit.NoSuch))) _
    (λ _. bind_by (λ done. exams_sat done.1 s ≡ exams_sat r.enrolments s)
    (λ x. view_of s x.1 ≡ view_of s (Some r)) (enrolment_result changes r.enrolments no_counts) _
    (enrolled_others s changes r.enrolments no_counts h)
    (λ done e. bind (λ x. view_of s x.1 ≡ view_of s (Some r))
    (unless (nat_lt (length r.batches) 10000) TooMany) _
    (λ _. keeps_view s r done.1
    (record { no = number; bytes = bytes; counts = done.0 } ∷ r.batches) e)))

by_kept : (s number : ℕ) (bytes : List ℕ) (r : Records) (kept : Option KeptBatch)
    (read : Result (List Change) FileFault) → changes_to s (lines_if_new kept read) ≡ []
    → IfOk (renamed_fault (λ f. Refused (refusal.File f)) read
    >>= λ changes. enrolled_by kept number bytes changes r)
    (λ x. view_of s x.1 ≡ view_of s (Some r))
by_kept s number bytes r kept (Err fault) h = tt
by_kept s number bytes r None (Ok changes) h = new_batch s number bytes changes r h
by_kept s number bytes r (Some kept) (Ok changes) h =
    bind (λ x. view_of s x.1 ≡ view_of s (Some r))
    (unless (same_bytes kept.bytes bytes) BatchDiffers)
    (λ _. Ok (kept.counts, Some r)) (λ _. refl)

pub no_session : {A : Type 0} (P : A → Type 0) (read : Result (List Change) FileFault)
    (f : List Change → Records → Result A StoreFault)
    → IfOk (renamed_fault (λ f. Refused (refusal.File f)) read
    >>= λ changes. records_or_refusal None >>= λ r. f changes r) P
no_session P (Ok changes) f = tt
no_session P (Err fault) f = tt

-- a batch that newly names only others doesn't change the candidate's view
pub batch_keeps : (s number : ℕ) (bytes : List ℕ) (old : OfficeState)
    → changes_to s (lines_if_new (batch_of_number old number) (batch_in bytes)) ≡ []
    → IfOk (batch_enrolled number bytes old) (λ x. view_of s x.1 ≡ view_of s old)
batch_keeps s number bytes None h =
    no_session _ (batch_in bytes)
    (λ changes r. enrolled_by (batch_numbered number r.batches) number bytes changes r)
batch_keeps s number bytes (Some r) h =
    by_kept s number bytes r (batch_numbered number r.batches) (batch_in bytes) h

-- ---- commands that change only owners and drafts

-- P holds with other owners and drafts
abbrev pub Frames : (OfficeState → Type 0) → OfficeState → Type 0
Frames P None = Unit {0}
Frames P (Some r) = (owners : ℕ → ℕ) (drafts : ℕ → Option Placing)
    → P (Some (record r { owner_of = owners; draft = drafts }))

module _ (P : OfficeState → Type 0) where
  pub owned_frame : (exam dept : ℕ) (old : OfficeState) → Frames P old
      → IfOk (set_owner_result exam dept old) (λ x. P x.1)
  owned_frame exam dept None frame = tt
  owned_frame exam dept (Some r) frame =
      bind (λ x. P x.1) (unless (exam_exists r.session exam) (Refused (refusal.Edit edit.NoSuch))) _
      (λ _. frame (set_at exam dept r.owner_of) r.draft)

  pub made_frame : (d : ℕ) (bytes : List ℕ) (old : OfficeState) → Frames P old
      → IfOk (draft_made d bytes old) (λ x. P x.1)
  made_frame d bytes None frame = tt
  made_frame d bytes (Some r) frame =
      bind (λ x. P x.1) (unless (is_draft_number d) NoDraft) _ (λ _.
      bind (λ x. P x.1) (unless (is_none (r.draft d)) DraftTaken) _ (λ _.
      bind (λ x. P x.1) (first_timetable bytes r.session) _
      (λ T. frame r.owner_of (set_at d (Some T) r.draft))))

  pub dropped_frame : (d : ℕ) (old : OfficeState) → Frames P old
      → IfOk (draft_dropped d old) (λ x. P x.1)
  dropped_frame d None frame = tt
  dropped_frame d (Some r) frame =
      bind (λ x. P x.1) (else_err NoDraft (r.draft d)) _
      (λ _. frame r.owner_of (set_at d None r.draft))

  pub edited_frame : (d : ℕ) (change : Edit) (old : OfficeState) → Frames P old
      → IfOk (draft_edited d change old) (λ x. P x.1)
  edited_frame d change None frame = tt
  edited_frame d change (Some r) frame =
      bind (λ x. P x.1) (else_err NoDraft (r.draft d)) _ (λ T.
      bind (λ x. P x.1)
      (renamed_fault (λ f. Refused (refusal.Edit f)) (edit_result r.session r.enrolments T change)) _
      (λ new. frame r.owner_of (set_at d (Some new) r.draft)))
