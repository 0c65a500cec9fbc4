-- The office after a batch.
use Rattle.std.proofs.lemmas.Grind.{common_steps}
use Rattle.std.proofs.Common.{◌≡◌, ◌≢◌, ◌∙◌, ℕ, ◌<◌, ◌≤◌, Bool, true, false, List, [], ◌∷◌, length, Option, Some, None, Result, Ok, Err, refl, ap, sym, arith, subst, if◌then◌else◌}
use Rattle.std.specs.Prelude.{◌==◌, nat_lt}
use Rattle.std.specs.List.{AllByRecursion}
use Rattle.std.proofs.lemmas.Bool.{eqb-false, ltb-true}
use Rattle.std.proofs.lemmas.List.Elements.{All-cons, All-from_recursion}
use Rattle.std.proofs.lemmas.List.Kept.{AllPairs-cons}
use Rattle.exam_terms.specs.Refusing.{◌>>=◌, unless}
use Rattle.exam_model.specs.Enrolments.{Enrolled}
use Rattle.exam_model.specs.Fits.{Fits}
use Rattle.exam_model.specs.Instance.{Session}
use Rattle.exam_model.specs.Timetable.{Placing}
use Rattle.exam_model.specs.declared.change.Change.{Change}
use Rattle.office_files.specs.declared.fault.FileFault.{FileFault}
use Rattle.office_model.specs.BatchLines.{no_counts}
use Rattle.office_model.specs.Batches.{enrolled_by, batch_numbered, newly_enrolled}
use Rattle.office_model.specs.Commands.{renamed_fault, records_or_refusal}
use Rattle.office_model.specs.Office.{AreEnrolled, AreKept, AreRecords, IsKeptBatch, IsOffice, KeptBatch, OfficeState, Records}
use Rattle.office_model.specs.declared.counts.Counts.{Counts}
use Rattle.office_model.specs.declared.fault.Refusal.TheVariants as refusal
use Rattle.office_model.specs.declared.fault.StoreFault.{StoreFault}
use Rattle.office_model.specs.declared.fault.StoreFault.TheVariants.{Refused, TooMany}
use Rattle.office_model.proofs.RecordLemmas.{are_enrolled}
use Rattle.office_enrolment.specs.AfterBatch.{after_batch}
use Rattle.office_enrolment.specs.Keeping.{batch_judged, batch_stored, records_with_batch}
use Rattle.office_enrolment.proofs.LineLemmas.{HaveNumbers, accepted, all_after, all_exams, all_kept}

-- ---- the judgement

-- a new batch is judged as the office does, and then kept
pub as_office : (number : ℕ) (bytes : List ℕ) (changes : List Change) (r : Records)
    → length r.enrolments ≡ length r.session.exams
    → newly_enrolled number bytes changes r
    ≡ batch_judged number bytes changes r
as_office number bytes changes r exams = grind (arith, common_steps)

-- ---- the enrolments

-- as many exams as before
pub exams_after : (changes : List Change) (E : Enrolled) (done : Counts × Enrolled)
    → after_batch changes E ≡ Ok done → length done.1 ≡ length E
exams_after changes E done is = grind (arith, common_steps, all_after, accepted, all_exams)

pub enrolled_after : (I : Session) (changes : List Change) (E : Enrolled) (done : Counts × Enrolled)
    → HaveNumbers changes → AreEnrolled I E → after_batch changes E ≡ Ok done → AreEnrolled I done.1
enrolled_after I changes E done known was is =
    are_enrolled I done.1
    (all_kept changes E no_counts done known (accepted changes E done is).1 was.set)
    (exams_after changes E done is ∙ was.exams)

-- a timetable still fits
pub fits_after : (I : Session) (changes : List Change) (E : Enrolled) (T : Placing)
    (done : Counts × Enrolled) → after_batch changes E ≡ Ok done → Fits I E T → Fits I done.1 T
fits_after I changes E T done is fits = grind (arith, common_steps, exams_after)

-- ---- the batches

other_numbers : (number : ℕ) (batches : List KeptBatch) → batch_numbered number batches ≡ None
    → AllByRecursion (λ (b : KeptBatch). number ≢ b.no) batches
other_numbers number [] none = tt
other_numbers number (b ∷ bs) none =
    elim (b.no == number) as (λ t. (b.no == number) ≡ t
    → (if t then Some b else batch_numbered number bs) ≡ None
    → AllByRecursion (λ (a : KeptBatch). number ≢ a.no) (b ∷ bs)) [
      | true ↦ λ same some. absurd (cc some)
      | false ↦ λ apart later.
          (λ is. eqb-false b.no number apart (sym is), other_numbers number bs later)
    ] refl none

one_more_kept : (batch : KeptBatch) (batches : List KeptBatch) → IsKeptBatch batch
    → length batches < 10000 → batch_numbered batch.no batches ≡ None → AreKept batches
    → AreKept (batch ∷ batches)
one_more_kept batch batches is room new were = record {
  few = omega arith;
  within = All-cons IsKeptBatch batch batches is were.within;
  numbers = AllPairs-cons (λ (b c : KeptBatch). b.no ≢ c.no) batch batches
      (All-from_recursion (λ (b : KeptBatch). batch.no ≢ b.no) batches
      (other_numbers batch.no batches new)) were.numbers;
}

-- ---- the office

module _ (number : ℕ) (bytes : List ℕ) (small : number ≤ 999999999)
    (short : length bytes ≤ 1048576) where
  records_after : (changes : List Change) (r : Records) (done : Counts × Enrolled)
      → HaveNumbers changes → batch_numbered number r.batches ≡ None → length r.batches < 10000
      → after_batch changes r.enrolments ≡ Ok done → AreRecords r
      → AreRecords (records_with_batch number bytes r done)
  records_after changes r done known new room is were =
      record {
        session = were.session;
        enrolled = enrolled_after r.session changes r.enrolments done known were.enrolled is;
        departments = were.departments;
        owned = were.owned;
        numbered = were.numbered;
        drafts = λ d T there.
            fits_after r.session changes r.enrolments T done is (were.drafts d T there);
        publication = were.publication;
        batches = one_more_kept (record { no = number; bytes = bytes; counts = done.0 }) r.batches
            (record { number = small; size = short }) room new were.batches;
      }

  kept_after : (changes : List Change) (r : Records) (done : Counts × Enrolled)
      (counts : Counts) (new : OfficeState)
      → HaveNumbers changes → batch_numbered number r.batches ≡ None
      → after_batch changes r.enrolments ≡ Ok done → AreRecords r
      → batch_stored number bytes r done ≡ Ok (counts, new) → IsOffice new
  kept_after changes r done counts new known none is were keeps =
      let room : Bool = nat_lt (length r.batches) 10000 in
      let gave : Counts × OfficeState = (done.0, Some (records_with_batch number bytes r done)) in
      let given : Counts × OfficeState = (counts, new) in
      elim room as (λ b. room ≡ b → (unless b TooMany >>= λ _. Ok gave) ≡ Ok given → IsOffice new) [
        | true ↦ λ less same.
            let pair : gave ≡ given = cc same in
            subst IsOffice (ap (λ (p : Counts × OfficeState). p.1) pair)
            (records_after changes r done known none (ltb-true (length r.batches) 10000 less)
            is were)
        | false ↦ λ full same. absurd (cc same)
      ] refl keeps

  new_after : (changes : List Change) (r : Records) (counts : Counts) (new : OfficeState)
      (judged : Result (Counts × Enrolled) StoreFault) → HaveNumbers changes
      → batch_numbered number r.batches ≡ None → after_batch changes r.enrolments ≡ judged
      → AreRecords r → (judged >>= batch_stored number bytes r) ≡ Ok (counts, new) → IsOffice new
  new_after changes r counts new (Err fault) known none is were gives = absurd (cc gives)
  new_after changes r counts new (Ok done) known none is were gives =
      kept_after changes r done counts new known none is were gives

  loaded_after : (changes : List Change) (r : Records) (counts : Counts) (new : OfficeState)
      (kept : Option KeptBatch) → HaveNumbers changes → batch_numbered number r.batches ≡ kept
      → AreRecords r → enrolled_by kept number bytes changes r ≡ Ok (counts, new) → IsOffice new
  loaded_after changes r counts new None known none were gives =
      new_after changes r counts new (after_batch changes r.enrolments) known none refl were
      (sym (as_office number bytes changes r were.enrolled.exams) ∙ gives)
  loaded_after changes r counts new (Some kept) known there were gives = grind (arith, common_steps)

-- the office after a batch that was read is an office
pub office_after : (number : ℕ) (bytes : List ℕ) (read : Result (List Change) FileFault)
    (old new : OfficeState) (counts : Counts) → number ≤ 999999999
    → ((changes : List Change) → read ≡ Ok changes → (length bytes ≤ 1048576) × HaveNumbers changes)
    → IsOffice old
    → (renamed_fault (λ f. Refused (refusal.File f)) read >>= λ changes. records_or_refusal old >>= λ r.
    enrolled_by (batch_numbered number r.batches) number bytes changes r) ≡ Ok (counts, new)
    → IsOffice new
office_after number bytes (Err fault) old new counts small facts was gives = absurd (cc gives)
office_after number bytes (Ok changes) None new counts small facts was gives = absurd (cc gives)
office_after number bytes (Ok changes) (Some r) new counts small facts was gives =
    let both = facts changes refl in
    loaded_after number bytes small both.0 changes r counts new (batch_numbered number r.batches)
    both.1 refl was gives
