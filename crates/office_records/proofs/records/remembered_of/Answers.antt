use Rattle.std.proofs.Common.{◌≡◌, ◌↔◌, ℕ, Bool, false, List, map, IsTrue, Result, Ok, Err, Some, None, sym, ◌∙◌, subst, subst₂}
use Rattle.std.specs.Prelude.{IfErr, Option}
use Rattle.std.specs.Result.{IsErrAnd}
use Rattle.exam_model.specs.Enrolments.{Enrolled}
use Rattle.exam_model.specs.Instance.{Session}
use Rattle.exam_model.specs.Timetable.{Placing}
use Rattle.office_tables.specs.Tables.{tables_of}
use Rattle.office_tables.specs.Tables.Batches.{counts_of, Batch}
use Rattle.office_tables.specs.declared.tables.draft.DraftRow.{DraftRow}
use Rattle.office_tables.specs.declared.tables.Found.{Found}
use Rattle.office_tables.specs.declared.tables.slot.SlotRow.{SlotRow}
use Rattle.office_records.specs.Found.{AreDrafts, AreEnrolRows, AreOwners, IsUnloaded}
use Rattle.office_records.specs.FoundBatches.{AreBatchRows}
use Rattle.office_records.specs.FoundPublications.{publication_from}
use Rattle.office_records.specs.Memory.{AreScoredDrafts}
use Rattle.office_records.specs.declared.drafts.Draft.{Draft}
use Rattle.office_model.specs.Office.{OfficeState, Records, IsOffice}
use Rattle.office_records.specs.Representation.{IsSound, TablesRepresentOffice}
use Rattle.office_records.specs.declared.fault.RecordFault.{RecordFault}
use Rattle.office_records.specs.declared.fault.RecordFault.TheVariants.{BadRows}
use Rattle.office_records.proofs.DraftRowLemmas.{drafts_suited}
use Rattle.office_records.proofs.RecordLemmas.{AreRowsOfOffice, draft_rows, enrol_rows, kept_rows, office_of, nothing_loaded, owner_rows, published_rows, unloaded as unloaded_found}
use Rattle.office_records.proofs.records.remembered_of.Goals as goal

-- the drafts in memory are those of these rows
abbrev Drafted : Session → Enrolled → List DraftRow → List SlotRow → List (Option Draft) → Type 0
Drafted I E rows places drafts =
    (draft : ℕ → Option Placing) × AreDrafts I E rows places draft
    × AreScoredDrafts I E draft drafts

abbrev RepresentsNone : Found → Type 0
RepresentsNone found =
    (batches : List Batch) → map counts_of batches ≡ found.batches.items → (office : OfficeState)
    → TablesRepresentOffice (tables_of found batches) office
    → IsSound (tables_of found batches) office
    → IsOffice office → ⊥

-- the rows are neither an office with a session nor one without
refused : {X : Type 0} {found : Found} {unloaded : Bool} (fault : RecordFault)
    (r : Result X RecordFault) → (IsTrue unloaded ↔ IsUnloaded found) → unloaded ≡ false
    → IsErrAnd r (λ e. e ≡ fault)
    → (fault ≡ BadRows → (r : Records) → AreRowsOfOffice found r → ⊥)
    → IfErr r (λ e. e ≡ BadRows → RepresentsNone found)
refused fault (Ok x) empty is same none = tt
refused {found = found} fault (Err e) empty is same none =
    λ bad batches rows o. each batches rows o bad
  where
    each : (batches : List Batch) → map counts_of batches ≡ found.batches.items
        → (o : OfficeState) → e ≡ BadRows → TablesRepresentOffice (tables_of found batches) o
        → IsSound (tables_of found batches) o → IsOffice o → ⊥
    each batches rows None bad represents sound office =
        let was = empty.1 (unloaded_found found batches rows represents) in absurd cc
    each batches rows (Some r) bad represents sound office =
        none (sym same ∙ bad) r (record {
          batches = batches;
          counts = rows;
          represents = represents;
          sound = sound;
          is = office;
        })

pub returns-in_err-check_owners-clause-none : goal.returns-in_err-check_owners-clause-none
returns-in_err-check_owners-clause-none c =
    let none = c.in_err-check_owners.ensures.none in
    refused c.in_err-check_owners.field-0.0 c.from_residual-in_err-check_owners.result
    c.is_unloaded.ensures c.if-is_unloaded.false c.from_residual-in_err-check_owners.ensures.1
    (λ bad r of. none bad r.owner_of
    (subst (λ rows. AreOwners c.in_ok-instance.instance rows r.owner_of) (sym c.deref.ensures.value)
    (owner_rows of c.in_ok-instance.ensures.is)))

pub returns-in_err-enrolments-clause-none : goal.returns-in_err-enrolments-clause-none
returns-in_err-enrolments-clause-none c =
    let none = c.in_err-enrolments.ensures.none in
    refused c.in_err-enrolments.field-0.0 c.from_residual-in_err-enrolments.result
    c.is_unloaded.ensures c.if-is_unloaded.false c.from_residual-in_err-enrolments.ensures.1
    (λ bad r of. none bad r.enrolments
    (subst (λ rows. AreEnrolRows c.in_ok-instance.instance rows r.enrolments)
    (sym c.deref-2.ensures.value) (enrol_rows of c.in_ok-instance.ensures.is)))

pub returns-in_err-drafts-clause-none : goal.returns-in_err-drafts-clause-none
returns-in_err-drafts-clause-none c =
    let I = c.in_ok-instance.instance in
    let E = c.in_ok-enrolments.enrolments in
    let none = c.in_err-drafts.ensures.none in
    let enrolled = subst (λ rows. AreEnrolRows I rows E) c.deref-2.ensures.value
    c.in_ok-enrolments.ensures.are in
    refused c.in_err-drafts.field-0.0 c.from_residual-in_err-drafts.result
    c.is_unloaded.ensures c.if-is_unloaded.false c.from_residual-in_err-drafts.ensures.1
    (λ bad r of. none bad r.draft
    (subst₂ (λ rows slots. AreDrafts I E rows slots r.draft) (sym c.deref-3.ensures.value)
    (sym c.deref-4.ensures.value) (draft_rows of c.in_ok-instance.ensures.is E enrolled)))

pub returns-in_err-published-clause-none : goal.returns-in_err-published-clause-none
returns-in_err-published-clause-none c =
    let none = c.in_err-published.ensures.none in
    refused c.in_err-published.field-0.0 c.from_residual-in_err-published.result
    c.is_unloaded.ensures c.if-is_unloaded.false c.from_residual-in_err-published.ensures.1
    (λ bad r of. none bad r.published (published_rows of c.in_ok-instance.ensures.is))

pub returns-in_err-check_batches-clause-none : goal.returns-in_err-check_batches-clause-none
returns-in_err-check_batches-clause-none c =
    let none : AreBatchRows c.deref-5.result.now → ⊥ = c.in_err-check_batches.ensures.none in
    refused c.in_err-check_batches.field-0.0 c.from_residual-in_err-check_batches.result
    c.is_unloaded.ensures c.if-is_unloaded.false c.from_residual-in_err-check_batches.ensures.1
    (λ bad r of. none (subst AreBatchRows (sym c.deref-5.ensures.value) (kept_rows of)))

pub returns-clause-are : goal.returns-clause-are
returns-clause-are c batches these =
    let found = c.args.found.now in
    let I = c.in_ok-instance.instance in
    let E = c.in_ok-enrolments.enrolments in
    office_of found batches I E c.in_ok-instance.ensures.is
    (subst (λ rows. (owner_of : ℕ → ℕ) × AreOwners I rows owner_of) c.deref.ensures.value
    c.in_ok-check_owners.ensures.are)
    (subst (λ rows. AreEnrolRows I rows E) c.deref-2.ensures.value c.in_ok-enrolments.ensures.are)
    c.in_ok-drafts.drafts
    (subst₂ (λ rows slots. Drafted I E rows slots c.in_ok-drafts.drafts) c.deref-3.ensures.value
    c.deref-4.ensures.value c.in_ok-drafts.ensures.are)
    (publication_from c.in_ok-published.published) c.in_ok-published.ensures.are
    (subst AreBatchRows c.deref-5.ensures.value c.in_ok-check_batches.ensures.are) these

pub returns-clause-together : goal.returns-clause-together
returns-clause-together c = c.in_ok-enrolments.ensures.are.enrolled.exams

pub returns-clause-suited : goal.returns-clause-suited
returns-clause-suited c =
    let are = c.in_ok-drafts.ensures.are in
    drafts_suited c.in_ok-instance.instance c.in_ok-enrolments.enrolments c.deref-3.result.now
    c.deref-4.result.now are.0 c.in_ok-drafts.drafts are.1 are.2

-- before a load
pub returns-then-is_unloaded-clause-are : goal.returns-then-is_unloaded-clause-are
returns-then-is_unloaded-clause-are c batches these =
    nothing_loaded c.args.found.now batches (c.is_unloaded.ensures.0 c.if-is_unloaded.true) these
    c.no_drafts.result c.no_drafts.ensures.none
