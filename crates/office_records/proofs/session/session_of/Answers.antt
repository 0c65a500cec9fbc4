use Rattle.std.proofs.Common.{◌≡◌, ◌≢◌, true, Result, Ok, Err, sym, ◌∙◌, ap, subst, nat_eq}
use Rattle.std.specs.Prelude.{IfErr}
use Rattle.std.specs.Cmp.Lexicographic.{pointwise}
use Rattle.std.specs.Result.{IsErrAnd}
use Rattle.std.proofs.lemmas.Bool.{both_ways}
use Rattle.exam_lists.proofs.Booleans.{false_from_not, true_from_not}
use Rattle.exam_lists.proofs.Tests.{pointwise_itself, same_pointwise}
use Rattle.exam_model.specs.Instance.{Session}
use Rattle.office_files.specs.declared.fault.FaultKind.TheVariants.{NoMemory}
use Rattle.office_files.specs.declared.fault.FileFault.{FileFault}
use Rattle.office_files.specs.InstanceText.{instance_in}
use Rattle.office_tables.specs.Tables.Metadata.{meta_from, Meta}
use Rattle.office_records.specs.Faults.{text_fault}
use Rattle.office_records.specs.Found.{IsSessionRow}
use Rattle.office_records.specs.TableRows.{session_text}
use Rattle.office_records.specs.declared.fault.RecordFault.{RecordFault}
use Rattle.office_records.specs.declared.fault.RecordFault.TheVariants.{BadRows}
use Rattle.office_records.proofs.SessionLemmas.{no_row, row_of}
use Rattle.office_records.proofs.session.session_of.Goals as goal

refused : {X : Type 0} (m : Meta) (fault : FileFault) (r : Result X RecordFault)
    → IsErrAnd r (λ e. e ≡ text_fault fault.what)
    → (fault.what ≢ NoMemory → instance_in m.instance ≡ Err fault)
    → IfErr r (λ e. e ≡ BadRows → (I : Session) → IsSessionRow m I → ⊥)
refused m fault (Ok x) named reads = tt
refused m fault (Err e) named reads = λ bad I is.
    no_row m I fault (reads (λ memory. no_rows (sym bad ∙ named ∙ ap text_fault memory))) is
  where
    no_rows : BadRows ≡ text_fault NoMemory → ⊥
    no_rows same = absurd cc

pub returns-in_err-instance-clause-none : goal.returns-in_err-instance-clause-none
returns-in_err-instance-clause-none c =
    let fault = c.in_err-instance.field-0.0 in
    refused (meta_from c.args.row.now) fault c.from_residual.result c.from_residual.ensures.1
    (subst (λ b. fault.what ≢ NoMemory → instance_in b ≡ Err fault) c.deref.ensures.value
    c.in_err-instance.ensures.exact)

-- the text is that of the session
pub returns-then-ne-clause-none : goal.returns-then-ne-clause-none
returns-then-ne-clause-none c bad I is =
    let m = meta_from c.args.row.now in
    let J = c.in_ok-instance.instance in
    let read = subst (λ b. instance_in b ≡ Ok (J, c.in_ok-instance._students)) c.deref.ensures.value
    c.in_ok-instance.ensures.exact in
    let same : J ≡ I = row_of m J I _ read is in
    let row : session_text J ≡ m.instance = ap session_text same ∙ sym is.text in
    let texts = c.as_slice.ensures.value ∙ c.in_ok-text.ensures.text ∙ row
    ∙ sym c.as_slice-2.ensures.value in
    both_ways _ (false_from_not c.ne.result _ c.ne.ensures c.if-ne.true)
    (subst (λ l. pointwise nat_eq c.as_slice.result.now l ≡ true) texts
    (pointwise_itself c.as_slice.result.now))

-- the text that was read is the session's own
pub returns-clause-is : goal.returns-clause-is
returns-clause-is c =
    let same = same_pointwise c.as_slice.result.now c.as_slice-2.result.now
    (true_from_not c.ne.result _ c.ne.ensures c.if-ne.false) in
    record {
      session = c.in_ok-text.ensures.instance;
      text = sym c.as_slice-2.ensures.value ∙ sym same ∙ c.as_slice.ensures.value
          ∙ c.in_ok-text.ensures.text;
    }
