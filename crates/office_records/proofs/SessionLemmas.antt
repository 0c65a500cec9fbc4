-- The row of a session reads back as that session.
use Rattle.std.proofs.Common.{◌≡◌, length, Ok, Err, sym, ◌∙◌, ap}
use Rattle.exam_lists.proofs.Results.{same_Ok}
use Rattle.exam_model.specs.Enrolments.{Enrolled, no_pairs}
use Rattle.exam_model.specs.Instance.{Session}
use Rattle.office_files.specs.declared.fault.FileFault.{FileFault}
use Rattle.office_files.specs.InstanceText.{instance_in}
use Rattle.office_tables.specs.Tables.Metadata.{Meta}
use Rattle.office_records.specs.Found.{IsSessionRow}
use Rattle.office_records.proofs.MemoryLemmas.{read_back}

pub row_read : (m : Meta) (I : Session) → IsSessionRow m I
    → instance_in m.instance ≡ Ok (I, no_pairs (length I.exams))
row_read m I is =
    ap instance_in is.text ∙ read_back I is.session

-- no session's row has an invalid text
pub no_row : (m : Meta) (I : Session) (fault : FileFault) → instance_in m.instance ≡ Err fault
    → IsSessionRow m I → ⊥
no_row m I fault faulty is = let read = row_read m I is in absurd cc

-- the session read from a session's row is that session
pub row_of : (m : Meta) (I J : Session) (E : Enrolled) → instance_in m.instance ≡ Ok (I, E)
    → IsSessionRow m J → I ≡ J
row_of m I J E spelled is =
    ap (λ (p : Session × Enrolled). p.0) (same_Ok (sym spelled ∙ row_read m J is))

pub one_session : (m : Meta) (I J : Session) → IsSessionRow m I → IsSessionRow m J → I ≡ J
one_session m I J is also = row_of m I J _ (row_read m I is) also
