use Rattle.std.proofs.Common.{subst}
use Rattle.office_output.specs.Writing.{WritesFront}
use Rattle.exam_lists.proofs.Results.{OnErr_any}
use Rattle.office_check.proofs.explaining.make_room.Goals as goal

pub returns-in_err-write_text-clause-err : goal.returns-in_err-write_text-clause-err
returns-in_err-write_text-clause-err g c =
    OnErr_any _
    (subst (WritesFront _ _) c.as_bytes.ensures.value c.in_err-write_text.ensures.err)
