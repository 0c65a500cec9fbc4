use Rattle.std.proofs.Common.{subst}
use Rattle.std.specs.Io.KnownBytes.{Appends}
use Rattle.exam_lists.proofs.Results.{OnErr_any}
use Rattle.office_check.proofs.WhyFacts.{all_written, front_flushed, front_reported}
use Rattle.office_output.specs.Writing.{WritesFront}
use Rattle.office_output.proofs.FrontLemmas.{front_first}
use Rattle.office_check.proofs.explaining.write_all.Goals as goal

pub returns-clause-ok : goal.returns-clause-ok
returns-clause-ok g c =
    all_written _ _ _ _ _ _ _ _ c.requires.empty
    (subst (Appends _ _) c.as_bytes.ensures.value c.in_ok-write_text.ensures.ok)
    c.in_ok-add_all.ensures.ok
    (subst (Appends _ _) c.as_bytes-2.ensures.value c.in_ok-write_text-2.ensures.ok)

-- a front of the report, or the report and a front of the lines
pub returns-in_err-write_text-clause-err : goal.returns-in_err-write_text-clause-err
returns-in_err-write_text-clause-err g c =
    OnErr_any _ (front_first _ _ _ _
    (subst (WritesFront _ _) c.as_bytes.ensures.value c.in_err-write_text.ensures.err))

pub returns-in_err-add_all-clause-err : goal.returns-in_err-add_all-clause-err
returns-in_err-add_all-clause-err g c =
    OnErr_any _ (front_reported _ _ _ _ _ _ c.requires.empty
    (subst (Appends _ _) c.as_bytes.ensures.value c.in_ok-write_text.ensures.ok)
    c.in_err-add_all.ensures.err)

pub returns-in_err-write_text-2-clause-err : goal.returns-in_err-write_text-2-clause-err
returns-in_err-write_text-2-clause-err g c =
    OnErr_any _ (front_flushed _ _ _ _ _ _ _ _ c.requires.empty
    (subst (Appends _ _) c.as_bytes.ensures.value c.in_ok-write_text.ensures.ok)
    c.in_ok-add_all.ensures.ok
    (subst (WritesFront _ _) c.as_bytes-2.ensures.value c.in_err-write_text-2.ensures.err))
