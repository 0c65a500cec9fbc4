use Rattle.std.proofs.Common.{subst}
use Rattle.std.specs.Prelude.{string_bytes}
use Rattle.std.specs.Io.KnownBytes.{Appends}
use Rattle.office_output.specs.Writing.{WritesFront}
use Rattle.office_check.proofs.CompareFacts.{all_compared, comparison_written, refused_write, some_compared}
use Rattle.office_check.proofs.comparing.compare_run.Goals as goal

pub returns-in-Ok-clause-from : goal.returns-in-Ok-clause-from
returns-in-Ok-clause-from g c =
    comparison_written _ _ _ _ _ _ c.in_ok-text.ensures.from
    (subst (Appends _ _) c.as_bytes.ensures.value c.in-Ok.ensures.ok)

pub returns-in-Ok-clause-done : goal.returns-in-Ok-clause-done
returns-in-Ok-clause-done g c =
    all_compared _ _ _ _ _ (comparison_written _ _ _ _ _ _ c.in_ok-text.ensures.from
    (subst (Appends _ _) c.as_bytes.ensures.value c.in-Ok.ensures.ok))

pub returns-in-Ok-clause-compared : goal.returns-in-Ok-clause-compared
returns-in-Ok-clause-compared g c =
    some_compared _ _ _ _ _ (comparison_written _ _ _ _ _ _ c.in_ok-text.ensures.from
    (subst (Appends _ _) c.as_bytes.ensures.value c.in-Ok.ensures.ok))

-- the writer failed
pub returns-clause-refused : goal.returns-clause-refused
returns-clause-refused g c = refused_write _ _ _ _ c.in_ok-text.ensures.from

-- a front of the comparison was written
pub returns-clause-front : goal.returns-clause-front
returns-clause-front g c = λ is. (
  string_bytes c.in_ok-text.text,
  c.in_ok-text.ensures.from,
  subst (WritesFront _ _) c.as_bytes.ensures.value c.in-Err.ensures.err,
)
