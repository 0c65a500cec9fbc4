use Rattle.std.proofs.Common.{subst}
use Rattle.std.specs.Prelude.{string_bytes}
use Rattle.office_output.specs.Writing.{WritesFront}
use Rattle.office_check.proofs.listing.PlacesSolutionTask.write.Goals as goal

-- a front of the list was written
pub returns-clause-front : goal.returns-clause-front
returns-clause-front g c = λ is. (
  string_bytes c.in-Ok.text,
  c.in-Ok.ensures,
  subst (WritesFront _ _) c.as_bytes.ensures.value c.in-Err.ensures.err,
)
