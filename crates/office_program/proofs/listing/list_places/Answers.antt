use Rattle.std.proofs.Common.{◌∙◌, Ok, ap, inr, refl}
use Rattle.office_program.proofs.SourceFacts.{listed, not_listed}
use Rattle.office_program.proofs.listing.list_places.Goals as goal

-- the list of the places was written
pub returns-in-Ok-Listed-clause-listed : goal.returns-in-Ok-Listed-clause-listed
returns-in-Ok-Listed-clause-listed g c =
    listed _ _ _ _ _ c.run_by_paths.result c.run_by_paths.ensures.done
    (c.in-Ok-Listed.is ∙ ap Ok c.in-Ok-Listed.field-0-is)

-- the session of the files has no such exam
pub returns-in-Ok-NoExam-clause-fault : goal.returns-in-Ok-NoExam-clause-fault
returns-in-Ok-NoExam-clause-fault g c = inr (
  refl,
  not_listed _ _ _ _ _ c.run_by_paths.result c.run_by_paths.ensures.done
      (c.in-Ok-NoExam.is ∙ ap Ok c.in-Ok-NoExam.field-0-is),
)
