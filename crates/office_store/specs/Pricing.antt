-- The penalty of a draft.
use Rattle.std.specs.Prelude.{ℕ, Ok}
use Rattle.exam_terms.specs.Refusing.{◌>>=◌}
use Rattle.exam_score.specs.Penalty.{Penalty}
use Rattle.office_model.specs.Commands.{CommandResult}
use Rattle.office_model.specs.DraftCommands.{draft_shown}
use Rattle.office_model.specs.Office.{OfficeState}

-- the penalty of a draft, with the live enrolments
abbrev pub penalty_shown : ℕ → OfficeState → CommandResult Penalty
penalty_shown d office = do
  found ← draft_shown d office
  Ok (found.0.1, found.1)
