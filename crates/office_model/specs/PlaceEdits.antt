-- The edits that a list of places speaks of, and what they answer.
use Rattle.std.specs.Prelude.{ℕ, if◌then◌else◌, Ok, Err}
use Rattle.exam_terms.specs.declared.place.Place.{Place}
use Rattle.exam_model.specs.Timetable.{Placing}
use Rattle.exam_draft.specs.declared.fault.EditFault.TheVariants.{Broken}
use Rattle.exam_draft.specs.Edits.{is_placed}
use Rattle.exam_places.specs.Places.{PlaceAnswer}
use Rattle.office_policy.specs.Commands.{PlainCommand, place, move}
use Rattle.office_policy.specs.declared.command.Body.TheVariants.{Given}
use Rattle.office_model.specs.Answers.{PlainAnswer, now_edited, refused}
use Rattle.office_model.specs.declared.fault.Refusal.TheVariants as refusal
use Rattle.office_model.specs.declared.fault.StoreFault.TheVariants.{Refused}

-- the command that puts an exam at a place: a placed exam is moved, an unplaced one is placed
abbrev pub put_command : ℕ → Placing → ℕ → Place → PlainCommand
put_command d T e at = if is_placed T e then move d e (Given at) else place d e (Given at)

-- what a line of the list says: the penalty after the edit, or the breach that refuses it
abbrev pub line_answer : ℕ → PlaceAnswer → PlainAnswer
line_answer d (Ok penalty) = now_edited d penalty
line_answer d (Err breach) = refused (Refused (refusal.Edit (Broken breach)))
