use Rattle.std.specs.declared.alloc.Global.{Global}
use Rattle.std.proofs.Common.{◌≡◌, ◌<◌, ◌∙◌, ℕ, Vec, Result, Ok, Err, IfOk, ap, map, length}
use Rattle.exam_model.specs.Enrolments.{Enrolled}
use Rattle.exam_model.specs.Instance.{Session}
use Rattle.exam_model.specs.Timetable.{Placing}
use Rattle.exam_places.specs.declared.place_row.PlaceRow.{PlaceRow}
use Rattle.exam_places.specs.Answers.{answers_of}
use Rattle.exam_places.specs.Places.{edit_answer, places_of}
use Rattle.exam_places.proofs.AnswerLemmas.{places_answer}
use Rattle.exam_places.proofs.listing.places.Goals as goal

-- the edits answer what the rows say
edits_of : {F : Type 0} (I : Session) (E : Enrolled) (T : Placing) (e : ℕ) → e < length I.exams
    → (found : Result (Vec PlaceRow Global) F)
    → IfOk found (λ rows. rows.items ≡ places_of I E T e)
    → IfOk found (λ rows. map (λ (row : PlaceRow). edit_answer row.answer) rows.items
    ≡ answers_of I E T e)
edits_of I E T e exists (Ok rows) are =
    ap (map (λ (row : PlaceRow). edit_answer row.answer)) are ∙ places_answer I E T e exists
edits_of I E T e exists (Err fault) are = tt

pub returns-clause-rows : goal.returns-clause-rows
returns-clause-rows c = c.places_if_scored.ensures c.requires.scored

pub returns-clause-edits : goal.returns-clause-edits
returns-clause-edits c =
    edits_of c.args.instance.now c.args.enrolments.now c.args.timetable.now c.args.exam
    c.requires.exists c.places_if_scored.result (c.places_if_scored.ensures c.requires.scored)
