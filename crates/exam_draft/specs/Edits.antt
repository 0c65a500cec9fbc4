-- The result of an edit: an edited timetable, or the first reason that applies for refusing it.
use Rattle.std.specs.Prelude.{ℕ, Bool, not, ◌&&◌, ◌==◌, nat_lt, List, [], ◌∷◌, length, Option, Some, None, is_some, Result, Ok, Err, slice_set}
use Rattle.exam_terms.specs.Refusing.{◌>>=◌, unless}
use Rattle.exam_model.specs.Instance.{Session}
use Rattle.exam_model.specs.Enrolments.{Enrolled}
use Rattle.exam_model.specs.Timetable.{Placing, place_of}
use Rattle.exam_terms.specs.declared.place.Place.{Place}
use Rattle.exam_rules.specs.declared.breach.Breach.{Breach}
use Rattle.exam_rules.specs.Breaches.{least_breach_of}
use Rattle.exam_draft.specs.declared.edit.Edit.{Edit}
use Rattle.exam_draft.specs.declared.edit.Edit.TheVariants as edit
use Rattle.exam_draft.specs.declared.fault.EditFault.{EditFault}
use Rattle.exam_draft.specs.declared.fault.EditFault.TheVariants.{NoSuch, AlreadyPlaced, NotPlaced, SameExam, Broken}

-- the edited timetable, or the refusal
abbrev pub Edited : Type 0
Edited = Result Placing EditFault

-- whether the exam exists
abbrev pub exam_exists : Session → ℕ → Bool
exam_exists I e = nat_lt e (length I.exams)

-- whether the period and the room exist
abbrev pub place_exists : Session → Place → Bool
place_exists I at = nat_lt at.period (length I.periods) && nat_lt at.room (length I.rooms)

-- whether the exam is placed
abbrev pub is_placed : Placing → ℕ → Bool
is_placed T e = is_some (place_of T e)

-- the timetable, unless there is a breach
abbrev pub unless_broken : Option Breach → Placing → Edited
unless_broken None T = Ok T
unless_broken (Some breach) T = Err (Broken breach)

-- the timetable, unless a breach names an edited exam: then the least one that does
abbrev pub if_unbroken : Session → Enrolled → List ℕ → Placing → Edited
if_unbroken I E exams T = unless_broken (least_breach_of I E T exams) T

-- an exam gets this place, whether or not it had one
abbrev pub after_put : Session → Enrolled → Placing → ℕ → Place → Edited
after_put I E T e at = if_unbroken I E (e ∷ []) (slice_set T e (Some at))

-- an unplaced exam gets a place
abbrev pub after_place : Session → Enrolled → Placing → ℕ → Place → Edited
after_place I E T e at = do
  _ ← unless (exam_exists I e && place_exists I at) NoSuch
  _ ← unless (not (is_placed T e)) AlreadyPlaced
  after_put I E T e at

-- a placed exam gets another place
abbrev pub after_move : Session → Enrolled → Placing → ℕ → Place → Edited
after_move I E T e at = do
  _ ← unless (exam_exists I e && place_exists I at) NoSuch
  _ ← unless (is_placed T e) NotPlaced
  after_put I E T e at

-- two placed exams exchange their places, period and room
abbrev pub after_swap : Session → Enrolled → Placing → ℕ → ℕ → Edited
after_swap I E T a b = do
  _ ← unless (exam_exists I a && exam_exists I b) NoSuch
  _ ← unless (is_placed T a && is_placed T b) NotPlaced
  _ ← unless (not (a == b)) SameExam
  if_unbroken I E (a ∷ (b ∷ [])) (slice_set (slice_set T a (place_of T b)) b (place_of T a))

-- a placed exam loses its place, whatever is broken
abbrev pub after_clear : Session → Placing → ℕ → Edited
after_clear I T e = do
  _ ← unless (exam_exists I e) NoSuch
  _ ← unless (is_placed T e) NotPlaced
  Ok (slice_set T e None)

-- the result of any edit
abbrev pub edit_result : Session → Enrolled → Placing → Edit → Edited
edit_result I E T (edit.Place e at) = after_place I E T e at
edit_result I E T (edit.Move e at) = after_move I E T e at
edit_result I E T (edit.Swap a b) = after_swap I E T a b
edit_result I E T (edit.Clear e) = after_clear I T e
