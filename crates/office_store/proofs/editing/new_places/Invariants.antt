use Rattle.std.specs.Prelude.{◌≡◌, map, take}
use Rattle.office_store.specs.Changes.{new_place}
use Rattle.office_store.proofs.editing.new_places.Given as goal

abbrev pub invariant-loop-exam : goal.invariant-loop-exam
invariant-loop-exam l =
    l.places.items ≡ map (new_place l.draft l.timetable) (take l.exam-index l.exams)
