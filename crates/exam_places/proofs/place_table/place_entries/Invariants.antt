use Rattle.exam_places.specs.PlaceTable.{IsPlaceTable}
use Rattle.exam_places.proofs.place_table.place_entries.Given as goal

abbrev pub invariant-exams : goal.invariant-exams
invariant-exams l = IsPlaceTable l.unplaced l.number l.table.items
