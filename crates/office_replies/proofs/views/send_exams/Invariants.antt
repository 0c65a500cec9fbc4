use Rattle.std.proofs.Common.{length, take}
use Rattle.std.specs.List.{range_with_len}
use Rattle.serde.specs.Event.{WritesEach}
use Rattle.serde_json.specs.Events.{SendsValue}
use Rattle.exam_model.specs.Timetable.{place_of}
use Rattle.office_replies.specs.Views.{exam_data}
use Rattle.office_replies.proofs.views.send_exams.Given as goal

abbrev pub invariant-loop-number : goal.invariant-loop-number
invariant-loop-number g l =
    WritesEach (λ e. SendsValue (exam_data e (place_of l.timetable e)))
    (take l.number (range_with_len 0 (length l.timetable)))
    (g.S.Serializer.written l.initial.out) (g.S.Serializer.written l.out)
