use Rattle.std.proofs.Common.{◌≡◌, filter, map}
use Rattle.std.specs.List.{range_with_len}
use Rattle.exam_changes.specs.Moves.{is_move, move_of}
use Rattle.exam_changes.proofs.moved_exams.moves.Given as goal

-- the moves of the exams so far
abbrev pub invariant-loop-exam : goal.invariant-loop-exam
invariant-loop-exam l =
    l.found.items ≡ filter is_move (map (move_of l.before l.after) (range_with_len 0 l.exam))
