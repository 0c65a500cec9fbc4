use Rattle.std.proofs.Common.{◌≡◌, ◌∙◌, ◌<◌, All, ap, arith, filter, length, map, subst, sym}
use Rattle.std.specs.List.{range_with_len}
use Rattle.exam_changes.specs.Moves.{is_move, move_of}
use Rattle.exam_changes.specs.declared.moved_exams.Move.{Move}
use Rattle.exam_changes.proofs.MoveLemmas.{moves_exist, moves_more}
use Rattle.exam_changes.proofs.moved_exams.moves.Goals as goal

-- one more exam
pub loop-exam-preserved : goal.loop-exam-preserved
loop-exam-preserved c =
    moves_more c.args.before.now c.args.after.now c.loop-exam.exam _ _ _ _ _ c.new-exam.ensures
    c.get.ensures c.get-in-loop-exam.ensures c.loop-exam.invariant c.in_ok-add_if_moved.ensures

-- all exams
pub returns-clause-exist : goal.returns-clause-exist
returns-clause-exist c =
    let all : c.loop-exam.exam ≡ length c.args.before.now = omega arith in
    subst (All (λ (m : Move). m.exam < length c.args.before.now))
    (sym (c.loop-exam.invariant
    ∙ ap (λ n. filter is_move (map (move_of c.args.before.now c.args.after.now)
    (range_with_len 0 n))) all))
    (moves_exist c.args.before.now c.args.after.now (length c.args.before.now))
