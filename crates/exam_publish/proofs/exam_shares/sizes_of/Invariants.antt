use Rattle.std.proofs.Common.{length, take}
use Rattle.exam_publish.specs.Groups.{is_of_exam}
use Rattle.exam_publish.specs.Tallies.{AreTallied}
use Rattle.exam_publish.proofs.exam_shares.sizes_of.Given as goal

abbrev pub invariant-rows : goal.invariant-rows
invariant-rows l =
    AreTallied (λ e. 1) is_of_exam (length l.instance.exams) (take l.row-index l.rows) l.sizes.items
