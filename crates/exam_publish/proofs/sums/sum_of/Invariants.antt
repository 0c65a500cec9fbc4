use Rattle.std.proofs.Common.{◌≡◌, sum, take}
use Rattle.exam_publish.proofs.sums.sum_of.Given as goal

abbrev pub invariant-numbers : goal.invariant-numbers
invariant-numbers l = l.total ≡ sum (take l.number-index l.numbers)
