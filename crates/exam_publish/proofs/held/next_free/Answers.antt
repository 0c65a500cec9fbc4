use Rattle.std.proofs.lemmas.Grind.{common_steps}
use Rattle.std.proofs.Common.{arith}
use Rattle.exam_publish.proofs.SearchLemmas.{held_small}
use Rattle.exam_publish.proofs.held.next_free.Goals as goal

pub overflow_add-seat : goal.overflow_add-seat
overflow_add-seat c = grind (arith, common_steps, held_small, c.requires.small, c.seats-test.ensures)

pub seats-smaller : goal.seats-smaller
seats-smaller c = grind (arith, common_steps, held_small, c.requires.small, c.seats-test.ensures)
