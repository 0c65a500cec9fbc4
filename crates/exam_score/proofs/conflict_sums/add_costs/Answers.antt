use Rattle.std.proofs.Common.{ap, sym, ◌∙◌, ◌+◌, ◌*◌, ◌<◌, ◌⊎◌, add-zero, zero-mul}
use Rattle.std.specs.Prelude.{slice_index}
use Rattle.exam_score.specs.Kinds.{table_amount}
use Rattle.exam_score.proofs.ConflictCostLemmas.{apart_free}
use Rattle.exam_score.proofs.conflict_sums.add_costs.Goals as goal

pub returns-then-are_apart : goal.returns-then-are_apart
returns-then-are_apart c = λ k.
    let ns = c.args.periods.now in
    let x = c.args.conflict.now in
    let apart : (slice_index ns x.other + c.args.costs.now.reach < slice_index ns x.exam)
    ⊎ (slice_index ns x.exam + c.args.costs.now.reach < slice_index ns x.other) =
    rw (← c.get.ensures, ← c.get-2.ensures) (c.are_apart.ensures c.if-are_apart.true) in
    let free = apart_free c.args.costs.now.instance.now c.args.costs.now.reach
    (slice_index ns x.exam) (slice_index ns x.other) c.requires.reach apart k in
    sym (ap (λ n. table_amount c.args.sums.now k + n * x.students) free
    ∙ ap (λ n. table_amount c.args.sums.now k + n) (zero-mul x.students)
    ∙ add-zero (table_amount c.args.sums.now k))
