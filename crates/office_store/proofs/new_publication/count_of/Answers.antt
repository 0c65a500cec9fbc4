use Rattle.std.proofs.Common.{arith}
use Rattle.office_store.proofs.PublishLemmas.{count_within}
use Rattle.office_store.proofs.new_publication.count_of.Goals as goal

pub overflow_cast-result : goal.overflow_cast-result
overflow_cast-result c =
    let few = count_within c.args.candidates.now c.in-Some.last.now c.requires
    c.in-Some.ensures.value in
    omega (arith, few, c.lemma_limit.ensures)
