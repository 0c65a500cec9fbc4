use Rattle.std.proofs.Common.{IsPermutation, List, map, subst}
use Rattle.std.proofs.lemmas.List.Sorted.{IsPermutation-map}
use Rattle.exam_model.specs.Pairs.{Pair}
use Rattle.exam_model.specs.Sitters.{pair_of}
use Rattle.exam_score.proofs.ConcernedLemmas.{sitters_few, sitters_in_order}
use Rattle.exam_score.proofs.concerned.sitters_of.Goals as goal

pub returns-clause-concerned : goal.returns-clause-concerned
returns-clause-concerned c =
    subst (λ (ps : List Pair). IsPermutation ps (map pair_of c.sort_unstable.new.self.items))
    c.in_ok-sitters.ensures
    (IsPermutation-map pair_of c.in_ok-sitters.sitters.items c.sort_unstable.new.self.items
    c.sort_unstable.ensures.permutation)

pub returns-clause-in_order : goal.returns-clause-in_order
returns-clause-in_order c =
    sitters_in_order c.args.enrolments.now c.args.edited.now c.in_ok-sitters.sitters.items
    c.sort_unstable.new.self.items
    c.lemma_order.ensures c.in_ok-sitters.ensures c.sort_unstable.ensures.permutation
    c.sort_unstable.ensures.sorted

pub returns-clause-few : goal.returns-clause-few
returns-clause-few c =
    sitters_few c.args.enrolments.now c.args.edited.now c.in_ok-sitters.sitters.items
    c.sort_unstable.new.self.items
    c.lemma_order.ensures c.in_ok-sitters.ensures c.sort_unstable.ensures.permutation
