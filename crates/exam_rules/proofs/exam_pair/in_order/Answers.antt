use Rattle.std.proofs.lemmas.List.Filters.{dedup_is}
use Rattle.std.proofs.lemmas.List.Kept.{Contains-dedup, Contains-from_dedup, IsStrictlySortedBy-dedup}
use Rattle.std.proofs.lemmas.List.Sorted.{Contains-permutation, IsPermutation-sym}
use Rattle.exam_rules.proofs.OrderLemmas.{exam_pair_cmp_total, ties, same_pair, exam_pair_eq}
use Rattle.exam_rules.proofs.EnumerationLemmas.{passing_is}
use Rattle.exam_rules.proofs.exam_pair.in_order.Goals as goal

pub returns : goal.returns
returns c test n just =
    let is = dedup_is _ _ _ c.dedup.ensures.filtered in
    let moved = c.sort_unstable.ensures.permutation in
    passing_is test n _ _ just
    (rw is (IsStrictlySortedBy-dedup exam_pair_cmp_total {E = exam_pair_eq} ties _
    c.sort_unstable.ensures.sorted))
    (λ p h. rw is
    (Contains-dedup {E = exam_pair_eq} same_pair.0 same_pair.1 _ p
    (Contains-permutation _ _ p moved h)))
    (λ p h. Contains-permutation _ _ p (IsPermutation-sym _ _ moved)
    (Contains-from_dedup _ _ p (rw is at h)))
