use Rattle.std.proofs.Common.{◌∙◌, ap, sym, eqb}
use Rattle.std.proofs.lemmas.List.Filters.{dedup_is}
use Rattle.std.proofs.lemmas.List.Kept.{AllPairs-from_increasing}
use Rattle.std.proofs.lemmas.List.Sorted.{list_any-IsPermutation}
use Rattle.std.proofs.lemmas.Map.Keys.{IsStrictlyIncreasing-dedup}
use Rattle.exam_model.specs.Enrolments.{has_number}
use Rattle.exam_publish.proofs.ListLemmas.{is_ascending, has_dedup}
use Rattle.office_model.proofs.views.in_order.Goals as goal

pub returns : goal.returns
returns c =
    let is = dedup_is _ _ _ c.dedup.ensures.filtered in
    let sorted = c.sort_unstable.new.self.items in
    is_ascending c.args.exams.items c.dedup.new.self.items
    (rw is (λ i j l m. AllPairs-from_increasing _
    (IsStrictlyIncreasing-dedup sorted c.sort_unstable.ensures.sorted) i j 0 l m))
    (λ t. ap (λ xs. has_number xs t) is ∙ has_dedup sorted t
    ∙ sym (list_any-IsPermutation
    (λ x. eqb x t) c.args.exams.items sorted c.sort_unstable.ensures.permutation))
