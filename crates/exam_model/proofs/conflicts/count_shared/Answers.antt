use Rattle.std.proofs.Common.{◌∙◌, length, ap, arith, [], inl, inr, sum_by, count_by}
use Rattle.std.proofs.lemmas.Bool.{cases_lt}
use Rattle.std.proofs.lemmas.List.{get_or_past, get_or_read}
use Rattle.exam_lists.proofs.Sums.{sum_by-same, sum_by-zeros}
use Rattle.exam_model.specs.Links.{is_link}
use Rattle.exam_model.specs.Enrolments.{students}
use Rattle.exam_model.proofs.ConflictLemmas.{shared_by_sitters}
use Rattle.exam_model.proofs.LinkLemmas.{links_counted, links_exist, links_none, links_once}
use Rattle.exam_model.proofs.conflicts.count_shared.Goals as goal

pub count_all-requires-clause-exist : goal.count_all-requires-clause-exist
count_all-requires-clause-exist c = λ k d lt.
    let before = links_exist c.args.rolls.now c.args.other c.args.links.now.list.items
    c.requires.pairs k d lt in
    omega (arith, c.requires.exists, c.requires.count)

pub count_all-requires-clause-once : goal.count_all-requires-clause-once
count_all-requires-clause-once c = λ s e lt.
    links_once c.args.rolls.now c.args.other s e c.args.links.now.list.items c.requires.kept
    (omega (arith, c.requires.exists)) c.requires.pairs

pub returns : goal.returns
returns c =
    let E = c.args.rolls.now in
    let f = c.args.other in
    let new = c.count_all.new.counts in
    let xs = c.args.links.now.list.items in
    let roll = c.as_slice.ensures.all
    ∙ get_or_read E f c.index-rolls-other.result c.requires.exists c.index-rolls-other.is [] in
    record {
      each = λ e lt.
          c.in_ok-read.ensures e (omega (arith, lt, c.requires.exists, c.requires.count))
          ∙ ap (sum_by (λ s. count_by (is_link s e) xs)) roll
          ∙ sum_by-same _ _ (λ s. links_counted E f s e xs lt c.requires.pairs) (students E f)
          ∙ shared_by_sitters E e f c.requires.kept c.requires.exists;
      others = λ e le. elim (cases_lt e (length new)) [
        | inl within ↦
            c.in_ok-read.ensures e (omega (arith, within, c.count_all.auto.counts))
            ∙ sum_by-same _ _ (λ s. links_none E f s e xs le c.requires.pairs)
            c.as_slice.result.now
            ∙ sum_by-zeros c.as_slice.result.now
        | inr past ↦ get_or_past new e 0 past
      ];
    }
