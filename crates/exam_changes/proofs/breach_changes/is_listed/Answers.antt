use Rattle.std.proofs.Common.{◌∙◌, rules}
use Rattle.std.proofs.lemmas.List.Sorted.{answers_always}
use Rattle.exam_rules.specs.Breach.{rank_of}
use Rattle.exam_rules.specs.declared.breach.Breach.{Breach}
use Rattle.exam_changes.proofs.SearchLemmas.{searched}
use Rattle.exam_changes.proofs.breach_changes.is_listed.Goals as goal

pub returns : goal.returns
returns c =
    let found = c.binary_search_by_key.ensures.position
    (λ (b : Breach). (rank_of b.rule, (b.exam, b.other)))
    (answers_always _ _ _ (λ f a r g called. search rules)) in
    c.is_ok.ensures.value
    ∙ searched c.args.breaches.now c.args.breach.now c.binary_search_by_key.result c.requires
    c.binary_search_by_key.ensures.bound (rw c.key_of.ensures at found)
