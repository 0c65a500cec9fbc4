use Rattle.std.proofs.Common.{length, replicate, sym, ap, ◌∙◌}
use Rattle.std.proofs.lemmas.List.{length-replicate}
use Rattle.exam_rules.proofs.marks.Marks.new.Goals as goal

pub returns : goal.returns
returns c =
    let is = c.in_ok-slots.ensures.items_if_clones_equal (λ y h. h) in
    is ∙ ap (λ n. replicate n 0) (sym (ap length is ∙ length-replicate _ 0))
