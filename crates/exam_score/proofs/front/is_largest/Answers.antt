use Rattle.std.proofs.Common.{◌+◌, ◌∙◌, ap, ap₂, sym, count_by}
use Rattle.std.specs.Prelude.{nat_lt, nat_le, slice_index}
use Rattle.exam_score.proofs.FrontLemmas.{larger_count}
use Rattle.exam_score.proofs.front.is_largest.Goals as goal

pub returns : goal.returns
returns c =
    let size = slice_index c.args.sizes.now c.args.exam in
    ap (λ n. nat_lt n c.args.most)
    (ap₂ (λ a b. a + b)
    (c.count_not_smaller.ensures.count
    ∙ ap (count_by (λ x. nat_le size x)) c.split_at.ensures.front)
    (c.count_larger.ensures.count ∙ ap (count_by (λ x. nat_lt size x)) c.split_at.ensures.back)
    ∙ sym (larger_count c.args.sizes.now c.args.exam c.requires.exists))
