use Rattle.std.proofs.Common.{◌*◌, ◌∙◌, ap, ap₂}
use Rattle.exam_score.specs.Stays.{further_durations}
use Rattle.exam_score.proofs.MixedLemmas.{mixed_is}
use Rattle.exam_score.proofs.mixed.mixed_durations.Goals as goal

pub returns-clause-part : goal.returns-clause-part
returns-clause-part c =
    ap₂ (λ a b. a * b) (c.count_further.ensures.count ∙ ap further_durations c.deref.ensures.value)
    (c.from.ensures ∙ ap (λ w. w.mixed) c.weights.ensures.weights)
    ∙ mixed_is c.args.instance.now c.args.timetable.now c.in_ok-stays.stays.items
    c.sort_unstable.new.self.items c.in_ok-stays.ensures c.sort_unstable.ensures.permutation
    c.sort_unstable.ensures.sorted
