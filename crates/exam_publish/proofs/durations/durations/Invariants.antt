use Rattle.std.proofs.Common.{◌*◌, length, take}
use Rattle.exam_publish.specs.Durations.{is_in_slot}
use Rattle.exam_publish.specs.Tallies.{AreTallied}
use Rattle.exam_publish.proofs.durations.durations.Given as goal

abbrev pub invariant-stays : goal.invariant-stays
invariant-stays l =
    AreTallied (λ k. 1) (is_in_slot l.instance)
    (length l.instance.periods * length l.instance.rooms)
    (take l.stay-index l.stay-items) l.kinds.items
