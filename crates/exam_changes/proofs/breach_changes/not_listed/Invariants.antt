use Rattle.std.proofs.Common.{◌≡◌, filter, not, take}
use Rattle.exam_changes.specs.Gained.{is_listed}
use Rattle.exam_changes.proofs.breach_changes.not_listed.Given as goal

-- those so far that aren't listed
abbrev pub invariant-breaches : goal.invariant-breaches
invariant-breaches l =
    l.found.items ≡ filter (λ b. not (is_listed l.before b)) (take l.breach-index l.after)
