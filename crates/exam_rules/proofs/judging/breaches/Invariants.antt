use Rattle.std.specs.List.{flat_map}
use Rattle.std.proofs.Common.{◌≡◌, map, take}
use Rattle.exam_rules.specs.Breach.{breach}
use Rattle.exam_rules.specs.Breaches.{pairs_breaking}
use Rattle.exam_rules.proofs.judging.breaches.Given as goal

-- the breaches of the rules judged so far
abbrev pub invariant-rules : goal.invariant-rules
invariant-rules l =
    l.found.items
    ≡ flat_map (λ r. map (breach r) (pairs_breaking l.fn.instance l.fn.enrolments l.fn.timetable r))
    (take l.rule-index l.rule-items)
