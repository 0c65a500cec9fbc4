use Rattle.std.proofs.Common.{◌≡◌, map, take}
use Rattle.serde_json.specs.View.{view}
use Rattle.office_check.specs.Verdicts.{breach_data}
use Rattle.office_check.proofs.judging.breach_values.Given as goal

-- the breaches so far
abbrev pub invariant-loop-breach : goal.invariant-loop-breach
invariant-loop-breach l =
    map view l.values.items ≡ map breach_data (take l.breach-index l.breaches)
