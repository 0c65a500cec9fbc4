-- The objects of JSON have no floats.
use Rattle.std.proofs.Common.{◌≡◌, ℕ, List, [], ◌∷◌, false, map, refl}
use Rattle.serde_json.specs.View.{items_of}
use Rattle.serde_json.specs.Written.{has_float, items_have_float}
use Rattle.exam_rules.specs.declared.breach.Breach.{Breach}
use Rattle.office_check.specs.Verdicts.{breach_data, verdict_data}
use Rattle.office_check.specs.declared.judging.Verdict.{Verdict}

no_floats : (breaches : List Breach) → items_have_float (items_of (map breach_data breaches)) ≡ false
no_floats [] = refl
no_floats (breach ∷ breaches) = no_floats breaches

pub no_float : (path : List ℕ) (verdict : Verdict) → has_float (verdict_data path verdict) ≡ false
no_float path verdict = rw (no_floats verdict.breaches.items) refl
