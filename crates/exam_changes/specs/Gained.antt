-- The breaches of one timetable that another doesn't have.
use Rattle.std.specs.Prelude.{not, Bool, List, filter}
use Rattle.std.specs.List.{list_any}
use Rattle.std.specs.Ordering.{is_eq}
use Rattle.exam_model.specs.Enrolments.{Enrolled}
use Rattle.exam_model.specs.Instance.{Session}
use Rattle.exam_model.specs.Timetable.{Placing}
use Rattle.exam_rules.specs.Breach.{breach_cmp}
use Rattle.exam_rules.specs.Breaches.{breaches_of, is_breach}
use Rattle.exam_rules.specs.declared.breach.Breach.{Breach}

-- whether a list has a breach that comes neither before this one nor after it
abbrev pub is_listed : List Breach → Breach → Bool
is_listed list b = list_any (λ c. is_eq (breach_cmp c b)) list

-- the breaches of B that A doesn't have, in their order; those that are lost are gained backwards
abbrev pub gained : Session → Enrolled → Placing → Placing → List Breach
gained I E A B = filter (λ b. not (is_breach I E A b)) (breaches_of I E B)
