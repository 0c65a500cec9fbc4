-- The first hit in a list in order is the least of all possible hits.
use Rattle.std.proofs.lemmas.Grind.{common_steps}
use Rattle.std.proofs.Common.{◌≡◌, ℕ, Bool, List, Option, Some, None, length, ◌∙◌, arith}
use Rattle.exam_lists.proofs.Sorted.{IsFirst, find_is_first}
use Rattle.exam_model.specs.Enrolments.{Enrolled}
use Rattle.exam_model.specs.Instance.{Session}
use Rattle.exam_model.specs.Timetable.{Placing}
use Rattle.exam_rules.specs.Breaches.{least_breach_of, IsLeastBreachOf}
use Rattle.exam_rules.specs.declared.breach.Breach.{Breach}
use Rattle.exam_rules.proofs.BreachLemmas.{breaches_have, breaches_sorted}

-- the first breach in the list of all that names one of these exams is the least of these
pub least_found : (I : Session) (E : Enrolled) (T : Placing) (exams : List ℕ)
    → length T ≡ length I.exams
    → (found : Option Breach) → found ≡ least_breach_of I E T exams
    → IsLeastBreachOf I E T exams found
least_found I E T exams same found is =
    grind (arith, common_steps, IsFirst, breaches_have, breaches_sorted I E T, find_is_first)
