-- The breaches of a draft.
use Rattle.std.specs.Prelude.{ℕ, List, Vec, Result, Ok, Err}
use Rattle.std.specs.declared.alloc.Global.{Global}
use Rattle.exam_terms.specs.Refusing.{◌>>=◌}
use Rattle.exam_rules.specs.Breaches.{breaches_of}
use Rattle.exam_rules.specs.declared.breach.Breach.{Breach}
use Rattle.office_model.specs.Commands.{CommandResult}
use Rattle.office_model.specs.Office.{OfficeState}
use Rattle.office_model.specs.Step.{draft_in_session}

-- all breaches of a draft, with the live enrolments
abbrev pub draft_judged : ℕ → OfficeState → CommandResult (List Breach)
draft_judged d office = do
  found ← draft_in_session d office
  Ok (breaches_of found.0.0.0 found.0.0.1 found.0.1, found.1)

-- the result as a plain list
abbrev pub plain_list : {X F : Type 0} → Result (Vec X Global) F → Result (List X) F
plain_list (Ok found) = Ok found.items
plain_list (Err fault) = Err fault
