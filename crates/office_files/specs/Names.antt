-- Whom the fields of an exam's line name.
use Rattle.std.specs.Prelude.{ℕ, Bool, false, ◌==◌, List, Result, Ok, Err}
use Rattle.std.specs.List.{list_any}
use Rattle.exam_terms.specs.declared.limits.TheConstants.{MAX_STUDENT}
use Rattle.office_files.specs.Numbers.{number}
use Rattle.office_files.specs.declared.fault.FaultKind.{FaultKind}

-- whether a field's number is that of this student
abbrev pub named_as : Result ℕ FaultKind → ℕ → Bool
named_as (Ok t) s = t == s
named_as (Err what) s = false

-- whether one of these fields names the student
abbrev pub name_student : List (List ℕ) → ℕ → Bool
name_student fields s = list_any (λ field. named_as (number MAX_STUDENT field) s) fields
