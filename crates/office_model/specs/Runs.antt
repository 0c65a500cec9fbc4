-- Runs of the office: one step after another.
use Rattle.std.specs.Prelude.{◌≡◌, ℕ, List, [], ◌∷◌, ◌++◌}
use Rattle.exam_model.specs.declared.change.Change.{Change}
use Rattle.office_policy.specs.Commands.{PlainCommand}
use Rattle.office_policy.specs.declared.callers.Caller.{Caller}
use Rattle.office_model.specs.Answers.{PlainAnswer}
use Rattle.office_model.specs.Batches.{changes_to}
use Rattle.office_model.specs.Office.{OfficeState}
use Rattle.office_model.specs.Quiet.{IsQuiet, KeepsPublication, new_changes}
use Rattle.office_model.specs.Step.{Steps}

-- a request with its answer
pub record Exchange : Type 0 where
  pub caller : Caller
  pub command : PlainCommand
  pub answer : PlainAnswer

-- the office answers these requests, one after another
abbrev pub Run : OfficeState → List Exchange → OfficeState → Type 0
Run old [] new = new ≡ old
Run old (x ∷ xs) new =
    (mid : OfficeState) × Steps old x.caller x.command x.answer mid × Run mid xs new

-- the same, and each request is quiet for s in the office in which it is answered
abbrev pub QuietRun : ℕ → OfficeState → List Exchange → OfficeState → Type 0
QuietRun s old [] new = new ≡ old
QuietRun s old (x ∷ xs) new =
    (mid : OfficeState) × Steps old x.caller x.command x.answer mid
    × IsQuiet s old x.command x.answer × QuietRun s mid xs new

-- the same, with no accepted load or publication, and with exactly these new changes to s
abbrev pub RunWith : ℕ → List Change → OfficeState → List Exchange → OfficeState → Type 0
RunWith s changes old [] new = (changes ≡ []) × (new ≡ old)
RunWith s changes old (x ∷ xs) new =
    (mid : OfficeState) × (later : List Change) × Steps old x.caller x.command x.answer mid
    × KeepsPublication x.answer
    × (changes ≡ changes_to s (new_changes old x.command x.answer) ++ later)
    × RunWith s later mid xs new
