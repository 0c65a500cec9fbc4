-- Quiet requests leave a view as it was.
use Rattle.std.proofs.Common.{◌≡◌, ℕ, List, [], ◌∷◌, Some, None, refl, ◌∙◌, ap, subst, inl, inr, true≢false}
use Rattle.std.specs.Prelude.{Ok, Err, IfOk}
use Rattle.exam_lists.proofs.Results.{IfOk_any}
use Rattle.office_batches.specs.BatchText.{batch_in}
use Rattle.office_policy.specs.Commands.{PlainCommand, load, publish, batch}
use Rattle.office_policy.specs.declared.callers.Caller.{Caller}
use Rattle.office_policy.specs.declared.command.Body.TheVariants.{Given}
use Rattle.office_model.specs.Answers.{PlainAnswer, now_enrolled}
use Rattle.office_model.specs.Batches.{batch_enrolled, changes_to, lines_if_new, batch_of_number}
use Rattle.office_model.specs.Commands.{CommandResult}
use Rattle.office_model.specs.Loading.{load_session}
use Rattle.office_model.specs.Office.{OfficeState}
use Rattle.office_model.specs.Publishing.{draft_published}
use Rattle.office_model.specs.Quiet.{IsQuiet}
use Rattle.office_model.specs.Runs.{Exchange, QuietRun}
use Rattle.office_model.specs.Step.{Steps, step, Outcome}
use Rattle.office_model.specs.Views.{view_of}
use Rattle.office_model.specs.declared.counts.Counts.{Counts}
use Rattle.office_model.proofs.CommandLemmas.{Frames, batch_keeps}
use Rattle.office_model.proofs.StepLemmas.{KeepsRest, framed_keeps, step_law}

framed : (s : ℕ) (old : OfficeState) → Frames (λ new. view_of s new ≡ view_of s old) old
framed s None = tt
framed s (Some r) = λ owners drafts. refl

kept : (s : ℕ) (old : OfficeState) (command : PlainCommand)
    → KeepsRest (λ new. view_of s new ≡ view_of s old) (IsQuiet s old command) old command
kept s old (load (Given bytes)) =
    IfOk_any _ (load_session bytes old) (λ x q. absurd (true≢false q.keeps.no_load))
kept s old (publish d) =
    IfOk_any _ (draft_published d old) (λ x q. absurd (true≢false q.keeps.no_publication))
kept s old (batch number (Given bytes)) =
    go (batch_enrolled number bytes old) (λ h. batch_keeps s number bytes old h)
  where
    go : (g : CommandResult Counts)
        → (changes_to s (lines_if_new (batch_of_number old number) (batch_in bytes)) ≡ []
        → IfOk g (λ x. view_of s x.1 ≡ view_of s old))
        → IfOk g (λ x. IsQuiet s old (batch number (Given bytes)) (now_enrolled number x.0)
        → view_of s x.1 ≡ view_of s old)
    go (Ok x) h = λ q. h q.names_others
    go (Err fault) h = tt
kept s old _ = tt

stepped : (s : ℕ) (old : OfficeState) (caller : Caller) (command : PlainCommand)
    → IsQuiet s old command (step old caller command).1
    → view_of s (step old caller command).0 ≡ view_of s old
stepped s old caller command q =
    step_law (λ new. view_of s new ≡ view_of s old) (IsQuiet s old command) old refl
    caller command
    (framed_keeps (λ new. view_of s new ≡ view_of s old) (IsQuiet s old command) old (framed s old)
    command (kept s old command)) q

pub quiet_one : (s : ℕ) (old new : OfficeState) (caller : Caller) (command : PlainCommand)
    (answer : PlainAnswer) → Steps old caller command answer new → IsQuiet s old command answer
    → view_of s new ≡ view_of s old
quiet_one s old new caller command answer (inl is) q =
    ap (λ (o : Outcome). view_of s o.0) is
    ∙ stepped s old caller command (subst (λ (o : Outcome). IsQuiet s old command o.1) is q)
quiet_one s old new caller command answer (inr k) q = ap (view_of s) k.0

pub quiet_many : (s : ℕ) (old new : OfficeState) (requests : List Exchange)
    → QuietRun s old requests new → view_of s new ≡ view_of s old
quiet_many s old new [] k = ap (view_of s) k
quiet_many s old new (x ∷ xs) k =
    quiet_many s k.0 new xs k.3 ∙ quiet_one s old k.0 x.caller x.command x.answer k.1 k.2
