-- Runs that change one candidate in the same way leave them equal views.
use Rattle.std.proofs.Common.{◌≡◌, ℕ, Bool, true, false, List, [], ◌∷◌, Some, None, refl, sym, subst, inl, inr, true≢false, if◌then◌else◌}
use Rattle.std.specs.Prelude.{Result, Ok, Err, IfOk}
use Rattle.exam_lists.proofs.Results.{IfOk_any}
use Rattle.exam_model.specs.declared.change.Change.{Change}
use Rattle.office_batches.specs.BatchText.{batch_in}
use Rattle.office_policy.specs.Commands.{PlainCommand, load, publish, batch}
use Rattle.office_policy.specs.declared.callers.Caller.{Caller}
use Rattle.office_policy.specs.declared.command.Body.TheVariants.{Given}
use Rattle.office_policy.specs.declared.policy.Denial.{Denial}
use Rattle.office_model.specs.Answers.{PlainAnswer, now_enrolled}
use Rattle.office_model.specs.Batches.{batch_enrolled, changes_to, lines_if_new, batch_of_number}
use Rattle.office_model.specs.Commands.{CommandResult}
use Rattle.office_model.specs.Loading.{load_session}
use Rattle.office_model.specs.Office.{OfficeState}
use Rattle.office_model.specs.Publishing.{draft_published}
use Rattle.office_model.specs.Quiet.{KeepsPublication, new_changes, is_batch}
use Rattle.office_model.specs.Runs.{Exchange, RunWith}
use Rattle.office_model.specs.Step.{Steps, step, Outcome, outcome, if_allowed, allowed_in}
use Rattle.office_model.specs.Views.{view_of}
use Rattle.office_model.specs.declared.counts.Counts.{Counts}
use Rattle.office_model.proofs.CommandLemmas.{Frames}
use Rattle.office_model.proofs.FollowLemmas.{FollowsIn, batch_follows, follows_self, follows_both, follows_alike}
use Rattle.office_model.proofs.SameLemmas.{same_self}
use Rattle.office_model.proofs.StepLemmas.{KeepsRest, framed_keeps, step_law}

framed : (s : ℕ) (old : OfficeState) → Frames (FollowsIn s [] old) old
framed s None = tt
framed s (Some r) =
    λ owners drafts. (
      record r { owner_of = owners; draft = drafts },
      refl,
      record { session = refl; published = refl; same = same_self s r.enrolments },
    )

-- a command that is no batch
plain : (s : ℕ) (old : OfficeState) (caller : Caller) (command : PlainCommand)
    → KeepsRest (FollowsIn s [] old) KeepsPublication old command
    → KeepsPublication (step old caller command).1
    → FollowsIn s [] old (step old caller command).0
plain s old caller command h q =
    step_law (FollowsIn s [] old) KeepsPublication old (follows_self s old) caller command
    (framed_keeps (FollowsIn s [] old) KeepsPublication old (framed s old) command h) q

-- no line is new, whatever the answer
none_new : (s : ℕ) (old new : OfficeState) (b : Bool) → FollowsIn s [] old new
    → FollowsIn s (changes_to s (if b then [] else [])) old new
none_new s old new true h = h
none_new s old new false h = h

batch_outcome : (s number : ℕ) (old : OfficeState) (lines : List Change) (g : CommandResult Counts)
    → IfOk g (λ x. FollowsIn s (changes_to s lines) old x.1)
    → FollowsIn s
    (changes_to s (if is_batch (outcome (now_enrolled number) old g).1 then lines else [])) old
    (outcome (now_enrolled number) old g).0
batch_outcome s number old lines (Ok x) h = h
batch_outcome s number old lines (Err fault) h = follows_self s old

one_batch : (s : ℕ) (old : OfficeState) (caller : Caller) (number : ℕ) (bytes : List ℕ)
    (allowed : Result (Unit {0}) Denial)
    → FollowsIn s (changes_to s (new_changes old (batch number (Given bytes))
    (if_allowed allowed old caller (batch number (Given bytes))).1)) old
    (if_allowed allowed old caller (batch number (Given bytes))).0
one_batch s old caller number bytes (Ok done) =
    batch_outcome s number old (lines_if_new (batch_of_number old number) (batch_in bytes))
    (batch_enrolled number bytes old) (batch_follows s number bytes old)
one_batch s old caller number bytes (Err denial) = follows_self s old

-- a step follows its new lines
stepped : (s : ℕ) (old : OfficeState) (caller : Caller) (command : PlainCommand)
    → KeepsPublication (step old caller command).1
    → FollowsIn s (changes_to s (new_changes old command (step old caller command).1)) old
    (step old caller command).0
stepped s old caller (batch number (Given bytes)) q =
    one_batch s old caller number bytes (allowed_in old caller (batch number (Given bytes)))
stepped s old caller (load (Given bytes)) q =
    none_new s old _ (is_batch (step old caller (load (Given bytes))).1)
    (plain s old caller (load (Given bytes))
    (IfOk_any _ (load_session bytes old) (λ x k. absurd (true≢false k.no_load))) q)
stepped s old caller (publish d) q =
    none_new s old _ (is_batch (step old caller (publish d)).1)
    (plain s old caller (publish d)
    (IfOk_any _ (draft_published d old) (λ x k. absurd (true≢false k.no_publication))) q)
stepped s old caller command q =
    none_new s old _ (is_batch (step old caller command).1) (plain s old caller command tt q)

one_step : (s : ℕ) (old new : OfficeState) (caller : Caller) (command : PlainCommand)
    (answer : PlainAnswer) → Steps old caller command answer new → KeepsPublication answer
    → FollowsIn s (changes_to s (new_changes old command answer)) old new
one_step s old new caller command answer (inl is) q =
    subst (λ (o : Outcome). FollowsIn s (changes_to s (new_changes old command o.1)) old o.0)
    (sym is)
    (stepped s old caller command (subst (λ (o : Outcome). KeepsPublication o.1) is q))
one_step s old new caller command answer (inr k) q =
    subst (λ o. FollowsIn s (changes_to s (new_changes old command answer)) old o) (sym k.0)
    (subst (λ (x : PlainAnswer). FollowsIn s (changes_to s (new_changes old command x)) old old)
    (sym k.1) (follows_self s old))

runs : (s : ℕ) (changes : List Change) (old new : OfficeState) (requests : List Exchange)
    → RunWith s changes old requests new → FollowsIn s changes old new
runs s changes old new [] k =
    subst (λ cs. FollowsIn s cs old new) (sym k.0)
    (subst (FollowsIn s [] old) (sym k.1) (follows_self s old))
runs s changes old new (x ∷ xs) k =
    let first : FollowsIn s (changes_to s (new_changes old x.command x.answer)) old k.0 =
    one_step s old k.0 x.caller x.command x.answer k.2 k.3 in
    let later : FollowsIn s k.1 k.0 new = runs s k.1 k.0 new xs k.5 in
    subst (λ cs. FollowsIn s cs old new) (sym k.4)
    (follows_both s (changes_to s (new_changes old x.command x.answer)) k.1 old k.0 new first later)

pub alike : (s : ℕ) (changes : List Change) (old one other : OfficeState)
    (first second : List Exchange) → RunWith s changes old first one
    → RunWith s changes old second other → view_of s one ≡ view_of s other
alike s changes old one other first second k h =
    follows_alike s changes old one other (runs s changes old one first k)
    (runs s changes old other second h)
