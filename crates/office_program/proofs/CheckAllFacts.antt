-- Outcomes of solutions, one after another.
use Rattle.std.proofs.Math.Bool.{and-true, and_assoc, or-false, or-true}
use Rattle.std.proofs.Common.{◌≡◌, ◌∙◌, List, [], ◌∷◌, ◌++◌, ℕ, Bool, true, false, Option}
use Rattle.std.proofs.Common.{Err, Ok, OnErr, Result, ap, ap₂, append-nil, codes, inl, inr, refl, string_bytes, subst, sym}
use Rattle.std.specs.Prelude.{◌||◌, ◌&&◌}
use Rattle.std.specs.List.{flat_map, list_any}
use Rattle.std.specs.Io.KnownBytes.{Appends}
use Rattle.std.proofs.KnownBytes.{Appends-nil, Appends-trans}
use Rattle.std.proofs.lemmas.Grind.{flat_map-append}
use Rattle.std.proofs.lemmas.List.{map-append}
use Rattle.std.proofs.lemmas.List.Folds.{list_any-append}
use Rattle.exam_model.specs.Enrolments.{Enrolled}
use Rattle.exam_model.specs.Instance.{Session}
use Rattle.office_check.specs.Names.{printed_name}
use Rattle.office_check.specs.declared.judging.LineForm.{LineForm}
use Rattle.office_files.specs.declared.inputs.InputFault.{InputFault}
use Rattle.office_program.specs.CheckAll.{AddsOutcome, HasOutcomes, IsLineOf, IsOutcome, IsSolutionCause, Outcome, ReadsEach, StopsAmong, StopsAt, TellsAll, TellsOne}
use Rattle.office_output.specs.Writing.{WritesFront}
use Rattle.office_program.specs.FaultLines.{fault_line, solution_line}
use Rattle.office_program.specs.Sources.{IsFile, Known, source_at}
use Rattle.office_program.specs.declared.faults.ProgramFault.{ProgramFault}
use Rattle.office_program.specs.declared.judging.Found.{Found}
use Rattle.office_program.specs.declared.judging.VerdictLine.{VerdictLine}

-- the line of one more fault
told_more : {W : Type 0} (tells : W → List ℕ → Bool → W → Type 0) (os : List Outcome) (o : Outcome)
    (a b c : W) (before last : Bool) → TellsAll tells os a before b → TellsOne tells o b last c
    → TellsAll tells (os ++ o ∷ []) a (before && last) c
told_more tells [] o a b c before last so_far next = (
  c,
  last,
  true,
  subst (λ s. TellsOne tells o s last c) so_far.1 next,
  (refl, refl),
  ap (λ is. is && last) so_far.0 ∙ sym (and-true last),
)
told_more tells (x ∷ os) o a b c before last so_far next = (
  so_far.0,
  so_far.1,
  so_far.2 && last,
  so_far.3,
  told_more tells os o so_far.0 b c so_far.2 last so_far.4 next,
  ap (λ is. is && last) so_far.5 ∙ and_assoc so_far.1 so_far.2 last,
)

-- one more solution that was read
reads_more : (I : Session) (E : Enrolled) (files : List ℕ → Known) (form : LineForm)
    (os : List Outcome) (o : Outcome) (a b c : Option (List ℕ)) → ReadsEach I E files form os a b
    → IsOutcome I E (source_at b files) form o → (IsFile o.path → c ≡ b)
    → ReadsEach I E files form (os ++ o ∷ []) a c
reads_more I E files form [] o a b c same of unread = (
  c,
  subst (λ left. IsOutcome I E (source_at left files) form o) same of,
  λ is. unread is ∙ same,
  refl,
)
reads_more I E files form (x ∷ os) o a b c so_far of unread =
    (so_far.0, so_far.1, so_far.2, reads_more I E files form os o so_far.0 b c so_far.3 of unread)

-- a property of all outcomes and of one more
flat_more : (f : Outcome → List ℕ) (os : List Outcome) (o : Outcome)
    → flat_map f (os ++ o ∷ []) ≡ flat_map f os ++ f o
flat_more f os o =
    flat_map-append f os (o ∷ []) ∙ ap (λ l. flat_map f os ++ l) (append-nil (f o))

any_more : (p : Outcome → Bool) (os : List Outcome) (o : Outcome)
    → (list_any p os || p o) ≡ list_any p (os ++ o ∷ [])
any_more p os o =
    ap (λ b. list_any p os || b) (sym (or-false (p o))) ∙ sym (list_any-append p os (o ∷ []))

module _ {W : Type 0} (tells : W → List ℕ → Bool → W → Type 0) (I : Session) (E : Enrolled)
    (files : List ℕ → Known) (form : LineForm) where
  -- no outcome
  pub no_outcome : (stdin printed : Option (List ℕ)) (errors : W)
      → HasOutcomes tells I E files form [] stdin stdin printed printed errors errors
      (record { has_fault = false; has_breach = false; is_err_written = true })
  no_outcome stdin printed errors = record {
    outcomes = [];
    judged = record { are = refl; each = refl };
    printed = Appends-nil printed;
    told = (refl, refl);
    fault = refl;
    breach = refl;
  }

  -- one more outcome
  pub outcome_more : (paths : List (List ℕ)) (path : List ℕ)
      (stdin left last old mid new : Option (List ℕ)) (errors_old errors_mid errors_new : W) (before after : Found)
      → HasOutcomes tells I E files form paths stdin left old mid errors_old errors_mid before
      → AddsOutcome tells I E files form path before left last mid new errors_mid errors_new after
      → HasOutcomes tells I E files form (paths ++ path ∷ []) stdin last old new errors_old
      errors_new after
  outcome_more paths path stdin left last old mid new errors_old errors_mid errors_new before after
      so_far next =
      let os = so_far.outcomes in
      let o = next.outcome in
      record {
        outcomes = os ++ o ∷ [];
        judged = record {
          are = map-append (λ o. o.path) os (o ∷ [])
              ∙ ap₂ (λ (a : List (List ℕ)) (b : List ℕ). a ++ b ∷ []) so_far.judged.are next.is;
          each = reads_more I E files form os o stdin left last so_far.judged.each next.of
              next.unread;
        };
        printed = subst (Appends old new) (sym (flat_more (λ o. o.printed) os o))
            (Appends-trans old mid new _ _ so_far.printed next.printed);
        told = subst (λ is. TellsAll tells (os ++ o ∷ []) errors_old is errors_new) (sym next.said)
            (told_more tells os o errors_old errors_mid errors_new before.is_err_written
            next.is_written so_far.told next.told);
        fault = next.fault ∙ ap (λ b. b || o.is_faulty) so_far.fault
            ∙ any_more (λ o. o.is_faulty) os o;
        breach = next.breach ∙ ap (λ b. b || o.has_breach) so_far.breach
            ∙ any_more (λ o. o.has_breach) os o;
      }

  -- a line that is printed is an outcome
  pub line_added : (path : List ℕ) (line : VerdictLine) (found : Found)
      (stdin last old new : Option (List ℕ)) (errors : W) → (IsFile path → last ≡ stdin)
      → IsLineOf I E form path (source_at stdin files path) line
      → Appends old new (string_bytes line.text)
      → AddsOutcome tells I E files form path found stdin last old new errors errors (record {
        has_fault = found.has_fault;
        has_breach = found.has_breach || line.has_breach;
        is_err_written = found.is_err_written;
      })
  line_added path line found stdin last old new errors unread is printed = record {
    outcome = record {
      path = path;
      printed = string_bytes line.text;
      said = [];
      is_faulty = false;
      has_breach = line.has_breach;
    };
    is = refl;
    unread = unread;
    of = inl (record {
      solution = is.solution;
      of = is.of;
      verdict = is.verdict;
      judged = is.judged;
      printed = is.text;
      said = refl;
      sound = refl;
      breach = is.breach;
    });
    printed = printed;
    is_written = true;
    told = (refl, refl);
    said = sym (and-true found.is_err_written);
    fault = sym (or-false found.has_fault);
    breach = refl;
  }

  -- so is a fault
  pub fault_added : (stdin last : Option (List ℕ)) (is_err_written : Bool) (path : List ℕ)
      (fault : InputFault) (found : Found) (old : Option (List ℕ)) (errors_old errors_new : W)
      (shown : ProgramFault) → (IsFile path → last ≡ stdin)
      → IsSolutionCause I (source_at stdin files path) fault → fault_line shown ≡ solution_line path fault
      → tells errors_old (printed_name path ++ codes ": " ++ fault_line shown ++ 10 ∷ []) is_err_written
      errors_new
      → AddsOutcome tells I E files form path found stdin last old old errors_old errors_new (record {
        has_fault = true;
        has_breach = found.has_breach;
        is_err_written = found.is_err_written && is_err_written;
      })
  fault_added stdin last is_err_written path fault found old errors_old errors_new shown unread cause
      is told = record {
        outcome = record {
          path = path;
          printed = [];
          said = printed_name path ++ codes ": " ++ solution_line path fault ++ 10 ∷ [];
          is_faulty = true;
          has_breach = false;
        };
        is = refl;
        unread = unread;
        of = inr (record {
          fault = fault;
          cause = cause;
          printed = refl;
          said = refl;
          faulty = refl;
          breach = refl;
        });
        printed = Appends-nil old;
        is_written = is_err_written;
        told = subst (λ line. tells errors_old (printed_name path ++ codes ": " ++ line ++ 10 ∷ []) is_err_written
            errors_new) is told;
        said = refl;
        fault = sym (or-true found.has_fault);
        breach = sym (or-false found.has_breach);
      }

-- the line of a solution could not be written whole
pub stops_at : {T F W : Type 0} (r : Result T F) (I : Session) (E : Enrolled)
    (files : List ℕ → Known) (form : LineForm) (path : List ℕ) (stdin old new : Option (List ℕ))
    (errors : W) (line : VerdictLine) → IsLineOf I E form path (source_at stdin files path) line
    → WritesFront old new (string_bytes line.text)
    → OnErr r (StopsAt I E files form path stdin old new × (errors ≡ errors))
stops_at (Ok x) I E files form path stdin old new errors line of printed = tt
stops_at (Err e) I E files form path stdin old new errors line of printed =
    (record { line = line; of = of; printed = printed }, refl)

-- so the solutions end there
pub stops_among : {T F W : Type 0} (r : Result T F) (tells : W → List ℕ → Bool → W → Type 0)
    (I : Session) (E : Enrolled) (files : List ℕ → Known) (form : LineForm)
    (paths : List (List ℕ)) (stdin old new : Option (List ℕ)) (errors_old errors_new : W)
    → StopsAmong tells I E files form paths stdin old new errors_old errors_new
    → OnErr r (StopsAmong tells I E files form paths stdin old new errors_old errors_new)
stops_among (Ok x) tells I E files form paths stdin old new errors_old errors_new stops = tt
stops_among (Err e) tells I E files form paths stdin old new errors_old errors_new stops = stops
