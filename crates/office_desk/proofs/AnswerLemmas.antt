-- The result of a call of the office becomes the answer to a command.
use Rattle.std.specs.Borrow.{Bor}
use Rattle.std.specs.Prelude.{IfErr}
use Rattle.std.specs.Result.{IsErrAnd}
use Rattle.sqlite.specs.Held.{Held, state}
use Rattle.sqlite.specs.State.{State, Survives}
use Rattle.sqlite.specs.Store.{Ghosts}
use Rattle.sqlite.proofs.StateLemmas.{survives_weaker}
use Rattle.sqlite_trees.specs.Tree.{Trees}
use Rattle.office_tables.specs.Alterations.{found_in}
use Rattle.office_policy.specs.CommandBodies.{plain_text}
use Rattle.office_policy.specs.declared.command.Body.{Body}
use Rattle.std.proofs.Common.{◌≡◌, ◌∙◌, ℕ, List, Option, None, Some, option_map, Result, Ok, Err, ap, inl, inr, subst, sym, refl}
use Rattle.exam_model.specs.Instance.{Session}
use Rattle.office_model.specs.Answers.{PlainAnswer, refused, text, unavailable}
use Rattle.office_model.specs.Commands.{CommandResult}
use Rattle.exam_score.specs.Penalty.{Penalty}
use Rattle.exam_score.specs.Track.{track}
use Rattle.office_model.specs.Office.{OfficeState, Publication, published_enrolments}
use Rattle.office_model.specs.Step.{Outcome, of_published, outcome, publication_in, with_body}
use Rattle.office_model.specs.declared.fault.StoreFault.{StoreFault}
use Rattle.office_model.specs.declared.fault.StoreFault.TheVariants.{BadSchema, Store}
use Rattle.exam_terms.specs.Refusing.{◌>>=◌}
use Rattle.office_records.specs.Representation.{RepresentsOffice}
use Rattle.office_store.specs.Memory.{priced_as, priced_in}
use Rattle.office_store.specs.Leaving.{HoldsNext, LeavesNext, LeavesUnchanged, MayCommit}
use Rattle.office_store.specs.Running.{CommandOutcome, CommandRan, Represents}
use Rattle.office_store.proofs.CommandLemmas.{stays_by}
use Rattle.office_store.proofs.LeavingLemmas.{survives_same}
use Rattle.office_desk.specs.Answers.{refusal}
use Rattle.office_desk.specs.Performing.{AnswersOutcome, HoldsOutcome, IsBodyOrAnswer, MayCommitOutcome}
use Rattle.office_desk.specs.Performing.{OutcomeAnswered, answer_of}
use Rattle.office_desk.specs.Answers.{IsRefusal, plain_answer}
use Rattle.office_desk.specs.declared.answer.Answer.{Answer}

-- an `Ok` of a call becomes the command's answer
ok_answered : {A : Type 0} (to_answer : A → PlainAnswer) (old : OfficeState)
    (gives : CommandResult A)
    (Stays : OfficeState → Type 0) (x : A) (final_answer : PlainAnswer)
    → CommandOutcome gives old Stays (Ok x) → final_answer ≡ to_answer x
    → AnswersOutcome (outcome to_answer old gives) old Stays final_answer
ok_answered to_answer old gives Stays x final_answer does same =
    let is = does.1 in
    inl (
      same ∙ sym (ap (λ g. (outcome to_answer old g).1) is),
      subst (λ g. Stays (outcome to_answer old g).0) (sym is) does.2,
    )

-- a refusal of the command becomes its answer
refusal_answered : {A : Type 0} (to_answer : A → PlainAnswer) (old : OfficeState)
    (gives : CommandResult A)
    (Stays : OfficeState → Type 0) (f : StoreFault) (final_answer : PlainAnswer)
    → gives ≡ Err f → Stays old → final_answer ≡ refused f
    → AnswersOutcome (outcome to_answer old gives) old Stays final_answer
refusal_answered to_answer old gives Stays f final_answer is stays same =
    inl (
      same ∙ sym (ap (λ g. (outcome to_answer old g).1) is),
      subst (λ g. Stays (outcome to_answer old g).0) (sym is) stays,
    )

-- any fault of a call becomes an answer
fault_answered : {A : Type 0} (to_answer : A → PlainAnswer) (old : OfficeState)
    (gives : CommandResult A)
    (Stays : OfficeState → Type 0) (f : StoreFault) (final_answer : PlainAnswer)
    → CommandOutcome gives old Stays (Err f) → final_answer ≡ refusal f
    → AnswersOutcome (outcome to_answer old gives) old Stays final_answer
fault_answered to_answer old gives Stays Store final_answer does same = inr (same, does.1)
fault_answered to_answer old gives Stays BadSchema final_answer does same = absurd does.0
fault_answered to_answer old gives Stays f final_answer does same =
    refusal_answered to_answer old gives Stays f final_answer does.0 does.1 same

-- `?` turns a fault into its answer
err_answered : (r : Result Answer Answer) (f : StoreFault)
    → IsErrAnd r (λ answer. plain_answer answer ≡ refusal f) → answer_of r ≡ refusal f
err_answered (Ok answer) f is = absurd is
err_answered (Err answer) f is = is

-- ---- refusals

pub is_refusal : (f : StoreFault) → IsRefusal (refusal f)
is_refusal Store = tt
is_refusal BadSchema = tt
is_refusal f = tt

-- ---- what a later opening may find

-- a call that only reads commits nothing
pub read_survives : {S A E : Type 0} {r : Result A E} (g : Ghosts S) (Changes : Type 0)
    (outcome_in : OfficeState → Outcome) (old new : Held S) (answer : PlainAnswer)
    → LeavesUnchanged g old new r
    → Survives (state g old) (state g new)
    (MayCommitOutcome Changes outcome_in (state g old) answer)
read_survives g Changes outcome_in old new answer read =
    survives_weaker (state g old) (state g new) (λ _. ⊥) _ (λ _ db none. absurd none) read.survives

held_outcome : {A : Type 0} (to_answer : A → PlainAnswer)
    (command : OfficeState → CommandResult A) (old : State) (found : Trees)
    → HoldsNext command old found
    → HoldsOutcome (λ office. outcome to_answer office (command office)) old found
held_outcome to_answer command old found next = record {
  was_open = next.was_open;
  sound = next.sound;
  office = next.office;
  stood = next.stood;
  holds = λ there kept.
      let after = next.holds there kept in
      subst (λ gives. RepresentsOffice (found_in found) (outcome to_answer there gives).0)
      (sym after.2) after.3;
}

-- a command that changes the office commits the office after its outcome
next_survives : {S A : Type 0} (g : Ghosts S) (to_answer : A → PlainAnswer)
    (command : OfficeState → CommandResult A) (old new : Held S) (result : Result A StoreFault)
    (answer : PlainAnswer) → LeavesNext g command old new result
    → (IfErr result (λ e. e ≡ Store) → IsRefusal answer → answer ≡ unavailable)
    → Survives (state g old) (state g new) (MayCommitOutcome (Unit {0})
    (λ office. outcome to_answer office (command office)) (state g old) answer)
next_survives g to_answer command old new result answer next unnamed =
    survives_weaker (state g old) (state g new) (MayCommit command (state g old) result) _
    (λ _ found may. (tt, unnamed may.0, held_outcome to_answer command (state g old) found may.1))
    next.survives

-- ---- what a command does

-- the office's answer, and that all is committed
module _ {S A : Type 0} (g : Ghosts S) (to_answer : A → PlainAnswer)
    (command : OfficeState → CommandResult A) (old new : Held S) where
  abbrev Answers : Type 0 → Result Answer Answer → Type 0
  Answers Changes result =
      OutcomeAnswered g Changes (λ office. outcome to_answer office (command office)) old new result

  -- an `Ok` of a call that only reads becomes the command's answer
  pub ok_shown : {B E : Type 0} {y : B} (x : A) (answer : Answer)
      → CommandRan g command old new (Ok x) → LeavesUnchanged {A = B} {E = E} g old new (Ok y)
      → plain_answer answer ≡ to_answer x → Answers ⊥ (Ok answer)
  ok_shown x answer ran read is = record {
    answers = λ k office now. ok_answered to_answer office (command office)
        (Represents (state g new)) x (plain_answer answer) (ran k office now) is;
    all_committed = λ k. inr (read.all_committed k);
    clean = read.clean;
    unchanged = λ _. read.unchanged;
    survives = read_survives g _ _ old new (plain_answer answer) read;
  }

  -- an `Ok` of a call that changes the office becomes the command's answer, which is no refusal
  pub ok_changed : (x : A) (answer : Answer) → CommandRan g command old new (Ok x)
      → LeavesNext g command old new (Ok x) → (IsRefusal (to_answer x) → ⊥)
      → plain_answer answer ≡ to_answer x → Answers (Unit {0}) (Ok answer)
  ok_changed x answer ran next done is = record {
    answers = λ k office now. ok_answered to_answer office (command office)
        (Represents (state g new)) x (plain_answer answer) (ran k office now) is;
    all_committed = λ k. inr (next.all_committed k);
    clean = next.clean;
    unchanged = λ none. absurd (none tt);
    survives = next_survives g to_answer command old new (Ok x) (plain_answer answer) next
        (λ _ refused. absurd (done (subst IsRefusal is refused)));
  }

  -- a fault of a call that only reads becomes a refusal
  pub fault_shown : {B E : Type 0} {r : Result B E} (fault : StoreFault)
      (result : Result Answer Answer) → CommandRan g command old new (Err fault)
      → LeavesUnchanged g old new r → IsErrAnd result (λ answer. plain_answer answer ≡ refusal fault)
      → Answers ⊥ result
  fault_shown fault result ran read is = record {
    answers = λ k office now. fault_answered to_answer office (command office)
        (Represents (state g new)) fault (answer_of result) (ran k office now)
        (err_answered result fault is);
    all_committed = λ k. inl (subst IsRefusal (sym (err_answered result fault is))
        (is_refusal fault));
    clean = read.clean;
    unchanged = λ _. read.unchanged;
    survives = read_survives g _ _ old new (answer_of result) read;
  }

  -- a fault of a call that changes the office becomes a refusal
  pub fault_changed : (fault : StoreFault) (result : Result Answer Answer)
      → CommandRan g command old new (Err fault) → LeavesNext g command old new (Err fault)
      → IsErrAnd result (λ answer. plain_answer answer ≡ refusal fault)
      → Answers (Unit {0}) result
  fault_changed fault result ran next is = record {
    answers = λ k office now. fault_answered to_answer office (command office)
        (Represents (state g new)) fault (answer_of result) (ran k office now)
        (err_answered result fault is);
    all_committed = λ k. inl (subst IsRefusal (sym (err_answered result fault is))
        (is_refusal fault));
    clean = next.clean;
    unchanged = λ none. absurd (none tt);
    survives = next_survives g to_answer command old new (Err fault) (answer_of result) next
        (λ failed refused. err_answered result fault is ∙ ap refusal failed);
  }

-- an outcome that is the same in each office
same_answered : {S : Type 0} (g : Ghosts S) (Changes : Type 0) (f h : OfficeState → Outcome)
    (old new : Held S) (result : Result Answer Answer) → OutcomeAnswered g Changes f old new result
    → ((office : OfficeState) → f office ≡ h office) → OutcomeAnswered g Changes h old new result
same_answered g Changes f h old new result answered same = record {
  answers = λ k office now. subst (λ outcome. AnswersOutcome outcome office
      (Represents (state g new)) (answer_of result)) (same office) (answered.answers k office now);
  all_committed = answered.all_committed;
  clean = answered.clean;
  unchanged = answered.unchanged;
  survives = survives_weaker (state g old) (state g new) _ _
      (λ _ found may. (
        may.0,
        may.1,
        record {
          was_open = may.2.was_open;
          sound = may.2.sound;
          office = may.2.office;
          stood = may.2.stood;
          holds = λ there kept.
              subst (λ (outcome : Outcome). RepresentsOffice (found_in found) outcome.0)
              (same there) (may.2.holds there kept);
        },
      )) answered.survives;
}

-- only a part of what the command returns is in the answer
part_outcome : {A B : Type 0} (part : A → B) (to_answer : B → PlainAnswer) (old : OfficeState)
    (gives : CommandResult A)
    → outcome to_answer old (gives >>= (λ found. Ok (part found.0, found.1)))
    ≡ outcome (λ found. to_answer (part found)) old gives
part_outcome part to_answer old (Ok given) = refl
part_outcome part to_answer old (Err fault) = refl

pub part_performed : {S A B : Type 0} (g : Ghosts S) (part : A → B) (to_answer : B → PlainAnswer)
    (command : OfficeState → CommandResult A) (old new : Held S) (result : Result Answer Answer)
    → OutcomeAnswered g ⊥ (λ office. outcome to_answer office
    (command office >>= (λ found. Ok (part found.0, found.1)))) old new result
    → OutcomeAnswered g ⊥ (λ office. outcome (λ found. to_answer (part found)) office
    (command office)) old new result
part_performed g part to_answer command old new result answered =
    same_answered g ⊥ _ _ old new result answered
    (λ office. part_outcome part to_answer office (command office))

-- out of memory after a reader becomes a refusal
pub memory_performed : {S B F : Type 0} {r : Result B F} (g : Ghosts S)
    (outcome_in : OfficeState → Outcome) (old new : Held S) (result : Result Answer Answer)
    → LeavesUnchanged g old new r → IsErrAnd result (λ answer. plain_answer answer ≡ unavailable)
    → OutcomeAnswered g ⊥ outcome_in old new result
memory_performed g outcome_in old new result read is = record {
  answers = λ k office now. inr (
    err_answered result Store is,
    stays_by g old new read k office now,
  );
  all_committed = λ k. inl (subst IsRefusal (sym (err_answered result Store is)) tt);
  clean = read.clean;
  unchanged = λ _. read.unchanged;
  survives = read_survives g ⊥ outcome_in old new (answer_of result) read;
}

-- a faulty body is answered with a refusal
body_answered : {A : Type 0} (go : A → Outcome) (body : Body A) (old : OfficeState)
    (Stays : OfficeState → Type 0) (answer : Answer) → IsBodyOrAnswer body (Err answer) → Stays old
    → AnswersOutcome (with_body old go body) old Stays (plain_answer answer)
body_answered go body old Stays answer (inl bad) now =
    subst (λ body. AnswersOutcome (with_body old go body) old Stays (plain_answer answer))
    (sym bad.0) (inl (bad.1, now))
body_answered go body old Stays answer (inr long) now =
    subst (λ body. AnswersOutcome (with_body old go body) old Stays (plain_answer answer))
    (sym long.0) (inl (long.1, now))

body_refused : {A : Type 0} (body : Body A) (answer : Answer) → IsBodyOrAnswer body (Err answer)
    → IsRefusal (plain_answer answer)
body_refused body answer (inl bad) = subst IsRefusal (sym bad.1) tt
body_refused body answer (inr long) = subst IsRefusal (sym long.1) tt

pub body_performed : {S A : Type 0} (g : Ghosts S) (go : OfficeState → A → Outcome) (body : Body A)
    (old : Held S) (answer : Answer) (result : Result Answer Answer) → result ≡ Err answer
    → IsBodyOrAnswer body (Err answer)
    → OutcomeAnswered g (Unit {0}) (λ office. with_body office (go office) body) old old result
body_performed g go body old answer result is faulty =
    subst (OutcomeAnswered g (Unit {0}) (λ office. with_body office (go office) body) old old) (sym is)
    (record {
      answers = λ k office now. body_answered (go office) body office (Represents (state g old))
          answer faulty now;
      all_committed = λ k. inl (body_refused body answer faulty);
      clean = λ k. k;
      unchanged = λ _ k opened. (opened, refl);
      survives = survives_weaker (state g old) (state g old) (λ _. ⊥) _ (λ _ db none. absurd none)
          (survives_same (state g old));
    })

-- a faulty text is a faulty list of bytes
pub text_faulty : (body : Body (Bor (List ℕ))) (answer : Answer) → IsBodyOrAnswer body (Err answer)
    → IsBodyOrAnswer (plain_text body) (Err answer)
text_faulty body answer (inl bad) = inl (ap plain_text bad.0, bad.1)
text_faulty body answer (inr long) = inr (ap plain_text long.0, long.1)

-- ---- what is published

-- a text of the publication is the answer
pub text_answered : (to_text : Session → Publication → List ℕ)
    (found : Option (Session × Publication))
    (p : Session × Publication) (final_answer : List ℕ) → found ≡ Some p → final_answer
    ≡ to_text p.0 p.1
    → text final_answer ≡ of_published to_text found
text_answered to_text found p final_answer is same = ap text same
    ∙ sym (ap (of_published to_text) is)

-- a publication has the penalty that is in memory
pub priced_of : (o : OfficeState) (parts : Penalty) → Some parts ≡ priced_in o
    → (found : Session × Publication) × (publication_in o ≡ Some found)
    × (parts ≡ track found.0 (published_enrolments found.0 found.1) found.1.timetable)
priced_of None parts is = absurd cc
priced_of (Some r) parts is = go r.published is
  where
    go : (published : Option Publication) → Some parts ≡ priced_as r.session published
        → (found : Session × Publication)
        × (option_map (λ p. (r.session, p)) published ≡ Some found)
        × (parts ≡ track found.0 (published_enrolments found.0 found.1) found.1.timetable)
    go None is = absurd cc
    go (Some p) is = ((r.session, p), refl, cc)
