-- Facts about a run from its parts.
use Rattle.std.proofs.Common.{◌≡◌, ℕ, ◌⊎◌, List, [], ◌∷◌, Option, Some, None, IfSome}
use Rattle.std.proofs.Common.{◌∙◌, ◌≢◌, inl, inr, refl, sym, subst}
use Rattle.exam_model.specs.Enrolments.{Enrolled}
use Rattle.exam_model.specs.Instance.{Session}
use Rattle.exam_model.specs.Timetable.{Placing}
use Rattle.exam_rules.specs.declared.breach.Breach.{Breach}
use Rattle.office_files.specs.FirstFault.{first_solution_fault}
use Rattle.office_files.specs.InstanceText.{InstanceText}
use Rattle.office_files.specs.SolutionText.{SolutionText}
use Rattle.office_files.specs.Inputs.{RefusesFile}
use Rattle.office_check.specs.Check.{AreRead, AreReadAs, AreReadFrom, IsInput, IsRead, OfInputs}
use Rattle.office_check.specs.Check.{OfSome, OfTexts, status_of}
use Rattle.office_check.specs.Refusing.{Refuses, of_solution}
use Rattle.office_check.specs.Verdicts.{IsVerdict, IsVerdictOn}
use Rattle.office_check.specs.declared.checking.CheckFault.{CheckFault}
use Rattle.office_check.specs.declared.checking.CheckFault.TheVariants as fault
use Rattle.office_check.specs.declared.judging.Verdict.{Verdict}
use Rattle.office_files.specs.declared.inputs.InputFault.{InputFault}
use Rattle.office_files.specs.declared.inputs.InputFault.TheVariants.{Read, File, NoMemory}

-- a fact about two inputs, if both are known
abbrev pub Both : Option (List ℕ) → Option (List ℕ) → (List ℕ → List ℕ → Type 0) → Type 0
Both a b P = IfSome a (λ instance. IfSome b (λ solution. P instance solution))

-- readings of both inputs
pub read_as : (a b : Option (List ℕ)) (I : Session) (enrolled : Enrolled) (placing : Placing)
    → IfSome a (λ instance. InstanceText instance I enrolled)
    → IfSome b (λ solution. SolutionText solution I placing)
    → Both a b (λ instance solution. AreReadAs instance solution I enrolled placing)
read_as None b I enrolled placing one two = tt
read_as (Some instance) None I enrolled placing one two = tt
read_as (Some instance) (Some solution) I enrolled placing one two =
    record { session = one; timetable = two }

-- texts that have this reading have a reading
abbrev pub are_read : {a b : List ℕ} {I : Session} {enrolled : Enrolled} {placing : Placing}
    → AreReadAs a b I enrolled placing → AreRead a b
are_read {I = I} {enrolled = enrolled} {placing = placing} known = record {
  first = record { session = I; enrolled = enrolled; spells = known.session };
  placing = placing;
  spells = known.timetable;
}

-- there is no other exit status
pub one_of_two : (breaches : List Breach) (answer : ℕ) → answer ≡ status_of breaches
    → (answer ≡ 0) ⊎ (answer ≡ 3)
one_of_two [] answer is = inl is
one_of_two (breach ∷ breaches) answer is = inr is

-- a fact about the text of an input, which is known or not
pub known_input : (input : Option (List ℕ)) (P : List ℕ → Type 0) → IfSome input P
    → (text : List ℕ) × P text → (text : List ℕ) × IsInput input text × P text
known_input None P known some = (some.0, tt, some.1)
known_input (Some text) P known some = (text, refl, known)

-- readings of texts of the two inputs
pub read_from : (a b : Option (List ℕ)) (I : Session) (enrolled : Enrolled) (placing : Placing)
    → IfSome a (λ instance. InstanceText instance I enrolled)
    → (instance : List ℕ) × InstanceText instance I enrolled
    → IfSome b (λ solution. SolutionText solution I placing)
    → (solution : List ℕ) × SolutionText solution I placing → AreReadFrom a b I enrolled placing
read_from a b I enrolled placing one some_one two some_two =
    let first = known_input a (λ text. InstanceText text I enrolled) one some_one in
    let second = known_input b (λ text. SolutionText text I placing) two some_two in
    record {
      instance = first.0;
      solution = second.0;
      of_first = first.1;
      of_second = second.1;
      read = record { session = first.2; timetable = second.2 };
    }

-- a fault of the solution comes after the instance is read
pub solution_refused : (a b : Option (List ℕ)) (I : Session) (enrolled : Enrolled)
    (input : InputFault) (fault : CheckFault)
    → IfSome a (λ instance. InstanceText instance I enrolled)
    → IfSome b (λ solution. RefusesFile (first_solution_fault I solution) input)
    → fault ≡ of_solution input
    → Both a b (λ instance solution. Refuses instance solution fault)
solution_refused None b I enrolled input fault one bad same = tt
solution_refused (Some instance) None I enrolled input fault one bad same = tt
solution_refused (Some instance) (Some solution) I enrolled input fault one bad same =
    rw same (refuses input bad)
  where
    first : IsRead instance
    first = record { session = I; enrolled = enrolled; spells = one }

    refuses : (f : InputFault) → RefusesFile (first_solution_fault I solution) f
        → Refuses instance solution (of_solution f)
    refuses Read bad = first
    refuses (File f) bad = record { first = first; fault = bad }
    refuses NoMemory bad = tt

-- it isn't one of writing
pub solution_unwritten : (input : InputFault) (f : CheckFault) → f ≡ of_solution input
    → f ≢ fault.Write
solution_unwritten Read f same is =
    let never : fault.ReadSolution ≡ fault.Write = sym same ∙ is in absurd cc
solution_unwritten (File of) f same is =
    let never : fault.Solution of ≡ fault.Write = sym same ∙ is in absurd cc
solution_unwritten NoMemory f same is =
    let never : fault.NoMemory ≡ fault.Write = sym same ∙ is in absurd cc

-- a reading of the input has a verdict
pub verdict_on : (a : Option (List ℕ)) (I : Session) (E : Enrolled) (placing : Placing)
    (verdict : Verdict) → IfSome a (λ solution. SolutionText solution I placing)
    → IsVerdict I E placing verdict → IfSome a (λ solution. IsVerdictOn I E solution verdict)
verdict_on None I E placing verdict spells judged = tt
verdict_on (Some solution) I E placing verdict spells judged =
    record { placing = placing; spells = spells; judged = judged }

-- a fact of readings of texts of the two inputs
pub of_inputs : (a b : Option (List ℕ)) (I : Session) (E : Enrolled) (T : Placing)
    (P : Session → Enrolled → Placing → Type 0) → AreReadFrom a b I E T → P I E T → OfInputs a b P
of_inputs a b I E T P known holds = record {
  instance = known.instance;
  solution = known.solution;
  of_first = known.of_first;
  of_second = known.of_second;
  texts = record { read = are_read known.read; holds = holds };
}

-- whatever the inputs were
pub of_some : (a b : Option (List ℕ)) (P : Session → Enrolled → Placing → Type 0)
    → OfInputs a b P → OfSome P
of_some a b P of = record { instance = of.instance; solution = of.solution; texts = of.texts }

-- both inputs are known
pub of_both : (a b : Option (List ℕ)) (P : Session → Enrolled → Placing → Type 0)
    → OfInputs a b P → Both a b (λ instance solution. OfTexts instance solution P)
of_both None b P of = tt
of_both (Some instance) None P of = tt
of_both (Some instance) (Some solution) P of =
    subst (λ one. OfTexts one solution P) (sym of.of_first)
    (subst (λ two. OfTexts of.instance two P) (sym of.of_second) of.texts)

-- a fault after both texts were read
pub refused_late : (a b : Option (List ℕ)) (I : Session) (E : Enrolled) (T : Placing)
    (f : CheckFault) → Both a b (λ instance solution. AreReadAs instance solution I E T)
    → (f ≡ fault.Write) ⊎ (f ≡ fault.NoMemory)
    → Both a b (λ instance solution. Refuses instance solution f)
refused_late None b I E T f known late = tt
refused_late (Some instance) None I E T f known late = tt
refused_late (Some instance) (Some solution) I E T f known (inl is) = rw is (are_read known)
refused_late (Some instance) (Some solution) I E T f known (inr is) = rw is tt
