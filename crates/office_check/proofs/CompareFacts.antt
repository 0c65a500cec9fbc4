-- Facts about a comparison from its parts.
use Rattle.std.proofs.Common.{◌≡◌, ◌≢◌, ◌∙◌, ◌++◌, [], Bool, Contains, ℕ, IfSome, List, None, Option, Some, ap, ap₂, codes, filter, length, not, subst, sym}
use Rattle.std.specs.Prelude.{IsTrue, ◌↔◌}
use Rattle.std.specs.Io.KnownBytes.{Appends}
use Rattle.exam_lists.proofs.Appended.{appended, appended_twice}
use Rattle.exam_model.specs.Enrolments.{Enrolled}
use Rattle.exam_model.specs.Instance.{Session}
use Rattle.exam_model.specs.Timetable.{Placing}
use Rattle.exam_rules.specs.Breaches.{breaches_of, is_breach}
use Rattle.exam_rules.specs.declared.breach.Breach.{Breach}
use Rattle.exam_score.specs.Penalty.{Penalty}
use Rattle.exam_score.specs.Track.{track}
use Rattle.exam_changes.specs.Gained.{gained}
use Rattle.exam_changes.specs.Moves.{candidates_of, moves}
use Rattle.office_files.specs.FirstFault.{first_solution_fault}
use Rattle.office_files.specs.Inputs.{RefusesFile}
use Rattle.office_files.specs.SolutionText.{SolutionText}
use Rattle.office_files.specs.declared.inputs.InputFault.{InputFault}
use Rattle.office_files.specs.declared.inputs.InputFault.TheVariants.{Read, File, NoMemory}
use Rattle.office_check.specs.Check.{AreReadAs, AreReadFrom, IsInput}
use Rattle.office_reports.specs.Reports.{number_line, violation_text}
use Rattle.office_check.specs.Compare.{Compares, ComparesFrom, ComparesSome, IsComparisonFrom, RefusesComparison, breaches_text, comparison_text, moves_text, numbers_line, of_after, parts_text}
use Rattle.office_check.specs.declared.checking.CheckFault.TheVariants as check
use Rattle.office_check.specs.declared.comparing.CompareFault.{CompareFault}
use Rattle.office_check.specs.declared.comparing.CompareFault.TheVariants as fault
use Rattle.office_check.proofs.CheckFacts.{are_read, known_input}

-- a fact about three inputs, if all are known
abbrev pub All : Option (List ℕ) → Option (List ℕ) → Option (List ℕ)
    → (List ℕ → List ℕ → List ℕ → Type 0) → Type 0
All a b c P = IfSome a (λ x. IfSome b (λ y. IfSome c (λ z. P x y z)))

-- a fact about texts of three inputs
of_inputs : (a b c : Option (List ℕ)) (P : List ℕ → List ℕ → List ℕ → Type 0) (x y z : List ℕ)
    → IsInput a x → IsInput b y → IsInput c z → P x y z → All a b c P
of_inputs None b c P x y z first second third holds = tt
of_inputs (Some u) None c P x y z first second third holds = tt
of_inputs (Some u) (Some v) None P x y z first second third holds = tt
of_inputs (Some u) (Some v) (Some w) P x y z first second third holds =
    subst (λ t. P t v w) (sym first)
    (subst (λ t. P x t w) (sym second) (subst (λ t. P x y t) (sym third) holds))

-- what differs between the solutions of texts of the inputs
pub compared_from : (a b c : Option (List ℕ)) (I : Session) (E : Enrolled) (A B : Placing)
    (text : List ℕ) → AreReadFrom a b I E A → IfSome c (λ after. SolutionText after I B)
    → (after : List ℕ) × SolutionText after I B → text ≡ comparison_text I E A B
    → IsComparisonFrom a b c text
compared_from a b c I E A B text known one some is =
    let third = known_input c (λ after. SolutionText after I B) one some in
    record {
      instance = known.instance;
      before = known.solution;
      after = third.0;
      of_first = known.of_first;
      of_second = known.of_second;
      of_third = third.1;
      compares = record {
        read = record {
          first = (are_read known.read).first;
          old = A;
          new = B;
          old_spells = known.read.timetable;
          new_spells = third.2;
        };
        spells = is;
      };
    }

-- it is written
pub comparison_written : (a b c old new : Option (List ℕ)) (text : List ℕ)
    → IsComparisonFrom a b c text → Appends old new text → ComparesFrom a b c old new
comparison_written a b c old new text from appended = record {
  instance = from.instance;
  before = from.before;
  after = from.after;
  of_first = from.of_first;
  of_second = from.of_second;
  of_third = from.of_third;
  compares = record {
    read = from.compares.read;
    written = subst (Appends old new) from.compares.spells appended;
  };
}

-- whatever the inputs were
pub some_compared : (a b c old new : Option (List ℕ)) → ComparesFrom a b c old new
    → ComparesSome old new
some_compared a b c old new from = record {
  instance = from.instance;
  before = from.before;
  after = from.after;
  compares = from.compares;
}

-- all inputs are known
pub all_compared : (a b c old new : Option (List ℕ)) → ComparesFrom a b c old new
    → All a b c (λ instance before after. Compares instance before after old new)
all_compared a b c old new from =
    of_inputs a b c (λ instance before after. Compares instance before after old new) _ _ _
    from.of_first from.of_second from.of_third from.compares

-- a fault of the second solution comes after the session and the first solution are read
pub refused_after : (a b c : Option (List ℕ)) (I : Session) (E : Enrolled) (A : Placing)
    (input : InputFault) (f : CompareFault)
    → IfSome a (λ instance. IfSome b (λ before. AreReadAs instance before I E A))
    → IfSome c (λ after. RefusesFile (first_solution_fault I after) input) → f ≡ of_after input
    → All a b c (λ instance before after. RefusesComparison instance before after f)
refused_after None b c I E A input f known bad same = tt
refused_after (Some x) None c I E A input f known bad same = tt
refused_after (Some x) (Some y) None I E A input f known bad same = tt
refused_after (Some x) (Some y) (Some z) I E A input f known bad same = rw same (refuses input bad)
  where
    refuses : (i : InputFault) → RefusesFile (first_solution_fault I z) i
        → RefusesComparison x y z (of_after i)
    refuses Read bad = are_read known
    refuses (File f) bad = record { read = are_read known; fault = bad }
    refuses NoMemory bad = tt

-- it isn't one of writing
pub after_unwritten : (input : InputFault) (f : CompareFault) → f ≡ of_after input
    → f ≢ fault.Check check.Write
after_unwritten Read f same is =
    let never : fault.ReadAfter ≡ fault.Check check.Write = sym same ∙ is in absurd cc
after_unwritten (File of) f same is =
    let never : fault.After of ≡ fault.Check check.Write = sym same ∙ is in absurd cc
after_unwritten NoMemory f same is =
    let never : fault.Check check.NoMemory ≡ fault.Check check.Write = sym same ∙ is in absurd cc

-- writing fails after all texts are read
pub refused_write : (a b c : Option (List ℕ)) (text : List ℕ) → IsComparisonFrom a b c text
    → All a b c (λ instance before after.
    RefusesComparison instance before after (fault.Check check.Write))
refused_write a b c text from =
    of_inputs a b c
    (λ instance before after. RefusesComparison instance before after (fault.Check check.Write))
    _ _ _ from.of_first from.of_second from.of_third
    (record {
      first = from.compares.read.first;
      placing = from.compares.read.old;
      spells = from.compares.read.old_spells;
    })

-- a line of two numbers
pub line_told : (name t u : List ℕ) (n m x y : ℕ) → u ≡ t ++ numbers_line name n m → n ≡ x
    → m ≡ y → u ≡ t ++ numbers_line name x y
line_told name t u n m x y added one other =
    added ∙ ap₂ (λ k l. t ++ numbers_line name k l) one other

-- the breaches that only the second timetable has
pub gained_is : (I : Session) (E : Enrolled) (A B : Placing) (items olds news found : List Breach)
    → ((b : Breach) → (Contains items b ↔ IsTrue (is_breach I E A b))) → olds ≡ items
    → news ≡ breaches_of I E B
    → ((test : Breach → Bool) → ((b : Breach) → (Contains olds b ↔ IsTrue (test b)))
    → found ≡ filter (λ b. not (test b)) news)
    → found ≡ gained I E A B
gained_is I E A B items olds news found members same listed are =
    are (is_breach I E A)
    (subst (λ bs. (b : Breach) → (Contains bs b ↔ IsTrue (is_breach I E A b))) (sym same) members)
    ∙ ap (λ bs. filter (λ b. not (is_breach I E A b)) bs) listed

-- the breaches gained, and then those lost
pub breaches_told : (gains losses some others : List Breach) (t u v w x m n : List ℕ)
    → u ≡ t ++ codes "gained " → v ≡ u ++ m → w ≡ v ++ codes "lost " → x ≡ w ++ n
    → m ≡ violation_text some → some ≡ gains → n ≡ violation_text others → others ≡ losses
    → x ≡ t ++ breaches_text gains losses
breaches_told gains losses some others t u v w x m n one two three four first same second other =
    appended_twice t _ _ (appended_twice t _ _ (appended_twice t _ _ one (two ∙ ap (λ l. u ++ l) first)) three)
    (four ∙ ap (λ l. w ++ l) second)
    ∙ ap₂ (λ g l. t ++ breaches_text g l) same other

-- all that differs
pub comparison_told : (I : Session) (E : Enrolled) (A B : Placing) (p q : Penalty)
    (t u v w : List ℕ) → t ≡ [] → u ≡ t ++ moves_text (moves A B)
    ++ number_line (codes "candidates") (length (candidates_of E (moves A B)))
    → p ≡ track I E A → q ≡ track I E B → v ≡ u ++ parts_text p q
    → w ≡ v ++ breaches_text (gained I E A B) (gained I E B A)
    → w ≡ comparison_text I E A B
comparison_told I E A B p q t u v w none one before after two three =
    appended _
    (appended _ (appended _ (ap (λ l. l ++ moves_text (moves A B)) none) one)
    (two ∙ ap₂ (λ x y. u ++ parts_text x y) before after)) three
