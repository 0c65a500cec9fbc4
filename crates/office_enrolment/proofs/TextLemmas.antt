-- A text describes at most as many changes as it has bytes, each of a student number within its
-- limit.
use Rattle.std.proofs.lemmas.Grind.{common_steps}
use Rattle.std.proofs.Common.{◌≡◌, ℕ, zero, suc, ◌+◌, ◌≤◌, Bool, true, false, List, [], ◌∷◌, length, map, Result, Ok, Err, ap, arith, if◌then◌else◌}
use Rattle.std.specs.List.{AllByRecursion}
use Rattle.std.proofs.lemmas.Bool.{leb-true}
use Rattle.std.proofs.lemmas.List.{length-map}
use Rattle.exam_lists.proofs.Parts.{length_choice-le}
use Rattle.csv.specs.Reading.{default_config, is_bom, records_from, strip_bom}
use Rattle.csv.specs.declared.parser.State.{State}
use Rattle.exam_terms.specs.Refusing.{◌>>=◌, unless}
use Rattle.exam_model.specs.declared.change.Change.{Change}
use Rattle.office_files.specs.Numbers.{at_most, number}
use Rattle.office_files.specs.declared.fault.FaultKind.{FaultKind}
use Rattle.office_files.specs.declared.fault.FaultKind.TheVariants.{StrayText}
use Rattle.office_batches.specs.Records.{Record, change_in}
use Rattle.office_batches.specs.BatchText.{BatchText, records_in}

-- ---- how many

few_records : (n : ℕ) (s : State) (xs : List ℕ) → length (records_from default_config n s xs) ≤ n
unfolding records_from
few_records zero s xs = omega arith
few_records (suc n) s xs = grind (arith, common_steps, few_records n)

without_mark : (b : List ℕ) → length (strip_bom b) ≤ length b
unfolding strip_bom
without_mark [] = omega arith
without_mark (x ∷ []) = omega arith
without_mark (x ∷ y ∷ []) = omega arith
without_mark (x ∷ y ∷ z ∷ rest) =
    length_choice-le (is_bom x y z) rest (x ∷ y ∷ z ∷ rest) (omega arith)

-- the first record names the columns, and each other is a change
pub few_changes : (b : List ℕ) (changes : List Change) → BatchText b changes
    → length changes ≤ length b
few_changes b changes text =
    let all : length (records_in b) ≤ length (strip_bom b) + 1 = few_records _ _ (strip_bom b) in
    let short = without_mark b in
    let records : length (records_in b) ≡ suc (length text.others) = ap length text.records in
    let spelled : length (map change_in text.others) ≡ length (map Ok changes)
    = ap length text.say in
    let others = length-map text.others change_in in
    let lines = length-map changes
    (λ (c : Change). let read : Result Change FaultKind = Ok c in read) in
    omega arith

-- ---- the students

at_most-within : (limit n m : ℕ) → at_most limit n ≡ Ok m → m ≤ limit
at_most-within limit n m is = grind (arith, common_steps, leb-true)

number-within : (limit : ℕ) (text : List ℕ) (n : ℕ) → number limit text ≡ Ok n → n ≤ limit
number-within limit text n is = grind (arith, common_steps, at_most-within)

-- the change of these three fields, if nothing follows them
abbrev made : Result ℕ FaultKind → Result ℕ FaultKind → Result Bool FaultKind → Bool
    → Result Change FaultKind
made students exams actions three = do
  student ← students
  exam ← exams
  add ← actions
  _ ← unless three StrayText
  Ok (record { student = student; exam = exam; add = add })

student_of : (students exams : Result ℕ FaultKind) (actions : Result Bool FaultKind) (three : Bool)
    (change : Change) → made students exams actions three ≡ Ok change → students ≡ Ok change.student
student_of (Err e) exams actions three change is = absurd (cc is)
student_of (Ok s) (Err e) actions three change is = absurd (cc is)
student_of (Ok s) (Ok e) (Err f) three change is = absurd (cc is)
student_of (Ok s) (Ok e) (Ok a) false change is = absurd (cc is)
student_of (Ok s) (Ok e) (Ok a) true change is =
    let same : record { student = s; exam = e; add = a } ≡ change = cc is in
    ap (λ (c : Change). Ok c.student) same

student-within : (fields : Record) (change : Change) → change_in fields ≡ Ok change
    → change.student ≤ 999999999
student-within fields change is = grind (arith, common_steps, number-within, student_of)

pub have_numbers : (others : List Record) (changes : List Change)
    → map change_in others ≡ map Ok changes
    → AllByRecursion (λ (c : Change). c.student ≤ 999999999) changes
have_numbers others [] is = tt
have_numbers [] (change ∷ changes) is = absurd (cc is)
have_numbers (fields ∷ others) (change ∷ changes) is =
    let both : change_in fields ∷ map change_in others ≡ Ok change ∷ map Ok changes = is in
    let head : change_in fields ≡ Ok change = cc in
    let tail : map change_in others ≡ map Ok changes = cc in
    (student-within fields change head, have_numbers others changes tail)
