-- Texts of standard input and of files.
use Rattle.std.proofs.Common.{◌≡◌, Bool, List, None, Option, Some, IfSome, ap, false, refl, subst, sym, ◌∙◌, true, ℕ, Ok, Result}
use Rattle.std.specs.Prelude.{◌≤◌, IfOk, if◌then◌else◌, length, option_map}
use Rattle.exam_model.specs.Enrolments.{Enrolled}
use Rattle.exam_model.specs.Instance.{Session}
use Rattle.exam_model.specs.Timetable.{Placing}
use Rattle.office_check.specs.Check.{IsInput, OfInputs}
use Rattle.office_check.specs.Listing.{AnswersPlaces, WritesPlaces}
use Rattle.office_check.specs.Refusing.{Refuses}
use Rattle.office_check.specs.declared.listing.PlacesAnswer.{PlacesAnswer}
use Rattle.office_check.specs.declared.listing.PlacesAnswer.TheVariants.{Listed, NoExam}
use Rattle.office_check.specs.declared.checking.CheckFault.{CheckFault}
use Rattle.office_check.specs.declared.checking.CheckFault.TheVariants as check
use Rattle.office_check.specs.declared.judging.LineForm.{LineForm}
use Rattle.office_program.specs.CheckAll.{IsLineOf}
use Rattle.office_program.specs.Sources.{IsReaderOf, IsTextOf, Known, MayNotOpen, OfFiles, is_stdin, source_at}
use Rattle.office_program.specs.TaskFaults.{IsCheckCause, IsFirstCause, MayNotRead}
use Rattle.office_program.specs.declared.judging.VerdictLine.{VerdictLine}

-- ---- readers

-- standard input is a reader of itself
pub own_reader : (left : Option (List ℕ)) → IsReaderOf (option_map Some left) left
own_reader None = tt
own_reader (Some text) = refl

-- what a path names
source_of_stdin : (stdin : Option (List ℕ)) (files : List ℕ → Known) (path : List ℕ)
    → is_stdin path ≡ true → source_at stdin files path ≡ option_map Some stdin
source_of_stdin stdin files path is =
    ap (λ (b : Bool). if b then option_map Some stdin else files path) is

source_of_file : (stdin : Option (List ℕ)) (files : List ℕ → Known) (path : List ℕ)
    → is_stdin path ≡ false → source_at stdin files path ≡ files path
source_of_file stdin files path is =
    ap (λ (b : Bool). if b then option_map Some stdin else files path) is

-- it is what its path names
pub stdin_reader : (stdin : Option (List ℕ)) (files : List ℕ → Known) (path : List ℕ)
    → is_stdin path ≡ true → IsReaderOf (source_at stdin files path) stdin
stdin_reader stdin files path is = subst (λ known. IsReaderOf known stdin)
    (sym (source_of_stdin stdin files path is)) (own_reader stdin)

-- another path names a file
pub file_reader : (stdin : Option (List ℕ)) (files : List ℕ → Known) (path : List ℕ)
    → is_stdin path ≡ false → (left : Option (List ℕ)) → IsReaderOf (files path) left
    → IsReaderOf (source_at stdin files path) left
file_reader stdin files path is left reads = subst (λ known. IsReaderOf known left)
    (sym (source_of_file stdin files path is)) reads

-- a text of a reader is one of its file
pub read_text : (known : Known) (left : Option (List ℕ)) → IsReaderOf known left
    → (text : List ℕ) → IsInput left text → IsTextOf known text
read_text None left reads text input = tt
read_text (Some None) left reads text input = absurd reads
read_text (Some (Some bytes)) None reads text input = let never : None ≡ Some bytes = reads in cc
read_text (Some (Some bytes)) (Some xs) reads text input =
    let same : Some xs ≡ Some bytes = reads in let is : xs ≡ text = input in cc

-- some text is the file's, whatever is known of it
pub some_text : (known : Known) (left : Option (List ℕ)) → IsReaderOf known left
    → (P : List ℕ → Type 0) → IfSome left P → (text : List ℕ) × P text
    → (text : List ℕ) × IsTextOf known text × P text
some_text known None reads P each some = (some.0, read_text known None reads some.0 tt, some.1)
some_text known (Some xs) reads P each some = (xs, read_text known (Some xs) reads xs refl, each)

-- the text of a reader is one of its file
pub own_text : (known : Known) (left : Option (List ℕ)) → IsReaderOf known left
    → (text : List ℕ) → IsTextOf (option_map Some left) text → IsTextOf known text
own_text known None reads text of = read_text known None reads text tt
own_text known (Some xs) reads text of = read_text known (Some xs) reads text of

-- the line of a verdict on the text of a file, of which less is known
pub line_less : (I : Session) (E : Enrolled) (form : LineForm) (path : List ℕ) (a b : Known)
    (line : VerdictLine) → ((text : List ℕ) → IsTextOf a text → IsTextOf b text)
    → IsLineOf I E form path a line → IsLineOf I E form path b line
line_less I E form path a b line less of = record {
  solution = of.solution;
  of = less of.solution of.of;
  verdict = of.verdict;
  judged = of.judged;
  text = of.text;
  breach = of.breach;
}

-- ---- two readers

-- what holds of texts of watched readers that haven't failed holds of those of their readers
pub of_watched : (one two left right : Option (List ℕ)) (a b : Bool)
    (P : Session → Enrolled → Placing → Type 0) → a ≡ false → b ≡ false → left ≡ one → right ≡ two
    → OfInputs (if a then None else left) (if b then None else right) P → OfInputs one two P
of_watched one two left right a b P a_is b_is first second of =
    subst (λ o. OfInputs one o P) (ap (λ (t : Bool). if t then None else right) b_is ∙ second)
    (subst (λ o. OfInputs o (if b then None else right) P)
    (ap (λ (t : Bool). if t then None else left) a_is ∙ first) of)

-- what holds of texts of the readers holds of texts of their files
pub of_files : (first second : Known) (one two : Option (List ℕ)) → IsReaderOf first one
    → IsReaderOf second two → (P : Session → Enrolled → Placing → Type 0) → OfInputs one two P
    → OfFiles first second P
of_files first second one two reads also P of = record {
  instance = of.instance;
  solution = of.solution;
  of_first = read_text first one reads of.instance of.of_first;
  of_second = read_text second two also of.solution of.of_second;
  texts = of.texts;
}

-- a file is no more known than its reader
pub reader_may_fail : (known : Known) (left : Option (List ℕ)) → IsReaderOf known left
    → MayNotOpen (option_map Some left) → MayNotOpen known
reader_may_fail None left reads may = tt
reader_may_fail (Some None) left reads may = tt
reader_may_fail (Some (Some bytes)) left reads may =
    absurd (subst (λ o. MayNotOpen (option_map Some o)) reads may)

-- a file that can't be read is one of a reader that failed
pub may_not_read : (first second : Known) (one two : Option (List ℕ)) → IsReaderOf first one
    → IsReaderOf second two → (fault : CheckFault)
    → MayNotRead (option_map Some one) (option_map Some two) fault → MayNotRead first second fault
may_not_read first second one two reads also check.ReadInstance may =
    reader_may_fail first one reads may
may_not_read first second one two reads also check.ReadSolution may =
    reader_may_fail second two also may
may_not_read first second one two reads also (check.Instance f) may = tt
may_not_read first second one two reads also (check.Solution f) may = tt
may_not_read first second one two reads also check.Write may = tt
may_not_read first second one two reads also check.NoMemory may = tt

-- the first fault of two readers is that of their files
first_of_two : (first second : Known) (one two : Option (List ℕ)) → IsReaderOf first one
    → IsReaderOf second two → (fault : CheckFault)
    → IfSome one (λ a. IfSome two (λ b. Refuses a b fault)) → IsFirstCause first second fault
first_of_two None second one two reads also fault refuses = tt
first_of_two (Some None) second one two reads also fault refuses = absurd reads
first_of_two (Some (Some a)) None one two reads also fault refuses = tt
first_of_two (Some (Some a)) (Some None) one two reads also fault refuses = absurd also
first_of_two (Some (Some a)) (Some (Some b)) one two reads also fault refuses =
    let one_known = subst (λ o. IfSome o (λ a. IfSome two (λ b. Refuses a b fault))) reads refuses in
    subst (λ o. IfSome o (λ b. Refuses a b fault)) also one_known

-- the fault of two readers is that of their files
pub two_refused : (first second : Known) (one two : Option (List ℕ)) → IsReaderOf first one
    → IsReaderOf second two → (fault : CheckFault)
    → IfSome one (λ a. IfSome two (λ b. Refuses a b fault))
    → MayNotRead (option_map Some one) (option_map Some two) fault → IsCheckCause first second fault
two_refused first second one two reads also fault refuses may = (
  first_of_two first second one two reads also fault refuses,
  may_not_read first second one two reads also fault may,
)

-- what the list of places answers
pub listed : (first second : Known) (exam : ℕ) (old new : Option (List ℕ))
    (result : Result PlacesAnswer CheckFault) → IfOk result (λ answer.
    OfFiles first second (λ I E T. AnswersPlaces I E T exam old new answer)) → result ≡ Ok Listed
    → OfFiles first second (λ I E T. WritesPlaces I E T exam old new)
listed first second exam old new result done is = subst (λ (r : Result PlacesAnswer CheckFault).
    IfOk r (λ answer. OfFiles first second (λ I E T. AnswersPlaces I E T exam old new answer))) is
    done

pub not_listed : (first second : Known) (exam : ℕ) (old new : Option (List ℕ))
    (result : Result PlacesAnswer CheckFault) → IfOk result (λ answer.
    OfFiles first second (λ I E T. AnswersPlaces I E T exam old new answer)) → result ≡ Ok NoExam
    → OfFiles first second (λ I E T. length I.exams ≤ exam)
not_listed first second exam old new result done is =
    let of : OfFiles first second (λ I E T. AnswersPlaces I E T exam old new NoExam) =
    subst (λ (r : Result PlacesAnswer CheckFault). IfOk r (λ answer.
    OfFiles first second (λ I E T. AnswersPlaces I E T exam old new answer))) is done in
    record {
      instance = of.instance;
      solution = of.solution;
      of_first = of.of_first;
      of_second = of.of_second;
      texts = record { read = of.texts.read; holds = of.texts.holds.0 };
    }
