-- Texts of standard input and of files, of three paths.
use Rattle.std.proofs.Common.{IfSome, List, None, Option, Some, subst, ℕ}
use Rattle.std.specs.Prelude.{option_map}
use Rattle.office_check.specs.Compare.{Compares, ComparesFrom, ComparesFront, IsComparisonFrom, RefusesComparison}
use Rattle.office_check.specs.declared.comparing.CompareFault.{CompareFault}
use Rattle.office_check.specs.declared.comparing.CompareFault.TheVariants as compare
use Rattle.office_output.specs.Writing.{WritesFront}
use Rattle.office_program.proofs.SourceFacts.{may_not_read, read_text, reader_may_fail}
use Rattle.office_program.specs.Sources.{IsReaderOf, Known, OfThreeFiles}
use Rattle.office_program.specs.TaskFaults.{IsCompareCause, IsFirstOfThree, MayNotReadOne}

-- the comparison of texts of the readers is that of texts of their files
pub of_three : (first second third : Known) (one two three old new : Option (List ℕ))
    → IsReaderOf first one → IsReaderOf second two → IsReaderOf third three
    → ComparesFrom one two three old new
    → OfThreeFiles first second third (λ a b c. Compares a b c old new)
of_three first second third one two three old new reads also too from = record {
  one = from.instance;
  two = from.before;
  three = from.after;
  of_first = read_text first one reads from.instance from.of_first;
  of_second = read_text second two also from.before from.of_second;
  of_third = read_text third three too from.after from.of_third;
  are = from.compares;
}

-- the same of a front of it
pub of_three_front : (first second third : Known) (one two three old new : Option (List ℕ))
    → IsReaderOf first one → IsReaderOf second two → IsReaderOf third three
    → (text : List ℕ) × IsComparisonFrom one two three text × WritesFront old new text
    → OfThreeFiles first second third (λ a b c. ComparesFront a b c old new)
of_three_front first second third one two three old new reads also too (text, from, front) = record {
  one = from.instance;
  two = from.before;
  three = from.after;
  of_first = read_text first one reads from.instance from.of_first;
  of_second = read_text second two also from.before from.of_second;
  of_third = read_text third three too from.after from.of_third;
  are = (text, from.compares, front);
}

-- the first fault of three readers is that of their files
first_of_three : (first second third : Known) (one two three : Option (List ℕ))
    → IsReaderOf first one → IsReaderOf second two → IsReaderOf third three
    → (fault : CompareFault) → IfSome one (λ a. IfSome two (λ b. IfSome three (λ c.
    RefusesComparison a b c fault)))
    → IsFirstOfThree first second third fault
first_of_three None second third one two three reads also too fault refuses = tt
first_of_three (Some None) second third one two three reads also too fault refuses = absurd reads
first_of_three (Some (Some a)) None third one two three reads also too fault refuses = tt
first_of_three (Some (Some a)) (Some None) third one two three reads also too fault refuses =
    absurd also
first_of_three (Some (Some a)) (Some (Some b)) None one two three reads also too fault refuses = tt
first_of_three (Some (Some a)) (Some (Some b)) (Some None) one two three reads also too fault refuses =
    absurd too
first_of_three (Some (Some a)) (Some (Some b)) (Some (Some c)) one two three reads also too fault
    refuses =
    let one_known = subst (λ o. IfSome o (λ a. IfSome two (λ b. IfSome three (λ c.
    RefusesComparison a b c fault)))) reads refuses in
    let two_known = subst (λ o. IfSome o (λ b. IfSome three (λ c. RefusesComparison a b c fault)))
    also one_known in
    subst (λ o. IfSome o (λ c. RefusesComparison a b c fault)) too two_known

-- a file that can't be read is one of a reader that failed
may_not_read_one : (first second third : Known) (one two three : Option (List ℕ))
    → IsReaderOf first one → IsReaderOf second two → IsReaderOf third three
    → (fault : CompareFault)
    → MayNotReadOne (option_map Some one) (option_map Some two) (option_map Some three) fault
    → MayNotReadOne first second third fault
may_not_read_one first second third one two three reads also too (compare.Check of) may =
    may_not_read first second one two reads also of may
may_not_read_one first second third one two three reads also too compare.ReadAfter may =
    reader_may_fail third three too may
may_not_read_one first second third one two three reads also too (compare.After f) may = tt

-- the fault of three readers is that of their files
pub three_refused : (first second third : Known) (one two three : Option (List ℕ))
    → IsReaderOf first one → IsReaderOf second two → IsReaderOf third three
    → (fault : CompareFault) → IfSome one (λ a. IfSome two (λ b. IfSome three (λ c.
    RefusesComparison a b c fault)))
    → MayNotReadOne (option_map Some one) (option_map Some two) (option_map Some three) fault
    → IsCompareCause first second third fault
three_refused first second third one two three reads also too fault refuses may = (
  first_of_three first second third one two three reads also too fault refuses,
  may_not_read_one first second third one two three reads also too fault may,
)
