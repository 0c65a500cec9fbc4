-- The order of pairs of exams.
use Rattle.std.proofs.lemmas.Grind.{common_steps}
use Rattle.std.specs.Ordering.{eq_by_cmp}
use Rattle.std.specs.Cmp.{IsTotalOrder, IsEquivalence}
use Rattle.std.proofs.lemmas.Bool.Decides.{nat_tests}
use Rattle.std.proofs.lemmas.Bool.{and_parts}
use Rattle.std.proofs.Common.{eqb, ◌&&◌, eqb-true, ◌≡◌, Bool, true, arith}
use Rattle.exam_rules.specs.Breach.{exam_pair_cmp}
use Rattle.exam_rules.specs.declared.exam_pair.ExamPair.{ExamPair}

pub exam_pair_cmp_total : IsTotalOrder exam_pair_cmp
exam_pair_cmp_total = grind (arith, common_steps)

-- ---- equality of pairs

-- what `==` of two pairs computes
abbrev pub exam_pair_eq : ExamPair → ExamPair → Bool
exam_pair_eq a b = eqb a.exam b.exam && eqb a.other b.other

pub ties : (a b : ExamPair) → exam_pair_eq a b ≡ eq_by_cmp exam_pair_cmp a b
ties a b = grind (arith, nat_tests)

pub same_pair : IsEquivalence exam_pair_eq × ((a b : ExamPair) → exam_pair_eq a b ≡ true → a ≡ b)
same_pair = (
  record { refl = λ a. own a; symm = λ a b. turned a b; congr = λ a b c h. along a b c h },
  λ a b h. fields a b (eqb-true a.exam b.exam (and_parts _ _ h).0)
      (eqb-true a.other b.other (and_parts _ _ h).1),
)
  where
    own : (a : ExamPair) → exam_pair_eq a a ≡ true
    own a = grind (arith, nat_tests)

    turned : (a b : ExamPair) → exam_pair_eq a b ≡ exam_pair_eq b a
    turned a b = grind (arith, nat_tests)

    along : (a b c : ExamPair) → exam_pair_eq a b ≡ true → exam_pair_eq a c ≡ exam_pair_eq b c
    along a b c h = grind (arith, nat_tests)

    fields : (a b : ExamPair) → a.exam ≡ b.exam → a.other ≡ b.other → a ≡ b
    fields a b e f = λ i. record { exam = e i; other = f i }
