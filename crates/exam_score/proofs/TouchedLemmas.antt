-- The number of durations at a place, with one more exam.
use Rattle.std.proofs.Common.{◌≡◌, ◌≢◌, ℕ, zero, suc, ◌+◌, ◌<◌, ◌≤◌, Bool, true, false, cond, not, ◌&&◌, eqb, List, [], ◌∷◌, length, get_or, set, refl, ◌∙◌, ap, arith, add-zero}
use Rattle.std.specs.Prelude.{slice_get, nat_lt}
use Rattle.std.specs.List.{AllByRecursion}
use Rattle.std.proofs.lemmas.List.Elements.{recursion_from_All}
use Rattle.std.proofs.lemmas.Bool.Decides.{nat_tests}
use Rattle.exam_lists.proofs.Searches.{get_or_set_true}
use Rattle.exam_model.specs.Instance.{Session, IsInstance}
use Rattle.exam_model.specs.Limits.{ExamInLimits}
use Rattle.exam_model.specs.declared.parts.Exam.{Exam}
use Rattle.exam_model.specs.Sums.{count_below}
use Rattle.exam_model.specs.Timetable.{Placing, place_of}
use Rattle.exam_model.proofs.SumLemmas.{sum_below-same, sum_below-within, sum_below_more}
use Rattle.exam_score.specs.MixedDurations.{duration_count, is_at, has_duration, minutes_of}

-- one number more passes
flipped : (n : ℕ) (f g : ℕ → Bool) (k : ℕ) → k < n → f k ≡ false → g k ≡ true
    → ((m : ℕ) → m ≢ k → g m ≡ f m) → count_below n g ≡ count_below n f + 1
flipped zero f g k lt off on same = absurd (omega arith)
flipped (suc n) f g k lt off on same = go (eqb k n) refl (λ less. flipped n f g k less off on same)
  where
    go : (b : Bool) → eqb k n ≡ b → (k < n → count_below n g ≡ count_below n f + 1)
        → count_below (suc n) g ≡ count_below (suc n) f + 1
    go true e below_it = grind (arith, sum_below-within)
    go false e below_it = grind (arith)

-- one more of them at x, if the exam is here
one_more : (here : Bool) (x n : ℕ) (counts : ℕ → ℕ) → x < n
    → count_below n (λ m. nat_lt 0 (counts m + cond (here && eqb x m) 1 0))
    ≡ count_below n (λ m. nat_lt 0 (counts m)) + cond (here && not (nat_lt 0 (counts x))) 1 0
one_more false x n counts lt = grind (arith, add-zero, sum_below-same)
one_more true x n counts lt = go (nat_lt 0 (counts x)) refl
  where
    go : (b : Bool) → nat_lt 0 (counts x) ≡ b
        → count_below n (λ m. nat_lt 0 (counts m + cond (eqb x m) 1 0))
        ≡ count_below n (λ m. nat_lt 0 (counts m)) + cond (not b) 1 0
    go true e = grind (arith, add-zero, sum_below-same)
    go false e =
        flipped n (λ m. nat_lt 0 (counts m)) (λ m. nat_lt 0 (counts m + cond (eqb x m) 1 0)) x lt e
        (here_now) (λ m ne. ap (λ b. nat_lt 0 (counts m + cond b 1 0))
        (let k : eqb x m ≡ false = grind (arith, nat_tests) in k)
        ∙ ap (nat_lt 0) (add-zero (counts m)))
      where
        here_now : nat_lt 0 (counts x + cond (eqb x x) 1 0) ≡ true
        here_now = grind (arith, nat_tests)

of_exam : (xs : List Exam) → AllByRecursion ExamInLimits xs → (i : ℕ)
    → minutes_of (slice_get xs i) ≤ 1440
of_exam [] h i = omega arith
of_exam (x ∷ xs) h zero = h.0
of_exam (x ∷ xs) h (suc i) = of_exam xs h.1 i

-- no exam lasts longer than a day
pub minutes_short : (I : Session) (e : ℕ) → IsInstance I
    → minutes_of (slice_get I.exams e) < duration_count
unfolding duration_count
minutes_short I e known = grind (arith, of_exam, recursion_from_All)

-- one more exam
pub durations_more : (I : Session) (T : Placing) (p r e : ℕ)
    → minutes_of (slice_get I.exams e) < duration_count
    → count_below duration_count (λ m. nat_lt 0 (count_below (e + 1) (has_duration I T p r m)))
    ≡ count_below duration_count (λ m. nat_lt 0 (count_below e (has_duration I T p r m)))
    + cond (is_at p r (place_of T e)
    && not (nat_lt 0 (count_below e (has_duration I T p r (minutes_of (slice_get I.exams e)))))) 1 0
durations_more I T p r e short =
    sum_below-same _ _
    (λ m. ap (λ k. cond (nat_lt 0 k) 1 0)
    (sum_below_more (λ e. cond (has_duration I T p r m e) 1 0) e))
    duration_count
    ∙ one_more (is_at p r (place_of T e)) (minutes_of (slice_get I.exams e)) duration_count
    (λ m. count_below e (has_duration I T p r m)) short

-- none passes before the first exam
pub durations_none : (I : Session) (T : Placing) (p r : ℕ)
    → count_below duration_count (λ m. nat_lt 0 (count_below 0 (has_duration I T p r m))) ≡ 0
durations_none I T p r = none duration_count
  where
    none : (n : ℕ) → count_below n (λ m. false) ≡ 0
    none zero = refl
    none (suc n) = omega (arith, none n)

-- ---- the durations that are marked

-- an exam that is placed here marks its duration
pub marked_here : (I : Session) (T : Placing) (p r e m : ℕ) (before : List Bool)
    → minutes_of (slice_get I.exams e) < length before → is_at p r (place_of T e) ≡ true
    → get_or before m false ≡ nat_lt 0 (count_below e (has_duration I T p r m))
    → get_or (set before (minutes_of (slice_get I.exams e)) true) m false
    ≡ nat_lt 0 (count_below (e + 1) (has_duration I T p r m))
marked_here I T p r e m before lt here known = grind (arith, get_or_set_true, sum_below_more)

-- an exam that is placed elsewhere marks none
pub marked_elsewhere : (I : Session) (T : Placing) (p r e m : ℕ) (before : List Bool)
    → is_at p r (place_of T e) ≡ false
    → get_or before m false ≡ nat_lt 0 (count_below e (has_duration I T p r m))
    → get_or before m false ≡ nat_lt 0 (count_below (e + 1) (has_duration I T p r m))
marked_elsewhere I T p r e m before here known = grind (arith, add-zero, sum_below_more)
