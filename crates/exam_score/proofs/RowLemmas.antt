-- The rows of a timetable, with one more exam.
use Rattle.std.proofs.Common.{◌≡◌, ℕ, ◌+◌, ◌<◌, ◌≤◌, List, [], ◌∷◌, ◌++◌, length, take, map, filter_map, Some, None, refl, ◌∙◌, arith, append-nil}
use Rattle.std.proofs.lemmas.List.Elements.{filter_map-append}
use Rattle.exam_model.specs.Enrolments.{Enrolled, students}
use Rattle.exam_model.specs.Pairs.{Pair, pairs_at, pairs_of}
use Rattle.exam_model.proofs.PairLemmas.{pairs_more}
use Rattle.exam_model.specs.Timetable.{Placing}
use Rattle.exam_model.specs.Fits.{period_of}
use Rattle.exam_score.specs.Rows.{row_of, row_at}

rows_at_some : (T : Placing) (e p : ℕ) → period_of T e ≡ Some p → (xs : List ℕ)
    → filter_map (row_of T) (pairs_at e xs) ≡ map (row_at p) xs
rows_at_some T e p is [] = refl
rows_at_some T e p is (x ∷ xs) = grind (arith, rows_at_some T e p is xs)

rows_at_none : (T : Placing) (e : ℕ) → period_of T e ≡ None → (xs : List ℕ)
    → filter_map (row_of T) (pairs_at e xs) ≡ []
rows_at_none T e is [] = refl
rows_at_none T e is (x ∷ xs) = grind (arith, rows_at_none T e is xs)

-- the rows of a placed exam come after those of the exams before it
pub rows_more_some : (E : Enrolled) (T : Placing) (e p : ℕ) → e < length E → period_of T e ≡ Some p
    → filter_map (row_of T) (pairs_of (take (e + 1) E))
    ≡ filter_map (row_of T) (pairs_of (take e E)) ++ map (row_at p) (students E e)
rows_more_some E T e p lt is = grind (arith, filter_map-append, pairs_more, rows_at_some)

-- an exam that is not placed has no rows
pub rows_more_none : (E : Enrolled) (T : Placing) (e : ℕ) → e < length E → period_of T e ≡ None
    → filter_map (row_of T) (pairs_of (take (e + 1) E))
    ≡ filter_map (row_of T) (pairs_of (take e E))
rows_more_none E T e lt is = grind (arith, append-nil, filter_map-append, pairs_more, rows_at_none)

-- there are at most as many rows as pairs
pub rows_few : (T : Placing) (pairs : List Pair)
    → length (filter_map (row_of T) pairs) ≤ length pairs
rows_few T [] = omega arith
rows_few T (p ∷ ps) = grind (arith, rows_few T ps)
