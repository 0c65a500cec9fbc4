-- Enrolments as one list of pairs, by exam and then by student.
use Rattle.std.specs.Prelude.{◌≡◌, ℕ, ◌+◌, ◌<◌, ◌⊎◌, Bool, ◌&&◌, ◌==◌, List, [], ◌∷◌, ◌++◌, map, length, count_by, AllPairs}
use Rattle.std.specs.List.{list_any}
use Rattle.exam_model.specs.Enrolments.{Enrolled, has, size_of, shared_students, pair_count}

-- a student and an exam that they sit
pub record Pair : Type 0 where
  pub exam : ℕ
  pub student : ℕ

-- the pairs of one exam: one for each of its students
abbrev pub pairs_at : ℕ → List ℕ → List Pair
pairs_at e students = map (λ s. record { exam = e; student = s }) students

-- the pairs of the exams from number e on
abbrev pub pairs_from : ℕ → Enrolled → List Pair
pairs_from e [] = []
pairs_from e (students ∷ rest) = pairs_at e students ++ pairs_from (e + 1) rest

-- all pairs, by exam and then by student
abbrev pub pairs_of : Enrolled → List Pair
pairs_of E = pairs_from 0 E

-- whether it is the pair of s and e
abbrev pub is_pair : ℕ → ℕ → Pair → Bool
is_pair s e p = (p.student == s) && (p.exam == e)

-- p has a smaller exam than q, or the same exam and a smaller student
abbrev pub ComesBefore : Pair → Pair → Type 0
ComesBefore p q = (p.exam < q.exam) ⊎ ((p.exam ≡ q.exam) × (p.student < q.student))

-- each pair comes before all later ones, so no pair is there twice
abbrev pub AreInOrder : List Pair → Type 0
AreInOrder pairs = AllPairs ComesBefore pairs

-- the list of pairs represents the set
pub record ArePairsOf (E : Enrolled) (pairs : List Pair) : Type 0 where
  pub members : (s e : ℕ) → list_any (is_pair s e) pairs ≡ has E s e
  pub count : length pairs ≡ pair_count E
  pub sizes : (e : ℕ) → count_by (λ p. p.exam == e) pairs ≡ size_of E e
  pub sharing : (e f : ℕ) → count_by (λ p. (p.exam == e) && has E p.student f) pairs
      ≡ shared_students E e f
  pub ordered : AreInOrder pairs
