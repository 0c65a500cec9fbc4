-- The exams of each period.
use Rattle.std.specs.Prelude.{◌≡◌, ℕ, ◌<◌, Bool, ◌&&◌, ◌==◌, nat_lt, List, [], length, slice_index_or}
use Rattle.exam_model.specs.Enrolments.{has_number}
use Rattle.exam_model.specs.Timetable.{Placing, place_of}
use Rattle.exam_rules.specs.Places.{place_satisfies}

-- whether the exam is in period p
abbrev pub is_placed_in : Placing → ℕ → ℕ → Bool
is_placed_in T p e = place_satisfies (λ q. p == q.period) (place_of T e)

-- the lists have, period by period, the exams below i that are in it
pub record AreGroups (T : Placing) (periods i : ℕ) (groups : List (List ℕ)) : Type 0 where
  pub count : length groups ≡ periods
  pub members : (p e : ℕ) → p < periods
      → has_number (slice_index_or groups p []) e ≡ (nat_lt e i && is_placed_in T p e)
