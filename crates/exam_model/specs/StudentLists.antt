-- One exam's students, ascending, before and after one is added or removed.
use Rattle.std.specs.Prelude.{◌≡◌, ℕ, ◌+◌, ◌<◌, ◌≤◌, not, ◌&&◌, ◌||◌, ◌==◌, if◌then◌else◌, List, length, slice_index}
use Rattle.exam_model.specs.Enrolments.{IsAscending, has_number}

-- student s is at index i of the list
pub record IsAt (xs : List ℕ) (s i : ℕ) : Type 0 where
  pub within : i < length xs
  pub here : slice_index xs i ≡ s

-- student s would go at index i: smaller numbers in front of it, and greater ones from it on
pub record IsGap (xs : List ℕ) (s i : ℕ) : Type 0 where
  pub within : i ≤ length xs
  pub before : (k : ℕ) → k < i → slice_index xs k < s
  pub after : (k : ℕ) → i ≤ k → k < length xs → s < slice_index xs k

-- new is the list old with the student added
pub record Enters (old new : List ℕ) (s : ℕ) : Type 0 where
  pub members : (t : ℕ) → has_number new t ≡ ((s == t) || has_number old t)
  pub size : length new ≡ (if has_number old s then length old else length old + 1)
  pub ascending : IsAscending new

-- new is the list old with the student removed
pub record Leaves (old new : List ℕ) (s : ℕ) : Type 0 where
  pub members : (t : ℕ) → has_number new t ≡ (not (s == t) && has_number old t)
  pub size : length old ≡ (if has_number old s then length new + 1 else length new)
  pub ascending : IsAscending new
