-- The sizes of exams as a list.
use Rattle.std.specs.Prelude.{◌≡◌, ℕ, ◌<◌, ◌≤◌, Bool, ◌&&◌, ◌||◌, ◌==◌, nat_lt, nat_le, count_by, if◌then◌else◌, IfSome, List, Option, length, slice_index, take}
use Rattle.exam_model.specs.Enrolments.{Enrolled, size_of}
use Rattle.exam_model.specs.Instance.{Session}
use Rattle.exam_model.specs.Sums.{count_below}
use Rattle.exam_terms.specs.declared.place.Place.{Place}
use Rattle.exam_score.specs.FrontLoad.{is_late}
use Rattle.exam_score.specs.declared.front.Bar.{Bar}

-- the number of students of each exam, in the order of the exams
pub record AreSizes (E : Enrolled) (sizes : List ℕ) : Type 0 where
  pub count : length sizes ≡ length E
  pub each : (e : ℕ) → e < length sizes → slice_index sizes e ≡ size_of E e

-- exam f is larger than e: more students, or equally many and a smaller number
abbrev pub is_larger_by : List ℕ → ℕ → ℕ → Bool
is_larger_by sizes f e =
    nat_lt (slice_index sizes e) (slice_index sizes f)
    || ((slice_index sizes f == slice_index sizes e) && nat_lt f e)

-- the bar of the n largest exams: it counts those above it, at most n, and at least n reach it
pub record IsBar (sizes : List ℕ) (most : ℕ) (bar : Bar) : Type 0 where
  pub counted : bar.above ≡ count_by (λ x. nat_lt bar.size x) sizes
  pub few : bar.above ≤ length sizes
  pub above : bar.above ≤ most
  pub reached : most ≤ count_by (λ x. nat_le bar.size x) sizes

-- so many exams before this one are of the bar's size, if there is a bar
pub record AreTies (sizes : List ℕ) (bar : Option Bar) (ties e : ℕ) : Type 0 where
  pub count : IfSome bar (λ b. ties ≡ count_by (λ x. x == b.size) (take e sizes))
  pub few : ties ≤ e

-- what an exam makes of the front load, by the sizes
abbrev pub front_by : Session → List ℕ → Option Place → ℕ → ℕ
front_by I sizes at e =
    if nat_lt (count_below (length sizes) (λ f. is_larger_by sizes f e)) I.weights.front_exams
    && is_late I at
    then I.weights.front else 0
