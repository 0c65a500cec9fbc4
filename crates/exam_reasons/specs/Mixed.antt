-- How many exams a room has in each period.
use Rattle.std.specs.Prelude.{◌≡◌, ℕ, ◌<◌, List, length, slice_index}
use Rattle.exam_model.specs.Sums.{count_below}
use Rattle.exam_model.specs.Timetable.{Placing, place_of}
use Rattle.exam_score.specs.MixedDurations.{is_at}

-- how many of the exams below n are in a period and room
abbrev pub exams_below : Placing → ℕ → ℕ → ℕ → ℕ
exams_below T p r n = count_below n (λ e. is_at p r (place_of T e))

-- each period's number of exams in room r, of those below n
abbrev pub AreCounted : Placing → ℕ → ℕ → List ℕ → Type 0
AreCounted T r n counts = (p : ℕ) → p < length counts → slice_index counts p ≡ exams_below T p r n
