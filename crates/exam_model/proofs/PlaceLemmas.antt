-- The index of a place in a table with a row of rooms for each period, and the numbers of periods.
use Rattle.std.proofs.Common.{◌≡◌, ℕ, ◌*◌, ◌<◌, List, None, length, map, ap, ◌∙◌, arith, mul_comm}
use Rattle.std.specs.Prelude.{slice_index}
use Rattle.std.proofs.lemmas.List.{get_or-map}
use Rattle.std.proofs.lemmas.Nat.{mul-add-lt}
use Rattle.exam_terms.specs.declared.place.Place.{Place}
use Rattle.exam_model.specs.Fits.{slot_of}
use Rattle.exam_model.specs.Timetable.{Placing, period_number, place_of}

-- the index is within the table
pub slot_within : (periods rooms : ℕ) (p : Place) → p.period < periods → p.room < rooms
    → slot_of rooms p < periods * rooms
slot_within periods rooms p hp hr = grind (arith, mul-add-lt, mul_comm)

-- the number of an exam's period in the list of all exams' numbers
pub number_at : (T : Placing) (numbers : List ℕ) (e : ℕ) → numbers ≡ map period_number T
    → e < length T → slice_index numbers e ≡ period_number (place_of T e)
number_at T numbers e are lt =
    ap (λ xs. slice_index xs e) are ∙ get_or-map period_number T e None 0 lt
