-- A timetable with these places.
use Rattle.std.proofs.Common.{◌≡◌, ℕ, suc, ◌<◌, List, [], ◌∷◌, length, Some, refl, arith}
use Rattle.std.specs.Prelude.{map, slice_get}
use Rattle.exam_model.specs.Timetable.{Placing, place_of}
use Rattle.exam_terms.specs.declared.place.Place.{Place}

-- each exam has its place from the list
pub all_placed : (T : Placing) (places : List Place) → length T ≡ length places
    → ((k : ℕ) → k < length places → place_of T k ≡ slice_get places k) → T ≡ map Some places
all_placed [] [] same at = refl
all_placed [] (p ∷ ps) same at = absurd (omega arith)
all_placed (o ∷ os) [] same at = absurd (omega arith)
all_placed (o ∷ os) (p ∷ ps) same at =
    let head : o ≡ Some p = at 0 (omega arith) in
    let tail = all_placed os ps (omega arith) (λ k lt. at (suc k) (omega arith)) in
    cc
