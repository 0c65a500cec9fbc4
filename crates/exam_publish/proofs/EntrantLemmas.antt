-- The entrants of one more exam, and the invariant of all entrants.
use Rattle.std.proofs.lemmas.Grind.{common_steps}
use Rattle.std.specs.List.{AllByRecursion, cons_option}
use Rattle.std.proofs.Common.{◌≡◌, ℕ, zero, suc, ◌+◌, ◌<◌, ◌≤◌, List, [], ◌∷◌, ◌++◌, length, map, take, Some, None, option_map, All, refl, ◌∙◌, ap₂, subst, arith, append-nil, slice_get}
use Rattle.std.proofs.lemmas.List.Elements.{filter_map-append, All-from_recursion, recursion_from_All}
use Rattle.exam_lists.proofs.Each.{each_weaker}
use Rattle.exam_lists.proofs.Filters.{length_filter_map-le}
use Rattle.exam_model.specs.Enrolments.{Enrolled, AreEnrolments, students}
use Rattle.exam_model.specs.Fits.{Fits, PlaceExists}
use Rattle.exam_model.specs.Instance.{Session, IsInstance}
use Rattle.exam_model.specs.Limits.{RoomInLimits}
use Rattle.exam_model.specs.Pairs.{Pair, pairs_at, pairs_of}
use Rattle.exam_model.specs.Timetable.{Placing, place_of}
use Rattle.exam_model.specs.declared.parts.Room.{Room}
use Rattle.exam_terms.specs.declared.place.Place.{Place}
use Rattle.exam_publish.specs.declared.entrants.Entrant.{Entrant}
use Rattle.exam_publish.specs.declared.seat_row.SeatRow.{SeatRow}
use Rattle.exam_publish.specs.Seating.{EntrantExists, KeepsOwnPlace, KeepsSmallSeat}
use Rattle.exam_publish.specs.Seats.{IsSeatOf, HasSeat}
use Rattle.exam_publish.specs.Entrants.{entrant, entrants}
use Rattle.exam_publish.proofs.SeatLemmas.{all_fair, each_entrant, from_within}
use Rattle.exam_publish.proofs.SeatingLemmas.{pairs_more, length_pairs}

entrants_at : (T : Placing) (old : List SeatRow) (e : ℕ) (at : Place)
    → place_of T e ≡ Some at → (xs : List ℕ)
    → entrants (pairs_at e xs) T old
    ≡ map (λ (s : ℕ). entrant old (record { exam = e; student = s }) at) xs
entrants_at T old e at here [] = refl
entrants_at T old e at here (x ∷ xs) =
    ap₂ (λ o ys. cons_option (option_map (entrant old (record { exam = e; student = x })) o) ys)
    here (entrants_at T old e at here xs)

entrants_nowhere : (T : Placing) (old : List SeatRow) (e : ℕ) → place_of T e ≡ None → (xs : List ℕ)
    → entrants (pairs_at e xs) T old ≡ []
entrants_nowhere T old e none [] = refl
entrants_nowhere T old e none (x ∷ xs) = grind (arith, entrants_nowhere T old e none xs)

split : (E : Enrolled) (T : Placing) (old : List SeatRow) (e : ℕ) → e < length E
    → entrants (pairs_of (take (e + 1) E)) T old
    ≡ entrants (pairs_of (take e E)) T old ++ entrants (pairs_at e (students E e)) T old
split E T old e lt = grind (arith, common_steps, pairs_more, filter_map-append)

pub exam_more : (E : Enrolled) (T : Placing) (old : List SeatRow) (e : ℕ) (at : Place)
    (xs more : List Entrant)
    → e < length E → place_of T e ≡ Some at
    → xs ≡ entrants (pairs_of (take e E)) T old → more
    ≡ xs ++ map (λ (s : ℕ). entrant old (record { exam = e; student = s }) at) (students E e)
    → more ≡ entrants (pairs_of (take (e + 1) E)) T old
exam_more E T old e at xs more lt here was added = grind (arith, entrants_at, split)

pub exam_nowhere : (E : Enrolled) (T : Placing) (old : List SeatRow) (e : ℕ) (xs : List Entrant)
    → e < length E → place_of T e ≡ None
    → xs ≡ entrants (pairs_of (take e E)) T old → xs ≡ entrants (pairs_of (take (e + 1) E)) T old
exam_nowhere E T old e xs lt none was = grind (arith, common_steps, split, entrants_nowhere, append-nil)

-- ---- all entrants

pub entrants_few : (E : Enrolled) (T : Placing) (old : List SeatRow) → AreEnrolments E
    → length (entrants (pairs_of E) T old) ≤ 200000
entrants_few E T old known =
    omega (arith, length_filter_map-le (λ (p : Pair). option_map (entrant old p) (place_of T p.exam)) (pairs_of E), length_pairs 0 E, known.pairs)

pub entrants_exist : (I : Session) (E : Enrolled) (T : Placing) (old : List SeatRow) → Fits I E T
    → All (EntrantExists I) (entrants (pairs_of E) T old)
entrants_exist I E T old fits =
    All-from_recursion (EntrantExists I) (entrants (pairs_of E) T old)
    (each_entrant (EntrantExists I) T old (pairs_of E)
    (each_weaker (λ (p : Pair). p.exam < length T)
    (λ (p : Pair). (at : Place) → place_of T p.exam
    ≡ Some at → EntrantExists I (entrant old p at))
    (λ p lt at here. (let place = subst (PlaceExists I) here (fits.places p.exam None lt) in
    record { period = place.0; room = place.1 }))
    (pairs_of E) (from_within (length T) 0 E (omega (arith, fits.timetable, fits.enrolments)))))

small_seat : (rooms : List Room) (r n : ℕ) → AllByRecursion RoomInLimits rooms
    → IsSeatOf (slice_get rooms r) n → n ≤ 100000
small_seat [] r n known h = absurd h
small_seat (x ∷ xs) zero n known h = let most : x.capacity ≤ 100000 = known.0.0 in
    let low : n ≤ x.capacity = h.1 in omega arith
small_seat (x ∷ xs) (suc r) n known h = small_seat xs r n known.1 h

pub entrants_keep : (I : Session) (T : Placing) (old : List SeatRow) (pairs : List Pair)
    → IsInstance I → All (HasSeat I) old → All KeepsSmallSeat (entrants pairs T old)
entrants_keep I T old pairs known within =
    grind (arith, common_steps, each_weaker, all_fair, small_seat, recursion_from_All)

pub entrants_placed : (T : Placing) (old : List SeatRow) (pairs : List Pair)
    → All KeepsOwnPlace (entrants pairs T old)
entrants_placed T old pairs = grind (arith, common_steps, each_weaker, all_fair)
