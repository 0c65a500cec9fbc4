-- The kept seats of entrants in the list of held seats.
use Rattle.std.proofs.lemmas.Grind.{common_steps}
use Rattle.std.specs.List.{AllByRecursion, cons_option, list_any}
use Rattle.std.proofs.Common.{◌≡◌, ℕ, ◌+◌, ◌<◌, ◌≤◌, Bool, true, false, cond, ◌&&◌, ◌||◌, eqb, List, [], ◌∷◌, ◌++◌, length, filter, map, take, get_or, Some, None, All, IsPermutation, IsSorted, refl, sym, ◌∙◌, ap, ap₂, subst, arith, append-nil}
use Rattle.std.proofs.lemmas.Bool.{false_from_ne_true, true≢false}
use Rattle.std.proofs.lemmas.List.{take_more}
use Rattle.std.proofs.lemmas.List.Elements.{filter-append, filter_map-append, All-from_recursion, recursion_from_All}
use Rattle.std.proofs.lemmas.List.Sorted.{list_any-IsPermutation, All-permutation}
use Rattle.std.proofs.lemmas.Bool.Decides.{nat_tests}
use Rattle.exam_lists.proofs.Each.{each_filter, each_map}
use Rattle.exam_terms.specs.declared.place.Place.{Place}
use Rattle.exam_model.specs.Enrolments.{has_number}
use Rattle.exam_model.specs.Fits.{slot_of}
use Rattle.exam_rules.specs.Places.{is_one_place}
use Rattle.exam_publish.specs.declared.entrants.Entrant.{Entrant}
use Rattle.exam_publish.specs.declared.held.Held.{Held}
use Rattle.exam_publish.specs.declared.seat_row.SeatRow.{SeatRow}
use Rattle.exam_publish.specs.Rows.{row_place}
use Rattle.exam_publish.specs.Seating.{is_held, compare_held, AreHeld, AreNeeded, KeepsSmallSeat}
use Rattle.exam_publish.specs.Seats.{seats_at}
use Rattle.exam_publish.specs.Entrants.{old_rows}
use Rattle.exam_publish.proofs.FreeLemmas.{has_seats}
use Rattle.exam_publish.proofs.SeatLemmas.{one_place}

abbrev pub row_seat : SeatRow → Held
row_seat row = record { period = row.period; room = row.room; seat = row.seat }

one_more : (xs : List Entrant) (i : ℕ) (x : Entrant) → i < length xs → x ≡ get_or xs i x
    → old_rows (take (i + 1) xs) ≡ old_rows (take i xs) ++ cons_option x.kept []
one_more xs i x lt is = grind (arith, common_steps, filter_map-append, take_more)

map-push : (rows : List SeatRow) (row : SeatRow)
    → map row_seat (rows ++ row ∷ []) ≡ map row_seat rows ++ row_seat row ∷ []
map-push [] row = refl
map-push (r ∷ rs) row = ap (λ hs. row_seat r ∷ hs) (map-push rs row)

-- whether the seat of a row is needed
abbrev pub is_needed : List Bool → ℕ → SeatRow → Bool
is_needed needed rooms row = get_or needed (slot_of rooms (row_place row)) false

-- the kept seats that are needed
abbrev pub held_rows : List Bool → ℕ → List Entrant → List Held
held_rows needed rooms xs = map row_seat (filter (is_needed needed rooms) (old_rows xs))

one_kept : (needed : List Bool) (rooms : ℕ) (xs : List Entrant) (i : ℕ) (x : Entrant)
    (row : SeatRow) (b : Bool)
    → i < length xs → x ≡ get_or xs i x → x.kept ≡ Some row → is_needed needed rooms row ≡ b
    → held_rows needed rooms (take (i + 1) xs)
    ≡ map row_seat (filter (is_needed needed rooms) (old_rows (take i xs)) ++ cond b (row ∷ []) [])
one_kept needed rooms xs i x row b lt is keeps needs =
    ap (λ rs. map row_seat (filter (is_needed needed rooms) rs))
    (one_more xs i x lt is ∙ ap (λ o. old_rows (take i xs) ++ cons_option o []) keeps)
    ∙ ap (map row_seat)
    (filter-append (is_needed needed rooms) (old_rows (take i xs)) (row ∷ [])
    ∙ ap (λ b. filter (is_needed needed rooms) (old_rows (take i xs)) ++ cond b (row ∷ []) []) needs)

there : (needed : List Bool) (rooms : ℕ) (x : Entrant) (row : SeatRow) (b : Bool)
    → row_place row ≡ x.place → get_or needed (slot_of rooms x.place) false ≡ b
    → is_needed needed rooms row ≡ b
there needed rooms x row b placed h =
    ap (λ at. get_or needed (slot_of rooms at) false) placed ∙ h

pub held_more : (needed : List Bool) (rooms : ℕ) (xs : List Entrant) (i : ℕ) (x : Entrant)
    (row : SeatRow) (held more : List Held)
    → i < length xs → x ≡ get_or xs i x → x.kept ≡ Some row → row_place row ≡ x.place
    → get_or needed (slot_of rooms x.place) false ≡ true
    → held ≡ held_rows needed rooms (take i xs) → more ≡ held ++ row_seat row ∷ []
    → more ≡ held_rows needed rooms (take (i + 1) xs)
held_more needed rooms xs i x row held more lt is keeps placed needs was added =
    added ∙ ap (λ hs. hs ++ row_seat row ∷ []) was
    ∙ sym (one_kept needed rooms xs i x row true lt is keeps
    (there needed rooms x row true placed needs)
    ∙ map-push (filter (is_needed needed rooms) (old_rows (take i xs))) row)

pub held_left : (needed : List Bool) (rooms : ℕ) (xs : List Entrant) (i : ℕ) (x : Entrant)
    (row : SeatRow) (held : List Held)
    → i < length xs → x ≡ get_or xs i x → x.kept ≡ Some row → row_place row ≡ x.place
    → get_or needed (slot_of rooms x.place) false ≡ false
    → held ≡ held_rows needed rooms (take i xs) → held ≡ held_rows needed rooms (take (i + 1) xs)
held_left needed rooms xs i x row held lt is keeps placed needs was =
    was
    ∙ sym (one_kept needed rooms xs i x row false lt is keeps
    (there needed rooms x row false placed needs)
    ∙ ap (map row_seat) (append-nil (filter (is_needed needed rooms) (old_rows (take i xs)))))

pub held_same : (needed : List Bool) (rooms : ℕ) (xs : List Entrant) (i : ℕ) (x : Entrant)
    (held : List Held)
    → i < length xs → x ≡ get_or xs i x → x.kept ≡ None
    → held ≡ held_rows needed rooms (take i xs) → held ≡ held_rows needed rooms (take (i + 1) xs)
held_same needed rooms xs i x held lt is keeps was =
    was ∙ sym (ap (λ rs. map row_seat (filter (is_needed needed rooms) rs))
    (one_more xs i x lt is ∙ ap (λ o. old_rows (take i xs) ++ cons_option o []) keeps
    ∙ append-nil (old_rows (take i xs))))

members : (needed : List Bool) (rooms : ℕ) (at : Place) (n : ℕ)
    → get_or needed (slot_of rooms at) false ≡ true → (rows : List SeatRow)
    → list_any (is_held at n) (map row_seat (filter (is_needed needed rooms) rows))
    ≡ has_number (seats_at at rows) n
members needed rooms at n needs [] = refl
members needed rooms at n needs (r ∷ rs) =
    go (is_needed needed rooms r) refl (members needed rooms at n needs rs) ∙ sym (has_seats at r rs n)
  where
    one : is_held at n (row_seat r) ≡ (is_one_place at (row_place r) && eqb r.seat n)
    one = grind (arith, nat_tests)

    away : is_needed needed rooms r ≡ false → is_one_place at (row_place r) ≡ false
    away not_there = false_from_ne_true (is_one_place at (row_place r)) (λ here.
        true≢false (sym (ap (λ q. get_or needed (slot_of rooms q) false) (one_place at (row_place r) here)
        ∙ needs) ∙ not_there))

    go : (b : Bool) → is_needed needed rooms r ≡ b
        → list_any (is_held at n) (map row_seat (filter (is_needed needed rooms) rs))
        ≡ has_number (seats_at at rs) n
        → list_any (is_held at n)
        (map row_seat (cond b (r ∷ filter (is_needed needed rooms) rs)
        (filter (is_needed needed rooms) rs)))
        ≡ ((is_one_place at (row_place r) && eqb r.seat n) || has_number (seats_at at rs) n)
    go true needed more = ap₂ (λ a b. a || b) one more
    go false not_there more =
        more ∙ sym (ap (λ b. (b && eqb r.seat n) || has_number (seats_at at rs) n) (away not_there))

small : (xs : List Entrant) → AllByRecursion KeepsSmallSeat xs
    → AllByRecursion (λ (row : SeatRow). row.seat ≤ 100000) (old_rows xs)
small [] h = tt
small (x ∷ xs) h = grind (arith, common_steps, small xs h.1)

pub are_held : (needed : List Bool) (periods rooms : ℕ) (xs : List Entrant)
    (held sorted : List Held)
    → All KeepsSmallSeat xs → AreNeeded periods rooms xs (length xs) needed
    → held ≡ held_rows needed rooms xs → IsPermutation held sorted → IsSorted compare_held sorted
    → AreHeld xs sorted
are_held needed periods rooms xs held sorted keep needs is moved order = record {
  members = λ j x lt at none n.
      sym (list_any-IsPermutation (is_held x.place n) held sorted moved)
      ∙ ap (list_any (is_held x.place n)) is
      ∙ members needed rooms x.place n (needs.each j x lt lt at none) (old_rows xs);
  sorted = order;
  small = All-permutation (λ (h : Held). h.seat ≤ 100000) held sorted moved
      (subst (All (λ (h : Held). h.seat ≤ 100000)) (sym is)
      (All-from_recursion (λ (h : Held). h.seat ≤ 100000) (held_rows needed rooms xs)
      (each_map (λ (h : Held). h.seat ≤ 100000) row_seat
      (filter (is_needed needed rooms) (old_rows xs))
      (each_filter (λ (row : SeatRow). row.seat ≤ 100000) (is_needed needed rooms) (old_rows xs)
      (small xs (recursion_from_All KeepsSmallSeat xs keep))))));
}

-- ---- the places at which a seat is needed
