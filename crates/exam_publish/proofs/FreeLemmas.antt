-- The least number that is not taken, and the numbers that rows take in a room and period.
use Rattle.std.proofs.lemmas.Grind.{common_steps}
use Rattle.std.specs.List.{list_any, position_or_len, range_with_len}
use Rattle.std.proofs.Common.{◌≡◌, ℕ, ◌+◌, ◌-◌, ◌<◌, ◌≤◌, inl, inr, Bool, true, false, cond, ◌&&◌, ◌||◌, eqb, List, [], ◌∷◌, length, get_or, refl, sym, ◌∙◌, ap, ap₂, arith, rules, not}
use Rattle.std.proofs.lemmas.Bool.{cases_eq, cases_lt, eq-eqb, ne_eqb, not-false, false_from_ne_true, or_right, not-true}
use Rattle.std.proofs.lemmas.List.FromFn.{length-range_with_len}
use Rattle.std.proofs.lemmas.List.Sums.{position_or_len_is, fails_before_first, passes_at_first}
use Rattle.std.proofs.lemmas.Map.Steps.{le-length_from_below}
use Rattle.exam_lists.proofs.Booleans.{eqb_swap}
use Rattle.exam_lists.proofs.Searches.{position-le-length}
use Rattle.exam_lists.proofs.Ranges.{get_or_range_one}
use Rattle.exam_terms.specs.declared.place.Place.{Place}
use Rattle.exam_model.specs.Enrolments.{has_number}
use Rattle.exam_rules.specs.Places.{is_one_place}
use Rattle.exam_publish.specs.declared.seat_row.SeatRow.{SeatRow}
use Rattle.exam_publish.specs.Rows.{row_place}
use Rattle.exam_publish.specs.Seats.{seats_at, least_free}
use Rattle.exam_publish.specs.Seating.{IsLast}

-- ---- the least free number

pub record IsLeastFree (taken : List ℕ) (n : ℕ) : Type 0 where
  pub low : 1 ≤ n
  pub free : has_number taken n ≡ false
  pub below : (k : ℕ) → 1 ≤ k → k < n → has_number taken k ≡ true

any_turned : (k : ℕ) (xs : List ℕ) → list_any (eqb k) xs ≡ has_number xs k
any_turned k [] = refl
any_turned k (x ∷ xs) = ap₂ (λ a b. a || b) (eqb_swap k x) (any_turned k xs)

-- a list with all numbers from 1 to n has at least n elements
pub le_taken : (n : ℕ) (xs : List ℕ)
    → ((k : ℕ) → 1 ≤ k → k ≤ n → has_number xs k ≡ true) → n ≤ length xs
le_taken n xs h =
    let all = le-length_from_below (0 ∷ xs) (n + 1)
    (λ q lt. elim (cases_eq q 0) as (λ _. list_any (eqb q) (0 ∷ xs) ≡ true) [
      | inl none ↦ ap (λ b. b || list_any (eqb q) xs) (eq-eqb q 0 none)
      | inr some ↦ or_right (eqb q 0) (list_any (eqb q) xs)
          (any_turned q xs ∙ h q (omega arith) (omega arith))
    ]) in
    omega arith

abbrev is_free : List ℕ → ℕ → Bool
is_free taken k = not (has_number taken k)

pub is_least : (taken : List ℕ) (n : ℕ) → IsLeastFree taken n → n ≡ least_free taken
is_least taken n h =
    let m = length taken in
    let long = length-range_with_len 1 m in
    let low = h.low in
    let few : n - 1 ≤ m = le_taken (n - 1) taken (λ k a b. h.below k a (omega arith)) in
    let first = position_or_len_is (is_free taken) (range_with_len 1 m) (n - 1) 0 (omega arith)
    (λ k lt. ap (is_free taken) (get_or_range_one m k (omega arith))
    ∙ ap not (h.below (k + 1) (omega arith) (omega arith)))
    (λ lt. ap (is_free taken) (get_or_range_one m (n - 1) (omega arith))
    ∙ ap (is_free taken) (let e : n - 1 + 1 ≡ n = omega arith in e) ∙ ap not h.free) in
    omega arith

pub least_small : (taken : List ℕ) → least_free taken ≤ length taken + 1
least_small taken = grind (arith, common_steps, length-range_with_len, position-le-length)

least_below : (taken : List ℕ) (k : ℕ) → 1 ≤ k → k < least_free taken → has_number taken k ≡ true
least_below taken k low lt =
    let few = least_small taken in
    let n = length taken in
    let fails = fails_before_first (is_free taken) (range_with_len 1 n) (k - 1) 0 (omega arith) in
    let here : get_or (range_with_len 1 n) (k - 1) 0 ≡ k = search (rules, get_or_range_one) in
    not-false (has_number taken k) (ap (is_free taken) (sym here) ∙ fails)

least_free_is : (taken : List ℕ) → has_number taken (least_free taken) ≡ false
least_free_is taken =
    let n = length taken in
    let first = position_or_len (is_free taken) (range_with_len 1 n) in
    let long = length-range_with_len 1 n in
    let most = position-le-length (is_free taken) (range_with_len 1 n) in
    elim (cases_lt first n) as (λ _. has_number taken (first + 1) ≡ false) [
      | inl less ↦
          not-true (has_number taken (first + 1))
          (ap (is_free taken) (sym (get_or_range_one n first less))
          ∙ passes_at_first (is_free taken) (range_with_len 1 n) 0 (omega arith))
      | inr past ↦
          false_from_ne_true (has_number taken (first + 1))
          (λ more. past_all taken (first + 1)
          (λ k a lt. least_below taken k a lt) more (omega arith))
    ]
  where
    past_all : (taken : List ℕ) (m : ℕ) → ((k : ℕ) → 1 ≤ k → k < m → has_number taken k ≡ true)
        → has_number taken m ≡ true → length taken < m → ⊥
    past_all taken m below here beyond =
        let all = le_taken m taken
        (λ k a le. elim (cases_eq k m) as (λ _. has_number taken k ≡ true) [
          | inl same ↦ ap (has_number taken) same ∙ here
          | inr other ↦ below k a (omega arith)
        ]) in
        absurd (omega arith)

pub least_is : (taken : List ℕ) → IsLeastFree taken (least_free taken)
least_is taken = record { low = omega arith; free = least_free_is taken; below = least_below taken }

-- ---- the numbers that rows take

pub length_seats : (at : Place) (r : SeatRow) (rs : List SeatRow)
    → length (seats_at at (r ∷ rs))
    ≡ cond (is_one_place at (row_place r)) 1 0 + length (seats_at at rs)
length_seats at r rs = grind (arith, common_steps)

pub has_seats : (at : Place) (r : SeatRow) (rs : List SeatRow) (n : ℕ)
    → has_number (seats_at at (r ∷ rs)) n
    ≡ ((is_one_place at (row_place r) && eqb r.seat n) || has_number (seats_at at rs) n)
has_seats at r rs n = grind (arith, common_steps)

pub still_taken : (at : Place) (r : SeatRow) (rs : List SeatRow) (n : ℕ)
    → has_number (seats_at at rs) n ≡ true → has_number (seats_at at (r ∷ rs)) n ≡ true
still_taken at r rs n h = grind (arith, has_seats, or_right)

-- ---- the last assigned seat

-- n is the first seat after the last one that no kept row has
pub record IsNext (kept : List SeatRow) (at : Place) (last n : ℕ) : Type 0 where
  pub beyond : last < n
  pub free : has_number (seats_at at kept) n ≡ false
  pub between : (k : ℕ) → last < k → k < n → has_number (seats_at at kept) k ≡ true

pub is_next : (kept current : List SeatRow) (at : Place) (last n : ℕ)
    → IsLast kept current at last → IsNext kept at last n → n ≡ least_free (seats_at at current)
is_next kept current at last n was next = grind (arith, common_steps, is_least, cases_lt)

pub last_here : (kept current : List SeatRow) (at : Place) (last n : ℕ) (r : SeatRow)
    → IsLast kept current at last → IsNext kept at last n
    → is_one_place at (row_place r) ≡ true → r.seat ≡ n → IsLast kept (r ∷ current) at n
last_here kept current at last n r was next here is = record {
  all = λ k low le. elim (cases_eq n k) as (λ _. has_number (seats_at at (r ∷ current)) k ≡ true) [
    | inl same ↦ has_seats at r current k
        ∙ ap (λ b. b || has_number (seats_at at current) k)
        (ap (λ b. b && eqb r.seat k) here ∙ eq-eqb r.seat k (is ∙ same))
    | inr other ↦ still_taken at r current k
        (elim (cases_lt last k) as (λ _. has_number (seats_at at current) k ≡ true) [
          | inl past ↦ was.beyond k past ∙ next.between k past (omega arith)
          | inr within ↦ was.all k low within
        ])
  ];
  beyond = grind (arith, common_steps, has_seats, ne_eqb);
}

-- a row elsewhere changes nothing
pub last_there : (kept current : List SeatRow) (at : Place) (last : ℕ) (r : SeatRow)
    → IsLast kept current at last → is_one_place at (row_place r) ≡ false
    → IsLast kept (r ∷ current) at last
last_there kept current at last r was there = grind (arith, common_steps, has_seats)
