-- Facts about all seats: each exists in its room, no seat is assigned twice, and rows are in order.
use Rattle.std.proofs.lemmas.Grind.{common_steps}
use Rattle.std.specs.List.{AllByRecursion, cons_option, find}
use Rattle.std.proofs.Common.{◌≡◌, ℕ, zero, suc, ◌+◌, ◌<◌, ◌≤◌, inl, inr, Bool, true, false, cond, ◌&&◌, eqb, ltb, List, [], ◌∷◌, ◌++◌, length, map, get_or, Option, None, Some, option_map, count_by, AllPairs, Contains, refl, sym, ◌∙◌, ap, subst, arith, lt-ltb, eqb-true, rules, IfSome, IsSome, is_none, slice_get}
use Rattle.std.proofs.lemmas.Bool.{and_parts, and_from, eq-eqb, cond-true, false_from_ne_true, false≢true, true≢false, cases_lt, cases_eq, or_left, ltb-false}
use Rattle.std.proofs.lemmas.List.{length-map, get_or_default}
use Rattle.std.proofs.lemmas.List.Elements.{All-from_recursion, recursion_from_All, All-contains_itself, All-contains}
use Rattle.std.proofs.lemmas.List.Sums.{sum_by-cons}
use Rattle.std.proofs.lemmas.Option.{IfSome_then}
use Rattle.exam_lists.proofs.Chains.{IsChain, chain_from_index, chain_weaker, chain_filter_map, chain_unmap, chain_with_each, index_from_chain}
use Rattle.exam_lists.proofs.Each.{each_weaker, each_all, each_filter_map}
use Rattle.exam_lists.proofs.Sums.{cond-sum_by, sum_by-agree}
use Rattle.exam_lists.proofs.Members.{not_in_nil}
use Rattle.exam_lists.proofs.Searches.{find_keeps, slice_get_none}
use Rattle.exam_lists.proofs.Booleans.{cond_swap}
use Rattle.exam_model.specs.Instance.{Session}
use Rattle.exam_model.specs.Enrolments.{Enrolled, AreEnrolments, has_number}
use Rattle.exam_model.specs.Fits.{Fits, PlaceExists}
use Rattle.exam_model.specs.Pairs.{Pair, pairs_at, pairs_from, pairs_of, is_pair, ComesBefore, ArePairsOf}
use Rattle.exam_model.specs.Sums.{sum_below}
use Rattle.exam_model.specs.Timetable.{Placing, place_of}
use Rattle.exam_terms.specs.declared.place.Place.{Place}
use Rattle.exam_model.specs.declared.parts.Room.{Room}
use Rattle.exam_model.proofs.PairLemmas.{are_pairs}
use Rattle.exam_model.proofs.SumLemmas.{sum_below-same, sum_below-turned, sum_below-at}
use Rattle.exam_rules.specs.declared.breach.Breach.{Breach}
use Rattle.exam_rules.specs.declared.breach.BreachRule.TheVariants.{Capacity}
use Rattle.exam_rules.specs.Breaches.{breaches_of}
use Rattle.exam_rules.specs.HardRules.{is_overfull, is_too_small}
use Rattle.exam_rules.specs.Places.{place_satisfies, is_one_place, load_at}
use Rattle.exam_rules.proofs.BreachLemmas.{breaches_have}
use Rattle.exam_publish.specs.declared.entrants.Entrant.{Entrant}
use Rattle.exam_publish.specs.declared.seat_row.SeatRow.{SeatRow}
use Rattle.exam_publish.specs.Numbered.{sits_at}
use Rattle.exam_publish.specs.Permit.{publish_refusal, first_unplaced, least_breach}
use Rattle.exam_publish.specs.Published.{AreSeats}
use Rattle.exam_publish.specs.Rows.{row_pair, row_place, RowBefore, RowsInOrder, IsAtExam}
use Rattle.exam_publish.specs.Seats.{IsSeatOf, HasSeat, HaveOwnSeats, AreSeated, seats_at, least_free, new_row, rows_with_entrant, rows_after_entrants, seat_rows}
use Rattle.exam_publish.specs.Entrants.{is_row_at, entrant, entrants, old_rows}
use Rattle.exam_publish.proofs.FreeLemmas.{least_is, least_small, length_seats, has_seats, still_taken}
use Rattle.exam_publish.proofs.PermitLemmas.{neither, all_placed}
use Rattle.exam_publish.proofs.SeatingLemmas.{length_pairs}

-- ---- along a list whose elements may be missing

-- ---- entrants

-- an entrant at the exam's place, whose kept row is their own and at that place
pub record IsFair (T : Placing) (old : List SeatRow) (x : Entrant) : Type 0 where
  pub at_exam : place_of T x.exam ≡ Some x.place
  pub pair : IfSome x.kept (λ row. row_pair row ≡ record { exam = x.exam; student = x.student })
  pub place : IfSome x.kept (λ row. row_place row ≡ x.place)
  pub from_old : IfSome x.kept (Contains old)

pub one_place : (at q : Place) → is_one_place at q ≡ true → q ≡ at
one_place at q h = grind (arith, common_steps, and_parts, eqb-true)

one_pair : (row : SeatRow) (p : Pair) → is_pair row.student row.exam p ≡ true → row_pair row ≡ p
one_pair row p h = grind (arith, common_steps, and_parts, eqb-true)

fair : (T : Placing) (old : List SeatRow) (p : Pair) (at : Place)
    → place_of T p.exam ≡ Some at → IsFair T old (entrant old p at)
fair T old p at here =
    let found = find_keeps (Contains old) (is_row_at p at) old
    (recursion_from_All (Contains old) old (All-contains_itself old)) in
    let parts : (row : SeatRow) → is_row_at p at row ≡ true
    → (is_pair row.student row.exam p ≡ true) × (is_one_place at (row_place row) ≡ true)
    = λ row h. and_parts (is_pair row.student row.exam p) (is_one_place at (row_place row)) h in
    record {
      at_exam = here;
      pair = grind (arith, common_steps, IfSome_then, one_pair);
      place = grind (arith, common_steps, IfSome_then, one_place);
      from_old = IfSome_then (find (is_row_at p at) old) found (λ row k. k.0);
    }

-- a fact about each pair's entrant holds for all entrants
pub each_entrant : (P : Entrant → Type 0) (T : Placing) (old : List SeatRow) (pairs : List Pair)
    → AllByRecursion (λ p. (at : Place) → place_of T p.exam ≡ Some at → P (entrant old p at)) pairs
    → AllByRecursion P (entrants pairs T old)
each_entrant P T old pairs all = grind (arith, common_steps, each_filter_map, each_weaker)

pub all_fair : (T : Placing) (old : List SeatRow) (pairs : List Pair)
    → AllByRecursion (IsFair T old) (entrants pairs T old)
all_fair T old pairs = search (rules, each_entrant, each_all, fair)

-- if each exam has a place, each pair has its entrant
pub entrant_pairs : (T : Placing) (old : List SeatRow) (pairs : List Pair)
    → AllByRecursion (λ p. IsSome (place_of T p.exam)) pairs
    → map (λ (x : Entrant). record { exam = x.exam; student = x.student }) (entrants pairs T old)
    ≡ pairs
entrant_pairs T old [] h = refl
entrant_pairs T old (p ∷ ps) h = grind (arith, common_steps, false≢true, entrant_pairs T old ps h.1)

-- ---- rows of their entrants

pub rows_pairs : (T : Placing) (old current : List SeatRow) (xs : List Entrant)
    → AllByRecursion (IsFair T old) xs
    → map row_pair (rows_after_entrants current xs)
    ≡ map (λ (x : Entrant). record { exam = x.exam; student = x.student }) xs
rows_pairs T old current [] h = refl
rows_pairs T old current (x ∷ xs) h =
    grind (arith, common_steps, rows_pairs T old (rows_with_entrant current x) xs h.1)

rows_at_exams : (T : Placing) (old current : List SeatRow) (xs : List Entrant)
    → AllByRecursion (IsFair T old) xs
    → AllByRecursion (IsAtExam T) (rows_after_entrants current xs)
rows_at_exams T old current [] h = tt
rows_at_exams T old current (x ∷ xs) h =
    grind (arith, common_steps, rows_at_exams T old (rows_with_entrant current x) xs h.1)

-- ---- seats within the room

abbrev pub is_new_at : Place → Entrant → Bool
is_new_at at x = is_none x.kept && is_one_place at x.place

pub same_place : (at : Place) → is_one_place at at ≡ true
same_place at = grind (arith, and_from, eq-eqb)

-- each row's seat exists in its room
abbrev Has : Session → List SeatRow → Type 0
Has I rows = AllByRecursion (HasSeat I) rows

-- the room holds the rows that are there and those still to come
abbrev IsRoomFor : (Place → ℕ) → List SeatRow → List Entrant → Type 0
IsRoomFor most current xs =
    (at : Place) → length (seats_at at current) + count_by (is_new_at at) xs ≤ most at

rows_within : (I : Session) (most : Place → ℕ) (current : List SeatRow) (xs : List Entrant)
    → IsRoomFor most current xs → Has I (old_rows xs)
    → AllByRecursion
    (λ (x : Entrant). (n : ℕ) → 1 ≤ n → n ≤ most x.place
    → IsSeatOf (slice_get I.rooms x.place.room) n) xs
    → Has I (rows_after_entrants current xs)
rows_within I most current [] room kept fits = tt
rows_within I most current (x ∷ xs) room kept fits =
    step x.kept room kept (λ s r k. rows_within I most s xs r k fits.1)
  where
    counted : (at : Place) (o : Option SeatRow)
        → count_by (is_new_at at) (record x { kept = o } ∷ xs)
        ≡ cond (is_none o && is_one_place at x.place) 1 0 + count_by (is_new_at at) xs
    counted at o = sum_by-cons (λ y. cond (is_new_at at y) 1 0) (record x { kept = o }) xs

    step : (o : Option SeatRow) → IsRoomFor most current (record x { kept = o } ∷ xs)
        → Has I (old_rows (record x { kept = o } ∷ xs))
        → ((s : List SeatRow) → IsRoomFor most s xs → Has I (old_rows xs)
        → Has I (rows_after_entrants s xs))
        → Has I (rows_after_entrants current (record x { kept = o } ∷ xs))
    step (Some row) room kept more = grind (arith, common_steps)
    step None room kept more =
        let free = least_is (seats_at x.place current) in
        let small = least_small (seats_at x.place current) in
        let one : ◌≡◌ {A = ℕ} (cond (is_one_place x.place x.place) 1 0) 1 =
        ap (λ b. cond b 1 0) (same_place x.place) in
        let c = counted x.place None in
        let r = room x.place in
        let low : 1 ≤ least_free (seats_at x.place current) = free.low in (
          fits.0 (least_free (seats_at x.place current)) low (omega arith),
          more (new_row current x ∷ current) (λ at. after at) kept,
        )
      where
        after : (at : Place)
            → length (seats_at at (new_row current x ∷ current))
            + count_by (is_new_at at) xs ≤ most at
        after at = grind (arith, common_steps, length_seats)

-- ---- no seat twice

-- a row's seat is taken by one of these rows
abbrev IsTaken : List SeatRow → SeatRow → Type 0
IsTaken current r = has_number (seats_at (row_place r) current) r.seat ≡ true

-- a present row shares its seat with no row of entrants who keep other seats
apart : (r : SeatRow) (current : List SeatRow) (xs : List Entrant) → IsTaken current r
    → AllByRecursion (HaveOwnSeats r) (old_rows xs)
    → AllByRecursion (HaveOwnSeats r) (rows_after_entrants current xs)
apart r current [] taken kept = tt
apart r current (x ∷ xs) taken kept = step x.kept kept (λ s t k. apart r s xs t k)
  where
    other : HaveOwnSeats r (new_row current x)
    other a b c = grind (arith, common_steps, least_is, true≢false)

    step : (o : Option SeatRow)
        → AllByRecursion (HaveOwnSeats r) (old_rows (record x { kept = o } ∷ xs))
        → ((s : List SeatRow) → IsTaken s r → AllByRecursion (HaveOwnSeats r) (old_rows xs)
        → AllByRecursion (HaveOwnSeats r) (rows_after_entrants s xs))
        → AllByRecursion (HaveOwnSeats r)
        (rows_after_entrants current (record x { kept = o } ∷ xs))
    step (Some row) kept more = (kept.0, more current taken kept.1)
    step None kept more = (
      other,
      more (new_row current x ∷ current)
          (still_taken (row_place r) (new_row current x) current r.seat taken) kept,
    )

taken_first : (r : SeatRow) (rs : List SeatRow) → IsTaken (r ∷ rs) r
taken_first r rs = grind (arith, common_steps, has_seats, or_left, and_from, same_place, eq-eqb)

own_rows : (current : List SeatRow) (xs : List Entrant) → IsChain HaveOwnSeats (old_rows xs)
    → AllByRecursion (IsTaken current) (old_rows xs)
    → IsChain HaveOwnSeats (rows_after_entrants current xs)
own_rows current [] chain taken = tt
own_rows current (x ∷ xs) chain taken = step x.kept chain taken (λ s c t. own_rows s xs c t)
  where
    free_of : (r : SeatRow) → IsTaken current r → HaveOwnSeats (new_row current x) r
    free_of r there a b c = grind (arith, common_steps, least_is, true≢false)

    step : (o : Option SeatRow) → IsChain HaveOwnSeats (old_rows (record x { kept = o } ∷ xs))
        → AllByRecursion (IsTaken current) (old_rows (record x { kept = o } ∷ xs))
        → ((s : List SeatRow) → IsChain HaveOwnSeats (old_rows xs)
        → AllByRecursion (IsTaken s) (old_rows xs)
        → IsChain HaveOwnSeats (rows_after_entrants s xs))
        → IsChain HaveOwnSeats (rows_after_entrants current (record x { kept = o } ∷ xs))
    step (Some row) chain taken more =
        (apart row current xs taken.0 chain.0, more current chain.1 taken.1)
    step None chain taken more =
        let row : SeatRow = new_row current x in (
          apart row (row ∷ current) xs (taken_first row current)
              (each_weaker (IsTaken current) (HaveOwnSeats row) free_of (old_rows xs) taken),
          more (row ∷ current) chain
              (each_weaker (IsTaken current) (IsTaken (row ∷ current))
              (λ r t. still_taken (row_place r) row current r.seat t) (old_rows xs) taken),
        )

-- the seats of present rows are taken
taken_itself : (rows : List SeatRow) → AllByRecursion (IsTaken rows) rows
taken_itself [] = tt
taken_itself (r ∷ rs) =
    (taken_first r rs, each_weaker (IsTaken rs) (IsTaken (r ∷ rs)) (λ q t. still_taken (row_place q) r rs q.seat t) rs (taken_itself rs))

-- two old rows of different pairs have different seats
own_old : (old : List SeatRow) → AllPairs HaveOwnSeats old → (r q : SeatRow) → Contains old r
    → Contains old q → (row_pair r ≡ row_pair q → ⊥) → HaveOwnSeats r q
own_old old own r q there also other a b c =
    let i = there.0 in
    let j = also.0 in
    let at_j : get_or old j r ≡ q = get_or_default old j r q also.1 ∙ also.2 in
    elim (cases_lt i j) as (λ _. ⊥) [
      | inl less ↦
          own i j r less also.1
          (ap (λ (x : SeatRow). x.period) there.2 ∙ a ∙ ap (λ (x : SeatRow). x.period) (sym at_j))
          (ap (λ (x : SeatRow). x.room) there.2 ∙ b ∙ ap (λ (x : SeatRow). x.room) (sym at_j))
          (ap (λ (x : SeatRow). x.seat) there.2 ∙ c ∙ ap (λ (x : SeatRow). x.seat) (sym at_j))
      | inr past ↦ elim (cases_eq i j) as (λ _. ⊥) [
        | inl same ↦ other (ap row_pair (sym there.2 ∙ ap (λ k. get_or old k r) same ∙ at_j))
        | inr apart ↦ own j i r (omega arith) there.1
            (ap (λ (x : SeatRow). x.period) at_j ∙ sym a
            ∙ ap (λ (x : SeatRow). x.period) (sym there.2))
            (ap (λ (x : SeatRow). x.room) at_j ∙ sym b ∙ ap (λ (x : SeatRow). x.room) (sym there.2))
            (ap (λ (x : SeatRow). x.seat) at_j ∙ sym c ∙ ap (λ (x : SeatRow). x.seat) (sym there.2))
      ]
    ]

kept_own : (T : Placing) (old : List SeatRow) → AllPairs HaveOwnSeats old → (xs : List Entrant)
    → AllByRecursion (IsFair T old) xs
    → IsChain (λ (x y : Entrant). ComesBefore (record { exam = x.exam; student = x.student })
    (record { exam = y.exam; student = y.student }))
    xs
    → IsChain HaveOwnSeats (old_rows xs)
kept_own T old own xs fairs order =
    chain_filter_map HaveOwnSeats (λ (x : Entrant). x.kept) xs
    (chain_weaker
    (λ (x y : Entrant). IsFair T old x
    × (IsFair T old y × ComesBefore (record { exam = x.exam; student = x.student })
    (record { exam = y.exam; student = y.student })))
    (λ (x y : Entrant). IfSome x.kept (λ r. IfSome y.kept (HaveOwnSeats r)))
    (λ x y h. both x y h.1.1 x.kept h.0.pair h.0.from_old y.kept h.1.0.pair h.1.0.from_old) xs
    (chain_with_each (IsFair T old)
    (λ (x y : Entrant). ComesBefore (record { exam = x.exam; student = x.student })
    (record { exam = y.exam; student = y.student }))
    xs fairs order))
  where
    not_before_itself : (p q : Pair) → ComesBefore p q → p ≡ q → ⊥
    not_before_itself p q h same =
        elim h as (λ _. ⊥)
        [ inl less ↦ absurd (omega (arith, ap (λ (z : Pair). z.exam) same)) | inr tie ↦ absurd (omega (arith, tie.1, ap (λ (z : Pair). z.student) same)) ]

    both : (x y : Entrant)
        → ComesBefore (record { exam = x.exam; student = x.student })
        (record { exam = y.exam; student = y.student })
        → (o : Option SeatRow)
        → IfSome o (λ row. row_pair row ≡ record { exam = x.exam; student = x.student })
        → IfSome o (Contains old)
        → (u : Option SeatRow)
        → IfSome u (λ row. row_pair row ≡ record { exam = y.exam; student = y.student })
        → IfSome u (Contains old)
        → IfSome o (λ r. IfSome u (HaveOwnSeats r))
    both x y before None a b u c d = tt
    both x y before (Some r) a b None c d = tt
    both x y before (Some r) a b (Some q) c d =
        own_old old own r q b d
        (λ same. not_before_itself (record { exam = x.exam; student = x.student })
        (record { exam = y.exam; student = y.student }) before (sym a ∙ same ∙ c))

-- ---- as many as the room's load

at_within : (n f : ℕ) (xs : List ℕ) (later : List Pair) → f < n
    → AllByRecursion (λ p. p.exam < n) later
    → AllByRecursion (λ p. p.exam < n) (pairs_at f xs ++ later)
at_within n f [] later lt h = h
at_within n f (x ∷ xs) later lt h = (lt, at_within n f xs later lt h)

-- each exam of a pair exists
pub from_within : (n f : ℕ) (E : Enrolled) → f + length E ≤ n
    → AllByRecursion (λ p. p.exam < n) (pairs_from f E)
from_within n f [] h = tt
from_within n f (xs ∷ rest) h = grind (arith, from_within n (f + 1) rest (omega arith), at_within)

loaded : (E : Enrolled) (T : Placing) (at : Place) → ArePairsOf E (pairs_of E)
    → count_by (sits_at T at) (pairs_of E) ≡ load_at E T at
loaded E T at are =
    let n = length E in
    let pairs = pairs_of E in
    let t : ℕ → Bool = λ e. place_satisfies (is_one_place at) (place_of T e) in
    sym (
    sum_below-same _ _
    (λ e. ap (λ k. cond (t e) k 0) (sym (are.sizes e))
    ∙ cond-sum_by (t e) (λ (p : Pair). cond (eqb p.exam e) 1 0) pairs) n
    ∙ sum_below-turned (λ e (p : Pair). cond (t e) (cond (eqb p.exam e) 1 0) 0) n pairs
    ∙ sum_by-agree (λ (p : Pair). sum_below n (λ e. cond (t e) (cond (eqb p.exam e) 1 0) 0))
    (λ (p : Pair). cond (t p.exam) 1 0) pairs
    (each_weaker (λ (p : Pair). p.exam < n)
    (λ (p : Pair). sum_below n (λ e. cond (t e) (cond (eqb p.exam e) 1 0) 0)
    ≡ cond (t p.exam) 1 0)
    (λ p lt. sum_below-same _ _ (λ e. cond_swap (t e) (eqb p.exam e)) n
    ∙ sum_below-at (λ e. cond (t e) 1 0) p.exam n
    ∙ cond-true (ltb p.exam n) (cond (t p.exam) 1 0) 0 (lt-ltb p.exam n lt))
    pairs (from_within n 0 E (omega arith))))

-- without a breach no room is overfull
roomy : (I : Session) (E : Enrolled) (T : Placing) (e : ℕ) → length T ≡ length I.exams
    → breaches_of I E T ≡ [] → is_overfull I E T e ≡ false
roomy I E T e same none =
    let b : Breach = record { rule = Capacity; exam = e; other = e } in
    false_from_ne_true (is_overfull I E T e) (λ h. not_in_nil (breaches_of I E T) b none
    ((breaches_have I E T same b).1 (and_from (eqb e e) (is_overfull I E T e) (eq-eqb e e refl) h)))

within_room : (rooms : List Room) (r n load : ℕ) → r < length rooms
    → is_too_small (slice_get rooms r) load ≡ false → 1 ≤ n → n ≤ load
    → IsSeatOf (slice_get rooms r) n
within_room [] r n load l h low high = absurd (omega arith)
within_room (x ∷ xs) zero n load l h low high = let most = ltb-false x.capacity load h in
    (low, omega arith)
within_room (x ∷ xs) (suc r) n load l h low high = within_room xs r n load (omega arith) h low high

-- kept seats and seats still to come are at most as many as entrants
counted_entrants : (T : Placing) (old : List SeatRow) (at : Place) (xs : List Entrant)
    → AllByRecursion (IsFair T old) xs
    → length (seats_at at (old_rows xs)) + count_by (is_new_at at) xs
    ≡ count_by (λ (x : Entrant). is_one_place at x.place) xs
counted_entrants T old at [] h = refl
counted_entrants T old at (x ∷ xs) h = step x.kept h.0.place (counted_entrants T old at xs h.1)
  where
    step : (o : Option SeatRow) → IfSome o (λ row. row_place row ≡ x.place)
        → length (seats_at at (old_rows xs)) + count_by (is_new_at at) xs
        ≡ count_by (λ (x : Entrant). is_one_place at x.place) xs
        → length (seats_at at (old_rows (record x { kept = o } ∷ xs)))
        + count_by (is_new_at at) (record x { kept = o } ∷ xs)
        ≡ count_by (λ (x : Entrant). is_one_place at x.place) (record x { kept = o } ∷ xs)
    step None k more = grind (arith, common_steps, sum_by-cons)
    step (Some row) k more = grind (arith, common_steps, sum_by-cons, length_seats)

counted_pairs : (T : Placing) (old : List SeatRow) (at : Place) (ps : List Pair)
    → count_by (λ (x : Entrant). is_one_place at x.place) (entrants ps T old)
    ≡ count_by (sits_at T at) ps
counted_pairs T old at [] = refl
counted_pairs T old at (p ∷ ps) = go (place_of T p.exam) refl (counted_pairs T old at ps)
  where
    go : (o : Option Place) → place_of T p.exam ≡ o
        → count_by (λ (x : Entrant). is_one_place at x.place) (entrants ps T old)
        ≡ count_by (sits_at T at) ps
        → count_by (λ (x : Entrant). is_one_place at x.place)
        (cons_option (option_map (entrant old p) o) (entrants ps T old))
        ≡ count_by (sits_at T at) (p ∷ ps)
    go None is more = grind (arith, common_steps, sum_by-cons)
    go (Some q) is more = grind (arith, common_steps, sum_by-cons)

-- ---- all of it

pub are_seats : (I : Session) (E : Enrolled) (T : Placing) (old : List SeatRow) → Fits I E T
    → AreEnrolments E → publish_refusal I E T ≡ None → AreSeated I old
    → AreSeats I E T (seat_rows (pairs_of E) T old)
are_seats I E T old fits known permitted was =
    let pairs = pairs_of E in
    let xs : List Entrant = entrants pairs T old in
    let rows : List SeatRow = seat_rows pairs T old in
    let are = are_pairs E known in
    let none = neither (first_unplaced T) (least_breach I E T) permitted in
    let clean = slice_get_none (breaches_of I E T) none.1 in
    let placed = all_placed T none.0 in
    let exist : AllByRecursion (λ p. p.exam < length T) pairs =
    from_within (length T) 0 E (omega (arith, fits.timetable, fits.enrolments)) in
    let fairs = all_fair T old pairs in
    let own_pairs : map (λ (x : Entrant). record { exam = x.exam; student = x.student }) xs ≡ pairs
    = entrant_pairs T old pairs
    (each_weaker (λ (p : Pair). p.exam < length T) (λ p. IsSome (place_of T p.exam))
    (λ p lt. placed p.exam lt) pairs exist) in
    let same : map row_pair rows ≡ pairs = rows_pairs T old (old_rows xs) xs fairs ∙ own_pairs in
    let order : IsChain ComesBefore pairs = chain_from_index ComesBefore pairs are.ordered in
    let entrant_order =
    chain_unmap ComesBefore (λ (x : Entrant). record { exam = x.exam; student = x.student }) xs
    (subst (IsChain ComesBefore) (sym own_pairs) order) in
    let in_order : RowsInOrder rows =
    index_from_chain RowBefore rows
    (chain_unmap ComesBefore row_pair rows (subst (IsChain ComesBefore) (sym same) order)) in
    let room : IsRoomFor (load_at E T) (old_rows xs) xs
    = λ at. (let c = counted_entrants T old at xs fairs in let p = counted_pairs T old at pairs in
    let l = loaded E T at are in omega arith) in
    let kept : Has I (old_rows xs)
    = each_filter_map (HasSeat I) (λ (x : Entrant). x.kept) xs
    (each_weaker (IsFair T old) (λ (x : Entrant). IfSome x.kept (HasSeat I))
    (λ x h. IfSome_then x.kept h.from_old
    (λ row there. All-contains (HasSeat I) old row was.within there))
    xs fairs) in
    let seats : AllByRecursion
    (λ (x : Entrant). (n : ℕ) → 1 ≤ n → n ≤ load_at E T x.place
    → IsSeatOf (slice_get I.rooms x.place.room) n) xs
    = each_entrant
    (λ (x : Entrant). (n : ℕ) → 1 ≤ n → n ≤ load_at E T x.place
    → IsSeatOf (slice_get I.rooms x.place.room) n) T old pairs
    (each_weaker (λ (p : Pair). p.exam < length T)
    (λ (p : Pair). (at : Place) → place_of T p.exam ≡ Some at → (n : ℕ) → 1 ≤ n
    → n ≤ load_at E T at → IsSeatOf (slice_get I.rooms at.room) n)
    (λ p lt at here n low high.
    let place = subst (PlaceExists I) here (fits.places p.exam None lt) in
    let fine : is_too_small (slice_get I.rooms at.room) (load_at E T at) ≡ false
    = sym (ap (place_satisfies (λ q. is_too_small (slice_get I.rooms q.room) (load_at E T q))) here)
    ∙ roomy I E T p.exam fits.timetable clean in
    within_room I.rooms at.room n (load_at E T at) place.1 fine low high) pairs exist) in
    record {
      pairs = same;
      seated = record {
        in_order = in_order;
        within = All-from_recursion (HasSeat I) rows
            (rows_within I (load_at E T) (old_rows xs) xs room kept seats);
        own = index_from_chain HaveOwnSeats rows
            (own_rows (old_rows xs) xs (kept_own T old was.own xs fairs entrant_order)
            (taken_itself (old_rows xs)));
      };
      published = record {
        exams = fits.timetable;
        places = fits.places;
        complete = placed;
        few = omega (arith, ap length same, length-map rows row_pair, length_pairs 0 E, known.pairs);
        in_order = in_order;
        at_exams = All-from_recursion (IsAtExam T) rows
            (rows_at_exams T old (old_rows xs) xs fairs);
      };
    }
