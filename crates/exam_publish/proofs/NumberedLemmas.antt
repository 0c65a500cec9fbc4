-- If no seat is kept, each pair has the next number of its room and period.
use Rattle.std.proofs.lemmas.Grind.{common_steps}
use Rattle.std.specs.List.{cons_option}
use Rattle.std.proofs.Common.{◌≡◌, ℕ, ◌+◌, Bool, true, false, cond, List, [], ◌∷◌, ◌++◌, Option, None, Some, option_map, count_by, refl, sym, ◌∙◌, ap, ap₂, subst, arith}
use Rattle.std.proofs.lemmas.List.Sums.{sum_by_push}
use Rattle.exam_lists.proofs.Chains.{chain_from_index}
use Rattle.exam_terms.specs.declared.place.Place.{Place}
use Rattle.exam_model.specs.Enrolments.{Enrolled, AreEnrolments}
use Rattle.exam_model.specs.Pairs.{Pair, pairs_of, ComesBefore}
use Rattle.exam_model.specs.Timetable.{Placing, place_of}
use Rattle.exam_model.proofs.PairLemmas.{are_pairs}
use Rattle.exam_rules.specs.Places.{place_satisfies, is_one_place}
use Rattle.exam_publish.specs.declared.seat_row.SeatRow.{SeatRow}
use Rattle.exam_publish.specs.Numbered.{sits_at, row_with, numbered_rows}
use Rattle.exam_publish.specs.Rows.{row_place}
use Rattle.exam_publish.specs.Seating.{IsLast}
use Rattle.exam_publish.specs.Seats.{seats_at, least_free, new_row, rows_after_entrants, seat_rows}
use Rattle.exam_publish.specs.Entrants.{entrant, entrants, old_rows}
use Rattle.exam_publish.proofs.FreeLemmas.{IsNext, is_next, last_here, last_there}
use Rattle.exam_publish.proofs.SeatLemmas.{one_place}
use Rattle.exam_publish.proofs.SeatingLemmas.{rows_after, numbered}

none_kept : (T : Placing) (ps : List Pair) → old_rows (entrants ps T []) ≡ []
none_kept T [] = refl
none_kept T (p ∷ ps) = grind (arith, common_steps, none_kept T ps)

next : (at : Place) (n : ℕ) → IsNext [] at n (n + 1)
next at n = record { beyond = omega arith; free = refl; between = λ k low high. absurd (omega arith) }

counted : (T : Placing) (q : Place) (seen : List Pair) (p : Pair) (o : Option Place)
    → place_of T p.exam ≡ o
    → count_by (sits_at T q) (seen ++ p ∷ [])
    ≡ count_by (sits_at T q) seen + cond (place_satisfies (is_one_place q) o) 1 0
counted T q seen p o is = grind (arith, sum_by_push)

one_more : (T : Placing) (seen : List Pair) (p : Pair) (at : Place)
    (current : List SeatRow) (row : SeatRow)
    → place_of T p.exam ≡ Some at
    → ((q : Place) → IsLast [] current q (count_by (sits_at T q) seen))
    → row_place row ≡ at → row.seat ≡ count_by (sits_at T at) seen + 1
    → (q : Place) → IsLast [] (row ∷ current) q (count_by (sits_at T q) (seen ++ p ∷ []))
one_more T seen p at current row is h there seat q = go (is_one_place q at) refl
  where
    go : (b : Bool) → is_one_place q at ≡ b
        → IsLast [] (row ∷ current) q (count_by (sits_at T q) (seen ++ p ∷ []))
    go true here =
        let c = counted T q seen p (Some at) is
        ∙ ap (λ b. count_by (sits_at T q) seen + cond b 1 0) here in
        let same : at ≡ q = one_place q at here in
        subst (IsLast [] (row ∷ current) q) (sym c)
        (last_here [] current q (count_by (sits_at T q) seen) (count_by (sits_at T q) seen + 1) row
        (h q) (next q (count_by (sits_at T q) seen))
        (ap (is_one_place q) there ∙ here) (seat ∙ ap (λ z. count_by (sits_at T z) seen + 1) same))
    go false away =
        let c = counted T q seen p (Some at) is
        ∙ ap (λ b. count_by (sits_at T q) seen + cond b 1 0) away in
        subst (IsLast [] (row ∷ current) q)
        (let e : count_by (sits_at T q) seen
        ≡ count_by (sits_at T q) (seen ++ p ∷ []) = omega arith in
        e)
        (last_there [] current q (count_by (sits_at T q) seen) row (h q)
        (ap (is_one_place q) there ∙ away))

seats_numbered : (T : Placing) (seen ps : List Pair) (current : List SeatRow)
    → ((at : Place) → IsLast [] current at (count_by (sits_at T at) seen))
    → rows_after_entrants current (entrants ps T []) ≡ rows_after T seen ps
seats_numbered T seen [] current h = refl
seats_numbered T seen (p ∷ ps) current h =
    go (place_of T p.exam) refl (λ s k. seats_numbered T (seen ++ p ∷ []) ps s k)
  where
    go : (o : Option Place) → place_of T p.exam ≡ o
        → ((s : List SeatRow)
        → ((at : Place) → IsLast [] s at (count_by (sits_at T at) (seen ++ p ∷ [])))
        → rows_after_entrants s (entrants ps T []) ≡ rows_after T (seen ++ p ∷ []) ps)
        → rows_after_entrants current (cons_option (option_map (entrant [] p) o)
        (entrants ps T []))
        ≡ cons_option (option_map (λ at. row_with p at (count_by (sits_at T at) seen + 1)) o)
        (rows_after T (seen ++ p ∷ []) ps)
    go None is more =
        more current
        (λ at. subst (IsLast [] current at) (let c = counted T at seen p None is in
        let e : count_by (sits_at T at) seen ≡ count_by (sits_at T at) (seen ++ p ∷ []) =
        omega arith in e) (h at))
    go (Some at) is more =
        let row : SeatRow = new_row current (entrant [] p at) in
        let seat : least_free (seats_at at current) ≡ count_by (sits_at T at) seen + 1
        = sym (is_next [] current at (count_by (sits_at T at) seen)
        (count_by (sits_at T at) seen + 1) (h at) (next at (count_by (sits_at T at) seen))) in
        ap₂ (λ n rows. row_with p at n ∷ rows) seat
        (more (row ∷ current) (one_more T seen p at current row is h refl seat))

pub numbered_first : (E : Enrolled) (T : Placing) → AreEnrolments E
    → seat_rows (pairs_of E) T [] ≡ numbered_rows (pairs_of E) T
numbered_first E T known =
    let pairs = pairs_of E in
    let order = chain_from_index ComesBefore pairs (are_pairs E known).ordered in
    ap (λ rows. rows_after_entrants rows (entrants pairs T [])) (none_kept T pairs)
    ∙ seats_numbered T [] pairs []
    (λ at. record { all = λ k low le. absurd (omega arith); beyond = λ k lt. refl })
    ∙ sym (numbered T pairs [] pairs refl order)
