-- Pairs and places in order, and seats that are numbered along the pairs.
use Rattle.std.proofs.lemmas.Grind.{common_steps}
use Rattle.std.specs.List.{AllByRecursion, cons_option}
use Rattle.std.proofs.Common.{◌≡◌, ℕ, ◌+◌, ◌<◌, inl, inr, Bool, true, false, cond, ◌&&◌, List, [], ◌∷◌, ◌++◌, length, take, option_map, count_by, filter_map, refl, sym, ◌∙◌, ap, arith, append-nil, append_assoc, length-append}
use Rattle.std.proofs.lemmas.Bool.Decides.{nat_tests}
use Rattle.std.proofs.lemmas.List.{take_more, length-map, length-take}
use Rattle.std.proofs.lemmas.List.Sums.{sum_by-cons, sum_by-append}
use Rattle.exam_lists.proofs.Chains.{IsChain, chain_after, chain_before}
use Rattle.exam_lists.proofs.Each.{each_weaker}
use Rattle.exam_lists.proofs.Sums.{sum_by-agree, sum_by-none}
use Rattle.exam_model.specs.Enrolments.{Enrolled, students, pair_count}
use Rattle.exam_model.specs.Pairs.{Pair, pairs_at, pairs_from, pairs_of, ComesBefore}
use Rattle.exam_model.specs.Timetable.{Placing, place_of}
use Rattle.exam_publish.specs.declared.seat_row.SeatRow.{SeatRow}
use Rattle.exam_publish.specs.Numbered.{sits_at, row_with, seat_row}
use Rattle.exam_publish.specs.Rows.{is_pair_before}

-- ---- one more exam

pairs_from-push : (k : ℕ) (E : Enrolled) (xs : List ℕ)
    → pairs_from k (E ++ xs ∷ []) ≡ pairs_from k E ++ pairs_at (k + length E) xs
pairs_from-push k [] xs = append-nil (pairs_at k xs) ∙ ap (λ n. pairs_at n xs) (omega arith)
pairs_from-push k (ys ∷ E) xs = grind (arith, common_steps, append_assoc, pairs_from-push (k + 1) E xs)

pub pairs_more : (E : Enrolled) (e : ℕ) → e < length E
    → pairs_of (take (e + 1) E) ≡ pairs_of (take e E) ++ pairs_at e (students E e)
pairs_more E e lt = grind (arith, common_steps, take_more, pairs_from-push, length-take)

-- ---- how many pairs

pub length_pairs : (k : ℕ) (E : Enrolled) → length (pairs_from k E) ≡ pair_count E
length_pairs k [] = refl
length_pairs k (xs ∷ rest) =
    grind (arith, common_steps, length-append, length-map, sum_by-cons, length_pairs (k + 1) rest)

-- ---- numbers along the pairs

-- the rows of the pairs after those seen, each with the next seat of its place
abbrev pub rows_after : Placing → List Pair → List Pair → List SeatRow
rows_after T seen [] = []
rows_after T seen (p ∷ ps) =
    cons_option (option_map (λ at. row_with p at (count_by (sits_at T at) seen + 1))
    (place_of T p.exam))
    (rows_after T (seen ++ p ∷ []) ps)

before_true : (p q : Pair) → ComesBefore p q → is_pair_before p q ≡ true
before_true p q h = elim h as (λ _. is_pair_before p q ≡ true)
    [ inl less ↦ grind (arith, nat_tests) | inr same ↦ grind (arith, nat_tests) ]

before_false : (p q : Pair) → ComesBefore p q → is_pair_before q p ≡ false
before_false p q h = elim h as (λ _. is_pair_before q p ≡ false)
    [ inl less ↦ grind (arith, nat_tests) | inr same ↦ grind (arith, nat_tests) ]

pub before_itself : (p : Pair) → is_pair_before p p ≡ false
before_itself p = grind (arith, nat_tests)

-- the pairs that come before y are those in front of it in the list
counted_before : (t : Pair → Bool) (xs : List Pair) (y : Pair) (ys : List Pair)
    → IsChain ComesBefore (xs ++ y ∷ ys)
    → count_by (λ q. is_pair_before q y && t q) (xs ++ y ∷ ys) ≡ count_by t xs
counted_before t xs y ys h =
    let split = sum_by-append (λ (q : Pair). cond (is_pair_before q y && t q) 1 0) xs (y ∷ ys) in
    let front = sum_by-agree (λ (q : Pair). cond (is_pair_before q y && t q) 1 0)
    (λ q. cond (t q) 1 0) xs
    (each_weaker (λ q. ComesBefore q y) _
    (λ q b. ap (λ c. cond (c && t q) 1 0) (before_true q y b)) xs
    (chain_before ComesBefore xs y ys h)) in
    let back = sum_by-none (λ (q : Pair). cond (is_pair_before q y && t q) 1 0) ys
    (each_weaker (ComesBefore y) _ (λ q b. ap (λ c. cond (c && t q) 1 0) (before_false y q b)) ys
    (chain_after ComesBefore xs y ys h)) in
    let own : ◌≡◌ {A = ℕ} (cond (is_pair_before y y && t y) 1 0) 0 =
    ap (λ c. cond (c && t y) 1 0) (before_itself y) in
    let rest = sum_by-cons (λ (q : Pair). cond (is_pair_before q y && t q) 1 0) y ys in
    omega arith

-- a pair's seat is the next one after those of the pairs before it
pub numbered : (T : Placing) (all seen ps : List Pair) → all ≡ seen ++ ps → IsChain ComesBefore all
    → filter_map (seat_row all T) ps ≡ rows_after T seen ps
numbered T all seen [] split order = refl
numbered T all seen (p ∷ ps) split order =
    let split_later = split ∙ sym (append_assoc seen (p ∷ []) ps) in
    let later = numbered T all (seen ++ p ∷ []) ps split_later order in
    grind (arith, common_steps, counted_before, append_assoc)
