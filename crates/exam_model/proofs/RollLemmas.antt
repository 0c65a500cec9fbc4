-- The results of a search among ascending numbers, and of an insert at the place found.
use Rattle.std.proofs.Common.{◌≡◌, ℕ, suc, ◌+◌, ◌-◌, ◌<◌, ◌≤◌, Bool, true, false, List, [], ◌∷◌, ◌++◌, length, Result, Ok, Err, IfOk, IfErr, refl, ap, subst, sym, ◌∙◌, inl, inr, arith, take, drop, rules}
use Rattle.std.specs.Prelude.{◌==◌, ◌||◌, ◌&&◌, not, is_ok, slice_index}
use Rattle.std.specs.List.{insert, remove, list_any}
use Rattle.std.specs.List.Sorted.{IsBinarySearchResult}
use Rattle.std.specs.Ordering.{nat_cmp}
use Rattle.std.proofs.Math.Seq.{split_at}
use mathlib.Core.Bool.{true≢false}
use Rattle.std.proofs.lemmas.Bool.{eq-eqb, eqb-true, ne_eqb, cases_eq, cases_lt}
use Rattle.std.proofs.lemmas.List.{get_or_default, take-append-drop}
use Rattle.std.proofs.lemmas.List.Sorted.{searched}
use Rattle.std.proofs.lemmas.List.Edits.{length-insert, get_or-insert_below, get_or-insert_at, get_or-insert_above, length-remove, get_or-remove_below, get_or-remove_above}
use Rattle.std.proofs.lemmas.List.Folds.{list_any_at, list_any_none, list_any-append}
use Rattle.exam_lists.proofs.Booleans.{or_middle}
use Rattle.exam_model.specs.Enrolments.{AreNumbers, IsAscending, has_number}
use Rattle.exam_model.specs.StudentLists.{IsAt, IsGap, Enters, Leaves}

-- ascending numbers rise
pub rise : (xs : List ℕ) → IsAscending xs → (i j : ℕ) → i ≤ j → j < length xs
    → slice_index xs i ≤ slice_index xs j
rise xs up i j le lt = grind (arith, up i j, λ (same : i ≡ j). ap (slice_index xs) same)

-- the result of a binary search among ascending numbers
pub searched_roll : (xs : List ℕ) (x : ℕ) (r : Result ℕ ℕ) → IsAscending xs
    → IsBinarySearchResult (λ y. nat_cmp y x) xs r
    → record { found : IfOk r (IsAt xs x); absent : IfErr r (IsGap xs x) }
searched_roll xs x (Ok at) up is =
    let f = searched xs x (Ok at) is (rise xs up) in
    record { found = record { within = f.0; here = f.1 }; absent = tt }
searched_roll xs x (Err at) up is =
    let f = searched xs x (Err at) is (rise xs up) in
    record { found = tt; absent = record { within = f.0; before = f.1; after = f.2 } }

pub has_at : (xs : List ℕ) (x i : ℕ) → IsAt xs x i → has_number xs x ≡ true
has_at xs x i at = list_any_at _ xs i 0 at.within (eq-eqb _ _ at.here)

pub has_gap : (xs : List ℕ) (x i : ℕ) → IsGap xs x i → has_number xs x ≡ false
has_gap xs x i gap = list_any_none _ xs (λ k d lt.
    rw (get_or_default xs k d 0 lt) (elim (cases_lt k i) [
      | inl below ↦ ne_eqb _ _ (omega (arith, gap.before k below))
      | inr above ↦ ne_eqb _ _ (omega (arith, gap.after k above lt))
    ]))

-- a search finds a student exactly if the list has them
pub has_searched : (xs : List ℕ) (x : ℕ) (r : Result ℕ ℕ) → IfOk r (IsAt xs x)
    → IfErr r (IsGap xs x) → is_ok r ≡ has_number xs x
has_searched xs x (Ok at) found absent = sym (has_at xs x at found)
has_searched xs x (Err at) found absent = sym (has_gap xs x at absent)

-- an insert in the gap keeps the order
pub ascending_insert : (xs : List ℕ) (x at : ℕ) → IsGap xs x at → IsAscending xs
    → IsAscending (insert xs at x)
ascending_insert xs x at gap up i j lt within =
    let new = insert xs at x in
    let length_new = length-insert xs at x gap.within in
    let below : (i : ℕ) → i < at → slice_index new i ≡ slice_index xs i
    = λ i b. get_or-insert_below xs at x 0 i b gap.within in
    let here : (i : ℕ) → i ≡ at → slice_index new i ≡ x
    = λ i h. rw h (get_or-insert_at xs at x 0 gap.within) in
    let above : (i : ℕ) → at < i → slice_index new i ≡ slice_index xs (i - 1)
    = λ i a.
    subst (λ q. slice_index new q ≡ slice_index xs (i - 1)) {x = i - 1 + 1} (omega arith)
    (get_or-insert_above xs at x 0 (i - 1) (omega arith) gap.within) in
    grind (
      arith,
      below i,
      here i,
      above i,
      below j,
      here j,
      above j,
      up i j,
      up i (j - 1),
      up (i - 1) (j - 1),
      gap.before i,
      gap.after (j - 1),
    )

-- an insert anywhere adds the one student
pub has_insert : (xs : List ℕ) (x at t : ℕ) → has_number (insert xs at x) t
    ≡ ((x == t) || has_number xs t)
has_insert xs x at t =
    let p : ℕ → Bool = λ y. y == t in
    list_any-append p (take at xs) (x ∷ drop at xs)
    ∙ or_middle (list_any p (take at xs)) (x == t) (list_any p (drop at xs))
    ∙ ap (λ b. (x == t) || b)
    (sym (list_any-append p (take at xs) (drop at xs)) ∙ ap (list_any p) (take-append-drop at xs))

-- entering a student in the gap
pub enters_insert : (xs : List ℕ) (x at : ℕ) → IsGap xs x at → IsAscending xs
    → Enters xs (insert xs at x) x
enters_insert xs x at gap up = record {
  members = has_insert xs x at;
  size = rw (has_gap xs x at gap) (length-insert xs at x gap.within);
  ascending = ascending_insert xs x at gap up;
}

-- entering a student who is there changes nothing
pub enters_again : (xs : List ℕ) (x i : ℕ) → IsAt xs x i → IsAscending xs → Enters xs xs x
enters_again xs x i at up = record {
  members = λ t. elim (x == t) as (λ b. (x == t) ≡ b → has_number xs t ≡ (b || has_number xs t)) [
    | true ↦ λ e. subst (λ z. has_number xs z ≡ true) (eqb-true x t e) (has_at xs x i at)
    | false ↦ λ e. refl
  ] refl;
  size = rw (has_at xs x i at) refl;
  ascending = up;
}

-- the place of a removed student is the gap where they would go
gap_remove : (xs : List ℕ) (x i : ℕ) → IsAt xs x i → IsAscending xs → IsGap (remove xs i) x i
gap_remove xs x i at up = record {
  within = omega (arith, length-remove xs i at.within, at.within);
  before = λ k below. rw (get_or-remove_below xs i 0 k below at.within)
      (omega (arith, up k i below at.within, at.here));
  after = λ k le within. rw (get_or-remove_above xs i 0 k le at.within)
      (omega (
        arith,
        up i (k + 1) (omega arith) (omega (arith, length-remove xs i at.within)),
        at.here,
      ));
}

pub ascending_remove : (xs : List ℕ) (i : ℕ) → i < length xs → IsAscending xs
    → IsAscending (remove xs i)
ascending_remove xs i lt up j k less within =
    search (rules, get_or-remove_above, get_or-remove_below, length-remove)

-- each old element is the removed student or is left
has_remove : (xs : List ℕ) (x i t : ℕ) → IsAt xs x i
    → has_number xs t ≡ ((x == t) || has_number (remove xs i) t)
has_remove xs x i t at =
    let p : ℕ → Bool = λ y. y == t in
    let split : xs ≡ take i xs ++ x ∷ drop (suc i) xs
    = split_at xs i 0 at.within ∙ ap (λ (y : ℕ). take i xs ++ y ∷ drop (suc i) xs) at.here in
    ap (list_any p) split
    ∙ list_any-append p (take i xs) (x ∷ drop (suc i) xs)
    ∙ or_middle (list_any p (take i xs)) (x == t) (list_any p (drop (suc i) xs))
    ∙ ap (λ b. (x == t) || b) (sym (list_any-append p (take i xs) (drop (suc i) xs)))

-- removing a student who is there
pub leaves_remove : (xs : List ℕ) (x i : ℕ) → IsAt xs x i → IsAscending xs
    → Leaves xs (remove xs i) x
leaves_remove xs x i at up = record {
  members = λ t. elim (x == t) as (λ b. (x == t) ≡ b
      → has_number (remove xs i) t ≡ (not b && has_number xs t)) [
        | true ↦ λ e. subst (λ z. has_number (remove xs i) z ≡ false) (eqb-true x t e)
            (has_gap (remove xs i) x i (gap_remove xs x i at up))
        | false ↦ λ e. sym (has_remove xs x i t at ∙ rw e refl)
      ] refl;
  size = rw (has_at xs x i at) (sym (length-remove xs i at.within));
  ascending = ascending_remove xs i at.within up;
}

-- removing a student who is not there changes nothing
pub leaves_again : (xs : List ℕ) (x i : ℕ) → IsGap xs x i → IsAscending xs → Leaves xs xs x
leaves_again xs x i gap up = record {
  members = λ t. elim (x == t) as (λ b. (x == t) ≡ b
      → has_number xs t ≡ (not b && has_number xs t)) [
        | true ↦ λ e. subst (λ z. has_number xs z ≡ false) (eqb-true x t e) (has_gap xs x i gap)
        | false ↦ λ e. refl
      ] refl;
  size = rw (has_gap xs x i gap) refl;
  ascending = up;
}

-- numbers at all places are numbers of all members
pub are_numbers : (xs : List ℕ) → ((k : ℕ) → k < length xs → slice_index xs k ≤ 999999999)
    → AreNumbers xs
are_numbers [] each s is = absurd (true≢false (sym is))
are_numbers (x ∷ xs) each s is =
    elim (cases_eq x s) [
      | inl same ↦ subst (λ (t : ℕ). t ≤ 999999999) same (each 0 (omega arith))
      | inr other ↦ are_numbers xs (λ k lt. each (suc k) (omega arith)) s
          (subst (λ b. (b || has_number xs s) ≡ true) (ne_eqb x s other) is)
    ]

pub ruleset roll_facts =
    (has_at, has_gap, ascending_insert, enters_insert, enters_again, leaves_remove, leaves_again)
