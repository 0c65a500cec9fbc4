-- A walk along two ascending lists that counts their common numbers.
use Rattle.std.proofs.lemmas.Grind.{common_steps}
use Rattle.std.proofs.Common.{◌≡◌, ℕ, zero, suc, ◌+◌, ◌<◌, Bool, true, false, ◌||◌, ◌==◌, if◌then◌else◌, List, [], ◌∷◌, count_by, get_or, length, refl, sym, ◌∙◌, ap, ap₂, subst, arith, eq-eqb, ne_eqb}
use Rattle.std.proofs.lemmas.List.Sums.{sum_by-cons}
use Rattle.exam_model.specs.Enrolments.{IsAscending, has_number}

tail_up : (x : ℕ) (xs : List ℕ) → IsAscending (x ∷ xs) → IsAscending xs
tail_up x xs up i j lt within = up (suc i) (suc j) (omega arith) (omega arith)

-- a number below the first is not in an ascending list
absent : (s y : ℕ) (ys : List ℕ) → s < y → IsAscending (y ∷ ys) → has_number (y ∷ ys) s ≡ false
absent s y [] lt up = ap (λ b. b || false) (ne_eqb y s (omega arith))
absent s y (z ∷ zs) lt up =
    let more : y < z = up 0 1 (omega arith) (omega arith) in
    ap₂ (λ a b. a || b) (ne_eqb y s (omega arith))
    (absent s z zs (omega arith) (tail_up y (z ∷ zs) up))

-- how many numbers of the left list are in the right one
abbrev pub common : List ℕ → List ℕ → ℕ
common left right = count_by (λ s. has_number right s) left

one_more : (right : List ℕ) (x : ℕ) (xs : List ℕ)
    → common (x ∷ xs) right ≡ (if has_number right x then 1 else 0) + common xs right
one_more right x xs = sum_by-cons (λ s. if has_number right s then 1 else 0) x xs

-- a number below all numbers of the left list matters to none of them
skipped : (y : ℕ) (xs ys : List ℕ) → ((i : ℕ) → i < length xs → y < get_or xs i 0)
    → common xs (y ∷ ys) ≡ common xs ys
skipped y [] ys below = refl
skipped y (x ∷ xs) ys below =
    let less : y < x = below 0 (omega arith) in
    one_more (y ∷ ys) x xs
    ∙ ap₂ (λ (b : Bool) n. (if b || has_number ys x then 1 else 0) + n) (ne_eqb y x (omega arith))
    (skipped y xs ys (λ i lt. below (suc i) (omega (arith, lt))))
    ∙ sym (one_more ys x xs)

-- the state of the walk: the numbers counted so far and those still to come
pub record IsWalked (left right : List ℕ) (count total : ℕ) : Type 0 where
  pub counted : count + common left right ≡ total
  pub left_rises : IsAscending left
  pub right_rises : IsAscending right

-- a step along the left list
pub step_left : (left right xs ys : List ℕ) (x y count total : ℕ) → left ≡ x ∷ xs → right ≡ y ∷ ys
    → x < y → IsWalked left right count total → IsWalked xs right count total
step_left left right xs ys x y count total l r lt was =
    let up = subst IsAscending l was.left_rises in
    let down = subst IsAscending r was.right_rises in
    let gone : has_number right x ≡ false = grind (arith, common_steps, absent) in
    let all = ap (λ zs. common zs right) l ∙ one_more right x xs
    ∙ ap (λ (b : Bool). (if b then 1 else 0) + common xs right) gone in
    record {
      counted = omega (arith, all, was.counted);
      left_rises = tail_up x xs up;
      right_rises = was.right_rises;
    }

-- the numbers of a list behind its first are greater
above : (y x : ℕ) (xs : List ℕ) → y < x → IsAscending (x ∷ xs)
    → (i : ℕ) → i < length (x ∷ xs) → y < get_or (x ∷ xs) i 0
above y x xs lt up zero within = lt
above y x xs lt up (suc i) within =
    let more : x < get_or (x ∷ xs) (suc i) 0 = up 0 (suc i) (omega arith) within in
    omega (arith, more)

-- a step along the right list
pub step_right : (left right xs ys : List ℕ) (x y count total : ℕ) → left ≡ x ∷ xs → right ≡ y ∷ ys
    → y < x → IsWalked left right count total → IsWalked left ys count total
step_right left right xs ys x y count total l r lt was =
    let up = subst IsAscending l was.left_rises in
    let down = subst IsAscending r was.right_rises in
    let all = ap₂ common l r ∙ skipped y (x ∷ xs) ys (above y x xs lt up)
    ∙ ap (λ zs. common zs ys) (sym l) in
    record {
      counted = omega (arith, all, was.counted);
      left_rises = was.left_rises;
      right_rises = tail_up y ys down;
    }

-- a step along both
pub step_both : (left right xs ys : List ℕ) (x y count total : ℕ) → left ≡ x ∷ xs → right ≡ y ∷ ys
    → x ≡ y → IsWalked left right count total → IsWalked xs ys (count + 1) total
step_both left right xs ys x y count total l r same was =
    let up = subst IsAscending l was.left_rises in
    let down = subst IsAscending r was.right_rises in
    let behind : (i : ℕ) → i < length xs → y < get_or xs i 0
    = λ i lt. (let more : x < get_or xs i 0 = up 0 (suc i) (omega arith) (omega (arith, lt)) in
    omega (arith, more, same)) in
    let here : (y == x) ≡ true = eq-eqb y x (sym same) in
    let all = ap₂ common l r ∙ one_more (y ∷ ys) x xs
    ∙ ap₂ (λ (b : Bool) n. (if b || has_number ys x then 1 else 0) + n) here
    (skipped y xs ys behind) in
    record {
      counted = omega (arith, all, was.counted);
      left_rises = tail_up x xs up;
      right_rises = tail_up y ys down;
    }

-- no number is common with an empty list
pub none_common : (left : List ℕ) → common left [] ≡ 0
none_common [] = refl
none_common (x ∷ xs) = one_more [] x xs ∙ omega (arith, none_common xs)
