-- A walk along two ascending lists in search of a common element.
use Rattle.std.specs.List.{list_any}
use Rattle.std.proofs.Common.{◌≡◌, ℕ, suc, ◌<◌, Bool, false, ◌||◌, List, [], ◌∷◌, refl, sym, ◌∙◌, ap, ap₂, subst, arith}
use Rattle.std.proofs.lemmas.Bool.{ne_eqb}
use Rattle.exam_model.specs.Enrolments.{IsAscending, has_number}

tail_up : (x : ℕ) (xs : List ℕ) → IsAscending (x ∷ xs) → IsAscending xs
tail_up x xs up i j lt within = up (suc i) (suc j) (omega arith) (omega arith)

-- a number below the first is not in an ascending list
absent : (s y : ℕ) (ys : List ℕ) → s < y → IsAscending (y ∷ ys) → has_number (y ∷ ys) s ≡ false
absent s y [] lt up = ap (λ b. b || false) (ne_eqb y s (omega arith))
absent s y (z ∷ zs) lt up =
    let more : y < z = up 0 1 (omega arith) (omega arith) in
    ap₂ (λ a b. a || b) (ne_eqb y s (omega arith))
    (absent s z zs (omega arith) (tail_up y (z ∷ zs) up))

-- the first of the left list is not in the right one
pub pass_left : (x y : ℕ) (xs ys : List ℕ) → x < y → IsAscending (y ∷ ys)
    → list_any (λ s. has_number (y ∷ ys) s) (x ∷ xs) ≡ list_any (λ s. has_number (y ∷ ys) s) xs
pass_left x y xs ys lt up =
    ap (λ b. b || list_any (λ s. has_number (y ∷ ys) s) xs) (absent x y ys lt up)

-- the first of the right list is not in the left one
pub pass_right : (x y : ℕ) (xs ys : List ℕ) → y < x → IsAscending (x ∷ xs)
    → list_any (λ s. has_number (y ∷ ys) s) (x ∷ xs) ≡ list_any (λ s. has_number ys s) (x ∷ xs)
pass_right x y [] ys lt up = ap (λ b. (b || has_number ys x) || false) (ne_eqb y x (omega arith))
pass_right x y (z ∷ zs) ys lt up =
    let more : x < z = up 0 1 (omega arith) (omega arith) in
    ap₂ (λ a b. (a || has_number ys x) || b) (ne_eqb y x (omega arith))
    (pass_right z y zs ys (omega arith) (tail_up x (z ∷ zs) up))

-- the invariant of a walk: whether students are common, and both lists ascending
pub record IsWalked (left right : List ℕ) (common : Bool) : Type 0 where
  pub same : list_any (λ s. has_number right s) left ≡ common
  pub left_rises : IsAscending left
  pub right_rises : IsAscending right

-- a step along the left list
pub step_left : (left right xs ys : List ℕ) (x y : ℕ) (common : Bool) → left ≡ x ∷ xs
    → right ≡ y ∷ ys
    → x < y → IsWalked left right common → IsWalked xs right common
step_left left right xs ys x y common l r lt was =
    let up = subst IsAscending l was.left_rises in
    let down = subst IsAscending r was.right_rises in
    let now = subst (λ zs. list_any (λ s. has_number zs s) (x ∷ xs) ≡ common) r
    (subst (λ zs. list_any (λ s. has_number right s) zs ≡ common) l was.same) in
    record {
      same = subst (λ zs. list_any (λ s. has_number zs s) xs ≡ common) (sym r)
          (sym (pass_left x y xs ys lt down) ∙ now);
      left_rises = tail_up x xs up;
      right_rises = was.right_rises;
    }

-- a step along the right list
pub step_right : (left right xs ys : List ℕ) (x y : ℕ) (common : Bool) → left ≡ x ∷ xs
    → right ≡ y ∷ ys
    → y < x → IsWalked left right common → IsWalked left ys common
step_right left right xs ys x y common l r lt was =
    let up = subst IsAscending l was.left_rises in
    let down = subst IsAscending r was.right_rises in
    let now = subst (λ zs. list_any (λ s. has_number zs s) (x ∷ xs) ≡ common) r
    (subst (λ zs. list_any (λ s. has_number right s) zs ≡ common) l was.same) in
    record {
      same = subst (λ zs. list_any (λ s. has_number ys s) zs ≡ common) (sym l)
          (sym (pass_right x y xs ys lt up) ∙ now);
      left_rises = was.left_rises;
      right_rises = tail_up y ys down;
    }

-- no student is common with an empty list
pub none_common : (left : List ℕ) → list_any (λ s. has_number [] s) left ≡ false
none_common [] = refl
none_common (x ∷ xs) = none_common xs
