-- Rows of a list's elements, one after another, with numbers from n on.
use Rattle.std.proofs.lemmas.Grind.{common_steps}
use Rattle.std.proofs.Common.{◌≡◌, ℕ, zero, suc, ◌+◌, ◌<◌, List, [], ◌∷◌, ◌++◌, length, map, take, get_or, Option, Some, sym, ◌∙◌, ap, ap₂, subst, arith, append_assoc, rules}
use Rattle.std.specs.List.{AllByRecursion, cons_option}
use Rattle.std.specs.Prelude.{◌≤◌, IfSome}
use Rattle.std.proofs.lemmas.List.{length-take, take_more}
use Rattle.exam_lists.proofs.Chains.{IsChain, chain_cons_option}
use Rattle.exam_lists.proofs.Each.{each_weaker}
use Rattle.exam_lists.proofs.Options.{cons_option-append, each_cons_option, each_of_cons_option}

-- these are the rows of a list from a number on: an element has one row or none
pub record AreRowsOf {X Y : Type 0} (rows : ℕ → List X → List Y) (one : ℕ → X → Option Y)
    : Type 0 where
  pub none : (n : ℕ) → rows n [] ≡ []
  pub first : (n : ℕ) (x : X) (xs : List X)
      → rows n (x ∷ xs) ≡ cons_option (one n x) (rows (n + 1) xs)

module _ {X Y : Type 0} {rows : ℕ → List X → List Y} {one : ℕ → X → Option Y}
    (are : AreRowsOf rows one) where
  pub rows-append : (n : ℕ) (xs ys : List X)
      → rows n (xs ++ ys) ≡ rows n xs ++ rows (n + length xs) ys
  rows-append n [] ys = rw (are.none n) (ap (λ m. rows m ys) (omega arith))
  rows-append n (x ∷ xs) ys = grind (arith, common_steps, cons_option-append, rows-append (n + 1) xs ys)

  pub rows_push : (n m : ℕ) (xs : List X) (x : X) → m ≡ n + length xs
      → rows n (xs ++ x ∷ []) ≡ rows n xs ++ cons_option (one m x) []
  rows_push n m xs x is = grind (arith, common_steps, rows-append)

  -- the row of the next element
  pub rows_next : (xs : List X) (i : ℕ) (d : X) → i < length xs
      → rows 0 (take (i + 1) xs) ≡ rows 0 (take i xs) ++ cons_option (one i (get_or xs i d)) []
  rows_next xs i d within = grind (arith, common_steps, length-take, rows_push, take_more)

  -- a fact of each element's row
  pub each_numbered : (P : Y → Type 0) (z : X) (n : ℕ) (xs : List X)
      → ((k m : ℕ) → k < length xs → m ≡ n + k → IfSome (one m (get_or xs k z)) P)
      → AllByRecursion P (rows n xs)
  each_numbered P z n [] h = subst (AllByRecursion P) (sym (are.none n)) tt
  each_numbered P z n (x ∷ xs) h =
      subst (AllByRecursion P) (sym (are.first n x xs))
      (each_cons_option P (one n x) (rows (n + 1) xs) (h 0 n (omega arith) (omega arith))
      (each_numbered P z (n + 1) xs (λ k m within is. h (suc k) m (omega arith) (omega arith))))

  pub numbered_each : (P : Y → Type 0) (z : X) (n k m : ℕ) (xs : List X) → k < length xs
      → m ≡ n + k → AllByRecursion P (rows n xs) → IfSome (one m (get_or xs k z)) P
  numbered_each P z n k m [] within is all = absurd (omega arith)
  numbered_each P z n zero m (x ∷ xs) within is all =
      grind (arith, common_steps, each_of_cons_option)
  numbered_each P z n (suc k) m (x ∷ xs) within is all =
      numbered_each P z (n + 1) k m xs (omega arith) (omega arith)
      (each_of_cons_option P (one n x) (rows (n + 1) xs) (subst (AllByRecursion P) (are.first n x xs) all)).1

  -- the rows rise by their numbers
  module _ (key : Y → ℕ) (keyed : (n : ℕ) (x : X) → IfSome (one n x) (λ y. key y ≡ n)) where
    rows_above : (m n : ℕ) (xs : List X) → m ≤ n → AllByRecursion (λ y. m ≤ key y) (rows n xs)
    rows_above m n [] low = subst (AllByRecursion (λ y. m ≤ key y)) (sym (are.none n)) tt
    rows_above m n (x ∷ xs) low = grind (arith, common_steps, each_cons_option, rows_above m (n + 1) xs (omega arith))

    pub rows_rise : (n : ℕ) (xs : List X) → IsChain (λ x y. key x < key y) (rows n xs)
    rows_rise n [] = subst (IsChain (λ x y. key x < key y)) (sym (are.none n)) tt
    rows_rise n (x ∷ xs) =
        search (rules, rows_rise (n + 1) xs, IsChain, chain_cons_option, each_weaker, rows_above)

-- ---- one row of each element

module _ {X Y : Type 0} {rows : ℕ → List X → List Y} {row : ℕ → X → Y}
    (are : AreRowsOf rows (λ n x. Some (row n x))) where
  pub length-rows : (n : ℕ) (xs : List X) → length (rows n xs) ≡ length xs
  length-rows n [] = ap length (are.none n)
  length-rows n (x ∷ xs) =
      ap length (are.first n x xs) ∙ ap (λ m. suc m) (length-rows (n + 1) xs)

  rows_at : (n k m : ℕ) (xs : List X) (z : X) (d : Y) → k < length xs → m ≡ n + k
      → get_or (rows n xs) k d ≡ row m (get_or xs k z)
  rows_at n k m [] z d within is = absurd (omega arith)
  rows_at n zero m (x ∷ xs) z d within is =
      ap (λ l. get_or l 0 d) (are.first n x xs) ∙ ap (λ j. row j x) (omega arith)
  rows_at n (suc k) m (x ∷ xs) z d within is =
      grind (arith, common_steps, rows_at (n + 1) k m xs z d (omega arith) (omega arith))

  -- one more row is written
  pub rows_added : (xs : List X) (i : ℕ) (z : X) (start old more : List Y) → i < length xs
      → old ≡ start ++ rows 0 (take i xs) → more ≡ old ++ row i (get_or xs i z) ∷ []
      → more ≡ start ++ rows 0 (take (i + 1) xs)
  rows_added xs i z start old more within was added =
      added ∙ ap (λ l. l ++ row i (get_or xs i z) ∷ []) was
      ∙ append_assoc start (rows 0 (take i xs)) (row i (get_or xs i z) ∷ [])
      ∙ ap (λ l. start ++ l) (sym (rows_next are xs i z within))

  -- elements that are read back from their rows
  module _ (back : Y → X) (is : (n : ℕ) (x : X) → back (row n x) ≡ x) where
    rows_back : (n : ℕ) (xs : List X) → map back (rows n xs) ≡ xs
    rows_back n [] = ap (map back) (are.none n)
    rows_back n (x ∷ xs) =
        ap (map back) (are.first n x xs) ∙ ap₂ (λ y l. y ∷ l) (is n x) (rows_back (n + 1) xs)

    -- rows are those of one list
    pub rows_same : (n : ℕ) (xs ys : List X) → rows n xs ≡ rows n ys → xs ≡ ys
    rows_same n xs ys same = sym (rows_back n xs) ∙ ap (map back) same ∙ rows_back n ys

    -- each row is that of what it gives back
    pub row_is : (all : List Y) (xs : List X) → rows 0 xs ≡ all → (i : ℕ) (d : Y) → i < length all
        → row i (back (get_or all i d)) ≡ get_or all i d
    row_is all xs same i d within =
        let long = length-rows 0 xs in
        let size = ap length same in
        let here = sym (ap (λ l. get_or l i d) same)
        ∙ rows_at 0 i i xs (back d) d (omega (arith, long, size, within)) (omega arith) in
        ap (λ y. row i (back y)) here ∙ ap (row i) (is i (get_or xs i (back d))) ∙ sym here

    -- one more row is read
    pub rows_read : (all : List Y) (i : ℕ) (d : Y) (xs more : List X) → i < length all
        → rows 0 xs ≡ take i all → row i (back (get_or all i d)) ≡ get_or all i d
        → more ≡ xs ++ back (get_or all i d) ∷ [] → rows 0 more ≡ take (i + 1) all
    rows_read all i d xs more within was here added =
        let long = length-rows 0 xs in
        let size = ap length was in
        let front = length-take i all in
        ap (rows 0) added
        ∙ rows_push are 0 i xs (back (get_or all i d)) (omega (arith, long, size, front, within))
        ∙ ap₂ (λ l y. l ++ y ∷ []) was here ∙ sym (take_more all i d within)
