-- Numbers of rows that rise, and numbers that are distinct.
use Rattle.std.proofs.lemmas.Grind.{common_steps}
use Rattle.std.proofs.Common.{◌≡◌, ◌≢◌, ◌<ℤ◌, ℕ, zero, suc, ℤ, List, [], ◌∷◌, ◌++◌, map, take, drop, length, Option, Some, None, Equal, is_lt, int_cmp, add-one, false, refl, sym, ap, ap₂, subst, ◌∙◌, IsSorted, arith}
use Rattle.std.specs.List.{AllByRecursion}
use Rattle.std.specs.Ordering.{ordering_then}
use Rattle.std.specs.Prelude.{IfSome}
use Rattle.std.proofs.lemmas.Bool.Decides.{nat_tests}
use Rattle.std.proofs.lemmas.Int.{ints}
use Rattle.std.proofs.lemmas.List.{map-append, take-map}
use Rattle.exam_lists.proofs.Each.{each_at_middle, each_take}
use Rattle.exam_lists.proofs.Orders.{then_equal}
use Rattle.sqlite_rules.specs.Edit.{id_in}
use Rattle.sqlite_rules.proofs.TableLemmas.{int_is}
use Rattle.sqlite_trees.specs.Tree.{rowid, IsAscending}
use Rattle.sqlite_trees.proofs.ListLemmas.{all_weaker, ascending-append}
use Rattle.sqlite_value.specs.declared.keys.Collation.TheVariants.{Binary}
use Rattle.sqlite_value.specs.declared.value.Value.{Value}
use Rattle.sqlite_value.specs.declared.value.Value.TheVariants.{Int}
use Rattle.sqlite_value.specs.Keys.{ascending}
use Rattle.sqlite_value.specs.Order.{Row, column}
use Rattle.sqlite_value.proofs.OrderLemmas.{value_cmp-Int}
use Rattle.sqlite.specs.Query.{key_cmp, sort_cmp}
use Rattle.sqlite.specs.Term.{Term, Env, eval_all}
use Rattle.office_tables.specs.Readings.{IsNext, ColumnRises}
use Rattle.office_tables.specs.Listings.{ordered_by}
use Rattle.office_tables.specs.Stored.{HasRowids}
use Rattle.office_tables.proofs.OrderLemmas.{shown_column}

-- only one column
abbrev pub only_column : ℕ → Row → Row
only_column at row = column row at ∷ []

abbrev pub Below : ℤ → ℤ → Type 0
Below a b = a <ℤ b

-- ---- integers

same_int : (a b : ℤ) → Int a ≡ Int b → a ≡ b
same_int a b e = cc

not_itself : (n : ℤ) → n <ℤ n → ⊥
not_itself n h = grind (arith, ints)

later_too : (a b c : ℤ) → a <ℤ b → b <ℤ c → a <ℤ c
later_too a b c p q = grind (arith, ints)

not_less : (a b : ℤ) → is_lt (int_cmp b a) ≡ false → a ≢ b → a <ℤ b
not_less a b low apart = grind (arith, ints, nat_tests)

-- ---- numbers that rise are distinct

apart_from : (at : ℕ) (a : Row) (n : ℤ) → column a at ≡ Int n → (rows : List Row)
    (numbers : List ℤ) → map (λ r. column r at) rows ≡ map Int numbers
    → AllByRecursion (Below n) numbers
    → AllByRecursion (λ b. column a at ≢ rowid b) (map (only_column at) rows)
apart_from at a n is [] numbers same low = tt
apart_from at a n is (r ∷ rows) [] same low = absurd (cc)
apart_from at a n is (r ∷ rows) (m ∷ numbers) same low =
    grind (arith, common_steps, not_itself, same_int, apart_from at a n is rows numbers (ap (drop 1) same) low.1)

rowids_of : (at : ℕ) (rows : List Row) (numbers : List ℤ)
    → map (λ r. column r at) rows ≡ map Int numbers → IsAscending Below numbers
    → HasRowids (map (only_column at) rows)
rowids_of at [] numbers same up = record { ints = tt; apart = tt }
rowids_of at (r ∷ rows) [] same up = absurd (cc)
rowids_of at (r ∷ rows) (n ∷ numbers) same up =
    grind (arith, common_steps, ints, apart_from, rowids_of at rows numbers (ap (drop 1) same) up.1)

pub rowids_from_rising : (at : ℕ) (rows : List Row) → ColumnRises at rows
    → HasRowids (map (only_column at) rows)
rowids_from_rising at rows h = rowids_of at rows h.0 h.1 h.2

-- ---- sorted rows with distinct numbers have numbers that rise

by_one : (u v : Value) (a b : ℤ) → u ≡ Int a → v ≡ Int b
    → key_cmp 0 (ascending Binary ∷ []) (u ∷ []) (v ∷ []) ≡ int_cmp a b
by_one u v a b p q =
    rw (p, q) (ap (λ o. ordering_then o Equal) (value_cmp-Int a b) ∙ then_equal (int_cmp a b))

module _ (shown : List Term) (at : ℕ) where
  abbrev pub Numbered : List Env → List Row
  Numbered envs = map (eval_all shown) envs

  ordered : (x y : Env) (a b : ℤ) → column (eval_all shown x) at ≡ Int a
      → column (eval_all shown y) at ≡ Int b
      → is_lt (sort_cmp (ordered_by shown at) y x) ≡ false → a ≢ b → a <ℤ b
  ordered x y a b p q low apart = grind (arith, common_steps, by_one, shown_column, not_less, is_lt)

  first_below : (x : Env) (n : ℤ) → column (eval_all shown x) at ≡ Int n
      → (envs : List Env) (numbers : List ℤ) → IsSorted (sort_cmp (ordered_by shown at)) (x ∷ envs)
      → map (λ r. column r at) (Numbered envs) ≡ map Int numbers → IsAscending Below numbers
      → AllByRecursion (λ b. column (eval_all shown x) at ≢ rowid b)
      (map (only_column at) (Numbered envs))
      → AllByRecursion (Below n) numbers
  first_below x n is [] [] sorted same up apart = tt
  first_below x n is [] (m ∷ numbers) sorted same up apart = absurd (cc)
  first_below x n is (y ∷ envs) [] sorted same up apart = tt
  first_below x n is (y ∷ envs) (m ∷ numbers) sorted same up apart =
      let here : column (eval_all shown y) at ≡ Int m = ap (λ (l : Row). column l 0) same in
      let low = ordered x y n m is here (sorted 0 x (omega arith) (omega arith))
      (λ e. apart.0 (is ∙ ap Int e ∙ sym here)) in
      (low, all_weaker (Below m) (Below n) (λ k above. later_too n m k low above) numbers up.0)

  pub rising_from_sorted : (envs : List Env) → IsSorted (sort_cmp (ordered_by shown at)) envs
      → HasRowids (map (only_column at) (Numbered envs)) → ColumnRises at (Numbered envs)
  rising_from_sorted [] sorted once = ([], refl, tt)
  rising_from_sorted (x ∷ envs) sorted once =
      let tail : IsSorted (sort_cmp (ordered_by shown at)) envs = λ k d low within.
      rw add-one (rw add-one at (sorted (suc k) d (omega arith) (omega arith))) in
      let rest = rising_from_sorted envs tail
      (record { ints = once.ints.1; apart = once.apart.1 }) in
      let v = column (eval_all shown x) at in
      let is : v ≡ Int (id_in v) = int_is v once.ints.0 in (
        id_in v ∷ rest.0,
        ap₂ (λ u us. u ∷ us) is rest.1,
        (first_below x (id_in v) is envs rest.0 sorted rest.1 rest.2 once.apart.0, rest.2),
      )

-- ---- one more row

-- the last of the numbers, or there is none
abbrev pub EndsWith : Option ℤ → List ℤ → Type 0
EndsWith None numbers = numbers ≡ []
EndsWith (Some top) numbers = (before : List ℤ) × (numbers ≡ before ++ top ∷ [])

all_low : (before : List ℤ) (top n : ℤ) → IsAscending Below (before ++ top ∷ []) → top <ℤ n
    → AllByRecursion (λ x. AllByRecursion (Below x) (n ∷ [])) (before ++ top ∷ [])
all_low [] top n up low = ((low, tt), tt)
all_low (x ∷ before) top n up low = (
  (later_too x top n (each_at_middle (Below x) before top [] up.0) low, tt),
  all_low before top n up.1 low,
)

pub one_more : (numbers : List ℤ) (last : Option ℤ) (n : ℤ) → IsAscending Below numbers
    → EndsWith last numbers → IfSome last (λ before. before <ℤ n)
    → IsAscending Below (numbers ++ n ∷ [])
one_more numbers None n up ends low = rw ends (tt, tt)
one_more numbers (Some top) n up ends low =
    ascending-append Below numbers (n ∷ []) up (tt, tt)
    (subst (AllByRecursion (λ x. AllByRecursion (Below x) (n ∷ []))) (sym ends.1)
    (all_low ends.0 top n (subst (IsAscending Below) ends.1 up) low))

last_low : (before : List ℤ) (top n : ℤ) → IsAscending Below ((before ++ top ∷ []) ++ n ∷ [])
    → top <ℤ n
last_low [] top n up = up.0.0
last_low (x ∷ before) top n up = last_low before top n up.1

above_last : (numbers : List ℤ) (last : Option ℤ) (n : ℤ) → EndsWith last numbers
    → IsAscending Below (numbers ++ n ∷ []) → IfSome last (λ before. before <ℤ n)
above_last numbers None n ends up = tt
above_last numbers (Some top) n ends up =
    last_low ends.0 top n (subst (λ l. IsAscending Below (l ++ n ∷ [])) ends.1 up)

split : (numbers all : List ℤ) (v : Value) → map Int numbers ++ v ∷ [] ≡ map Int all
    → (n : ℤ) × (v ≡ Int n) × (all ≡ numbers ++ n ∷ [])
split [] [] v h = absurd (cc)
split [] (n ∷ []) v h = (n, ap (λ (l : Row). column l 0) h, refl)
split [] (n ∷ m ∷ all) v h = absurd (omega (arith, ap length h))
split (m ∷ numbers) [] v h = absurd (cc)
split (m ∷ numbers) (n ∷ all) v h = grind (arith, common_steps, same_int, split numbers all v (ap (drop 1) h))

-- if a row has no number greater than the last, the numbers don't rise with this row
pub none_more : (at : ℕ) (rows : List Row) (row : Row) (numbers : List ℤ) (last : Option ℤ)
    → map (λ r. column r at) rows ≡ map Int numbers → EndsWith last numbers
    → IsNext (column row at) last None → ColumnRises at (rows ++ row ∷ []) → ⊥
none_more at rows row numbers last same ends none rise =
    let more : map Int numbers ++ column row at ∷ [] ≡ map Int rise.0 =
    sym (map-append (λ r. column r at) rows (row ∷ [])
    ∙ ap (λ l. l ++ column row at ∷ []) same) ∙ rise.1 in
    let parts = split numbers rise.0 (column row at) more in
    none parts.0 parts.1
    (above_last numbers last parts.0 ends (subst (IsAscending Below) parts.2 rise.2))

ascending-take : (i : ℕ) (xs : List ℤ) → IsAscending Below xs → IsAscending Below (take i xs)
ascending-take zero xs up = tt
ascending-take (suc i) [] up = tt
ascending-take (suc i) (x ∷ xs) up = (each_take (Below x) i xs up.0, ascending-take i xs up.1)

pub rising-take : (at i : ℕ) (rows : List Row) → ColumnRises at rows → ColumnRises at (take i rows)
rising-take at i rows h = (
  take i h.0,
  sym (take-map (λ r. column r at) i rows) ∙ ap (take i) h.1 ∙ take-map Int i h.0,
  ascending-take i h.0 h.2,
)
