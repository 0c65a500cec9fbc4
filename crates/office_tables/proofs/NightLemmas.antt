-- Rows of two tables with the same numbers, as the rows of one list.
use Rattle.std.proofs.lemmas.Grind.{common_steps}
use Rattle.std.proofs.Common.{◌≡◌, ◌≢◌, ◌<ℤ◌, int_cmp, Less, ℕ, ℤ, pos, unsigned_abs, List, [], ◌∷◌, map, Option, Some, None, refl, sym, ap, subst, ◌∙◌, arith, IsPermutation}
use Rattle.std.specs.List.{AllByRecursion}
use Rattle.std.specs.Prelude.{Vec, IfSome}
use Rattle.std.specs.declared.alloc.Global.{Global}
use Rattle.std.specs.List.Sorted.{IsStrictlySortedBy}
use Rattle.std.proofs.lemmas.Cmp.{int_cmp_total}
use Rattle.std.proofs.lemmas.Int.{ints}
use Rattle.std.proofs.lemmas.List.Sorted.{Contains-permutation, IsPermutation-map, IsPermutation-sym, IsPermutation-trans}
use Rattle.exam_lists.proofs.Maps.{map_agree, same_unmapped}
use Rattle.exam_lists.proofs.Sorted.{same_sorted, sorted_cons, sorted_nil}
use Rattle.sqlite_rules.specs.Edit.{id_in}
use Rattle.sqlite_trees.specs.Tree.{IsAscending}
use Rattle.sqlite_trees.proofs.ListLemmas.{all_of, all-map, all-permutation, all_weaker, map-map}
use Rattle.sqlite_value.specs.declared.value.Value.TheVariants.{Int}
use Rattle.sqlite_value.specs.Order.{Row, column}
use Rattle.office_tables.specs.declared.nights.NightRow.{NightRow}
use Rattle.office_tables.specs.declared.version.Version.TheVariants.{One, Two}
use Rattle.office_tables.specs.Finders.{IsFound}
use Rattle.office_tables.specs.Joining.{AreFound, AreNights, HaveRows, IsJoined, IsJoinedWith, NightSplit}
use Rattle.office_tables.specs.Nights.{night_columns, FitsNight}
use Rattle.office_tables.specs.Readings.{ColumnRises}
use Rattle.office_tables.specs.Stored.{Holds, keyed_columns}
use Rattle.office_tables.proofs.RecordLemmas.{full_night, IsFull}

-- ---- numbers that rise strictly have no other order

abbrev Below : ℤ → ℤ → Type 0
Below a b = a <ℤ b

rising_sorted : (xs : List ℤ) → IsAscending Below xs → IsStrictlySortedBy int_cmp xs
rising_sorted [] up = sorted_nil int_cmp
rising_sorted (x ∷ xs) up =
    sorted_cons int_cmp x xs (all_weaker (Below x) (λ y. int_cmp x y ≡ Less) (less x) xs up.0)
    (rising_sorted xs up.1)
  where
    less : (a b : ℤ) → a <ℤ b → int_cmp a b ≡ Less
    less a b low = grind (arith, ints)

pub one_order : (xs ys : List ℤ) → IsAscending Below xs → IsAscending Below ys → IsPermutation xs ys
    → xs ≡ ys
one_order xs ys p q same =
    same_sorted int_cmp_total xs ys (rising_sorted xs p) (rising_sorted ys q)
    (λ x. Contains-permutation xs ys x same) (λ x. Contains-permutation ys xs x (IsPermutation-sym _ _ same))

same_ints : (xs ys : List ℤ) → map Int xs ≡ map Int ys → xs ≡ ys
same_ints = same_unmapped Int id_in (λ _. refl)

-- numbers in a column that rises rise
pub keys_rise : {X : Type 0} (row_of : X → Row) (at : ℕ) (key : X → ℕ)
    → ((x : X) → column (row_of x) at ≡ Int (pos (key x))) → (xs : List X)
    → ColumnRises at (map row_of xs) → IsAscending Below (map pos (map key xs))
keys_rise row_of at key is xs rise =
    let shown : map (λ r. column r at) (map row_of xs) ≡ map Int (map pos (map key xs)) =
    map-map (λ r. column r at) row_of xs
    ∙ map_agree (λ x. column (row_of x) at) (λ x. Int (pos (key x))) is xs
    ∙ sym (map-map Int (λ x. pos (key x)) xs) ∙ ap (map Int) (sym (map-map pos key xs)) in
    subst (IsAscending Below) (same_ints rise.0 (map pos (map key xs)) (sym rise.1 ∙ shown)) rise.2

ids_of_rows : {X : Type 0} (row_of : X → Row) (key : X → ℕ)
    → ((x : X) → column (row_of x) 0 ≡ Int (pos (key x))) → (xs : List X)
    → map (λ r. id_in (column r 0)) (map row_of xs) ≡ map pos (map key xs)
ids_of_rows row_of key is xs =
    map-map (λ r. id_in (column r 0)) row_of xs
    ∙ map_agree (λ x. id_in (column (row_of x) 0)) (λ x. pos (key x)) (λ x. ap id_in (is x)) xs
    ∙ sym (map-map pos key xs)

-- the numbers of rows are those of any order of their columns
pub keys_moved : {X Y : Type 0} (row_of : X → Row) (key : X → ℕ)
    → ((x : X) → column (row_of x) 0 ≡ Int (pos (key x)))
    → (other_of : Y → Row) (number : Y → ℕ)
    → ((y : Y) → column (other_of y) 0 ≡ Int (pos (number y)))
    → (xs : List X) (ys : List Y) → IsPermutation (map row_of xs) (map other_of ys)
    → IsPermutation (map pos (map key xs)) (map pos (map number ys))
keys_moved row_of key is other_of number are xs ys same =
    rw (sym (ids_of_rows row_of key is xs), sym (ids_of_rows other_of number are ys))
    (IsPermutation-map (λ r. id_in (column r 0)) _ _ same)

-- ---- rows whose amount over night is 0

module _ {X : Type 0} (fits : X → Type 0) (shown columns_of nights_of : X → Row)
    (number night : X → ℕ) (splits : NightSplit fits shown columns_of nights_of number night) where
  -- rows that are read from only the first table have no amounts
  pub no_nights : (rows : List X) → AllByRecursion IsFull (map shown rows)
      → AllByRecursion (λ x. night x ≡ 0) rows
  no_nights [] full = tt
  no_nights (x ∷ xs) full = grind (arith, common_steps, full_night, no_nights xs full.1)

  pub none_over_night : (stored : List Row) (rows : List X)
      → IsPermutation (map keyed_columns stored) (map shown rows)
      → AllByRecursion (λ x. night x ≡ 0) rows
  none_over_night stored rows same =
      no_nights rows (all-permutation IsFull (map keyed_columns stored) (map shown rows) same
      (all-map IsFull keyed_columns stored (all_of _ (λ r. tt) stored)))

  -- they show their columns in the first table
  pub bare_columns_are : (rows : List X) → AllByRecursion (λ x. night x ≡ 0) rows
      → map shown rows ≡ map columns_of rows
  bare_columns_are [] none = refl
  bare_columns_are (x ∷ xs) none = grind (arith, common_steps, bare_columns_are xs none.1)

  pub bare_holds : (stored : List Row) (rows : List X) → Holds keyed_columns (map shown rows) stored
      → Holds keyed_columns (map columns_of rows) stored
  bare_holds stored rows holds =
      subst (λ l. Holds keyed_columns l stored)
      (bare_columns_are rows (none_over_night stored rows holds.same)) holds

  pub shown_holds : (stored : List Row) (rows : List X) → Holds keyed_columns (map columns_of rows) stored
      → AllByRecursion (λ x. night x ≡ 0) rows → Holds keyed_columns (map shown rows) stored
  shown_holds stored rows holds none =
      subst (λ l. Holds keyed_columns l stored) (sym (bare_columns_are rows none)) holds

  -- rows with an amount of 0 have the columns of any rows
  pub bare_rows : (rows : List X) → map columns_of (map splits.bare rows) ≡ map columns_of rows
  bare_rows rows =
      map-map columns_of splits.bare rows
      ∙ map_agree (λ x. columns_of (splits.bare x)) columns_of splits.bare_same rows

  pub bare_shown : (stored : List Row) (rows : List X) → Holds keyed_columns (map columns_of rows) stored
      → Holds keyed_columns (map shown (map splits.bare rows)) stored
  bare_shown stored rows holds =
      shown_holds stored (map splits.bare rows)
      (subst (λ l. Holds keyed_columns l stored) (sym (bare_rows rows)) holds)
      (all-map (λ x. night x ≡ 0) splits.bare rows (all_of _ splits.bare_night rows))

  bare_fit : (rows : List X) → AllByRecursion fits rows → AllByRecursion fits (map splits.bare rows)
  bare_fit [] all = tt
  bare_fit (x ∷ xs) all = (splits.bare_fits x all.0, bare_fit xs all.1)

  unread : (stored : List Row)
      → ((rows : List X) → AllByRecursion fits rows
      → Holds keyed_columns (map shown rows) stored → ⊥)
      → (rows : List X) → AllByRecursion fits rows → Holds keyed_columns (map columns_of rows) stored → ⊥
  unread stored none rows fit holds =
      none (map splits.bare rows) (bare_fit rows fit) (bare_shown stored rows holds)

  apart : (stored nights_stored : List Row) (rows : List X) (nights : List NightRow)
      → Holds keyed_columns (map columns_of rows) stored
      → Holds keyed_columns (map night_columns nights) nights_stored
      → ColumnRises 0 (map columns_of rows) → ColumnRises 0 (map night_columns nights)
      → map number rows ≢ map (λ (n : NightRow). n.number) nights
      → (xs : List X) → Holds keyed_columns (map columns_of xs) stored
      → Holds keyed_columns (map nights_of xs) nights_stored → ⊥
  apart stored nights_stored rows nights first second up rise differ xs one two =
      let amount = λ (n : NightRow). n.number in
      let there : IsPermutation (map pos (map number rows)) (map pos (map number xs)) =
      keys_moved columns_of number splits.number_is columns_of number splits.number_is rows xs
      (IsPermutation-trans _ _ _ (IsPermutation-sym _ _ first.same) one.same) in
      let here : IsPermutation (map pos (map number xs)) (map pos (map amount nights)) =
      keys_moved nights_of number (λ x. ap (λ (r : Row). column r 0) (splits.nights_are x))
      night_columns amount (λ n. refl) xs nights
      (IsPermutation-trans _ _ _ (IsPermutation-sym _ _ two.same) second.same) in
      let first_up = keys_rise columns_of 0 number splits.number_is rows up in
      let second_up = keys_rise night_columns 0 amount (λ n. refl) nights rise in
      differ (same_unmapped pos unsigned_abs (λ _. refl) (map number rows) (map amount nights)
      (one_order (map pos (map number rows)) (map pos (map amount nights)) first_up second_up
      (IsPermutation-trans _ _ _ there here)))

  abbrev night_of : X → NightRow
  night_of x = record { number = number x; night = night x }

  nights_fit : (xs : List X) → AllByRecursion fits xs → AllByRecursion FitsNight (map night_of xs)
  nights_fit [] all = tt
  nights_fit (x ∷ xs) all = (splits.narrow x all.0, nights_fit xs all.1)

  nights_are : (xs : List X) → map night_columns (map night_of xs) ≡ map nights_of xs
  nights_are xs =
      map-map night_columns night_of xs
      ∙ map_agree (λ x. night_columns (night_of x)) nights_of (λ x. sym (splits.nights_are x)) xs

  -- version 1
  pub before_found : (stored nights_stored : List Row) (found : Option (Vec X Global))
      → IsFound fits shown keyed_columns stored found
      → AreFound fits (HaveRows One columns_of nights_of night stored nights_stored) found
  before_found stored nights_stored None none = λ xs fit have. unread stored none xs fit have.first
  before_found stored nights_stored (Some rows) holds = record {
    first = bare_holds stored rows.items holds;
    second = none_over_night stored rows.items holds.same;
  }

  both_found : (stored nights_stored : List Row) (rows : Option (Vec X Global))
      (nights : Option (Vec NightRow Global)) → IsFound fits shown keyed_columns stored rows
      → IfSome rows (λ records. ColumnRises 0 (map shown records.items))
      → AreNights nights_stored nights → (found : Option (Vec X Global))
      → IsJoined columns_of nights_of number rows nights found
      → AreFound fits (HaveRows Two columns_of nights_of night stored nights_stored) found
  both_found stored nights_stored None nights none up are found is =
      subst (AreFound fits (HaveRows Two columns_of nights_of night stored nights_stored)) (sym is)
      (λ xs fit have. unread stored none xs fit have.first)
  both_found stored nights_stored (Some rows) None holds up are found is =
      subst (AreFound fits (HaveRows Two columns_of nights_of night stored nights_stored)) (sym is)
      (λ xs fit have. are.0 (map night_of xs) (nights_fit xs fit)
      (subst (λ l. Holds keyed_columns l nights_stored) (sym (nights_are xs)) have.second))
  both_found stored nights_stored (Some rows) (Some nights) holds up are (Some made) is = record {
    first = subst (λ l. Holds keyed_columns l stored) (sym is.0) (bare_holds stored rows.items holds);
    second = subst (λ l. Holds keyed_columns l nights_stored) (sym is.1) are.0;
  }
  both_found stored nights_stored (Some rows) (Some nights) holds up are None differ =
      λ xs fit have. apart stored nights_stored rows.items nights.items
      (bare_holds stored rows.items holds) are.0 (subst (ColumnRises 0)
      (bare_columns_are rows.items (none_over_night stored rows.items holds.same)) up)
      are.1 differ xs have.first have.second

  -- version 2
  pub joined_found : (stored nights_stored : List Row)
      (rows : Option (Vec X Global)) → IsFound fits shown keyed_columns stored rows
      → IfSome rows (λ records. ColumnRises 0 (map shown records.items))
      → (found : Option (Vec X Global))
      → IsJoinedWith columns_of nights_of number rows nights_stored found
      → AreFound fits (HaveRows Two columns_of nights_of night stored nights_stored) found
  joined_found stored nights_stored rows holds up found joined =
      both_found stored nights_stored rows joined.0 holds up joined.1 found joined.2
