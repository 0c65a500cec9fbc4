-- Rows in the order of ORDER BY, as records in the order of their numbers.
use Rattle.std.proofs.lemmas.Grind.{common_steps}
use Rattle.std.proofs.Common.{◌≡◌, ◌≤◌, ℕ, zero, suc, ◌+◌, ◌<◌, pos, Bool, List, [], ◌∷◌, map, filter, length, get_or, nat_cmp, int_cmp, Ordering, Less, is_lt, refl, sym, ap, ap₂, subst, ◌∙◌, arith, IsPermutation}
use Rattle.std.specs.Prelude.{slice_index_or, IsSortedByKey}
use Rattle.std.specs.List.{AllByRecursion}
use Rattle.std.specs.Ordering.{on}
use Rattle.std.specs.Cmp.Lexicographic.{slice_cmp}
use Rattle.std.proofs.lemmas.Cmp.{on_total, nat_list_cmp_total}
use Rattle.std.proofs.lemmas.Int.{ints}
use Rattle.std.proofs.lemmas.List.{get_or-map, length-map}
use Rattle.std.proofs.lemmas.List.Sorted.{IsPermutation-map, IsPermutation-trans, IsPermutation-sym}
use Rattle.exam_lists.proofs.Maps.{map_agree, same_unmapped}
use Rattle.exam_lists.proofs.Orders.{single_less}
use Rattle.sqlite_value.specs.declared.value.Value.{Value}
use Rattle.sqlite_value.specs.declared.value.Value.TheVariants.{Int, Null}
use Rattle.sqlite_value.specs.declared.keys.Collation.TheVariants.{Binary}
use Rattle.sqlite_value.specs.declared.keys.Key.{Key}
use Rattle.sqlite_value.specs.Keys.{ascending}
use Rattle.sqlite_value.specs.Order.{Row, column, value_cmp}
use Rattle.sqlite_value.proofs.OrderLemmas.{value_cmp-Int}
use Rattle.sqlite_trees.proofs.ListLemmas.{map-map, pull_back, all_of, all-map, all-permutation, ascending_weaker}
use Rattle.sqlite_keyed.proofs.SortLemmas.{sorted_unique}
use Rattle.sqlite_sql.proofs.QueryLemmas.{key_cmp_shift}
use Rattle.sqlite_trees.specs.Tree.{Trees, IsAscending}
use Rattle.sqlite.specs.Query.{Query, Join, IsAnswer, key_cmp, sort_cmp, matches, inner, end}
use Rattle.sqlite.specs.Term.{Term, Env, lit, eval, eval_all}
use Rattle.office_tables.specs.Asking.{select_query, IsReadOf}
use Rattle.office_tables.specs.Records.{columns_from}
use Rattle.office_tables.specs.Selections.{AreListed}
use Rattle.office_tables.proofs.AskLemmas.{arranged}
use Rattle.office_tables.proofs.Queries.{matched, passes, shown_filter}

-- ---- an order by numbers

-- by these of the shown columns, rising
abbrev pub rising : List Term → List ℕ → List (Term × Key)
rising shown by = map (λ at. (slice_index_or shown at (lit Null), ascending Binary)) by

-- by the first numbers that differ
abbrev pub numbers_cmp : List ℕ → List ℕ → Ordering
numbers_cmp = slice_cmp nat_cmp

-- no record has lower numbers than the one that it follows
abbrev pub Rises : {R : Type 0} → (R → List ℕ) → List R → Type 0
Rises key = IsSortedByKey key numbers_cmp

-- each record has lower numbers than all that follow
abbrev pub StrictlyRises : {R : Type 0} → (R → List ℕ) → List R → Type 0
StrictlyRises key = IsAscending (λ x y. numbers_cmp (key x) (key y) ≡ Less)

abbrev pub int : ℕ → Value
int n = Int (pos n)

in_order : (m n : ℕ) → value_cmp (int m) (int n) ≡ nat_cmp m n
in_order m n =
    let same : int_cmp (pos m) (pos n) ≡ nat_cmp m n = grind (arith, ints) in
    value_cmp-Int (pos m) (pos n) ∙ same

-- columns of what is shown are the terms that show them
pub shown_column : (shown : List Term) (at : ℕ) (env : Env)
    → column (eval_all shown env) at ≡ eval (slice_index_or shown at (lit Null)) env
shown_column [] at env = refl
shown_column (t ∷ shown) zero env = refl
shown_column (t ∷ shown) (suc at) env = shown_column shown at env

sorted_by : (shown : List Term) (by : List ℕ) (env : Env)
    → eval_all (map (λ k. k.0) (rising shown by)) env ≡ map (column (eval_all shown env)) by
sorted_by shown [] env = refl
sorted_by shown (at ∷ by) env =
    ap₂ (λ v vs. v ∷ vs) (sym (shown_column shown at env)) (sorted_by shown by env)

by_numbers : (shown : List Term) (by ns ms : List ℕ) → length ns ≡ length by
    → length ms ≡ length by
    → key_cmp 0 (map (λ k. k.1) (rising shown by)) (map int ns) (map int ms) ≡ numbers_cmp ns ms
by_numbers shown [] [] [] p q = refl
by_numbers shown (at ∷ by) (n ∷ ns) (m ∷ ms) p q =
    grind (arith, common_steps, in_order, key_cmp_shift, by_numbers shown by ns ms (omega arith) (omega arith))
by_numbers shown _ _ _ p q = absurd (omega arith)

as_many : (by : List ℕ) (row : Row) (ns : List ℕ) → map (column row) by ≡ map int ns
    → length ns ≡ length by
as_many by row ns is = sym (length-map ns int) ∙ sym (ap length is) ∙ length-map by (column row)

sort_is : (shown : List Term) (by : List ℕ) (x y : Env) (ns ms : List ℕ)
    → map (column (eval_all shown x)) by ≡ map int ns
    → map (column (eval_all shown y)) by ≡ map int ms
    → sort_cmp (rising shown by) x y ≡ numbers_cmp ns ms
sort_is shown by x y ns ms p q = grind (arith, common_steps, sorted_by, by_numbers, as_many)

-- records that rise strictly don't rise in any other order
pub only_order : {R : Type 0} (key : R → List ℕ) (xs ys : List R) → StrictlyRises key xs
    → IsPermutation xs ys → Rises key ys → ys ≡ xs
only_order key xs ys strict same up =
    sorted_unique (on key numbers_cmp) (on_total key nat_list_cmp_total) xs ys strict same up

-- ---- orders in words of numbers

-- a list that rises is the one list of its rows that rises strictly
pub in_this_order : {R : Type 0} (Before : R → R → Type 0) (key : R → List ℕ)
    → ((x y : R) → Before x y → numbers_cmp (key x) (key y) ≡ Less)
    → (rows found : List R) → IsPermutation rows found × Rises key found
    → AreListed (IsAscending Before) rows found
in_this_order Before key less rows found is = record {
  rows = is.0;
  in_order = λ ordered same up. only_order key ordered found
      (ascending_weaker Before (λ x y. numbers_cmp (key x) (key y) ≡ Less) less ordered up)
      (IsPermutation-trans _ _ _ (IsPermutation-sym _ _ same) is.0) is.1;
}

-- the same for rows with one number each
pub by_number : {R : Type 0} (number : R → ℕ) (rows found : List R)
    → IsPermutation rows found × Rises (λ x. number x ∷ []) found
    → AreListed (IsAscending (λ a b. number a < number b)) rows found
by_number number =
    in_this_order (λ a b. number a < number b) (λ x. number x ∷ [])
    (λ x y. single_less (number x) (number y))

-- ---- from matches to records

-- if records are read of rows, so are the typed rows that the records show
pub typed : {R X : Type 0} (row_of : X → Row) (row : R → X) (width : ℕ) (params : Row) (q : Query)
    (trees : Trees) (records : List R)
    → IsReadOf (λ r. row_of (row r)) width params q trees records
    → IsReadOf row_of width params q trees (map row records)
typed row_of row width params q trees records h =
    (h.0, map-map row_of row records ∙ h.1, h.2)

module _ {R : Type 0} (record_of : Row → R) (row_of : R → Row) (width : ℕ)
    (back : (x : R) → record_of (row_of x) ≡ x)
    (whole : (x : R) → columns_from 0 width (row_of x) ≡ row_of x) (from : Join)
    (where_ shown : List Term) (by : List ℕ) (key : R → List ℕ)
    (keyed : (x : R) → map (column (row_of x)) by ≡ map int (key x)) where
  -- if the matches show these typed rows, the records are those, and they rise
  pub read : (trees : Trees) (params : Row) (xs records : List R)
      → IsPermutation (map (eval_all shown) (matches trees where_ from (params ∷ [])))
      (map row_of xs)
      → IsReadOf row_of width params (select_query from where_ shown (rising shown by)) trees records
      → IsPermutation xs records × Rises key records
  read trees params xs records shows h =
      let a = arranged from where_ shown (rising shown by) trees params h.0 h.2 in
      let found = a.0 in
      let moved = IsPermutation-trans _ _ _ (IsPermutation-sym _ _ shows)
      (IsPermutation-map (eval_all shown) _ _ a.2) in
      let u = pull_back row_of _ _ moved xs refl in
      let columns : map row_of records ≡ map row_of u.0 =
      h.1 ∙ ap (map (columns_from 0 width)) (a.1 ∙ u.2)
      ∙ map-map (columns_from 0 width) row_of u.0
      ∙ map_agree (λ x. columns_from 0 width (row_of x)) row_of whole u.0 in
      let is : records ≡ u.0 =
      same_unmapped row_of record_of back records u.0 columns in
      let long : length found ≡ length u.0 =
      sym (length-map found (eval_all shown)) ∙ ap length u.2 ∙ length-map u.0 row_of in
      let at : (k : ℕ) (d : R) → k < length u.0
      → map (column (eval_all shown (get_or found k []))) by ≡ map int (key (get_or u.0 k d)) =
      λ k d lt. ap (λ (q : Row). map (column q) by)
      (sym (get_or-map (eval_all shown) found k [] [] (omega arith))
      ∙ ap (λ (l : List Row). get_or l k []) u.2 ∙ get_or-map row_of u.0 k d [] lt)
      ∙ keyed (get_or u.0 k d) in
      let up : Rises key u.0 = λ k d low within.
      sym (ap is_lt (sort_is shown by _ _ (key (get_or u.0 (k + 1) d)) (key (get_or u.0 k d))
      (at (k + 1) d within) (at k d (omega arith))))
      ∙ a.3 k [] low (omega arith) in
      (subst (IsPermutation xs) (sym is) u.1, subst (Rises key) (sym is) up)

-- if the matches show these typed rows, the rows of an answer show them too
pub columns_shown : {R : Type 0} (row_of : R → Row) (width : ℕ)
    (whole : (x : R) → columns_from 0 width (row_of x) ≡ row_of x)
    (long : (x : R) → width ≤ length (row_of x)) (from : Join) (where_ shown : List Term)
    (order : List (Term × Key)) (trees : Trees) (params : Row) (xs : List R) (rows : List Row)
    → IsPermutation (map (eval_all shown) (matches trees where_ from (params ∷ []))) (map row_of xs)
    → IsAnswer (select_query from where_ shown order) trees params rows
    → IsPermutation (map (columns_from 0 width) rows) (map row_of xs)
    × AllByRecursion (λ r. width ≤ length r) rows
columns_shown row_of width whole long from where_ shown order trees params xs rows shows answer =
    let a = arranged from where_ shown order trees params rows answer in
    let found : IsPermutation (map row_of xs) rows =
    rw a.1 (IsPermutation-trans _ _ _ (IsPermutation-sym _ _ shows)
    (IsPermutation-map (eval_all shown) _ _ a.2)) in
    let same : map (columns_from 0 width) (map row_of xs) ≡ map row_of xs =
    map-map (columns_from 0 width) row_of xs
    ∙ map_agree (λ x. columns_from 0 width (row_of x)) row_of whole xs in (
      subst (IsPermutation (map (columns_from 0 width) rows)) same
          (IsPermutation-map (columns_from 0 width) _ _ (IsPermutation-sym _ _ found)),
      all-permutation (λ r. width ≤ length r) _ rows found
          (all-map (λ r. width ≤ length r) row_of xs (all_of _ long xs)),
    )

-- ---- from a table to matches

-- if a table shows these typed rows, the columns seen of rows that pass a test are those of the typed rows that pass
pub passed : {R : Type 0} (row_of : R → Row) (show : Row → Row) (sees : Row → Row) (pick : Row → Row)
    (picks : (r : Row) → sees r ≡ pick (show r)) (seen : R → Row) (picked : (x : R) → pick (row_of x) ≡ seen x)
    (pass test : Row → Bool) (tests : (r : Row) → pass r ≡ test (show r))
    (p : R → Bool) (tested : (x : R) → test (row_of x) ≡ p x)
    (stored : List Row) (xs : List R) → IsPermutation (map show stored) (map row_of xs)
    → IsPermutation (map sees (filter pass stored)) (map seen (filter p xs))
passed row_of show sees pick picks seen picked pass test tests p tested stored xs h =
    let kept = shown_filter show row_of pass test p tests tested stored xs h in
    let shows : map pick (map show (filter pass stored)) ≡ map sees (filter pass stored) =
    map-map pick show _ ∙ map_agree _ sees (λ r. sym (picks r)) _ in
    let rows : map pick (map row_of (filter p xs)) ≡ map seen (filter p xs) =
    map-map pick row_of _ ∙ map_agree _ seen picked _ in
    rw (sym shows, sym rows) (IsPermutation-map pick _ _ kept)

-- the same for a text about one table
pub table_shown : {R : Type 0} (row_of : R → Row) (show pick : Row → Row) (params : Row)
    (tree : ℕ) (where_ shown : List Term)
    (picks : (r : Row) → eval_all shown (params ∷ r ∷ []) ≡ pick (show r))
    (picked : (x : R) → pick (row_of x) ≡ row_of x)
    (test : Row → Bool) (tests : (r : Row) → passes params where_ r ≡ test (show r))
    (p : R → Bool) (tested : (x : R) → test (row_of x) ≡ p x)
    (trees : Trees) (xs : List R) → IsPermutation (map show (trees tree)) (map row_of xs)
    → IsPermutation (map (eval_all shown) (matches trees where_ (inner tree end) (params ∷ [])))
    (map row_of (filter p xs))
table_shown row_of show pick params tree where_ shown picks picked test tests p tested trees xs h =
    let is = ap (map (eval_all shown)) (matched params where_ (trees tree))
    ∙ map-map (eval_all shown) (λ r. params ∷ r ∷ []) _ in
    rw is (passed row_of show (λ r. eval_all shown (params ∷ r ∷ [])) pick picks row_of picked
    (passes params where_) test tests p tested (trees tree) xs h)
