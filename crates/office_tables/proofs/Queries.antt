-- The answer of a query over one table, and the rows that a DELETE by such a query leaves.
use Rattle.std.proofs.lemmas.Grind.{common_steps}
use Rattle.std.proofs.Common.{◌≡◌, inl, inr, ℕ, ℤ, suc, pos, List, [], ◌∷◌, map, filter, flat_map, drop, not, Bool, true, false, cond, ◌&&◌, ◌||◌, ◌==◌, ◌^◌, Some, None, refl, sym, ap, ap₂, subst, ◌∙◌, arith, Equal, is_eq, int_cmp}
use Rattle.std.specs.List.{list_any, list_all}
use Rattle.std.specs.Prelude.{IsPermutation, nat_le, unwrap_or}
use Rattle.std.proofs.lemmas.Bool.{cases_Bool, false_from_ne_true}
use Rattle.std.proofs.lemmas.Bool.Decides.{nat_tests}
use Rattle.std.proofs.lemmas.Cmp.{tied_itself}
use Rattle.std.proofs.lemmas.List.Sorted.{IsPermutation-map, list_any-IsPermutation}
use Rattle.sqlite_value.specs.declared.value.Value.TheVariants.{Int}
use Rattle.sqlite_value.specs.declared.keys.Key.{Key}
use Rattle.sqlite_value.specs.Order.{Row, column, value_cmp}
use Rattle.sqlite_value.proofs.OrderLemmas.{value_cmp_total, value_cmp-Int}
use Rattle.sqlite_trees.specs.Tree.{Trees, rowid, has_rowid, without_rowid}
use Rattle.sqlite_trees.proofs.ListLemmas.{map-map, filter-map, filter_all, filter_same, IsPermutation-filter}
use Rattle.sqlite_rules.specs.Lists.{Has}
use Rattle.sqlite_rules.specs.Edit.{id_in, without_all}
use Rattle.sqlite_rules.specs.Calls.{ids_of}
use Rattle.sqlite_rules.proofs.ListLemmas.{all_has, all_from, some_has, some_from, has_filtered, has_kept}
use Rattle.sqlite_rules.proofs.TableLemmas.{int_is}
use Rattle.sqlite_rules.proofs.ProbeLemmas.{mapped_has}
use Rattle.std.proofs.lemmas.Int.{ints}
use Rattle.std.proofs.Math.Bool.{and-true}
use Rattle.exam_lists.proofs.Booleans.{cond_same}
use Rattle.exam_lists.proofs.Filters.{filter-filter}
use Rattle.exam_lists.proofs.Orders.{equal_from_test}
use Rattle.office_tables.specs.Stored.{HasRowids}
pub use Rattle.office_tables.specs.Listings.{one_table}
use Rattle.office_tables.proofs.TableLemmas.{rowid_once}
use Rattle.sqlite_value.specs.declared.keys.Collation.{Collation}
use Rattle.sqlite_value.specs.declared.keys.Collation.TheVariants.{Binary}
use Rattle.sqlite_sql.specs.declared.ops.BinaryOp.TheVariants.{Compare}
use Rattle.sqlite_sql.specs.declared.ops.CompareOp.TheVariants.{Eq}
use Rattle.sqlite_sql.specs.Ops.{binary, is_true, from_truth}
use Rattle.sqlite.specs.Term.{Term, col, op2, eval_all, holds}
use Rattle.sqlite.specs.Query.{Output, IsAnswer, output}
use Rattle.sqlite.specs.Program.{overlay}

-- a column of the row equals a parameter
abbrev pub equals : ℕ → ℕ → Term
equals at param = op2 (Compare Eq Binary) (col 1 at) (col 0 param)

abbrev pub rowids : List Term
rowids = col 1 0 ∷ []

abbrev pub passes : Row → List Term → Row → Bool
passes params where_ row = list_all (holds (params ∷ row ∷ [])) where_

abbrev pub shown_of : Row → List Term → Row → Row
shown_of params shown row = eval_all shown (params ∷ row ∷ [])

pub matched : (params : Row) (where_ : List Term) (rows : List Row)
    → flat_map (λ r. cond (passes params where_ r) ((params ∷ r ∷ []) ∷ []) []) rows
    ≡ map (λ r. params ∷ r ∷ []) (filter (passes params where_) rows)
matched params where_ [] = refl
matched params where_ (r ∷ rows) = grind (arith, common_steps, flat_map, matched params where_ rows)

-- the rows that pass are shown, in some order
pub answered_by : (collations : List Collation) (tree : ℕ) (where_ shown : List Term)
    (order : List (Term × Key)) (trees : Trees) (params : Row) (rows : List Row)
    → IsAnswer (record (one_table tree where_ shown order) { collations = collations })
    (overlay trees []) params rows
    → IsPermutation
    (map (shown_of params shown) (filter (passes params where_) (trees tree))) rows
answered_by collations tree where_ shown order trees params rows a =
    let q = record (one_table tree where_ shown order) { collations = collations } in
    let over : overlay trees [] tree ≡ trees tree =
    ap (λ o. unwrap_or o (trees tree)) (cond_same (nat_le (2 ^ 31) tree) None) in
    let staged : a.staged
    ≡ map (λ r. params ∷ r ∷ []) (filter (passes params where_) (trees tree)) =
    a.grouped ∙ matched params where_ (overlay trees [] tree)
    ∙ ap (λ rs. map (λ r. params ∷ r ∷ []) (filter (passes params where_) rs)) over in
    let kept : a.kept
    ≡ map (λ r. output q (params ∷ r ∷ [])) (filter (passes params where_) (trees tree)) =
    a.distinct ∙ ap (map (output q)) staged ∙ map-map (output q) (λ r. params ∷ r ∷ []) _ in
    let mixed = subst (λ k. IsPermutation k a.ordered) kept a.same in
    let last = IsPermutation-map (λ (o : Output). o.1) _ _ mixed in
    rw (
      a.shown,
      sym (map-map (λ (o : Output). o.1) (λ r. output q (params ∷ r ∷ []))
          (filter (passes params where_) (trees tree))),
    )
    last

pub answered : (tree : ℕ) (where_ shown : List Term) (order : List (Term × Key)) (trees : Trees)
    (params : Row) (rows : List Row)
    → IsAnswer (one_table tree where_ shown order) (overlay trees []) params rows
    → IsPermutation
    (map (shown_of params shown) (filter (passes params where_) (trees tree))) rows
answered = answered_by []

-- ---- from stored rows to the rows that they represent

pub column_less : (row : Row) (at : ℕ) → column row (suc at) ≡ column (drop 1 row) at
column_less [] at = refl
column_less (v ∷ row) at = refl

pub column_later : (row : Row) (at : ℕ) → column row (suc (suc at)) ≡ column (drop 2 row) at
column_later [] at = refl
column_later (v ∷ []) at = refl
column_later (v ∷ w ∷ row) at = refl

-- a test of stored rows that depends on what they show keeps the rows that pass it
pub shown_filter : {X : Type 0} (show : Row → Row) (row_of : X → Row) (test : Row → Bool)
    (shown_test : Row → Bool) (p : X → Bool)
    → ((r : Row) → test r ≡ shown_test (show r)) → ((x : X) → shown_test (row_of x) ≡ p x)
    → (stored : List Row) (xs : List X) → IsPermutation (map show stored) (map row_of xs)
    → IsPermutation (map show (filter test stored)) (map row_of (filter p xs))
shown_filter show row_of test shown_test p one two stored xs h =
    let left : filter shown_test (map show stored) ≡ map show (filter test stored) =
    filter-map shown_test show stored
    ∙ ap (map show)
    (sym (filter_same test (λ r. shown_test (show r)) stored
    (all_from _ stored (λ r _. one r)))) in
    let right : filter shown_test (map row_of xs) ≡ map row_of (filter p xs) =
    filter-map shown_test row_of xs
    ∙ ap (map row_of)
    (filter_same (λ x. shown_test (row_of x)) p xs (all_from _ xs (λ x _. two x))) in
    rw (sym left, sym right) (IsPermutation-filter shown_test _ _ h)

-- ---- DELETE

abbrev is_gone : List ℤ → Row → Bool
is_gone ids row = list_any (λ id. has_rowid id row) ids

without_is : (ids : List ℤ) (rows : List Row)
    → without_all rows ids ≡ filter (λ r. not (is_gone ids r)) rows
without_is [] rows = sym (filter_all _ rows (all_from _ rows (λ r _. refl)))
without_is (id ∷ ids) rows =
    without_is ids (without_rowid id rows)
    ∙ filter-filter (λ r. not (is_gone ids r)) (λ r. not (has_rowid id r)) rows
    ∙ filter_same _ _ rows (all_from _ rows (λ r _. de_morgan (has_rowid id r) (is_gone ids r)))
  where
    de_morgan : (a b : Bool) → (not a && not b) ≡ not (a || b)
    de_morgan true b = refl
    de_morgan false b = refl

unmapped : {A B : Type 0} (f : A → B) (xs : List A) (y : B) → Has (map f xs) y
    → (x : A) × Has xs x × (y ≡ f x)
unmapped f [] y h = absurd h
unmapped f (x ∷ xs) y (inl same) = (x, inl refl, same)
unmapped f (x ∷ xs) y (inr later) = let found = unmapped f xs y later in
    (found.0, inr found.1, found.2)

same_integer : (a b : ℤ) → int_cmp a b ≡ Equal → a ≡ b
same_integer a b h = grind (arith, ints, nat_tests)

abbrev id_of : Row → ℤ
id_of r = id_in (rowid r)

-- the rows that a DELETE leaves, if the query gives the rowids of the rows that pass a test
pub left_of : (test : Row → Bool) (stored rows : List Row) → HasRowids stored
    → IsPermutation (map (λ r. column r 0 ∷ []) (filter test stored)) rows
    → without_all stored (ids_of rows) ≡ filter (λ r. not (test r)) stored
left_of test stored rows rowids same =
    without_is (ids_of rows) stored
    ∙ filter_same _ _ stored (all_from _ stored (λ r h. ap not (each r h)))
  where
    ids : IsPermutation (map id_of (filter test stored)) (ids_of rows)
    ids = subst (λ l. IsPermutation l (ids_of rows))
        (map-map (λ r. id_in (rowid r)) (λ r. column r 0 ∷ []) (filter test stored))
        (IsPermutation-map (λ r. id_in (rowid r)) _ _ same)

    itself : (r : Row) → Has stored r → has_rowid (id_of r) r ≡ true
    itself r h = let is = int_is (rowid r) (all_has _ stored r rowids.ints h) in
        ap (λ v. is_eq (value_cmp (rowid r) v)) (sym is)
        ∙ ap is_eq (tied_itself value_cmp_total (rowid r))

    only : (r : Row) → Has stored r → (other : Row) → Has stored other
        → has_rowid (id_of other) r ≡ true → r ≡ other
    only r h other k e =
        let is = int_is (rowid other) (all_has _ stored other rowids.ints k) in
        let here = int_is (rowid r) (all_has _ stored r rowids.ints h) in
        let both : value_cmp (Int (id_of r)) (Int (id_of other)) ≡ Equal =
        ap (λ v. value_cmp v (Int (id_of other))) (sym here) ∙ equal_from_test _ e in
        rowid_once stored r other rowids h k
        (here ∙ ap Int (same_integer _ _ (sym (value_cmp-Int (id_of r) (id_of other)) ∙ both))
        ∙ sym is)

    each : (r : Row) → Has stored r → is_gone (ids_of rows) r ≡ test r
    each r h = elim (cases_Bool (test r)) [
      | inl passed ↦ sym (list_any-IsPermutation (λ id. has_rowid id r) _ _ ids)
          ∙ some_from (λ id. has_rowid id r) _ (id_of r)
          (mapped_has id_of _ r (has_kept test stored r h passed)) (itself r h) ∙ sym passed
      | inr failed ↦ false_from_ne_true _ (λ gone.
          let found = some_has (λ id. has_rowid id r) _
          (list_any-IsPermutation (λ id. has_rowid id r) _ _ ids ∙ gone) in
          let from = unmapped id_of (filter test stored) found.0 found.1 in
          let other = has_filtered test stored from.0 from.1 in
          let same_row : r ≡ from.0 =
          only r h from.0 other.0 (subst (λ id. has_rowid id r ≡ true) from.2 found.2) in
          let passed : test r ≡ true = ap test same_row ∙ other.1 in cc) ∙ sym failed
    ]

truth_back : (b : Bool) → is_true (from_truth (Some b)) ≡ b
truth_back true = refl
truth_back false = refl

same_number : (m n : ℕ) → is_eq (int_cmp (pos m) (pos n)) ≡ (m == n)
same_number m n = grind (arith, nat_tests)

-- SQL's = on two numbers, as the only test of a WHERE
pub equal_numbers : (m n : ℕ)
    → (is_true (binary (Compare Eq Binary) (Int (pos m)) (Int (pos n))) && true) ≡ (m == n)
unfolding binary
equal_numbers m n =
    and-true _ ∙ rw (value_cmp-Int (pos m) (pos n))
    (truth_back (is_eq (int_cmp (pos m) (pos n))) ∙ same_number m n)

-- the same for two tests, one after the other
pub equal_pairs : (m n k l : ℕ)
    → (is_true (binary (Compare Eq Binary) (Int (pos m)) (Int (pos n)))
    && (is_true (binary (Compare Eq Binary) (Int (pos k)) (Int (pos l))) && true))
    ≡ ((m == n) && (k == l))
equal_pairs m n k l = ap₂ (λ a b. a && b) (sym (and-true _) ∙ equal_numbers m n) (equal_numbers k l)

-- ---- lists
