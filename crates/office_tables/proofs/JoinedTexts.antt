-- The rows that queries read from enrolments and published placements together.
use Rattle.std.proofs.lemmas.Grind.{common_steps}
use Rattle.std.proofs.Common.{◌≡◌, ℕ, pos, List, [], ◌∷◌, ◌++◌, map, filter, flat_map, Bool, true, false, cond, ◌&&◌, ◌==◌, codes, refl, sym, ap, subst, ◌∙◌, IsPermutation, arith}
use Rattle.std.specs.List.{list_all}
use Rattle.std.proofs.lemmas.List.Sorted.{IsPermutation-map, IsPermutation-trans}
use Rattle.std.proofs.lemmas.List.{map-append}
use Rattle.exam_lists.proofs.Filters.{filter_false}
use Rattle.exam_lists.proofs.Maps.{map_agree}
use Rattle.sqlite_sql.specs.declared.ops.BinaryOp.TheVariants.{Compare}
use Rattle.sqlite_sql.specs.declared.ops.CompareOp.TheVariants.{Eq}
use Rattle.sqlite_trees.specs.Tree.{Trees}
use Rattle.sqlite_trees.proofs.ListLemmas.{map-map, map-flat_map, flat_map-map, flat_map_same_on, filter-map, IsPermutation-filter, IsPermutation-flat_map, IsPermutation-flat_map_each}
use Rattle.sqlite_value.specs.declared.keys.Collation.TheVariants.{Binary}
use Rattle.sqlite_value.specs.declared.value.Value.TheVariants.{Int}
use Rattle.sqlite_value.specs.Order.{Row, column}
use Rattle.sqlite.specs.Effect.{Database}
use Rattle.sqlite.specs.Listing.{understood}
use Rattle.sqlite.specs.Query.{Query, inner, end, matches}
use Rattle.sqlite.specs.Term.{Term, col, op2, eval_all, holds}
use Rattle.sqlite_tied.specs.Compute.{everything}
use Rattle.office_tables.specs.Tables.{office_schema, placed_of, Tables}
use Rattle.office_tables.specs.Asking.{select_query, IsReadOf, Means}
use Rattle.office_tables.specs.declared.tables.enrol.EnrolRow.{EnrolRow}
use Rattle.office_tables.specs.declared.tables.placed.PlacedRow.{PlacedRow}
use Rattle.office_tables.specs.Tables.Placed.{PlacementsRise, placed_columns}
use Rattle.office_tables.specs.TablesHeld.{HoldsTables}
use Rattle.office_tables.specs.Stored.{keyed_columns, keyless_columns}
use Rattle.office_tables.specs.Tables.Enrol.{enrol_columns}
use Rattle.office_tables.specs.Selections.{AreListed}
use Rattle.office_tables.proofs.OrderLemmas.{by_number, read, rising}
use Rattle.office_tables.proofs.Queries.{column_less, column_later, equal_pairs, equals}
use Rattle.office_tables.proofs.RecordsBack.{placement_of}
use Rattle.office_tables.proofs.Frames.{held_at}

-- ---- the matches in two tables

abbrev pub both_pass : Row → List Term → Row → Row → Bool
both_pass params where_ r s = list_all (holds (params ∷ r ∷ s ∷ [])) where_

second_matched : (params : Row) (where_ : List Term) (r : Row) (rows : List Row)
    → flat_map (λ s. cond (both_pass params where_ r s) ((params ∷ r ∷ s ∷ []) ∷ []) []) rows
    ≡ map (λ s. params ∷ r ∷ s ∷ []) (filter (both_pass params where_ r) rows)
second_matched params where_ r [] = refl
second_matched params where_ r (s ∷ rows) = grind (arith, common_steps, flat_map, second_matched params where_ r rows)

-- the matches of a join are the pairs of rows that pass
pub joined : (params : Row) (where_ : List Term) (trees : Trees) (one two : ℕ)
    → matches trees where_ (inner one (inner two end)) (params ∷ [])
    ≡ flat_map (λ r. map (λ s. params ∷ r ∷ s ∷ [])
    (filter (both_pass params where_ r) (trees two))) (trees one)
joined params where_ trees one two =
    flat_map_same_on _ _ (λ r. second_matched params where_ r (trees two)) (trees one)

-- ---- what a join shows

module _ {X Y : Type 0} (columns_of : X → Row) (others_of : Y → Row) (show show_other : Row → Row)
    (params : Row) (one two : ℕ) (tests terms : List Term) (suits : Row → Row → Bool) (picked : Row → Row → Row)
    -- the tests and the shown columns of two stored rows depend only on what their tables show
    (same_test : (r s : Row) → both_pass params tests r s ≡ suits (show r) (show_other s))
    (same_shown : (r s : Row) → eval_all terms (params ∷ r ∷ s ∷ []) ≡ picked (show r) (show_other s))
    (t : X → Y → Bool) (tested : (x : X) (y : Y) → suits (columns_of x) (others_of y) ≡ t x y) where
  -- the columns shown of the rows that match a first row
  abbrev suited : Trees → Row → List Row
  suited trees q = map (picked q) (filter (suits q) (map show_other (trees two)))

  one_suited : (trees : Trees) (r : Row)
      → map (eval_all terms) (map (λ s. params ∷ r ∷ s ∷ [])
      (filter (both_pass params tests r) (trees two)))
      ≡ suited trees (show r)
  one_suited trees r =
      map-map (eval_all terms) (λ s. params ∷ r ∷ s ∷ []) _
      ∙ map_agree _ (λ s. picked (show r) (show_other s)) (same_shown r) _
      ∙ ap (λ p. map (λ s. picked (show r) (show_other s)) (filter p (trees two)))
      (λ i s. same_test r s i)
      ∙ sym (map-map (picked (show r)) show_other _)
      ∙ ap (map (picked (show r))) (sym (filter-map (suits (show r)) show_other (trees two)))

  all_suited : (trees : Trees)
      → map (eval_all terms) (matches trees tests (inner one (inner two end)) (params ∷ []))
      ≡ flat_map (suited trees) (map show (trees one))
  all_suited trees =
      ap (map (eval_all terms)) (joined params tests trees one two)
      ∙ map-flat_map (eval_all terms) _ (trees one)
      ∙ flat_map_same_on _ (λ r. suited trees (show r)) (one_suited trees) (trees one)
      ∙ sym (flat_map-map (suited trees) show (trees one))

  one_typed : (trees : Trees) (ys : List Y)
      → IsPermutation (map show_other (trees two)) (map others_of ys) → (x : X)
      → IsPermutation (suited trees (columns_of x))
      (map (λ y. picked (columns_of x) (others_of y)) (filter (t x) ys))
  one_typed trees ys same x =
      let kept = IsPermutation-map (picked (columns_of x)) _ _
      (IsPermutation-filter (suits (columns_of x)) _ _ same) in
      let typed : map (picked (columns_of x)) (filter (suits (columns_of x)) (map others_of ys))
      ≡ map (λ y. picked (columns_of x) (others_of y)) (filter (t x) ys) =
      ap (map (picked (columns_of x))) (filter-map (suits (columns_of x)) others_of ys)
      ∙ map-map (picked (columns_of x)) others_of _
      ∙ ap (λ p. map (λ y. picked (columns_of x) (others_of y)) (filter p ys)) (λ i y. tested x y i) in
      subst (IsPermutation _) typed kept

  -- a SELECT from two tables shows the pairs of rows that pass
  pub pairs_shown : (trees : Trees) (xs : List X) (ys : List Y)
      → IsPermutation (map show (trees one)) (map columns_of xs)
      → IsPermutation (map show_other (trees two)) (map others_of ys)
      → IsPermutation
      (map (eval_all terms) (matches trees tests (inner one (inner two end)) (params ∷ [])))
      (flat_map (λ x. map (λ y. picked (columns_of x) (others_of y)) (filter (t x) ys)) xs)
  pairs_shown trees xs ys first second =
      let stored = IsPermutation-flat_map (suited trees) _ _ first in
      let typed = IsPermutation-flat_map_each _ _ (one_typed trees ys second) xs in
      rw (all_suited trees)
      (IsPermutation-trans _ _ _ stored (rw (flat_map-map (suited trees) columns_of xs) typed))

-- ---- SELECT .. FROM enrol, placed

abbrev pub placements_of_text : List ℕ
placements_of_text = codes
    "SELECT placed.exam, placed.period, placed.room FROM enrol, placed WHERE enrol.student = ?1 AND placed.exam = enrol.exam ORDER BY placed.exam"

abbrev tests : List Term
tests = equals 1 0 ∷ op2 (Compare Eq Binary) (col 2 0) (col 1 2) ∷ []

abbrev columns : List Term
columns = col 2 0 ∷ col 2 2 ∷ col 2 3 ∷ []

abbrev pub placements_of_query : Query
placements_of_query = select_query (inner 2 (inner 7 end)) tests columns (rising columns (0 ∷ []))

pub placements_of_means : Means office_schema placements_of_query placements_of_text
unfolding understood everything
placements_of_means = record { names = _; selects = refl; unlisted = refl; plain = (refl, refl) }

-- the test of what two rows show
abbrev suits : Row → Row → Row → Bool
suits params q s =
    list_all (holds (params ∷ q ∷ s ∷ []))
    (equals 0 0 ∷ op2 (Compare Eq Binary) (col 2 0) (col 1 1) ∷ [])

abbrev picked : Row → Row
picked row = column row 0 ∷ column row 1 ∷ column row 2 ∷ []

test_is : (params r s : Row)
    → both_pass params tests r s ≡ suits params (keyless_columns r) (keyed_columns s)
test_is params r s = rw (column_less r 0, column_less r 1) refl

shown_is : (params r s : Row) → eval_all columns (params ∷ r ∷ s ∷ []) ≡ picked (keyed_columns s)
shown_is params r s = rw (column_later s 0, column_later s 1) refl

-- no placement matches an enrolment of another student
only_rows_of_student : (student : ℕ) (placed : List PlacedRow) (enrols : List EnrolRow)
    → flat_map (λ e. map placed_columns (filter (λ p. (e.student == student) && (p.exam == e.exam))
    placed)) enrols
    ≡ map placed_columns (flat_map (λ e. filter (λ p. p.exam == e.exam) placed)
    (filter (λ e. e.student == student) enrols))
only_rows_of_student student placed [] = refl
only_rows_of_student student placed (e ∷ enrols) =
    one (e.student == student) (filter (λ x. x.student == student) enrols)
    (only_rows_of_student student placed enrols)
  where
    one : (b : Bool) (later : List EnrolRow) {rest : List Row}
        → rest ≡ map placed_columns (flat_map (λ x. filter (λ p. p.exam == x.exam) placed) later)
        → map placed_columns (filter (λ p. b && (p.exam == e.exam)) placed) ++ rest
        ≡ map placed_columns (flat_map (λ x. filter (λ p. p.exam == x.exam) placed) (cond b (e ∷ later) later))
    one true later is =
        ap (λ l. map placed_columns (filter (λ p. p.exam == e.exam) placed) ++ l) is
        ∙ sym (map-append placed_columns (filter (λ p. p.exam == e.exam) placed) _)
    one false later {rest} is = ap (λ l. map placed_columns l ++ rest) (filter_false placed) ∙ is

pub placements_of_read : (db : Database) (student : ℕ) (t : Tables) → HoldsTables db t
    → (found : List PlacedRow)
    → IsReadOf placed_columns 3 (Int (pos student) ∷ []) placements_of_query db.trees found
    → AreListed PlacementsRise (placed_of student t) found
placements_of_read db student t represents found is =
    let params : Row = Int (pos student) ∷ [] in
    let rows = subst (IsPermutation _) (only_rows_of_student student t.placed t.enrol)
    (pairs_shown enrol_columns placed_columns keyless_columns keyed_columns params 2 7 tests columns
    (suits params) (λ _ s. picked s) (test_is params) (shown_is params)
    (λ e p. (e.student == student) && (p.exam == e.exam))
    (λ e p. equal_pairs e.student student p.exam e.exam) db.trees t.enrol t.placed
    (held_at 2 represents).same (held_at 5 represents).same) in
    by_number (λ (x : PlacedRow). x.exam) _ found
    (read placement_of placed_columns 3 (λ x. refl) (λ x. refl) (inner 2 (inner 7 end)) tests columns
    (0 ∷ []) (λ (x : PlacedRow). x.exam ∷ []) (λ x. refl) db.trees params
    (placed_of student t) found rows is)
