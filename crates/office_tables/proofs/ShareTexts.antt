-- The rows that queries read from the tables of shares.
use Rattle.std.proofs.lemmas.Grind.{common_steps}
use Rattle.std.proofs.Common.{◌≡◌, ℕ, pos, List, [], ◌∷◌, map, filter, true, ◌==◌, codes, refl, sym, ap, ap₂, subst, ◌∙◌, arith, IsPermutation}
use Rattle.std.specs.List.{AllByRecursion}
use Rattle.std.proofs.lemmas.List.Sorted.{IsPermutation-map, IsPermutation-sym}
use Rattle.exam_lists.proofs.Filters.{filter_every}
use Rattle.exam_lists.proofs.Sorted.{sorted_by_alike, sorted_by_map}
use Rattle.sqlite_trees.specs.Tree.{Trees}
use Rattle.sqlite_trees.proofs.ListLemmas.{all_of, all-map, map-map}
use Rattle.sqlite_value.specs.declared.value.Value.TheVariants.{Int}
use Rattle.sqlite_value.specs.Order.{Row, column}
use Rattle.sqlite.specs.Effect.{Database}
use Rattle.sqlite.specs.Listing.{understood}
use Rattle.sqlite.specs.Query.{Query, inner, end, matches}
use Rattle.sqlite.specs.Term.{Term, col, eval_all}
use Rattle.sqlite_tied.specs.Compute.{everything}
use Rattle.office_tables.specs.Tables.{office_schema, Tables}
use Rattle.office_tables.specs.Asking.{select_query, IsReadOf, Means}
use Rattle.office_tables.specs.Joining.{IsReadWith}
use Rattle.office_tables.specs.Nights.{night_columns}
use Rattle.office_tables.specs.declared.nights.NightRow.{NightRow}
use Rattle.office_tables.specs.declared.tables.share_student.StudentShareRow.{StudentShareRow}
use Rattle.office_tables.specs.declared.tables.share_part.PartShareRow.{PartShareRow}
use Rattle.office_tables.specs.TablesHeld.{HoldsTables}
use Rattle.office_tables.specs.Stored.{Holds, keyed_columns, keyless_columns}
use Rattle.office_tables.specs.Tables.ShareStudent.{bare_share_columns, share_student_columns, night_share_columns, share_shown, HaveNoNight, StudentSharesRise}
use Rattle.office_tables.specs.Records.{columns_from}
use Rattle.office_tables.specs.Tables.SharePart.{share_part_columns}
use Rattle.office_tables.specs.Selections.{AreListed}
use Rattle.office_tables.proofs.NightLemmas.{bare_columns_are, bare_holds, bare_rows, bare_shown, no_nights, none_over_night, shown_holds}
use Rattle.office_tables.proofs.NightTexts.{joined_shown, same_number}
use Rattle.office_tables.proofs.OrderLemmas.{Rises, numbers_cmp, by_number, columns_shown, int, read, rising, table_shown, typed}
use Rattle.office_tables.proofs.Queries.{column_less, column_later, equal_pairs, equals}
use Rattle.office_tables.proofs.RecordLemmas.{IsFull}
use Rattle.office_tables.proofs.RecordsBack.{number, student_share_of, part_share_of}
use Rattle.office_tables.proofs.SameRows.{alike_now}
use Rattle.office_tables.proofs.Splitting.{share_student_splits}
use Rattle.office_tables.proofs.TableLemmas.{holds_moved}
use Rattle.office_tables.proofs.Frames.{held_at}

-- ---- SELECT student, in_row, in_day, spread FROM share_student ORDER BY student

abbrev pub student_shares_text : List ℕ
student_shares_text =
    codes "SELECT student, in_row, in_day, spread FROM share_student ORDER BY student"

abbrev first_terms : List Term
first_terms = col 1 0 ∷ col 1 2 ∷ col 1 3 ∷ col 1 4 ∷ []

abbrev pub student_shares_query : Query
student_shares_query = select_query (inner 11 end) [] first_terms (rising first_terms (0 ∷ []))

pub student_shares_means : Means office_schema student_shares_query student_shares_text
unfolding understood everything
student_shares_means = record { names = _; selects = refl; unlisted = refl; plain = (refl, refl) }

abbrev first_picked : Row → Row
first_picked row = column row 0 ∷ column row 1 ∷ column row 2 ∷ column row 3 ∷ []

-- the columns that the text shows of a stored row
first_shown : (r : Row) → column r 0 ∷ column r 2 ∷ column r 3 ∷ column r 4 ∷ []
    ≡ first_picked (keyed_columns r)
first_shown r = rw (column_later r 0, column_later r 1, column_later r 2) refl

-- a share without its amount over night
record BareShare : Type 0 where
  student : ℕ
  in_row : ℕ
  in_day : ℕ
  spread : ℕ

abbrev bare_share : StudentShareRow → BareShare
bare_share r =
    record { student = r.student; in_row = r.in_row; in_day = r.in_day; spread = r.spread }

abbrev columns_in : BareShare → Row
columns_in b = int b.student ∷ int b.in_row ∷ int b.in_day ∷ int b.spread ∷ []

abbrev bare_share_in : Row → BareShare
bare_share_in row = record {
  student = number (column row 0);
  in_row = number (column row 1);
  in_day = number (column row 2);
  spread = number (column row 3);
}

-- the share with an amount of 0
abbrev share_with_none : BareShare → StudentShareRow
share_with_none b = record {
  student = b.student;
  in_row = b.in_row;
  in_day = b.in_day;
  spread = b.spread;
  night = 0;
}

shares_back : (rows : List StudentShareRow) → HaveNoNight rows
    → map share_with_none (map bare_share rows) ≡ rows
shares_back [] none = refl
shares_back (r ∷ rows) none =
    ap₂ (λ x xs. x ∷ xs) (ap (λ n. record r { night = n }) (sym none.0)) (shares_back rows none.1)

-- rows that are read from only the first table show their columns in it, and have no amounts over
-- night
first_columns : (trees : Trees) (rows : List StudentShareRow)
    → IsReadOf bare_share_columns 4 [] student_shares_query trees rows
    → HaveNoNight rows × IsReadOf share_student_columns 4 [] student_shares_query trees rows
first_columns trees rows is =
    let none = no_nights _ _ _ _ _ _ share_student_splits rows
    (subst (AllByRecursion IsFull) (sym is.1)
    (all-map IsFull (columns_from 0 4) is.0 (all_of _ (λ r. tt) is.0))) in
    let columns = bare_columns_are _ _ _ _ _ _ share_student_splits rows none in
    (none, (is.0, sym columns ∙ is.1, is.2))

-- if the first table has these rows, and each amount over night is 0, the list has them, by student
first_read : (db : Database) (xs rows : List StudentShareRow)
    → Holds keyed_columns (map bare_share_columns xs) (db.trees 11)
    → IsReadOf bare_share_columns 4 [] student_shares_query db.trees rows
    → IsPermutation xs rows × Rises (λ (x : StudentShareRow). x.student ∷ []) rows
first_read db xs rows holds is =
    let none = none_over_night _ _ _ _ _ _ share_student_splits (db.trees 11) xs holds.same in
    let stored = bare_holds _ _ _ _ _ _ share_student_splits (db.trees 11) xs holds in
    let columns = first_columns db.trees rows is in
    let shows : IsPermutation (map (eval_all first_terms)
    (matches db.trees [] (inner 11 end) ([] ∷ []))) (map columns_in (map bare_share xs)) =
    rw (map-map columns_in bare_share xs)
    (subst (λ l. IsPermutation (map (eval_all first_terms)
    (matches db.trees [] (inner 11 end) ([] ∷ []))) (map share_student_columns l))
    (filter_every (λ _. true) xs (λ x. refl))
    (table_shown share_student_columns keyed_columns first_picked [] 11 [] first_terms first_shown
    (λ x. refl) (λ _. true) (λ r. refl) (λ _. true) (λ x. refl) db.trees xs stored.same)) in
    let found = read bare_share_in columns_in 4 (λ x. refl) (λ x. refl) (inner 11 end) []
    first_terms (0 ∷ []) (λ (b : BareShare). b.student ∷ []) (λ x. refl) db.trees []
    (map bare_share xs) (map bare_share rows) shows
    (typed columns_in bare_share 4 [] student_shares_query db.trees rows columns.1) in (
      subst (IsPermutation xs) (shares_back rows columns.0)
          (subst (λ l. IsPermutation l (map share_with_none (map bare_share rows)))
          (shares_back xs none)
          (IsPermutation-map share_with_none _ _ found.0)),
      sorted_by_map numbers_cmp (λ (b : BareShare). b.student ∷ []) bare_share rows found.1,
    )

-- if no share has an amount over night, the first list has the shares
pub bare_shares_read : (db : Database) (t : Tables) → HoldsTables db t
    → HaveNoNight t.share_student → (found : List StudentShareRow)
    → IsReadOf bare_share_columns 4 [] student_shares_query db.trees found
    → AreListed StudentSharesRise t.share_student found
bare_shares_read db t represents none found is =
    by_number (λ (x : StudentShareRow). x.student) _ found
    (first_read db t.share_student found
    (shown_holds _ _ _ _ _ _ share_student_splits
    (db.trees 11) t.share_student (held_at 7 represents)
    none) is)

-- ---- SELECT student, night FROM night_share ORDER BY student

abbrev pub share_nights_text : List ℕ
share_nights_text = codes "SELECT student, night FROM night_share ORDER BY student"

abbrev night_terms : List Term
night_terms = col 1 0 ∷ col 1 2 ∷ []

abbrev pub share_nights_query : Query
share_nights_query = select_query (inner 16 end) [] night_terms (rising night_terms (0 ∷ []))

pub share_nights_means : Means office_schema share_nights_query share_nights_text
unfolding understood everything
share_nights_means = record { names = _; selects = refl; unlisted = refl; plain = (refl, refl) }

abbrev night_picked : Row → Row
night_picked row = column row 0 ∷ column row 1 ∷ []

night_shown : (r : Row) → column r 0 ∷ column r 2 ∷ [] ≡ night_picked (keyed_columns r)
night_shown r = rw (column_later r 0) refl

-- the second list has their amounts over night
nights_read : (db : Database) (xs : List StudentShareRow) (nights : List NightRow)
    → Holds keyed_columns (map night_share_columns xs) (db.trees 16)
    → IsReadOf night_columns 2 [] share_nights_query db.trees nights
    → IsPermutation (map night_share_columns xs) (map night_columns nights)
nights_read db xs nights holds is =
    let shows = subst (λ l. IsPermutation (map (eval_all night_terms)
    (matches db.trees [] (inner 16 end) ([] ∷ []))) (map night_share_columns l))
    (filter_every (λ _. true) xs (λ x. refl))
    (table_shown night_share_columns keyed_columns night_picked [] 16 [] night_terms night_shown (λ x. refl)
    (λ _. true) (λ r. refl) (λ _. true) (λ x. refl) db.trees xs holds.same) in
    rw is.1 (IsPermutation-sym _ _
    (columns_shown night_share_columns 2 (λ x. refl) (λ x. omega arith) (inner 16 end) []
    night_terms (rising night_terms (0 ∷ [])) db.trees [] xs is.0 shows is.2).0)

-- ---- both lists joined

-- the numbers of rows are in their first columns
same_numbers : (xs ys : List StudentShareRow)
    → map share_student_columns xs ≡ map share_student_columns ys
    → map (λ (x : StudentShareRow). x.student ∷ []) xs
    ≡ map (λ (x : StudentShareRow). x.student ∷ []) ys
same_numbers xs ys same =
    sym (map-map number_in share_student_columns xs) ∙ ap (map number_in) same
    ∙ map-map number_in share_student_columns ys
  where
    number_in : Row → List ℕ
    number_in row = number (column row 0) ∷ []

pub student_shares_read : (db : Database) (t : Tables) → HoldsTables db t
    → (found : List StudentShareRow)
    → IsReadWith bare_share_columns share_student_columns night_share_columns 4 student_shares_query
    share_nights_query db.trees found
    → AreListed StudentSharesRise t.share_student found
student_shares_read db t represents found is =
    let xs = t.share_student in
    let first = first_read db (map share_student_splits.bare xs) is.rows
    (bare_shown _ _ _ _ _ _ share_student_splits (db.trees 11) xs (held_at 7 represents))
    is.first in
    let columns : IsPermutation (map share_student_columns xs) (map share_student_columns found) =
    rw (is.columns, sym (bare_rows _ _ _ _ _ _ share_student_splits xs))
    (IsPermutation-map share_student_columns _ _ first.0) in
    let amounts : IsPermutation (map night_share_columns xs) (map night_share_columns found) =
    rw is.amounts (nights_read db xs is.nights represents.night_share is.second) in
    by_number (λ (x : StudentShareRow). x.student) _ found (
      alike_now student_share_of share_shown (λ x. refl) share_student_columns night_share_columns
          (λ (x : StudentShareRow). x.student) (λ x. refl) (λ x y. refl) (λ x. refl) (db.trees 11)
          (db.trees 16) xs found (held_at 7 represents)
          (holds_moved keyed_columns _ _ (db.trees 11) columns (held_at 7 represents))
          represents.night_share
          (holds_moved keyed_columns _ _ (db.trees 16) amounts represents.night_share),
      sorted_by_alike numbers_cmp (λ (x : StudentShareRow). x.student ∷ []) is.rows found
          (sym (same_numbers found is.rows is.columns)) first.1,
    )

-- ---- SELECT .. FROM share_student, night_share WHERE share_student.student = ?1
-- ---- AND night_share.student = share_student.student ORDER BY share_student.student

abbrev share_student_terms : List Term
share_student_terms = col 2 2 ∷ col 1 0 ∷ col 1 2 ∷ col 1 3 ∷ col 1 4 ∷ []

abbrev share_student_picked : Row → Row → Row
share_student_picked q s = column s 1 ∷ column q 0 ∷ column q 1 ∷ column q 2 ∷ column q 3 ∷ []

share_student_shown : (r s : Row)
    → column s 2 ∷ column r 0 ∷ column r 2 ∷ column r 3 ∷ column r 4 ∷ []
    ≡ share_student_picked (keyed_columns r) (keyed_columns s)
share_student_shown r s = grind (arith, common_steps, column_later)

abbrev pub student_shares_of_text : List ℕ
student_shares_of_text = codes
    "SELECT night, share_student.student, in_row, in_day, spread FROM share_student, night_share WHERE share_student.student = ?1 AND night_share.student = share_student.student ORDER BY share_student.student"

abbrev pub student_shares_of_query : Query
student_shares_of_query =
    select_query (inner 11 (inner 16 end)) (equals 0 0 ∷ same_number ∷ []) share_student_terms
    (rising share_student_terms (1 ∷ []))

pub student_shares_of_means : Means office_schema student_shares_of_query student_shares_of_text
unfolding understood everything
student_shares_of_means = record { names = _; selects = refl; unlisted = refl; plain = (refl, refl) }

pub student_shares_of_read : (db : Database) (number : ℕ) (t : Tables) → HoldsTables db t
    → (found : List StudentShareRow)
    → IsReadOf share_shown 5
    (Int (pos number) ∷ []) student_shares_of_query db.trees found
    → IsPermutation (filter (λ r. r.student == number) t.share_student) found
    × Rises (λ (x : StudentShareRow). x.student ∷ []) found
student_shares_of_read db number t represents found is =
    let params : Row = Int (pos number) ∷ [] in
    read student_share_of share_shown 5 (λ x. refl) (λ x. refl) (inner 11 (inner 16 end))
    (equals 0 0 ∷ same_number ∷ []) share_student_terms (1 ∷ [])
    (λ (x : StudentShareRow). x.student ∷ []) (λ x. refl) db.trees params
    (filter (λ r. r.student == number) t.share_student) found
    (joined_shown (λ (x : StudentShareRow). x.student) share_student_columns night_share_columns
    share_shown (λ x. refl) params 11 16 (equals 0 0 ∷ same_number ∷ []) share_student_terms
    share_student_picked (λ r s. refl) share_student_shown
    (λ r. r.student == number) (λ x y. equal_pairs x.student number y.student x.student)
    (λ x. refl) db.trees t.share_student
    (held_at 7 represents) represents.night_share) is

abbrev pub share_part_terms : List Term
share_part_terms = col 1 1 ∷ col 1 2 ∷ col 1 3 ∷ col 1 4 ∷ []

abbrev share_part_picked : Row → Row
share_part_picked row = column row 0 ∷ column row 1 ∷ column row 2 ∷ column row 3 ∷ []

share_part_shown : (r : Row) → column r 1 ∷ column r 2 ∷ column r 3 ∷ column r 4 ∷ []
    ≡ share_part_picked (keyless_columns r)
share_part_shown r = rw (column_less r 0, column_less r 1, column_less r 2, column_less r 3) refl

-- ---- SELECT kind, no, penalty, mixed FROM share_part

abbrev pub part_shares_text : List ℕ
part_shares_text = codes "SELECT kind, no, penalty, mixed FROM share_part"

abbrev pub part_shares_query : Query
part_shares_query = select_query (inner 12 end) [] share_part_terms []

pub part_shares_means : Means office_schema part_shares_query part_shares_text
unfolding understood everything
part_shares_means = record { names = _; selects = refl; unlisted = refl; plain = (refl, refl) }

pub part_shares_read : (db : Database) (t : Tables) → HoldsTables db t → (found : List PartShareRow)
    → IsReadOf share_part_columns 4 [] part_shares_query db.trees found
    → IsPermutation t.share_part found
part_shares_read db t represents found is =
    (read part_share_of share_part_columns 4 (λ x. refl) (λ x. refl) (inner 12 end) []
    share_part_terms [] (λ (x : PartShareRow). [])
    (λ x. refl) db.trees [] t.share_part found
    (subst (λ l. IsPermutation (map (eval_all share_part_terms)
    (matches db.trees [] (inner 12 end) ([] ∷ []))) (map share_part_columns l))
    (filter_every (λ _. true) t.share_part (λ x. refl))
    (table_shown share_part_columns keyless_columns share_part_picked [] 12 [] share_part_terms
    share_part_shown (λ x. refl)
    (λ _. true) (λ r. refl) (λ _. true) (λ x. refl) db.trees t.share_part
    (held_at 8 represents).same))
    is).0
