-- The stored batches, according to the numbers found.
use Rattle.std.proofs.lemmas.Grind.{common_steps}
use Rattle.std.proofs.Common.{◌≡◌, ℕ, List, [], ◌∷◌, map, take, drop, length, codes, Option, Some, None, true, false, pos, refl, sym, ap, ap₂, subst, ◌∙◌, arith, IsPermutation}
use Rattle.std.specs.Prelude.{Vec}
use Rattle.std.specs.List.{AllByRecursion}
use Rattle.std.specs.declared.alloc.Global.{Global}
use Rattle.std.proofs.lemmas.Bool.{and_parts, not-true}
use Rattle.std.proofs.lemmas.List.Sorted.{IsPermutation-map}
use Rattle.exam_lists.proofs.Maps.{map_agree, map_same}
use Rattle.sqlite_schema.specs.declared.schema.Constraint.TheVariants.{Datatype, NotNull}
use Rattle.sqlite_schema.specs.Rules.{are_typed, are_present, passes, suits}
use Rattle.sqlite_sql.specs.Ops.{is_null}
use Rattle.sqlite_trees.proofs.ListLemmas.{map-map, pull_back, all_of, all_both, all-map, all_from_map, all-permutation}
use Rattle.sqlite_value.specs.declared.value.Value.{Value}
use Rattle.sqlite_value.specs.declared.value.Value.TheVariants.{Blob}
use Rattle.sqlite_value.specs.Order.{Row, column}
use Rattle.sqlite.specs.Effect.{Database, IsDatabase}
use Rattle.office_schema.specs.Schema.{int, blob}
use Rattle.office_tables.specs.Tables.Batches.{batch_table, IsFoundBatches, counts_of, counts_columns, FitsCounts, batch_columns}
use Rattle.office_tables.specs.declared.version.Version.{Version}
use Rattle.office_tables.specs.Versions.{schema_of}
use Rattle.office_tables.specs.Finders.{IsFound}
use Rattle.office_tables.specs.Stored.{keyed_columns}
use Rattle.office_tables.specs.declared.tables.batch.BatchCountsRow.{BatchCountsRow}
use Rattle.office_tables.proofs.ListTexts.{counts_shown}
use Rattle.office_tables.proofs.Queries.{column_later}
use Rattle.office_tables.proofs.RecordsBack.{batch_of, counts_in}
use Rattle.office_tables.proofs.WholeRows.{dropped, rows_long}
use Rattle.office_tables.proofs.WholeTables.{in_both}

-- ---- the bytes

-- a row that a batch shows: five columns, and bytes in the second
record IsWhole (q : Row) : Type 0 where
  long : length q ≡ 5
  bytes : List ℕ
  blob : column q 1 ≡ Blob bytes

bytes_there : (v : Value) → suits (blob (codes "bytes")) v ≡ true → is_null v ≡ false
    → (bytes : List ℕ) × (v ≡ Blob bytes)
bytes_there (Blob bytes) suits present = (bytes, refl)
bytes_there _ suits present = absurd (cc)

whole : (r : Row) → length r ≡ 6 → are_typed batch_table.key 0 batch_table.columns (drop 1 r) ≡ true
    → are_present batch_table.key 0 batch_table.columns r ≡ true → IsWhole (keyed_columns r)
whole [] long typed present = absurd (omega (arith, long))
whole (a ∷ []) long typed present = absurd (omega (arith, long))
whole (a ∷ b ∷ []) long typed present = absurd (omega (arith, long))
whole (a ∷ b ∷ v ∷ row) long typed present = grind (arith, common_steps, and_parts, bytes_there, not-true)

-- ---- one batch

abbrev picked : Row → Row
picked q = column q 0 ∷ column q 2 ∷ column q 3 ∷ column q 4 ∷ []

is_batch : (q : Row) → IsWhole q → (found : BatchCountsRow) × (picked q ≡ counts_columns found)
    → q ≡ batch_columns (batch_of q)
is_batch q whole (found, is) = grind (arith, common_steps, pos, dropped)

all_same : (f : Row → Row) (rows : List Row) → AllByRecursion (λ q. q ≡ f q) rows
    → rows ≡ map f rows
all_same f [] h = refl
all_same f (q ∷ rows) h = ap₂ (λ x xs. x ∷ xs) h.0 (all_same f rows h.1)

-- ---- the table

module _ (version : Version) (db : Database) (is : db.schema ≡ schema_of version)
    (sound : IsDatabase db) where
  all_whole : AllByRecursion IsWhole (map keyed_columns (db.trees 14))
  all_whole =
      let Typed = λ (r : Row). passes Datatype (schema_of version) db.trees batch_table r ≡ true in
      let Present = λ (r : Row). passes NotNull (schema_of version) db.trees batch_table r ≡ true in
      let typed = in_both version 9 batch_table refl Datatype db is sound in
      let present = in_both version 9 batch_table refl NotNull db is sound in
      let long = rows_long batch_table (take 4 batch_table.columns) (int (codes "unchanged")) refl
      refl refl (schema_of version) db.trees (db.trees 14) typed present in
      all-map IsWhole keyed_columns (db.trees 14)
      (all_both (λ r. length r ≡ 6) (λ r. Typed r × Present r) (λ r. IsWhole (keyed_columns r))
      (λ r wide both. whole r wide (and_parts _ _ both.0).0 both.1) (db.trees 14) long
      (all_both Typed Present (λ r. Typed r × Present r) (λ r t p. (t, p)) (db.trees 14) typed
      present))

  counts_listed : map picked (map keyed_columns (db.trees 14)) ≡ map counts_shown (db.trees 14)
  counts_listed =
      map-map picked keyed_columns (db.trees 14)
      ∙ map_agree (λ r. picked (keyed_columns r)) counts_shown
      (λ r. rw (column_later r 1, column_later r 2, column_later r 3) refl) (db.trees 14)

  -- the table's batches have the numbers found, or there are no batches that fit
  pub batches_found : (found : Option (Vec BatchCountsRow Global))
      → IsFound FitsCounts counts_columns counts_shown (db.trees 14) found → IsFoundBatches db found
  batches_found (Some found) holds =
      let shown = map keyed_columns (db.trees 14) in
      let moved = subst (λ l. IsPermutation l (map counts_columns found.items)) (sym counts_listed)
      holds.same in
      let u = pull_back picked _ _ moved shown refl in
      let here = all-permutation IsWhole shown u.0 u.1 all_whole in
      let Counted = λ (q : Row). (f : BatchCountsRow) × (q ≡ counts_columns f) in
      let counted : AllByRecursion (λ q. Counted (picked q)) u.0 =
      all_from_map Counted picked u.0 (subst (AllByRecursion Counted) u.2
      (all-map Counted counts_columns found.items (all_of _ (λ f. (f, refl)) found.items))) in
      let rows : u.0 ≡ map batch_columns (map batch_of u.0) =
      all_same (λ q. batch_columns (batch_of q)) u.0
      (all_both IsWhole (λ q. Counted (picked q)) (λ q. q ≡ batch_columns (batch_of q)) is_batch u.0
      here counted)
      ∙ sym (map-map batch_columns batch_of u.0) in
      let numbers : map counts_of (map batch_of u.0) ≡ found.items =
      map-map counts_of batch_of u.0 ∙ sym (map-map counts_in picked u.0)
      ∙ ap (map counts_in) (sym u.2) ∙ map-map counts_in counts_columns found.items
      ∙ map_same (λ f. counts_in (counts_columns f)) (λ f. refl) found.items in (
        map batch_of u.0,
        numbers,
        record { rowids = holds.rowids; same = subst (IsPermutation shown) rows u.1 },
      )
  batches_found None none = λ batches fit holds.
      let typed : map picked (map batch_columns batches)
      ≡ map counts_columns (map counts_of batches) =
      map-map picked batch_columns batches ∙ sym (map-map counts_columns counts_of batches) in
      let same : IsPermutation (map counts_shown (db.trees 14))
      (map counts_columns (map counts_of batches)) =
      rw (sym counts_listed, sym typed) (IsPermutation-map picked _ _ holds.same) in
      none (map counts_of batches) (all-map FitsCounts counts_of batches fit)
      (record { rowids = holds.rowids; same = same })
