-- The table meta, according to the rows found.
use Rattle.std.proofs.Common.{◌≡◌, ◌≢◌, List, [], ◌∷◌, map, length, Option, Some, None, refl, sym, ap, subst, ◌∙◌, IsTrue, IsPermutation, arith}
use Rattle.std.specs.List.{AllByRecursion}
use Rattle.std.proofs.lemmas.List.Sorted.{IsPermutation-sym, IsPermutation-trans, length_permutation}
use Rattle.exam_lists.proofs.Maps.{map_agree_each}
use Rattle.exam_lists.proofs.Permutations.{same_one}
use Rattle.sqlite_trees.specs.Tree.{rowid}
use Rattle.sqlite_trees.specs.View.{is_int}
use Rattle.sqlite_trees.proofs.ListLemmas.{all_from_map, all-map, all_of, all-permutation}
use Rattle.sqlite_value.specs.Order.{Row}
use Rattle.sqlite.specs.Effect.{Database, IsDatabase}
use Rattle.office_tables.specs.declared.tables.meta.MetaRow.{MetaRow}
use Rattle.office_tables.specs.Tables.Metadata.{IsReadMeta, IsFoundMeta, meta_from, meta_columns, Meta}
use Rattle.office_tables.specs.Listings.{selected_columns}
use Rattle.office_tables.specs.declared.version.Version.{Version}
use Rattle.office_tables.specs.Versions.{schema_of}
use Rattle.office_tables.specs.Stored.{HasRowids, Holds, keyed_columns}
use Rattle.office_tables.proofs.ListTexts.{meta_terms, meta_whole}
use Rattle.office_tables.proofs.WholeRows.{dropped}

-- the only row has the number 0
rowids_of_one : (version : Version) (stored : List Row) (m : Meta)
    → IsPermutation (map keyed_columns stored) (meta_columns version m ∷ [])
    → HasRowids stored
rowids_of_one version stored m same =
    let ints = all_from_map (λ r. IsTrue (is_int (rowid r))) keyed_columns stored
    (all-permutation (λ r. IsTrue (is_int (rowid r))) (meta_columns version m ∷ [])
    (map keyed_columns stored)
    (IsPermutation-sym _ _ same) (refl, tt)) in
    go stored (sym (length_permutation _ _ same)) ints
  where
    go : (xs : List Row) → length (map keyed_columns xs) ≡ 1
        → AllByRecursion (λ r. IsTrue (is_int (rowid r))) xs → HasRowids xs
    go [] h all = record { ints = tt; apart = tt }
    go (x ∷ []) h all = record { ints = all; apart = (tt, tt) }
    go (x ∷ y ∷ xs) h all = absurd (omega (arith, h))

module _ (version : Version) (db : Database) (is : db.schema ≡ schema_of version)
    (sound : IsDatabase db) (rows : List Row)
    (list : IsPermutation (map (selected_columns meta_terms) (db.trees 0)) rows) where
  shown : IsPermutation (map keyed_columns (db.trees 0)) rows
  shown = subst (λ l. IsPermutation l rows)
      (map_agree_each (selected_columns meta_terms) keyed_columns (db.trees 0) (meta_whole version db is sound)) list

  pub not_single : length rows ≢ 1 → (m : Meta)
      → Holds keyed_columns (meta_columns version m ∷ []) (db.trees 0) → ⊥
  not_single many m holds =
      let one = length_permutation _ _
      (IsPermutation-trans _ _ _ (IsPermutation-sym _ _ shown) holds.same) in many (sym one)

  four : AllByRecursion (λ r. length r ≡ 4) rows
  four = all-permutation (λ r. length r ≡ 4) _ rows list
      (all-map (λ r. length r ≡ 4) (selected_columns meta_terms) (db.trees 0)
      (all_of _ (λ r. refl) (db.trees 0)))

  pub single : (row : Row) → rows ≡ row ∷ [] → (found : Option MetaRow)
      → IsReadMeta version row found
      → IsFoundMeta version (db.trees 0) found
  single row one (Some m) read =
      let long = (subst (AllByRecursion (λ r. length r ≡ 4)) one four).0 in
      let here : IsPermutation (map keyed_columns (db.trees 0)) (meta_columns version (meta_from m) ∷ []) =
      subst (IsPermutation (map keyed_columns (db.trees 0)))
      (one ∙ ap (λ v. v ∷ []) (dropped 0 4 row long ∙ read)) shown in
      record { rowids = rowids_of_one version (db.trees 0) (meta_from m) here; same = here }
  single row one None none = λ m holds.
      let long = (subst (AllByRecursion (λ r. length r ≡ 4)) one four).0 in
      let same = same_one row (meta_columns version m)
      (IsPermutation-trans _ _ _
      (IsPermutation-sym _ _ (subst (IsPermutation (map keyed_columns (db.trees 0))) one shown))
      holds.same) in
      none (omega (arith, long)) m (sym (dropped 0 4 row long) ∙ sym same)
