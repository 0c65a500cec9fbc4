-- What a table holds, according to a text that lists it.
use Rattle.std.proofs.Common.{◌≡◌, ◌≢◌, ◌≤◌, ◌<◌, ◌+◌, ℕ, zero, suc, arith, List, [], ◌∷◌, map, length, get_or, Option, Some, None, Result, Ok, Err, refl, sym, ap, subst, ◌∙◌, IsTrue, IsPermutation, IfOk, IfErr}
use Rattle.std.specs.List.{AllByRecursion}
use Rattle.std.specs.Prelude.{Vec, IfSome}
use Rattle.std.specs.declared.alloc.Global.{Global}
use Rattle.std.proofs.lemmas.List.Sorted.{IsPermutation-sym, IsPermutation-trans, IsPermutation-map}
use Rattle.exam_lists.proofs.Filters.{filter_every}
use Rattle.exam_lists.proofs.Maps.{map_agree_each}
use Rattle.sqlite_trees.specs.Tree.{rowid, Trees}
use Rattle.sqlite_trees.specs.View.{is_int}
use Rattle.sqlite_trees.proofs.ListLemmas.{all_of, all_weaker, ascending-map, map-map, all_from_map, ascending_from_map, all-map, all-permutation, all-get_or}
use Rattle.sqlite_value.specs.declared.keys.Key.{Key}
use Rattle.sqlite_value.specs.Order.{Row, column}
use Rattle.sqlite.specs.declared.error.Error.{Error}
use Rattle.sqlite.specs.Listing.{understood}
use Rattle.sqlite.specs.Query.{IsAnswer, inner, end, matches}
use Rattle.sqlite.specs.State.{State, Survives, IsUnchanged, FailsToQuery, Shown, CommitsShowing}
use Rattle.sqlite.specs.Term.{Term, eval_all}
use Rattle.sqlite.proofs.Callers.{IsPlain, never_commits}
use Rattle.sqlite.proofs.StateLemmas.{survives_weaker}
use Rattle.office_tables.specs.Readings.{IsRead, ColumnRises}
use Rattle.office_tables.specs.Finders.{IsFound, HasTables}
use Rattle.office_tables.specs.Listings.{one_table, ordered_by, Lists, selected_columns, IsListed}
use Rattle.office_tables.specs.Records.{columns_from}
use Rattle.office_tables.specs.declared.version.Version.{Version}
use Rattle.office_tables.specs.Versions.{schema_of}
use Rattle.office_tables.specs.Readers.{Keeps}
use Rattle.office_tables.specs.Stored.{HasRowids}
use Rattle.office_tables.proofs.AskLemmas.{arranged, command_is, overlay_none}
use Rattle.office_tables.proofs.Queries.{matched, passes}
use Rattle.office_tables.proofs.Reading.{kept_failed, kept_unchanged, shown_same}
use Rattle.office_tables.proofs.Rising.{only_column, rising_from_sorted, rowids_from_rising}
use Rattle.office_tables.proofs.Statements.{selects}
use Rattle.office_tables.proofs.TableLemmas.{rowids_moved}

-- ---- a text that lists a tree

module _ (tree : ℕ) (shown : List Term) (order : List (Term × Key)) (sql : List ℕ)
    (version : Version) (lists : Lists version tree shown order sql) (old new : State)
    (has : old.now.schema ≡ schema_of version) where
  pub listing : (rows : List Row) → Shown sql [] old new rows
      → IsAnswer (one_table tree [] shown order) old.now.trees [] rows
  listing rows h =
      let q = one_table tree [] shown order in
      let command = command_is q lists.names _ lists.selects in
      subst (λ trees. IsAnswer q trees [] rows) (overlay_none old.now.trees)
      (selects sql [] old new (schema_of version) has lists.plain _ lists.names command
      lists.unlisted rows h)

  plain_now : IsPlain (understood old.now.schema sql)
  plain_now = subst (λ s. IsPlain (understood s sql)) (sym has) lists.plain

  pub listed_same : (rows : List Row) → Shown sql [] old new rows → IsUnchanged old new
  listed_same rows = shown_same sql [] old new rows plain_now

  pub listed_kept : (r : Result (Vec Row Global) Error)
      → IfOk r (λ rows. Shown sql [] old new rows.items)
      → IfErr r (FailsToQuery sql [] old new) → Keeps old new
  listed_kept (Ok rows) ok err = kept_unchanged old new (listed_same rows.items ok)
  listed_kept (Err e) ok err = kept_failed sql [] old new e err

pub listed_silent : (tree : ℕ) (shown : List Term) (order : List (Term × Key)) (sql : List ℕ)
    (version : Version) → Lists version tree shown order sql → (old new : State)
    → Survives old new (CommitsShowing sql [] old)
    → Survives old new (λ _. HasTables version old → ⊥)
listed_silent tree shown order sql version lists old new =
    survives_weaker old new _ _ (λ _ db h tables. never_commits sql [] old db
    (subst (λ s. IsPlain (understood s sql)) (sym tables.schema) lists.plain) h)

-- all rows of the tree are listed
pub all_listed : (tree : ℕ) (shown : List Term) (order : List (Term × Key)) (trees : Trees)
    (rows : List Row) → IsAnswer (one_table tree [] shown order) trees [] rows
    → IsPermutation (map (selected_columns shown) (trees tree)) rows
all_listed tree shown order trees rows answer =
    let a = arranged (inner tree end) [] shown order trees [] rows answer in
    let found : map (eval_all shown) (matches trees [] (inner tree end) ([] ∷ []))
    ≡ map (selected_columns shown) (trees tree) =
    ap (map (eval_all shown)) (matched [] [] (trees tree))
    ∙ map-map (eval_all shown) (λ r. [] ∷ r ∷ []) _
    ∙ ap (map (selected_columns shown)) (filter_every (passes [] []) (trees tree) (λ r. refl)) in
    rw (sym found, a.1) (IsPermutation-map (eval_all shown) _ _ a.2)

-- ---- lists

-- ---- from listed rows to stored rows

ids_adopted : (stored rows : List Row) → IsPermutation (map (only_column 0) stored) rows
    → HasRowids rows → HasRowids stored
ids_adopted stored rows same h =
    let back = rowids_moved rows _ (IsPermutation-sym _ _ same) h in
    record {
      ints = all_from_map (λ r. IsTrue (is_int (rowid r))) (only_column 0) stored back.ints;
      apart = ascending_from_map (λ a b. rowid a ≢ rowid b) (only_column 0) stored back.apart;
    }

module _ (width : ℕ) (show : Row → Row) (terms : List Term) (stored rows : List Row)
    (whole : AllByRecursion (λ r. IsListed width show r (selected_columns terms r)) stored)
    (same : IsPermutation (map (selected_columns terms) stored) rows) where
  ids_listed : IsPermutation (map (only_column 0) stored) (map (only_column width) rows)
  ids_listed =
      let ids = map_agree_each (λ r. only_column width (selected_columns terms r)) (only_column 0) stored
      (all_weaker _ (λ r. only_column width (selected_columns terms r) ≡ only_column 0 r)
      (λ r k. ap (λ v. v ∷ []) k.number) stored whole) in
      subst (λ l. IsPermutation l (map (only_column width) rows))
      (map-map (only_column width) (selected_columns terms) stored ∙ ids)
      (IsPermutation-map (only_column width) _ _ same)

  pub stored_ids : HasRowids (map (only_column width) rows) → HasRowids stored
  stored_ids h = ids_adopted stored _ ids_listed h

  pub listed_ids : HasRowids stored → HasRowids (map (only_column width) rows)
  listed_ids h =
      rowids_moved _ _ ids_listed (record {
        ints = all-map (λ r. IsTrue (is_int (rowid r))) (only_column 0) stored h.ints;
        apart = ascending-map (λ a b. rowid a ≢ rowid b) (only_column 0) stored h.apart;
      })

  pub stored_columns : IsPermutation (map show stored) (map (columns_from 0 width) rows)
  stored_columns =
      let each = map_agree_each (λ r. columns_from 0 width (selected_columns terms r)) show stored
      (all_weaker _ (λ r. columns_from 0 width (selected_columns terms r) ≡ show r) (λ r k. k.columns) stored
      whole) in
      subst (λ l. IsPermutation l (map (columns_from 0 width) rows))
      (map-map (columns_from 0 width) (selected_columns terms) stored ∙ each)
      (IsPermutation-map (columns_from 0 width) _ _ same)

  pub rows_wide : AllByRecursion (λ r. width ≤ length r) rows
  rows_wide =
      all-permutation (λ r. width ≤ length r) _ rows same
      (all-map (λ r. width ≤ length r) (selected_columns terms) stored
      (all_weaker _ (λ r. width ≤ length (selected_columns terms r)) (λ r k. k.wide) stored whole))

-- no record that fits has this row
pub unread : {X : Type 0} (fits : X → Type 0) (row_of : X → Row) (width : ℕ) (rows : List Row)
    (i : ℕ) (d : Row) → i < length rows
    → (width ≤ length (get_or rows i d) → (x : X) → fits x
    → row_of x ≢ columns_from 0 width (get_or rows i d))
    → AllByRecursion (λ r. width ≤ length r) rows → (made : List X) → AllByRecursion fits made
    → IsPermutation (map (columns_from 0 width) rows) (map row_of made) → ⊥
unread {X} fits row_of width rows i d below refused wide made fit same =
    let Made = λ (v : Row). (x : X) × fits x × (row_of x ≡ v) in
    let there : AllByRecursion Made (map row_of made) =
    all-map Made row_of made
    (all_weaker _ (λ x. Made (row_of x)) (λ x k. (x, k, refl)) made fit) in
    let here = all-permutation Made _ _ (IsPermutation-sym _ _ same) there in
    let it = all-get_or (λ r. Made (columns_from 0 width r)) rows i d
    (all_from_map Made (columns_from 0 width) rows here) below in
    refused (all-get_or (λ r. width ≤ length r) rows i d wide below) it.0 it.1 it.2

-- if the rows' numbers are distinct, those of the rows that a text lists rise
pub listed_rise : (width tree : ℕ) (show : Row → Row) (terms : List Term) (trees : Trees)
    (rows : List Row)
    → AllByRecursion (λ r. IsListed width show r (selected_columns terms r)) (trees tree)
    → IsAnswer (one_table tree [] terms (ordered_by terms width)) trees [] rows
    → HasRowids (trees tree) → ColumnRises width rows
listed_rise width tree show terms trees rows whole answer once =
    let order = ordered_by terms width in
    let same = all_listed tree terms order trees rows answer in
    let ids = listed_ids width show terms (trees tree) rows whole same once in
    let a = arranged (inner tree end) [] terms order trees [] rows answer in
    subst (ColumnRises width) (sym a.1)
    (rising_from_sorted terms width a.0 a.3
    (subst (λ l. HasRowids (map (only_column width) l)) a.1 ids))

-- the table holds the records that were read of the rows that a text lists
pub adopted : {X : Type 0} (fits : X → Type 0) (row_of : X → Row) (width : ℕ) (show : Row → Row)
    (terms : List Term) (stored rows : List Row)
    → AllByRecursion (λ r. IsListed width show r (selected_columns terms r)) stored
    → IsPermutation (map (selected_columns terms) stored) rows
    → ColumnRises width rows → (found : Option (Vec X Global))
    → IsRead fits row_of width rows found
    → IsFound fits row_of show stored found
adopted fits row_of width show terms stored rows whole same rise (Some made) is = record {
  rowids = stored_ids width show terms stored rows whole same (rowids_from_rising width rows rise);
  same = subst (IsPermutation (map show stored)) (sym is)
      (stored_columns width show terms stored rows whole same);
}
adopted fits row_of width show terms stored rows whole same rise None none = λ made fit holds.
    none (rows_wide width show terms stored rows whole same) made fit
    (IsPermutation-trans _ _ _
    (IsPermutation-sym _ _ (stored_columns width show terms stored rows whole same)) holds.same)

-- ---- records in the order of their rows' numbers

from_column : (from width at : ℕ) (row : Row) → at < width
    → column (columns_from from width row) at ≡ column row (from + at)
from_column from zero at row low = absurd (omega (arith, low))
from_column from (suc width) zero row low = ap (column row) (omega arith)
from_column from (suc width) (suc at) row low =
    from_column (suc from) width at row (omega (arith, low)) ∙ ap (column row) (omega arith)

own_column : (width at : ℕ) (row : Row) → at < width
    → column (columns_from 0 width row) at ≡ column row at
own_column width at row low = from_column 0 width at row low ∙ ap (column row) (omega arith)

-- if a listed column is the row's number, it rises in the records that are read
pub read_rises : {X : Type 0} (fits : X → Type 0) (row_of : X → Row) (width at : ℕ) → at < width
    → (terms : List Term) (stored rows : List Row)
    → ((r : Row) → column (selected_columns terms r) at ≡ column (selected_columns terms r) width)
    → IsPermutation (map (selected_columns terms) stored) rows → ColumnRises width rows
    → (found : Option (Vec X Global)) → IsRead fits row_of width rows found
    → IfSome found (λ records. ColumnRises at (map row_of records.items))
read_rises fits row_of width at within terms stored rows number same rise (Some made) is =
    let alike : AllByRecursion (λ r. column (columns_from 0 width r) at ≡ column r width) rows =
    all-permutation (λ r. column (columns_from 0 width r) at ≡ column r width)
    (map (selected_columns terms) stored) rows same
    (all-map (λ r. column (columns_from 0 width r) at ≡ column r width) (selected_columns terms) stored
    (all_of _ (λ r. own_column width at (selected_columns terms r) within ∙ number r) stored)) in (
      rise.0,
      ap (map (λ r. column r at)) is
          ∙ map-map (λ r. column r at) (columns_from 0 width) rows
          ∙ map_agree_each (λ r. column (columns_from 0 width r) at) (λ r. column r width) rows alike
          ∙ rise.1,
      rise.2,
    )
read_rises fits row_of width at within terms stored rows number same rise None none = tt
