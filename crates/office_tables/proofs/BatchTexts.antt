-- The rows that queries read from the table of batches.
use Rattle.std.proofs.lemmas.Grind.{common_steps}
use Rattle.std.proofs.Common.{◌≡◌, ◌≢◌, ◌≤◌, ◌<◌, ℕ, pos, List, [], ◌∷◌, ◌++◌, map, filter, length, ◌==◌, codes, Option, refl, sym, ap, ◌∙◌, ◌↔◌, arith, IsPermutation}
use Rattle.std.specs.Prelude.{option_to_list, IsSome}
use Rattle.std.specs.List.{AllByRecursion}
use Rattle.std.proofs.lemmas.List.{length-map}
use Rattle.std.proofs.lemmas.List.Sorted.{length_permutation}
use Rattle.exam_lists.proofs.Keys.{all_of_key}
use Rattle.exam_lists.proofs.Permutations.{same_few}
use Rattle.exam_lists.proofs.Searches.{last_only}
use Rattle.sqlite_trees.specs.Tree.{IsAscending}
use Rattle.sqlite_trees.proofs.ListLemmas.{ascending-filter}
use Rattle.sqlite_value.specs.declared.value.Value.TheVariants.{Int}
use Rattle.sqlite_value.specs.Order.{Row, column}
use Rattle.sqlite.specs.Effect.{Database}
use Rattle.sqlite.specs.Listing.{understood}
use Rattle.sqlite.specs.Query.{Query, inner, end}
use Rattle.sqlite.specs.Term.{Term, col}
use Rattle.sqlite_tied.specs.Compute.{everything}
use Rattle.office_tables.specs.declared.version.Version.{Version}
use Rattle.office_tables.specs.declared.version.Version.TheVariants.{One, Two}
use Rattle.office_tables.specs.Versions.{schema_of}
use Rattle.office_tables.specs.Asking.{select_query, IsReadOf, Means}
use Rattle.office_tables.specs.Tables.Batches.{batch_from, batch_columns, Batch}
use Rattle.office_tables.specs.Tables.{Tables}
use Rattle.office_tables.specs.TablesHeld.{HoldsTablesIn}
use Rattle.office_tables.specs.Stored.{keyed_columns}
use Rattle.office_tables.specs.declared.tables.batch.BatchRow.{BatchRow}
use Rattle.office_tables.proofs.OrderLemmas.{read, rising, table_shown, typed}
use Rattle.office_tables.proofs.Queries.{column_later, equal_numbers, equals, passes}
use Rattle.office_tables.proofs.RecordsBack.{batch_of}
use Rattle.office_tables.proofs.TableLemmas.{keys_once}
use Rattle.office_tables.proofs.Frames.{held_at}

-- no two batches have the same number
pub kept_once : (version : Version) (db : Database) (t : Tables) → HoldsTablesIn version db t
    → IsAscending (λ a b. a.no ≢ b.no) t.batch
kept_once version db t represents =
    keys_once batch_columns (λ (b : Batch). b.no) (λ b. refl) t.batch (db.trees 14)
    (held_at 9 represents)

-- ---- SELECT no, bytes, added, dropped, unchanged FROM batch WHERE no = ?1 ORDER BY no

abbrev pub batch_of_text : List ℕ
batch_of_text = codes
    "SELECT no, bytes, added, dropped, unchanged FROM batch WHERE no = ?1 ORDER BY no"

abbrev columns : List Term
columns = col 1 0 ∷ col 1 2 ∷ col 1 3 ∷ col 1 4 ∷ col 1 5 ∷ []

abbrev pub batch_of_query : Query
batch_of_query = select_query (inner 14 end) (equals 0 0 ∷ []) columns (rising columns (0 ∷ []))

pub batch_of_means : (version : Version) → Means (schema_of version) batch_of_query batch_of_text
unfolding understood everything
batch_of_means One = record { names = _; selects = refl; unlisted = refl; plain = (refl, refl) }
batch_of_means Two = record { names = _; selects = refl; unlisted = refl; plain = (refl, refl) }

abbrev picked : Row → Row
picked row = column row 0 ∷ column row 1 ∷ column row 2 ∷ column row 3 ∷ column row 4 ∷ []

shown_is : (r : Row) → column r 0 ∷ column r 2 ∷ column r 3 ∷ column r 4 ∷ column r 5 ∷ []
    ≡ picked (keyed_columns r)
shown_is r = grind (arith, common_steps, column_later)

rows_read : (version : Version) (db : Database) (n : ℕ) (t : Tables) → HoldsTablesIn version db t
    → (found : List Batch)
    → IsReadOf batch_columns 5 (Int (pos n) ∷ []) batch_of_query db.trees found
    → IsPermutation (filter (λ r. r.no == n) t.batch) found
rows_read version db n t represents found is =
    let params : Row = Int (pos n) ∷ [] in
    (read batch_of batch_columns 5 (λ x. refl) (λ x. refl) (inner 14 end) (equals 0 0 ∷ []) columns
    (0 ∷ []) (λ (x : Batch). x.no ∷ []) (λ x. refl) db.trees params
    (filter (λ r. r.no == n) t.batch) found
    (table_shown batch_columns keyed_columns picked params 14 (equals 0 0 ∷ []) columns shown_is
    (λ x. refl) (passes params (equals 0 0 ∷ [])) (λ r. refl)
    (λ r. r.no == n) (λ x. equal_numbers x.no n) db.trees t.batch
    (held_at 9 represents).same) is).0

one_at_most : (n : ℕ) (rows : List Batch) → AllByRecursion (λ r. r.no ≡ n) rows
    → IsAscending (λ a b. a.no ≢ b.no) rows → length rows ≤ 1
one_at_most n [] all up = omega arith
one_at_most n (r ∷ []) all up = omega arith
one_at_most n (r ∷ s ∷ rows) all up = absurd (up.0.0 (all.0 ∙ sym all.1.0))

pub batch_of_read : (version : Version) (db : Database) (n : ℕ) (t : Tables)
    → HoldsTablesIn version db t
    → (found rest : List BatchRow) (last : Option BatchRow)
    → IsReadOf (λ r. batch_columns (batch_from r)) 5
    (Int (pos n) ∷ []) batch_of_query db.trees found
    → found ≡ rest ++ option_to_list last → IsSome last ↔ (0 < length found)
    → filter (λ r. r.no == n) t.batch ≡ map batch_from (option_to_list last)
batch_of_read version db n t represents found rest last is ends some =
    let kept = filter (λ r. r.no == n) t.batch in
    let same : IsPermutation kept (map batch_from found) =
    rows_read version db n t represents (map batch_from found)
    (typed batch_columns batch_from 5 (Int (pos n) ∷ []) batch_of_query db.trees found is) in
    let few = one_at_most n kept (all_of_key (λ (r : Batch). r.no) n t.batch)
    (ascending-filter (λ a b. a.no ≢ b.no) (λ r. r.no == n) t.batch
    (kept_once version db t represents)) in
    let long = length_permutation _ _ same in
    let single : found ≡ option_to_list last = last_only found rest last ends some
    (omega (arith, few, long, length-map found batch_from)) in
    sym (same_few _ _ few same) ∙ ap (map batch_from) single
