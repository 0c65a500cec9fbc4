-- The effect of the statements that delete rows of a table.
use Rattle.std.proofs.lemmas.Grind.{common_steps}
use Rattle.std.proofs.Common.{◌≡◌, ◌≤◌, ℕ, zero, suc, pos, List, [], ◌∷◌, ◌++◌, map, length, filter, not, ◌==◌, ◌&&◌, OnOk, Result, Bool, true, false, Option, Some, None, Ok, arith, sym, subst, ap, ap₂, ◌∙◌, refl}
use Rattle.std.specs.Prelude.{slice_get, slice_set}
use Rattle.std.proofs.Math.Bool.{and-true}
use Rattle.exam_lists.proofs.Filters.{filter_false}
use Rattle.exam_lists.proofs.Maps.{map_same}
use Rattle.sqlite_schema.specs.declared.schema.Table.{Table}
use Rattle.sqlite_sql.specs.Ops.{binary, is_true}
use Rattle.sqlite_sql.specs.declared.ops.BinaryOp.TheVariants.{Compare}
use Rattle.sqlite_sql.specs.declared.ops.CompareOp.TheVariants.{Eq}
use Rattle.sqlite_value.specs.declared.keys.Collation.TheVariants.{Binary}
use Rattle.sqlite_value.specs.declared.value.Value.{Value}
use Rattle.sqlite_value.specs.declared.value.Value.TheVariants.{Int}
use Rattle.sqlite_value.specs.Order.{Row, column}
use Rattle.sqlite.specs.declared.error.Error.{Error}
use Rattle.sqlite.specs.Command.TheVariants.{Delete}
use Rattle.sqlite.specs.Listing.{understood}
use Rattle.sqlite.specs.Effect.{IsDatabase}
use Rattle.sqlite.specs.State.{State, Executes}
use Rattle.sqlite.specs.Term.{Term}
use Rattle.sqlite.proofs.Callers.{IsPlain, command_of}
use Rattle.office_tables.specs.Tables.{office_schema, Tables, all_columns}
use Rattle.office_tables.specs.Inserting.{IsTable, Stores}
use Rattle.office_tables.specs.Stored.{shown_by}
use Rattle.office_tables.specs.Steps.{HasRun, TablesBecome}
use Rattle.office_tables.proofs.Frames.{AllShown, all_shown, own_shown, shown_next, tables_held}
use Rattle.office_tables.proofs.Inside.{changes_by}
use Rattle.office_tables.proofs.Queries.{answered, column_later, column_less, equal_numbers, equals, left_of, one_table, passes, rowids, shown_filter}
use Rattle.office_tables.proofs.Statements.{deletes, sound_after}
use Rattle.office_tables.proofs.TableLemmas.{rowids_filter}

-- ---- rows by the first of their numbers

abbrev pub number : ℕ → Value
number n = Int (pos n)

-- where a column is in a stored row
abbrev pub stored_at : Option ℕ → ℕ → ℕ
stored_at (Some key) zero = 0
stored_at (Some key) (suc at) = suc (suc at)
stored_at None at = suc at

-- n columns, from one on, equal the parameters at their places
abbrev pub first_are : Option ℕ → ℕ → ℕ → List Term
first_are key at zero = []
first_are key at (suc n) = equals (stored_at key at) at ∷ first_are key (suc at) n

-- the same for the columns that the table shows
abbrev starts : Row → ℕ → ℕ → Row → Bool
starts params at zero row = true
starts params at (suc n) row =
    is_true (binary (Compare Eq Binary) (column row at) (column params at))
    && starts params (suc at) n row

-- the first numbers of a key
abbrev pub agrees : List ℕ → List ℕ → Bool
agrees [] key = true
agrees (p ∷ ps) [] = false
agrees (p ∷ []) (k ∷ key) = k == p
agrees (p ∷ q ∷ ps) (k ∷ key) = (k == p) && agrees (q ∷ ps) key

pub seen_at : (key : Option ℕ) (row : Row) (at : ℕ)
    → column row (stored_at key at) ≡ column (shown_by key row) at
seen_at (Some key) row zero = refl
seen_at (Some key) row (suc at) = column_later row at
seen_at None row at = column_less row at

first_seen : (params : Row) (key : Option ℕ) (row : Row) (n at : ℕ)
    → passes params (first_are key at n) row ≡ starts params at n (shown_by key row)
first_seen params key row zero at = refl
first_seen params key row (suc n) at =
    ap₂ (λ v b. is_true (binary (Compare Eq Binary) v (column params at)) && b)
    (seen_at key row at) (first_seen params key row n (suc at))

starts_later : (v w : Value) (params row : Row) (n at : ℕ)
    → starts (v ∷ params) (suc at) n (w ∷ row) ≡ starts params at n row
starts_later v w params row zero at = refl
starts_later v w params row (suc n) at =
    ap (λ b. is_true (binary (Compare Eq Binary) (column row at) (column params at)) && b)
    (starts_later v w params row n (suc at))

agree : (first key : List ℕ) (rest : Row) → length first ≤ length key
    → starts (map number first) 0 (length first) (map number key ++ rest) ≡ agrees first key
agree [] key rest long = refl
agree (p ∷ ps) [] rest long = absurd (omega arith)
agree (p ∷ []) (k ∷ key) rest long = equal_numbers k p
agree (p ∷ q ∷ ps) (k ∷ key) rest long =
    grind (arith, common_steps, and-true, equal_numbers, starts_later, agree (q ∷ ps) key rest (omega arith))

-- ---- DELETE

-- this text deletes the rows whose first n columns equal the parameters
pub record IsDelete (at : ℕ) (table : Table) (n : ℕ) (sql : List ℕ) : Type 0 where
  pub is : command_of (understood office_schema sql) ≡ Delete at (record {
    lets = [];
    body = one_table table.tree (first_are table.key 0 n) rowids [];
  })
  pub plain : IsPlain (understood office_schema sql)

-- what it leaves lists its schema and obeys it
pub delete_sound : {at : ℕ} {table : Table} {n : ℕ} {sql : List ℕ} → IsDelete at table n sql
    → (params : Row) (old new : State) (count : ℕ) → old.now.schema ≡ office_schema
    → Executes sql params old new (Ok count) → IsDatabase new.now
delete_sound {sql} means params old new count has h =
    sound_after office_schema sql params old new count means.plain _ means.is tt has h

-- the table has a key whose numbers are the first columns
abbrev pub IsKey : {X : Type 0} → (X → Row) → (X → List ℕ) → Type 0
IsKey {X} columns_of key = (x : X) → (rest : Row) × (columns_of x ≡ map number (key x) ++ rest)

module _ {at : ℕ} {table : Table} (is : IsTable at table) {X : Type 0} (columns_of : X → Row)
    (key : X → List ℕ) (keyed : IsKey columns_of key) (first : List ℕ)
    (short : (x : X) → length first ≤ length (key x)) (sql : List ℕ)
    (means : IsDelete at table (length first) sql) where
  pub deleted : (old new : State) (xs : List X) (count : ℕ) (all : List (List Row))
      → slice_get all at ≡ Some (map columns_of xs) → AllShown all old.now
      → Executes sql (map number first) old new (Ok count)
      → AllShown (slice_set all at
      (map columns_of (filter (λ x. not (agrees first (key x))) xs))) new.now
  deleted old new xs count all there shown h =
      let params = map number first in
      let n = length first in
      let where_ = first_are table.key 0 n in
      let done = deletes sql params old new count office_schema shown.schema means.plain at table
      is.found _ means.is is.quiet h in
      let edit = done.3 in
      let stored = old.now.trees table.tree in
      let test = passes params where_ in
      let holds = own_shown is all (map columns_of xs) old.now there shown in
      let answer = answered table.tree where_ rowids [] old.now.trees params done.0 done.2 in
      let rows : new.now.trees table.tree ≡ filter (λ r. not (test r)) stored =
      edit.rows ∙ left_of test stored done.0 holds.rowids answer in
      shown_next is all _ old.now new.now shown (record {
        schema = done.1;
        others = edit.tables;
        holds = rw rows (record {
          rowids = rowids_filter (λ r. not (test r)) stored holds.rowids;
          same = shown_filter (shown_by table.key) columns_of (λ r. not (test r))
              (λ (row : Row). not (starts params 0 n row)) (λ x. not (agrees first (key x)))
              (λ r. ap not (first_seen params table.key r n 0))
              (λ x. ap not (ap (starts params 0 n) (keyed x).1
              ∙ agree first (key x) (keyed x).0 (short x)))
              stored xs holds.same;
        });
      })

-- DELETE of all rows
pub cleared : {at : ℕ} {table : Table} (is : IsTable at table) (sql : List ℕ)
    → IsDelete at table 0 sql → (old new : State) (rows : List Row) (count : ℕ)
    (all : List (List Row)) → slice_get all at ≡ Some rows → AllShown all old.now
    → Executes sql [] old new (Ok count) → AllShown (slice_set all at []) new.now
cleared {at} is sql means old new rows count all there shown h =
    subst (λ l. AllShown (slice_set all at l) new.now) (ap (map (λ (r : Row). r)) (filter_false rows))
    (deleted is (λ (r : Row). r) (λ _. []) (λ r. (r, refl)) [] (λ _. omega arith) sql means old new
    rows count all (rw (map_same (λ (r : Row). r) (λ _. refl) rows) there) shown h)

-- the tables without the rows of one table that have these numbers
pub rows_deleted : {X : Type 0} {at : ℕ} {table : Table} {columns_of : X → Row} {w : ℕ}
    (about : Stores at table columns_of w) (key : X → List ℕ) → IsKey columns_of key
    → (first : List ℕ) → ((x : X) → length first ≤ length (key x)) → (sql : List ℕ)
    → IsDelete at table (length first) sql → (rows : Tables → List X) (f : Tables → Tables)
    → ((t : Tables) → slice_get (all_columns t) at ≡ Some (map columns_of (rows t)))
    → ((t : Tables) → all_columns (f t) ≡ slice_set (all_columns t) at
    (map columns_of (filter (λ x. not (agrees first (key x))) (rows t))))
    → (old new : State) (r : Result (Unit {0}) Error)
    → OnOk r (HasRun sql (map number first) old new) → OnOk r (TablesBecome f old new)
rows_deleted {columns_of} about key keyed first short sql means rows f listed changed old new r =
    changes_by f sql (map number first) old new r
    (λ count t represents h. (
      tables_held new.now (f t) (subst (λ all. AllShown all new.now) (sym (changed t))
          (deleted about.is columns_of key keyed first short sql means old new (rows t) count
          (all_columns t) (listed t) (all_shown old.now t represents) h)),
      λ _. delete_sound means _ old new count represents.schema h,
    ))

-- the tables without the rows of one table
pub rows_cleared : {at : ℕ} {table : Table} (is : IsTable at table) (sql : List ℕ) → IsDelete at table 0 sql
    → (rows : Tables → List Row) (f : Tables → Tables)
    → ((t : Tables) → slice_get (all_columns t) at ≡ Some (rows t))
    → ((t : Tables) → all_columns (f t) ≡ slice_set (all_columns t) at [])
    → (old new : State) (r : Result (Unit {0}) Error)
    → OnOk r (HasRun sql [] old new) → OnOk r (TablesBecome f old new)
rows_cleared is sql means rows f listed changed old new r =
    changes_by f sql [] old new r (λ count t represents h. (
      tables_held new.now (f t) (subst (λ all. AllShown all new.now) (sym (changed t))
          (cleared is sql means old new (rows t) count (all_columns t) (listed t)
          (all_shown old.now t represents) h)),
      λ _. delete_sound means _ old new count represents.schema h,
    ))
