-- Each stored row of the tables has its columns, and no more.
use Rattle.std.proofs.lemmas.Grind.{common_steps}
use Rattle.std.proofs.Common.{◌≡◌, ◌≤◌, ◌<◌, ◌+◌, ◌++◌, ℕ, zero, suc, List, [], ◌∷◌, drop, length, true, false, if◌then◌else◌, Option, refl, sym, ap, subst, ◌∙◌, arith, length-append}
use Rattle.std.specs.List.{AllByRecursion}
use Rattle.std.proofs.lemmas.Bool.{and_parts}
use Rattle.exam_lists.proofs.Booleans.{last_fails}
use Rattle.sqlite_schema.specs.declared.schema.Column.{Column}
use Rattle.sqlite_schema.specs.declared.schema.Constraint.{Constraint}
use Rattle.sqlite_schema.specs.declared.schema.Constraint.TheVariants.{Datatype, NotNull}
use Rattle.sqlite_schema.specs.declared.schema.Schema.{Schema}
use Rattle.sqlite_schema.specs.declared.schema.Table.{Table}
use Rattle.sqlite_schema.specs.Names.{is_key}
use Rattle.sqlite_schema.specs.Rules.{are_typed, suits, are_present, passes, Keeps}
use Rattle.sqlite_sql.specs.Ops.{is_null}
use Rattle.sqlite_trees.specs.Tree.{Trees}
use Rattle.sqlite_trees.proofs.ListLemmas.{all_both}
use Rattle.sqlite_value.specs.declared.value.Value.{Value}
use Rattle.sqlite_value.specs.Order.{Row, column}
use Rattle.sqlite.specs.Effect.{Database, IsDatabase}
use Rattle.office_tables.specs.Records.{columns_from}
use Rattle.office_tables.specs.Tables.{office_schema, schema_before}
use Rattle.office_tables.specs.Tables.Draft.{night_draft_table}
use Rattle.office_tables.specs.Tables.ShareStudent.{night_share_table}
use Rattle.office_tables.specs.declared.version.Version.{Version}
use Rattle.office_tables.specs.declared.version.Version.TheVariants.{One, Two}
use Rattle.office_tables.specs.Versions.{schema_of}

-- ---- the columns of a row of known length

pub shift : (v : Value) (vs : Row) (n at : ℕ) → columns_from (suc at) n (v ∷ vs) ≡ columns_from at n vs
shift v vs zero at = refl
shift v vs (suc n) at = ap (λ l. column vs at ∷ l) (shift v vs n (suc at))

pub dropped : (k n : ℕ) (row : Row) → length row ≡ k + n → drop k row ≡ columns_from k n row
dropped zero zero [] h = refl
dropped zero (suc n) (v ∷ vs) h = ap (λ l. v ∷ l) (dropped zero n vs (omega (arith, h))
    ∙ sym (shift v vs n 0))
dropped (suc k) n (v ∷ vs) h = dropped k n vs (omega (arith, h)) ∙ sym (shift v vs n k)
dropped _ _ _ h = absurd (omega (arith, h))

-- ---- how long a row is

typed_long : (key : Option ℕ) (at : ℕ) (cols : List Column) (vs : Row)
    → are_typed key at cols vs ≡ true → length vs ≤ length cols
typed_long key at [] [] h = omega arith
typed_long key at [] (v ∷ vs) h = absurd (cc)
typed_long key at (c ∷ cols) [] h = omega arith
typed_long key at (c ∷ cols) (v ∷ vs) h =
    let more = typed_long key (at + 1) cols vs
    (and_parts (if is_key key at then is_null v else suits c v) (are_typed key (at + 1) cols vs)
    h).1 in omega (arith, more)

there : (row : Row) (k : ℕ) → is_null (column row k) ≡ false → k < length row
there [] k h = absurd (cc)
there (v ∷ row) zero h = omega arith
there (v ∷ row) (suc k) h = let more = there row k h in omega (arith, more)

last_present : (key : Option ℕ) (at k : ℕ) (cols : List Column) (c : Column) (row : Row)
    → at + length cols ≡ k
    → are_present key at (cols ++ c ∷ []) row ≡ true → is_key key k ≡ false → c.not_null ≡ true
    → is_null (column row (k + 1)) ≡ false
last_present key at k [] c row at_is h unkeyed present = grind (arith, common_steps, last_fails)
last_present key at k (x ∷ cols) c row at_is h unkeyed present =
    last_present key (at + 1) k cols c row (omega (arith, at_is)) (and_parts _ _ h).1 unkeyed
    present

exact : (row : Row) (n : ℕ) → length (drop 1 row) ≤ n → n < length row → length row ≡ 1 + n
exact [] n most least = absurd (omega (arith, least))
exact (v ∷ row) n most least = omega (arith, most, least)

row_long : (key : Option ℕ) (cols : List Column) (c : Column) (row : Row)
    → is_key key (length cols) ≡ false → c.not_null ≡ true
    → are_typed key 0 (cols ++ c ∷ []) (drop 1 row) ≡ true
    → are_present key 0 (cols ++ c ∷ []) row ≡ true
    → length row ≡ 2 + length cols
row_long key cols c row unkeyed present typed all =
    let most = typed_long key 0 (cols ++ c ∷ []) (drop 1 row) typed in
    let least = there row (length cols + 1)
    (last_present key 0 (length cols) cols c row (omega arith) all unkeyed present) in
    let more = length-append cols (c ∷ []) in
    exact row (length cols + 1) (omega (arith, most, more)) least ∙ omega arith

-- the rows of a table of the office, by the columns before its last
pub rows_long : (table : Table) (cols : List Column) (c : Column) → table.columns ≡ cols ++ c ∷ []
    → is_key table.key (length cols) ≡ false → c.not_null ≡ true
    → (schema : Schema) (trees : Trees) (stored : List Row)
    → AllByRecursion (λ r. passes Datatype schema trees table r ≡ true) stored
    → AllByRecursion (λ r. passes NotNull schema trees table r ≡ true) stored
    → AllByRecursion (λ r. length r ≡ 2 + length cols) stored
rows_long table cols c is unkeyed present schema trees stored typed all =
    all_both _ _ _ (λ r t p. row_long table.key cols c r unkeyed present
    (subst (λ l. are_typed table.key 0 l (drop 1 r) ≡ true) is (and_parts _ _ t).0)
    (subst (λ l. are_present table.key 0 l r ≡ true) is p)) stored typed all

pub all_first : (P : Table → Type 0) (xs ys : List Table) → AllByRecursion P (xs ++ ys)
    → AllByRecursion P xs
all_first P [] ys all = tt
all_first P (x ∷ xs) ys all = (all.0, all_first P xs ys all.1)

-- the rows of the ten tables of version 1, which both versions have, obey a rule
abbrev pub KeepsTen : Constraint → Version → Trees → Type 0
KeepsTen rule version trees =
    AllByRecursion (λ t. AllByRecursion (λ r. passes rule (schema_of version) trees t r ≡ true)
    (trees t.tree)) schema_before.tables

pub ten_keep : (rule : Constraint) (version : Version) (trees : Trees)
    → Keeps rule (schema_of version) trees → KeepsTen rule version trees
ten_keep rule One trees all = all
ten_keep rule Two trees all =
    all_first (λ t. AllByRecursion (λ r. passes rule office_schema trees t r ≡ true) (trees t.tree))
    schema_before.tables (night_draft_table ∷ night_share_table ∷ []) all

pub rows_keep : (rule : Constraint) (version : Version) (db : Database)
    → db.schema ≡ schema_of version → IsDatabase db → Keeps rule (schema_of version) db.trees
rows_keep rule version db is sound =
    subst (λ (s : Schema). Keeps rule s db.trees) is (sound.obeys.rules rule)
