-- The effect of a statement of a known form, for any table.
use Rattle.std.proofs.Common.{◌≡◌, ◌/◌, ℕ, List, [], ◌∷◌, ◌++◌, length, slice_get, false, Some, None, Ok, sym, ap, subst, ◌∙◌, append-nil}
use Rattle.sqlite_trees.specs.Tree.{Trees}
use Rattle.sqlite_schema.specs.declared.schema.Table.{Table}
use Rattle.sqlite_schema.specs.declared.schema.Schema.{Schema}
use Rattle.sqlite_schema.specs.declared.schema.Keys.TheVariants.{Enforced}
use Rattle.sqlite_value.specs.Order.{Row}
use Rattle.sqlite_rules.specs.declared.error.Rowids.TheVariants.{Chosen, Given}
use Rattle.sqlite_rules.specs.Edit.{edit_of, taken_by, Applies}
use Rattle.sqlite_rules.specs.Action.{works}
use Rattle.sqlite.specs.Source.{Source}
use Rattle.sqlite.specs.Source.TheVariants as source
use Rattle.sqlite.specs.Source.TheVariants.{Values}
use Rattle.sqlite.specs.Calls.{IsWrite}
use Rattle.sqlite.specs.Command.{Command}
use Rattle.sqlite.specs.Command.TheVariants.{Insert, Delete, Select, CreateTable, Rows, Begin, Commit, Rollback, Savepoint, Release, RollbackTo, Nothing}
use Rattle.sqlite.specs.Term.{Term}
use Rattle.sqlite.specs.Query.{Query, IsAnswer}
use Rattle.sqlite.specs.Program.{overlay}
use Rattle.sqlite_value.specs.declared.value.Value.TheVariants.{Null}
use Rattle.sqlite_rules.specs.Calls.{ids_of}
use Rattle.sqlite.specs.Listing.{understood, reads_listing}
use Rattle.sqlite.specs.Effect.{Database, IsDatabase, IsSource, value_rows}
use Rattle.sqlite.specs.Does.{Tally, Does, lacks_sequence}
use Rattle.sqlite.specs.Change.{created, next_tree, KeepsRows}
use Rattle.sqlite.specs.Compile.{table_defined_by}
use Rattle.std.specs.List.{AllByRecursion}
use Rattle.exam_lists.proofs.Results.{same_Ok, did_not_stop}
pub use Rattle.office_tables.specs.Inserting.{simple_table}
use Rattle.office_tables.specs.Schema.{HasRows}
use Rattle.sqlite.specs.Rows.{Written}
use Rattle.sqlite.specs.State.{State, mode_of, Writes, Executes, Runs, Shown}
use Rattle.sqlite.proofs.Callers.{IsPlain, command_of, statement_of, runs_as, reads_as, one_step}

-- what a write leaves lists its schema and obeys it
writes_sound : (command : Command) (old new : State) (text : List ℕ) (params : Row) (count : ℕ)
    → IsWrite command → Runs old new None command text params count → IsDatabase new.now
writes_sound (Select q names) old new text params count writes ran = absurd writes
writes_sound (Rows values width names) old new text params count writes ran = absurd writes
writes_sound Begin old new text params count writes ran = absurd writes
writes_sound Commit old new text params count writes ran = absurd writes
writes_sound Rollback old new text params count writes ran = absurd writes
writes_sound (Savepoint name) old new text params count writes ran = absurd writes
writes_sound (Release name) old new text params count writes ran = absurd writes
writes_sound (RollbackTo name) old new text params count writes ran = absurd writes
writes_sound Nothing old new text params count writes ran = absurd writes
writes_sound _ old new text params count writes ran = ran.sound

pub sound_after : (schema : Schema) (sql : List ℕ) (params : Row) (old new : State) (count : ℕ)
    → IsPlain (understood schema sql) → (command : Command)
    → command_of (understood schema sql) ≡ command → IsWrite command
    → old.now.schema ≡ schema → Executes sql params old new (Ok count) → IsDatabase new.now
sound_after schema sql params old new count plain command is writes has h =
    writes_sound command old new (statement_of sql (understood schema sql)) params count writes
    (runs_as sql params old new schema has command is plain count h)

module _ (sql : List ℕ) (params : Row) (old new : State) (count : ℕ) (schema : Schema)
    (has : old.now.schema ≡ schema) (plain : IsPlain (understood schema sql))
    (at : ℕ) (base : Table) (found : slice_get schema.tables at ≡ Some (simple_table base)) where
  abbrev table : Table
  table = simple_table base

  inserts_rows : (from : Source) → command_of (understood schema sql) ≡ Insert at from
      → ((taken news : List Row) → works schema Enforced 0 base.tree taken news ≡ [])
      → Executes sql params old new (Ok count)
      → (rows : List Row) × IsSource (record { schema = schema; trees = old.now.trees }) params from rows
      × (new.now.schema ≡ schema)
      × Applies schema Enforced old.now.trees (edit_of old.now.trees table [] Chosen 0 rows) new.now.trees
  inserts_rows from is quiet h =
      let command = Insert at from in
      let text = statement_of sql (understood schema sql) in
      let w : Writes old new None command text params count =
      runs_as sql params old new schema has command is plain count h in
      let all = subst
      (λ s. Does old.step_limit (mode_of old) params
      (record old.now { schema = s }) text None command (Ok (w.tally, new.now)))
      has w.changed in
      let done = did_not_stop (rw found at all) in
      let now = ap (λ (p : Tally × Database). p.1) (same_Ok (did_not_stop (did_not_stop done.2).2).2) in
      let given = did_not_stop done.1 in
      let written = did_not_stop (did_not_stop given.2).2 in
      let counted = did_not_stop written.2 in
      let trees : done.0.trees ≡ written.0 =
      ap (λ (it : Written). it.trees) (same_Ok counted.2) ∙ same_Ok counted.1 in
      let edit = edit_of old.now.trees table [] Chosen 0 given.0 in
      let applied : Applies schema Enforced old.now.trees edit written.0 =
      one_step schema Enforced old.now.trees written.0 edit
      (quiet (taken_by old.now.trees edit) edit.news) written.1 in (
        given.0,
        subst (λ ps. IsSource (record { schema = schema; trees = old.now.trees }) ps from given.0)
            (append-nil params) given.1,
        ap (λ (d : Database). d.schema) now,
        subst (Applies schema Enforced old.now.trees edit)
            (sym trees ∙ sym (ap (λ (d : Database). d.trees) now)) applied,
      )

  pub inserts : (terms : List Term) (width : ℕ)
      → command_of (understood schema sql) ≡ Insert at (Values terms width)
      → ((taken news : List Row) → works schema Enforced 0 base.tree taken news ≡ [])
      → Executes sql params old new (Ok count)
      → (new.now.schema ≡ schema)
      × Applies schema Enforced old.now.trees
      (edit_of old.now.trees (simple_table base) [] Chosen 0
      (value_rows params width (length terms / width) terms)) new.now.trees
  inserts terms width is quiet h =
      let done = inserts_rows (Values terms width) is quiet h in (
        done.2,
        subst (λ xs. Applies schema Enforced old.now.trees
            (edit_of old.now.trees table [] Chosen 0 xs) new.now.trees) done.1.1 done.3,
      )

  -- the same for rows that a query gives
  pub inserts_from : (q : Query) → command_of (understood schema sql)
      ≡ Insert at (source.Query (record { lets = []; body = q }))
      → ((taken news : List Row) → works schema Enforced 0 base.tree taken news ≡ [])
      → Executes sql params old new (Ok count)
      → (rows : List Row) × (new.now.schema ≡ schema)
      × IsAnswer q (overlay old.now.trees []) params rows
      × Applies schema Enforced old.now.trees
      (edit_of old.now.trees (simple_table base) [] Chosen 0 rows) new.now.trees
  inserts_from q is quiet h =
      let done = inserts_rows (source.Query (record { lets = []; body = q })) is quiet h in
      (done.0, done.2, done.1.answer Null, done.3)

  pub deletes : (q : Query) → command_of (understood schema sql)
      ≡ Delete at (record { lets = []; body = q })
      → ((taken news : List Row) → works schema Enforced 0 base.tree taken news ≡ [])
      → Executes sql params old new (Ok count)
      → (rows : List Row) × (new.now.schema ≡ schema)
      × IsAnswer q (overlay old.now.trees []) params rows
      × Applies schema Enforced old.now.trees
      (edit_of old.now.trees (simple_table base) (ids_of rows) Given 0 []) new.now.trees
  deletes q is quiet h =
      let command = Delete at (record { lets = []; body = q }) in
      let text = statement_of sql (understood schema sql) in
      let w : Writes old new None command text params count =
      runs_as sql params old new schema has command is plain count h in
      let all = subst
      (λ s. Does old.step_limit (mode_of old) params
      (record old.now { schema = s }) text None command (Ok (w.tally, new.now)))
      has w.changed in
      let done = did_not_stop (rw found at all) in
      let now = ap (λ (p : Tally × Database). p.1) (same_Ok (did_not_stop (did_not_stop done.2).2).2) in
      let given = did_not_stop done.1 in
      let written = did_not_stop given.2 in
      let trees : done.0.trees ≡ written.0 =
      ap (λ (it : Written). it.trees) (same_Ok written.2) in
      let edit = edit_of old.now.trees table (ids_of given.0) Given 0 [] in
      let applied : Applies schema Enforced old.now.trees edit written.0 =
      one_step schema Enforced old.now.trees written.0 edit
      (quiet (taken_by old.now.trees edit) edit.news) written.1 in
      let answer : IsAnswer q (overlay old.now.trees []) params given.0 = given.1.answer Null in (
        given.0,
        ap (λ (d : Database). d.schema) now,
        answer,
        subst (Applies schema Enforced old.now.trees edit)
            (sym trees ∙ sym (ap (λ (d : Database). d.trees) now)) applied,
      )

-- a query of known meaning returns an answer of that query
pub selects : (sql : List ℕ) (params : Row) (old new : State) (schema : Schema)
    → old.now.schema ≡ schema → IsPlain (understood schema sql)
    → (q : Query) (names : List (List ℕ))
    → command_of (understood schema sql) ≡ Select (record { lets = []; body = q }) names
    → reads_listing schema sql ≡ false
    → (rows : List Row) → Shown sql params old new rows
    → IsAnswer q (overlay old.now.trees []) params rows
selects sql params old new schema has plain q names is unlisted rows shown =
    (reads_as sql params old new schema has
    (Select (record { lets = []; body = q }) names) is plain unlisted rows shown).answer Null

-- ---- CREATE TABLE

rows_kept : (tables : List Table) (trees old new : Trees) → KeepsRows tables old new
    → AllByRecursion (λ t. old t.tree ≡ trees t.tree) tables
    → AllByRecursion (λ t. new t.tree ≡ trees t.tree) tables
rows_kept [] trees old new keeps same = tt
rows_kept (t ∷ tables) trees old new keeps same =
    (keeps.0 ∙ same.0, rows_kept tables trees old new keeps.1 same.1)

all_push : (P : Table → Type 0) (tables : List Table) (t : Table) → AllByRecursion P tables → P t
    → AllByRecursion P (tables ++ t ∷ [])
all_push P [] t all last = (last, tt)
all_push P (x ∷ tables) t all last = (all.0, all_push P tables t all.1 last)

pub creates : (sql : List ℕ) (old new : State) (count : ℕ) (schema : Schema) (table : Table)
    (trees : Trees) → trees (next_tree schema) ≡ []
    → IsPlain (understood schema sql) → command_of (understood schema sql) ≡ CreateTable
    → statement_of sql (understood schema sql) ≡ sql → table_defined_by sql ≡ Ok table
    → lacks_sequence (created schema table) ≡ false
    → Executes sql [] old new (Ok count) → HasRows schema trees old.now
    → HasRows (created schema table) trees new.now
creates sql old new count schema table trees none plain is whole defined uncounted h has =
    let w = subst (λ t. Writes old new None CreateTable t [] count) whole
    (runs_as sql [] old new schema has.schema_is CreateTable is plain count h) in
    let all = did_not_stop w.changed in
    let first = did_not_stop all.1 in
    let made = first.1 in
    let same : made.table ≡ table = same_Ok (sym made.defined ∙ defined) in
    let schema_is : first.0.schema ≡ created schema table =
    made.is ∙ ap (λ s. created s made.table) has.schema_is ∙ ap (created schema) same in
    let fine : lacks_sequence first.0.schema ≡ false = ap lacks_sequence schema_is ∙ uncounted in
    let now : new.now ≡ first.0 =
    ap (λ (p : Tally × Database). p.1) (same_Ok all.2) ∙ same_Ok (rw fine at first.2) in
    let empty : first.0.trees (next_tree schema) ≡ [] =
    subst (λ s. first.0.trees (next_tree s) ≡ []) has.schema_is made.empty in
    let kept = subst (λ s. KeepsRows s.tables old.now.trees first.0.trees)
    has.schema_is made.others in
    let full : AllByRecursion (λ t. first.0.trees t.tree ≡ trees t.tree)
    (created schema table).tables =
    all_push _ schema.tables (record table { tree = next_tree schema })
    (rows_kept schema.tables trees old.now.trees first.0.trees kept has.rows)
    (empty ∙ sym none) in
    record { schema_is = ap (λ (d : Database). d.schema) now ∙ schema_is; rows = subst (λ (d : Database). AllByRecursion (λ t. d.trees t.tree ≡ trees t.tree) (created schema table).tables) (sym now) full }
