-- The meaning of each statement on the table meta, and its effect.
use Rattle.std.proofs.Common.{◌≡◌, ℕ, pos, List, [], ◌∷◌, map, codes, true, Ok, refl, ◌∙◌}
use Rattle.sqlite_trees.specs.Tree.{put_row}
use Rattle.sqlite_value.specs.declared.value.Value.TheVariants.{Null, Int, Blob}
use Rattle.sqlite_value.specs.Order.{Row}
use Rattle.sqlite.specs.Command.TheVariants.{Insert}
use Rattle.sqlite.specs.Effect.{Database}
use Rattle.sqlite.specs.Edit.{are_fresh}
use Rattle.sqlite.specs.Listing.{understood}
use Rattle.sqlite.specs.Source.TheVariants.{Values}
use Rattle.sqlite.specs.State.{State, Executes}
use Rattle.sqlite.specs.Term.{Term, lit, col}
use Rattle.sqlite.proofs.Callers.{IsPlain, command_of}
use Rattle.sqlite_tied.specs.Compute.{everything}
use Rattle.office_tables.specs.Tables.{office_schema, Tables, empty_tables, all_columns}
use Rattle.office_tables.specs.Tables.Metadata.{meta_table, Meta, flag, meta_columns}
use Rattle.office_tables.specs.declared.version.Version.TheVariants.{Two}
use Rattle.office_tables.specs.Schema.{IsBlank}
use Rattle.office_tables.specs.Alterations.{IsWritten}
use Rattle.office_tables.specs.TablesHeld.{HoldsTables}
use Rattle.office_tables.specs.Stored.{keyed_columns}
use Rattle.office_tables.proofs.Casts.{cast_int, cast_null}
use Rattle.office_tables.proofs.Frames.{all_shown, held_at, none_shown, shown_next, tables_held}
use Rattle.office_tables.proofs.DeleteLemmas.{IsDelete}
use Rattle.office_tables.proofs.Rows.{meta_is}
use Rattle.office_tables.proofs.Statements.{inserts, sound_after}
use Rattle.office_tables.proofs.TableLemmas.{holds_more}

-- ---- INSERT

abbrev pub insert_text : List ℕ
insert_text = codes "INSERT INTO meta (id, version, published, instance) VALUES (0, 2, ?1, ?2)"

abbrev insert_terms : List Term
insert_terms = lit (Int (pos 0)) ∷ lit Null ∷ lit (Int (pos 2)) ∷ col 0 0 ∷ col 0 1 ∷ []

insert_is : command_of (understood office_schema insert_text) ≡ Insert 0 (Values insert_terms 5)
unfolding understood everything
insert_is = refl

insert_plain : IsPlain (understood office_schema insert_text)
unfolding understood everything
insert_plain = (refl, refl)

pub added : (old new : State) (row : Meta) (count : ℕ) (t : Tables) → HoldsTables old.now t
    → Executes insert_text (Int (pos (flag row.published)) ∷ Blob row.instance ∷ [])
    old new (Ok count)
    → IsWritten (record t { meta = row ∷ t.meta }) old.now new.now
added old new row count t represents h =
    let done = inserts insert_text _ old new count office_schema represents.schema insert_plain
    0 meta_table refl insert_terms 5 insert_is (λ taken news. refl) h in
    let is = done.1 in
    let stored = old.now.trees 0 in
    let new_row : Row =
    Int (pos 0) ∷ Null ∷ Int (pos 2) ∷ Int (pos (flag row.published))
    ∷ Blob row.instance ∷ [] in
    let rows : new.now.trees 0 ≡ put_row new_row stored =
    is.rows ∙ rw (cast_int 0, cast_int 2, cast_null, cast_int (flag row.published)) refl in
    let fresh : are_fresh stored (new_row ∷ []) ≡ true = rw (cast_int 0) at is.fresh in (
      tables_held new.now (record t { meta = row ∷ t.meta })
          (shown_next meta_is (all_columns t) (map (meta_columns Two) (row ∷ t.meta)) old.now new.now
          (all_shown old.now t represents) (record {
            schema = done.0;
            others = is.tables;
            holds = rw rows (holds_more keyed_columns (map (meta_columns Two) t.meta) stored new_row
                (meta_columns Two row) refl refl fresh (held_at 0 represents));
          })),
      λ _. sound_after office_schema insert_text _ old new count insert_plain _ insert_is tt
          represents.schema h,
    )

-- ---- DELETE

pub delete_means : IsDelete 0 meta_table 0 (codes "DELETE FROM meta")
unfolding understood everything
delete_means = record { is = refl; plain = (refl, refl) }

-- tables without rows hold none
pub blank_represents : (db : Database) → IsBlank office_schema db
    → HoldsTables db (record empty_tables { meta = [] })
blank_represents db blank =
    tables_held db (record empty_tables { meta = [] }) (none_shown db blank.schema_is blank.rows)
