-- The effect of an accepted batch on the rows of an office.
use Rattle.std.specs.Prelude.{◌&&◌, ◌==◌, List, ◌∷◌, refl}
use Rattle.exam_model.specs.declared.change.Change.{Change}
use Rattle.office_tables.specs.Tables.{Tables}
use Rattle.office_tables.specs.Tables.Batches.{Batch}
use Rattle.office_tables.specs.declared.tables.draft.DraftRow.{DraftRow}
use Rattle.office_tables.specs.declared.tables.enrol.EnrolRow.{EnrolRow}
use Rattle.office_enrolment.specs.Rows.{RowKind, after_rows}
use Rattle.office_records.specs.TableRows.{enrol_row}

-- the rows of pairs in the table of enrolments
abbrev pub enrol_rows : RowKind EnrolRow
enrol_rows = record {
  row = enrol_row;
  is_of = λ s e row. (row.student == s) && (row.exam == e);
  agrees = λ s e p. refl;
}

-- the tables after these lines, with these rows of drafts and one more batch
abbrev pub batch_put : List Change → List DraftRow → Batch → Tables → Tables
batch_put lines drafts batch t = record t {
  enrol = after_rows enrol_rows lines t.enrol;
  draft = drafts;
  batch = batch ∷ t.batch;
}
