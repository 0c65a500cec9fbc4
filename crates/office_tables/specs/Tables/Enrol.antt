-- The table enrol: its schema, the columns of a row, which rows fit, and their order.
use Rattle.std.specs.Prelude.{◌<◌, pos, List, [], ◌∷◌, codes}
use Rattle.sqlite_value.specs.declared.value.Value.TheVariants.{Int}
use Rattle.sqlite_value.specs.Order.{Row}
use Rattle.sqlite_schema.specs.declared.schema.Table.{Table}
use Rattle.sqlite_trees.specs.Tree.{IsAscending}
use Rattle.office_schema.specs.Schema.{int, paired_table}
use Rattle.office_tables.specs.declared.tables.enrol.EnrolRow.{EnrolRow}
use Rattle.office_tables.specs.declared.table.Insert.{Insert}
use Rattle.office_tables.specs.Records.{IsNarrow}

-- the exams that each student is enrolled in
abbrev pub enrol_table : Table
enrol_table = paired_table (codes "enrol") 2
    (int (codes "student") ∷ int (codes "exam") ∷ [])

-- an enrolment's columns
abbrev pub enrol_columns : EnrolRow → Row
enrol_columns r = Int (pos r.student) ∷ Int (pos r.exam) ∷ []

-- an enrolment's numbers have 32 bits
abbrev pub FitsEnrol : EnrolRow → Type 0
FitsEnrol r = IsNarrow r.student × IsNarrow r.exam

-- one student's rows, by exam, strictly ascending
abbrev pub StudentEnrolsRise : List EnrolRow → Type 0
StudentEnrolsRise = IsAscending (λ (a b : EnrolRow). a.exam < b.exam)

-- adds an enrolment
abbrev pub InsertEnrol : Type 0
InsertEnrol = Insert EnrolRow 2 32
