-- The meaning of `==` for two rows of shares.
use Rattle.std.proofs.lemmas.Grind.{common_steps}
use Rattle.std.proofs.Common.{◌≡◌, Decides, arith}
use Rattle.office_tables.specs.declared.tables.share_part.PartShareRow.{PartShareRow}
use Rattle.office_tables.specs.declared.tables.share_student.StudentShareRow.{StudentShareRow}
use Rattle.office_tables.specs.contracts.tables.share_student.StudentShareRowPartialEq.TheImpl as student
use Rattle.office_tables.specs.contracts.tables.share_part.PartShareRowPartialEq.TheImpl as part

pub student_decides : (a b : StudentShareRow) → Decides (student.eq-value.it a b) (a ≡ b)
student_decides a b = grind (arith, common_steps)

pub part_decides : (a b : PartShareRow) → Decides (part.eq-value.it a b) (a ≡ b)
part_decides a b = grind (arith, common_steps)
