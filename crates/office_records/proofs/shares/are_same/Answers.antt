use Rattle.std.proofs.Common.{sym, ◌∙◌}
use Rattle.std.proofs.lemmas.Bool.{false≢true}
use Rattle.std.proofs.lemmas.Slice.Eq.{slice_eq-Decides}
use Rattle.office_records.proofs.SameRowLemmas.{part_decides, student_decides}
use Rattle.office_records.proofs.shares.are_same.Goals as goal

pub returns-then-eq : goal.returns-then-eq
returns-then-eq c =
    let students = slice_eq-Decides student_decides c.args.students.now c.args.own_students.now
    c.eq.result c.eq.ensures in
    let parts = slice_eq-Decides part_decides c.args.parts.now c.args.own_parts.now
    c.eq-then-eq.result c.eq-then-eq.ensures in
    (λ equal. (students.0 c.if-eq.true, parts.0 equal), λ are. parts.1 are.1)

pub returns-else-eq : goal.returns-else-eq
returns-else-eq c =
    let students = slice_eq-Decides student_decides c.args.students.now c.args.own_students.now
    c.eq.result c.eq.ensures in
    (λ equal. absurd (false≢true (sym c.if-eq.false ∙ equal)), λ are. students.1 are.0)
