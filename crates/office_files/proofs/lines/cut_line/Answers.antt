use Rattle.std.proofs.Common.{◌<◌, length, arith}
use Rattle.std.proofs.lemmas.Bool.{eqb-true, eq-eqb}
use Rattle.std.proofs.lemmas.List.{take_rest}
use Rattle.office_files.proofs.FieldLemmas.{parts_at}
use Rattle.office_files.proofs.lines.cut_line.Goals as goal

pub returns-in-Some-clause-parts : goal.returns-in-Some-clause-parts
returns-in-Some-clause-parts c =
    let text = c.args.text.now in
    let end = c.in-Some.end in
    let found = c.in-Some.ensures in
    let inside : end < length text = omega (arith, found.0.high) in
    rw take_rest
    (parts_at 10 text end inside (eqb-true _ _ found.1)
    (λ k lt is. found.0.before k (omega arith) lt (eq-eqb _ _ is)))
