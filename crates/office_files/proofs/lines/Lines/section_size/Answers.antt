use Rattle.std.proofs.Common.{◌≡◌, ◌≤◌, length, false, ◌∙◌, ap, arith}
use Rattle.std.proofs.lemmas.Bool.{ne_eqb}
use Rattle.office_files.specs.Lines.{is_header, section_size}
use Rattle.office_files.specs.Tokens.{token_of}
use Rattle.office_files.proofs.LineLemmas.{rows-le, size_line, header_first}
use Rattle.office_files.proofs.lines.Lines.section_size.Goals as goal

pub overflow_add-lines : goal.overflow_add-lines
overflow_add-lines c =
    let len = ap length c.in-Some.ensures.row in
    let whole : length c.args.self.now ≤ length c.self.inside.left.now =
    rw (← c.self.view_is) (rows-le _ _ _) in
    omega (arith, c.self.invariant.lines)

pub loop-row-preserved : goal.loop-row-preserved
loop-row-preserved c =
    let row = token_of c.in-Some.row in
    let first = header_first c.in-Some.row.text.now c.in-Some.ensures.inside.0 in
    let other : is_header row.text ≡ false = first ∙ ne_eqb _ 91 c.if-row-eq91.false in
    let size = ap section_size c.in-Some.ensures.row ∙ size_line row c.next.new.self other in
    let len = ap length c.in-Some.ensures.row in
    record { size = omega arith; within = omega arith }
