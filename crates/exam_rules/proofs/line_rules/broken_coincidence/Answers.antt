use Rattle.std.proofs.Common.{ℕ, ◌<◌, Bool, ◌&&◌, ◌==◌, not, ◌∙◌, ap, arith}
use Rattle.std.proofs.lemmas.Bool.Decides.{nat_tests}
use Rattle.exam_rules.specs.Places.{in_two_periods, share_student}
use Rattle.exam_rules.proofs.FindingLemmas.{smaller_first}
use Rattle.exam_rules.proofs.line_rules.broken_coincidence.Goals as goal

pub returns-in-Coincidence : goal.returns-in-Coincidence
returns-in-Coincidence c e f =
    let a : ℕ = c.in-Coincidence.a in
    let b : ℕ = c.in-Coincidence.b in
    let apart : ℕ → ℕ → Bool =
    λ e f. not (share_student c.args.enrolments.now e f)
    && in_two_periods c.args.timetable.now e f in
    let less : a < b = grind (arith, nat_tests) in
    rw c.in-Coincidence.is
    (c.pair_if.ensures e f
    ∙ ap (λ x. ((a == e) && (b == f)) && x) c.are_strangers_apart.ensures
    ∙ smaller_first a b apart e f less)
