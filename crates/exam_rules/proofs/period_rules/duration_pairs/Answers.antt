use Rattle.std.proofs.Common.{ℕ, Bool, ◌∙◌, arith}
use Rattle.exam_rules.specs.declared.breach.BreachRule.TheVariants.{Duration}
use Rattle.exam_rules.specs.HardRules.{breaks, is_too_long}
use Rattle.exam_rules.proofs.FindingLemmas.{below_none, below_more, below_all, twice}
use Rattle.exam_rules.proofs.PlaceLemmas.{breaking_exist}
use Rattle.exam_rules.proofs.period_rules.duration_pairs.Goals as goal

pub exams-init : goal.exams-init
exams-init c = rw c.new-found.ensures.items below_none

pub exams-preserved : goal.exams-preserved
exams-preserved c =
    let k : ℕ = c.exams.exam in
    let test : ℕ → Bool = is_too_long c.args.instance.now c.args.timetable.now in
    below_more c.exams.invariant c.in_ok-push_some.ensures
    (λ e f. rw (c.is_too_long-too_long.ensures, c.new-exam.ensures) at (c.pair_if.ensures e f)
    ∙ twice k test e f)

pub returns : goal.returns
returns c E =
    c.in_order.ensures (breaks c.args.instance.now E c.args.timetable.now Duration) _
    (below_all c.exams.invariant (omega arith)
    (breaking_exist c.args.instance.now E c.args.timetable.now Duration _ c.requires.fits.exams))
