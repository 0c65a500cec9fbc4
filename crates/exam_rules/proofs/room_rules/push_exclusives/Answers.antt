use Rattle.std.proofs.Common.{ℕ, Bool, arith}
use Rattle.exam_rules.specs.declared.breach.BreachRule.TheVariants.{RoomExclusive}
use Rattle.exam_rules.specs.HardRules.{breaks}
use Rattle.exam_rules.proofs.NamingLemmas.{with_more, with_all}
use Rattle.exam_rules.proofs.PlaceLemmas.{breaking_exist}
use Rattle.exam_rules.proofs.room_rules.push_exclusives.Goals as goal

pub others-preserved : goal.others-preserved
others-preserved c =
    let test : ℕ → ℕ → Bool =
    breaks c.args.site.now.instance.now c.args.site.now.enrolments.now
    c.args.site.now.timetable.now RoomExclusive in
    with_more _ c.others.invariant c.in_ok-push_some.ensures c.in_ok-push_some-2.ensures
    (λ e f. rw (c.intrudes-before.ensures, c.new-other.ensures) at (c.pair_if.ensures e f))
    (λ e f. rw (c.intrudes-after.ensures, c.new-other.ensures) at (c.pair_if-in-others.ensures e f))

pub returns : goal.returns
returns c =
    with_all c.others.invariant (omega arith)
    (breaking_exist c.args.site.now.instance.now c.args.site.now.enrolments.now
    c.args.site.now.timetable.now RoomExclusive _ c.requires.fits.timetable)
