use Rattle.std.specs.Prelude.{option_map, slice_get}
use Rattle.std.specs.Option.{option_or}
use Rattle.std.proofs.Common.{◌≡◌, ◌∙◌, ℕ, cond, length, Bool, true, false, Some, None, sym, ap}
use Rattle.exam_rules.specs.HardRules.{is_longer}
use Rattle.exam_rules.specs.declared.breach.BreachRule.TheVariants.{Duration}
use Rattle.exam_places.specs.Answers.{place}
use Rattle.exam_places.specs.Breaches.{clash_with, own_breach}
use Rattle.exam_places.specs.Firsts.{first_below}
use Rattle.exam_places.specs.Groups.{early_rules}
use Rattle.exam_places.specs.PeriodTable.{clashes_in}
use Rattle.exam_places.specs.Unplaced.{IsUnplaced, first_breach}
use Rattle.exam_places.specs.declared.period_table.PeriodEntry.{PeriodEntry}
use Rattle.exam_places.specs.declared.unplaced_exam.UnplacedExam.{UnplacedExam}
use Rattle.exam_places.proofs.RuleFirsts.{early_is}
use Rattle.exam_places.proofs.breaches.early_breach.Goals as goal

-- the first breach, if the exam is too long or not
first_is : (u : UnplacedExam) (p : ℕ) (b : Bool) → IsUnplaced u
    → is_longer (slice_get u.instance.now.exams u.exam) (slice_get u.instance.now.periods p) ≡ b
    → first_breach u (place p 0) early_rules
    ≡ option_or (cond b (Some (own_breach Duration u.exam)) None)
    (option_map (clash_with u.exam) (first_below (length u.instance.now.exams) (clashes_in u p)))
first_is u p b is long =
    early_is u.instance.now u.enrolments.now u.timetable.now u.exam (place p 0) is.unplaced
    is.fits.timetable is.exists
    ∙ ap (λ c. option_or (cond c (Some (own_breach Duration u.exam)) None)
    (option_map (clash_with u.exam) (first_below (length u.instance.now.exams) (clashes_in u p))))
    long

pub returns-then-is_too_long : goal.returns-then-is_too_long
returns-then-is_too_long c =
    ap Some c.own_breach.ensures
    ∙ sym (first_is c.args.unplaced.now c.args.period true c.requires.unplaced
    (sym c.is_too_long.ensures ∙ c.if-is_too_long.true))

pub returns : goal.returns
returns c =
    c.first_clash.ensures
    ∙ ap (λ (entry : PeriodEntry). option_map (clash_with c.args.unplaced.now.exam) entry.first)
    c.requires.entry
    ∙ sym (first_is c.args.unplaced.now c.args.period false c.requires.unplaced
    (sym c.is_too_long.ensures ∙ c.if-is_too_long.false))
