use Rattle.std.proofs.Common.{ℕ, Bool, ◌&&◌, refl}
use Rattle.std.proofs.lemmas.Bool.{and_parts}
use Rattle.exam_rules.specs.Breaches.{name_one}
use Rattle.exam_rules.specs.HardRules.{breaks}
use Rattle.exam_rules.proofs.FindingLemmas.{found_none, found_more, found_all}
use Rattle.exam_rules.proofs.PlaceLemmas.{breaking_exist}
use Rattle.exam_rules.proofs.first_breach.broken_pairs.Goals as goal

pub exams-init : goal.exams-init
exams-init c = rw c.new-found.ensures.items found_none

pub exams-preserved : goal.exams-preserved
exams-preserved c =
    found_more c.exams.invariant c.exams-test.true c.exam-item.is c.in_ok-push_broken.ensures
    (λ e f. refl)

pub returns : goal.returns
returns c =
    let I = c.args.site.now.instance.now in
    let E = c.args.site.now.enrolments.now in
    let T = c.args.site.now.timetable.now in
    let broken : ℕ → ℕ → Bool = breaks I E T c.args.rule in
    c.in_order.ensures (λ e f. name_one c.args.edited.now e f && broken e f) _
    (record {
      members = found_all c.exams.invariant c.exams-test.false;
      exist = λ e f h. breaking_exist I E T c.args.rule _ c.requires.fits.timetable e f
          (and_parts (name_one c.args.edited.now e f) (broken e f) h).1;
    })
