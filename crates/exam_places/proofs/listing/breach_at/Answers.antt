use Rattle.std.proofs.Common.{◌≡◌, ◌∙◌, [], ◌∷◌, refl, sym}
use Rattle.exam_terms.specs.declared.place.Place.{Place}
use Rattle.exam_places.specs.declared.unplaced_exam.UnplacedExam.{UnplacedExam}
use Rattle.exam_places.specs.Answers.{place}
use Rattle.exam_places.specs.Groups.{capacity_rules, early_rules, exclusive_rules, in_order, late_rules}
use Rattle.exam_places.specs.Unplaced.{first_breach, least_breach}
use Rattle.exam_places.proofs.BreachSplit.{least_split}
use Rattle.exam_places.proofs.OrderedLemmas.{of_capacity, of_early, of_exclusive, of_late}
use Rattle.exam_places.proofs.listing.breach_at.Goals as goal

-- the least breach by the groups of rules
by_groups : (u : UnplacedExam) (at : Place)
    → least_breach u at
    ≡ in_order (first_breach u (place at.period 0) early_rules) (first_breach u at capacity_rules)
    (first_breach u (place at.period 0) late_rules) (first_breach u at exclusive_rules)
by_groups u at =
    least_split u.instance.now u.enrolments.now u.timetable.now (u.exam ∷ []) u.exam at
    (place at.period 0) refl

pub returns-in-Some : goal.returns-in-Some
returns-in-Some c =
    let u = c.args.unplaced.now in
    let at = c.args.at.now in
    sym (by_groups u at
    ∙ of_early (first_breach u (place at.period 0) early_rules) (first_breach u at capacity_rules)
    (first_breach u (place at.period 0) late_rules) (first_breach u at exclusive_rules)
    c.in-Some.breach (sym c.requires.facts.early ∙ c.in-Some.is))

pub returns-in-Some-capacity_breach : goal.returns-in-Some-capacity_breach
returns-in-Some-capacity_breach c =
    let u = c.args.unplaced.now in
    let at = c.args.at.now in
    sym (by_groups u at
    ∙ of_capacity (first_breach u (place at.period 0) early_rules) (first_breach u at capacity_rules)
    (first_breach u (place at.period 0) late_rules) (first_breach u at exclusive_rules)
    c.in-Some-capacity_breach.breach (sym c.requires.facts.early ∙ c.in_default.is)
    (sym c.in-Some-capacity_breach.ensures))

pub returns-in-Some-late : goal.returns-in-Some-late
returns-in-Some-late c =
    let u = c.args.unplaced.now in
    let at = c.args.at.now in
    sym (by_groups u at
    ∙ of_late (first_breach u (place at.period 0) early_rules) (first_breach u at capacity_rules)
    (first_breach u (place at.period 0) late_rules) (first_breach u at exclusive_rules)
    c.in-Some-late.breach (sym c.requires.facts.early ∙ c.in_default.is)
    (sym c.in_default-capacity_breach.ensures)
    (sym c.requires.facts.late ∙ c.in-Some-late.is))

pub returns : goal.returns
returns c =
    let u = c.args.unplaced.now in
    let at = c.args.at.now in
    c.exclusive_breach.ensures ∙ sym (by_groups u at
    ∙ of_exclusive (first_breach u (place at.period 0) early_rules)
    (first_breach u at capacity_rules)
    (first_breach u (place at.period 0) late_rules) (first_breach u at exclusive_rules)
    (sym c.requires.facts.early ∙ c.in_default.is)
    (sym c.in_default-capacity_breach.ensures)
    (sym c.requires.facts.late ∙ c.in_default-late.is))
