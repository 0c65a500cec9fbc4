use Rattle.std.proofs.Common.{◌≡◌, ℕ, ◌&&◌, ◌==◌, length, get_or, ◌∙◌, ap, ap₂, sym, arith}
use Rattle.std.specs.Prelude.{slice_get}
use Rattle.exam_model.specs.Fits.{slot_of}
use Rattle.exam_rules.specs.declared.breach.BreachRule.TheVariants.{Capacity}
use Rattle.exam_rules.specs.Places.{place_satisfies, load_at, load_below}
use Rattle.exam_rules.specs.HardRules.{breaks, is_too_small, is_overfull}
use Rattle.exam_rules.proofs.FindingLemmas.{below_more, below_all, twice}
use Rattle.exam_rules.proofs.PlaceLemmas.{its_place_exists, breaking_exist}
use Rattle.exam_rules.proofs.room_rules.capacity_pairs.Goals as goal

pub exams-preserved : goal.exams-preserved
exams-preserved c =
    let I = c.args.instance.now in
    let E = c.args.enrolments.now in
    let T = c.args.timetable.now in
    let k : ℕ = c.exams.exam in
    let q = c.in-Some.place in
    let there = sym (rw c.new-exam.ensures at c.get.ensures) ∙ c.in-Some.is in
    let within = its_place_exists I _ _ _ c.requires.places there in
    let load =
    ap (λ xs. get_or xs (slot_of (length I.rooms) q) 0) c.deref.ensures.value
    ∙ c.in_ok-loads.ensures.each q within.0 within.1
    ∙ ap (load_below E T q) (sym c.requires.enrolments)
    in
    let over : c.is_too_small-overfull.result ≡ is_overfull I E T k =
    c.is_too_small-overfull.ensures
    ∙ ap (is_too_small (slice_get I.rooms q.room)) load
    ∙ sym (ap (place_satisfies (λ p. is_too_small (slice_get I.rooms p.room)
    (load_at E T p))) there)
    in
    below_more c.exams.invariant c.in_ok-push_some.ensures
    (λ e f. c.pair_if.ensures e f
    ∙ ap₂ (λ m b. ((m == e) && (m == f)) && b) c.new-exam.ensures over
    ∙ twice k (is_overfull I E T) e f)

pub returns : goal.returns
returns c =
    c.in_order.ensures
    (breaks c.args.instance.now c.args.enrolments.now c.args.timetable.now Capacity) _
    (below_all c.exams.invariant (omega arith)
    (breaking_exist c.args.instance.now c.args.enrolments.now c.args.timetable.now Capacity _
    c.requires.timetable))
