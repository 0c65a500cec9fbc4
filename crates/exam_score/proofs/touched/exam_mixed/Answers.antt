use Rattle.std.proofs.Common.{◌≡◌, ◌∙◌, ◌+◌, None, true, false, add-zero, ap, ap₂, sym}
use Rattle.exam_model.specs.Timetable.{place_of}
use Rattle.exam_score.specs.Touched.{further_mixed, is_touched, mixed_cost_if}
use Rattle.exam_score.proofs.FurtherLemmas.{earlier_place, later_place}
use Rattle.exam_score.proofs.touched.exam_mixed.Goals as goal

pub returns-in_default-clause-further : goal.returns-in_default-clause-further
returns-in_default-clause-further c =
    let I = c.args.instance.now in
    let T = c.args.timetable.now in
    let others = c.args.others.now in
    let touched = is_touched others.edited.now others.earlier.now others.later.now in
    let none : place_of others.later.now c.args.exam ≡ None =
    sym c.place_in.ensures ∙ c.in_default.is in
    ap (λ n. mixed_cost_if I T touched + n)
    (c.place_mixed-first.ensures.further
    ∙ ap (further_mixed I T touched) c.place_in-earlier.ensures)
    ∙ earlier_place I T c.args.exam others.edited.now others.earlier.now others.later.now none

pub returns-then-is_in_place-clause-further : goal.returns-then-is_in_place-clause-further
returns-then-is_in_place-clause-further c =
    let I = c.args.instance.now in
    let T = c.args.timetable.now in
    let others = c.args.others.now in
    let touched = is_touched others.edited.now others.earlier.now others.later.now in
    ap (λ n. mixed_cost_if I T touched + n)
    (c.place_mixed-first.ensures.further ∙ ap (further_mixed I T touched) c.place_in-earlier.ensures
    ∙ sym (add-zero _))
    ∙ later_place I T c.args.exam others.edited.now others.earlier.now others.later.now
    c.in-Some.later true (sym c.in-Some.ensures)
    (sym c.if-is_in_place.true ∙ c.is_in_place.ensures)

pub returns-clause-further : goal.returns-clause-further
returns-clause-further c =
    let I = c.args.instance.now in
    let T = c.args.timetable.now in
    let others = c.args.others.now in
    let touched = is_touched others.edited.now others.earlier.now others.later.now in
    ap₂ (λ m n. mixed_cost_if I T touched + (m + n))
    (c.place_mixed-first.ensures.further
    ∙ ap (further_mixed I T touched) c.place_in-earlier.ensures)
    c.place_mixed.ensures.further
    ∙ later_place I T c.args.exam others.edited.now others.earlier.now others.later.now
    c.in-Some.later false (sym c.in-Some.ensures)
    (sym c.if-is_in_place.false ∙ c.is_in_place.ensures)
