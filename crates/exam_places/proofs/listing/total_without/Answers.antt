use Rattle.std.proofs.Common.{◌≡◌, ◌∙◌, refl, sym, ap, arith}
use Rattle.exam_rules.proofs.PlaceLemmas.{its_place_exists}
use Rattle.exam_score.specs.Penalty.{total_of}
use Rattle.exam_places.specs.Answers.{place}
use Rattle.exam_places.specs.Unplaced.{share_of}
use Rattle.exam_places.proofs.AnswerLemmas.{total_missing, total_placed}
use Rattle.exam_places.proofs.listing.total_without.Goals as goal

pub returns-in_default-clause-total : goal.returns-in_default-clause-total
returns-in_default-clause-total c = λ scored.
    c.total.ensures.total ∙ ap total_of scored
    ∙ total_missing c.args.unplaced.now c.args.timetable.now c.requires.without
    (sym c.get.ensures ∙ c.in_default.is)

pub returns-clause-total : goal.returns-clause-total
returns-clause-total c = λ scored.
    (let u = c.args.unplaced.now in
    let at = c.in-Some.at in
    let placed = sym c.get.ensures ∙ c.in-Some.is in
    let exists = its_place_exists u.instance.now _ _ _ c.requires.without.fits.places placed in
    let all = total_placed u c.args.timetable.now at c.lemma_limits.ensures c.requires.unplaced
    c.requires.without placed exists.0 exists.1 in
    let share : share_of u (place at.period 0) ≡ share_of u at = refl in
    let total = c.total-2.ensures.total ∙ ap total_of scored in
    omega (
      arith,
      c.saturating_sub.ensures,
      total,
      all,
      share,
      c.period_share.ensures.share,
      c.place_share.ensures.share,
    ))
