use Rattle.std.proofs.Common.{◌∙◌, sym, ap₂}
use Rattle.exam_places.specs.Breaches.{exclusive_breach}
use Rattle.exam_places.specs.declared.place_table.PlaceEntry.{PlaceEntry}
use Rattle.exam_places.proofs.RuleFirsts.{exclusive_is}
use Rattle.exam_places.proofs.breaches.exclusive_breach.Goals as goal

pub returns : goal.returns
returns c =
    let u = c.args.unplaced.now in
    let is = c.requires.unplaced in
    c.exclusive_of.ensures
    ∙ ap₂ (λ keeps (x : PlaceEntry). exclusive_breach u.exam keeps x.first x.keeper)
    c.requires.keeps c.requires.entry
    ∙ sym (exclusive_is u.instance.now u.enrolments.now u.timetable.now u.exam c.args.at.now
    is.unplaced is.fits.timetable is.exists)
