use Rattle.std.proofs.Common.{◌∙◌, None, sym, ap, rules, slice_set}
use Rattle.exam_model.specs.Timetable.{Placing}
use Rattle.exam_places.proofs.AnswerLemmas.{set_twice}
use Rattle.exam_places.proofs.listing.places_if_scored.Goals as goal

pub all_rows-requires-clause-unplaced : goal.all_rows-requires-clause-unplaced
all_rows-requires-clause-unplaced c = record {
  fits = search rules;
  exists = c.requires.exists;
  unplaced = ap (λ (W : Placing). slice_set W c.args.exam None) c.in_ok-without.ensures
      ∙ set_twice c.args.timetable.now c.args.exam None None ∙ sym c.in_ok-without.ensures;
}

pub all_rows-requires-clause-without : goal.all_rows-requires-clause-without
all_rows-requires-clause-without c = record {
  cleared = c.in_ok-without.ensures;
  fits = c.requires.fits;
}
