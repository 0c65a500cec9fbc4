use Rattle.std.specs.Prelude.{not}
use Rattle.std.proofs.Common.{◌≡◌, ◌∙◌, ◌&&◌, cond, length, Bool, true, false, sym, ap}
use Rattle.exam_terms.specs.declared.place.Place.{Place}
use Rattle.exam_places.specs.Firsts.{is_found}
use Rattle.exam_places.specs.PlaceTable.{place_entry}
use Rattle.exam_places.specs.Shares.{mixed_share}
use Rattle.exam_places.specs.declared.place_table.PlaceEntry.{PlaceEntry}
use Rattle.exam_places.specs.declared.unplaced_exam.UnplacedExam.{UnplacedExam}
use Rattle.exam_places.proofs.MixedEntries.{mixed_by_entry}
use Rattle.exam_places.proofs.shares.mixed_share.Goals as goal

-- the share, if the durations are mixed or not
share_is : (u : UnplacedExam) (at : Place) (entry : PlaceEntry) (b : Bool)
    → entry ≡ place_entry u (length u.instance.now.exams) at
    → (is_found entry.first && not (is_found entry.as_long)) ≡ b
    → cond b u.instance.now.weights.mixed 0
    ≡ mixed_share u.instance.now u.timetable.now u.exam at
share_is u at entry b here mixed =
    ap (λ c. cond c u.instance.now.weights.mixed 0)
    (sym mixed ∙ ap (λ (x : PlaceEntry). is_found x.first && not (is_found x.as_long)) here)
    ∙ mixed_by_entry u at

pub returns-then-are_mixed-clause-share : goal.returns-then-are_mixed-clause-share
returns-then-are_mixed-clause-share c =
    c.from.ensures
    ∙ ap (λ w. w.mixed) c.weights.ensures.weights
    ∙ share_is c.args.unplaced.now c.args.at.now c.args.entry.now true c.requires.entry
    (sym c.are_mixed.ensures ∙ c.if-are_mixed.true)

pub returns-else-are_mixed-clause-share : goal.returns-else-are_mixed-clause-share
returns-else-are_mixed-clause-share c =
    share_is c.args.unplaced.now c.args.at.now c.args.entry.now false c.requires.entry
    (sym c.are_mixed.ensures ∙ c.if-are_mixed.false)
