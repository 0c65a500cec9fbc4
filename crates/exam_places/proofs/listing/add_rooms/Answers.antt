use Rattle.std.proofs.Common.{◌≡◌, ◌++◌, [], ◌∷◌, ◌∙◌, ℕ, ap, ap₂, arith, length, map}
use Rattle.std.specs.List.{range_with_len}
use Rattle.exam_lists.proofs.Ranges.{range_map_more}
use Rattle.exam_places.specs.declared.place_row.PlaceRow.{PlaceRow}
use Rattle.exam_places.specs.Answers.{place}
use Rattle.exam_places.specs.Places.{PlaceAnswer}
use Rattle.exam_places.specs.Unplaced.{answer_by, row_by}
use Rattle.exam_places.proofs.listing.add_rooms.Goals as goal

pub loop-room-preserved : goal.loop-room-preserved
loop-room-preserved c =
    let u = c.args.unplaced.now in
    let p = c.args.period in
    let total = c.args.facts.now.total in
    let with_answer : ℕ → PlaceAnswer → PlaceRow =
    λ r answer. record { period = p; room = r; answer = answer } in
    c.in_ok-push_row.ensures
    ∙ ap₂ (λ xs x. xs ++ x ∷ []) c.loop-room.invariant
    (ap₂ with_answer c.new-room.ensures
    (c.answer_in-answer.ensures ∙ ap (λ r. answer_by u total (place p r)) c.new-room.ensures))
    ∙ range_map_more (row_by u total p) c.args.rows.now.items c.loop-room.room

pub returns : goal.returns
returns c =
    let row = row_by c.args.unplaced.now c.args.facts.now.total c.args.period in
    let all : c.loop-room.room ≡ length c.args.unplaced.now.instance.now.rooms = omega arith in
    c.loop-room.invariant
    ∙ ap (λ n. c.args.rows.now.items ++ map row (range_with_len 0 n)) all
