use Rattle.std.proofs.Common.{◌≡◌, ◌+◌, ◌*◌, ◌<◌, ◌++◌, ◌∷◌, [], ℕ, None, Some, length, take, get_or, map, count_by, refl, ap, ap₂, sym, subst, ◌∙◌, arith}
use Rattle.std.specs.List.{range_with_len}
use Rattle.std.specs.Prelude.{slice_get, slice_set, slice_index}
use Rattle.std.proofs.lemmas.List.{get_or_read, take_more, take_all}
use Rattle.std.proofs.lemmas.Option.{get_or_from_slice_get}
use Rattle.exam_model.specs.Fits.{PlaceExists}
use Rattle.exam_model.specs.Limits.{IsAmount}
use Rattle.exam_model.specs.Timetable.{place_of}
use Rattle.exam_model.specs.declared.parts.Room.{Room}
use Rattle.exam_score.specs.Track.{room_penalty}
use Rattle.exam_publish.specs.Shares.{is_in_room}
use Rattle.exam_publish.specs.Tallies.{AreTallied}
use Rattle.exam_publish.proofs.TallyLemmas.{tally_more, tallied_list}
use Rattle.exam_publish.proofs.place_shares.room_penalties.Goals as goal

pub exams-preserved : goal.exams-preserved
exams-preserved c =
    let I = c.args.instance.now in
    let T = c.args.timetable.now in
    let e = c.exams.exam in
    let at = c.in-Some.place in
    let x : Room = c.room.result in
    let shares = c.exams.shares.items in
    let n = length I.rooms in
    let new = c.index.result.now + c.from.result in
    let amount : ℕ → ℕ = λ p. room_penalty (slice_get I.rooms p) in
    let within : e < length T =
    omega (arith, c.exams-test.true, c.exams-exam-end.ensures.count, c.requires.exams) in
    let here : place_of T e ≡ Some at =
    ap (place_of T) (sym c.new.ensures) ∙ sym c.get.ensures ∙ c.in-Some.is in
    let place = subst (PlaceExists I) here (c.requires.places e None within) in
    let key = c.get-room.ensures in
    let lt : c.get-room.result < length shares =
    omega (arith, key, place.1, c.exams.invariant.count) in
    let old : c.index.result.now ≡ slice_index shares at.room =
    get_or_read shares c.get-room.result c.index.result.now lt c.index.ensures 0
    ∙ ap (λ k. get_or shares k 0) key in
    let costs : amount at.room ≡ x.penalty = ap room_penalty c.room.ensures in
    let limit = (c.rooms.ensures.kept.limits.rooms at.room x place.1).1 in
    let small : IsAmount x.penalty =
    subst (λ (p : Room). IsAmount p.penalty)
    (get_or_from_slice_get I.rooms at.room x x c.room.ensures) limit in
    let more = tally_more amount is_in_room n (take e T) shares
    (Some at) at.room new c.exams.invariant place.1 (λ k. refl) (omega (arith, costs, small))
    (ap₂ (λ a b. a + b) old (c.from.ensures ∙ sym costs)) in
    subst (λ xs. AreTallied amount is_in_room n xs (slice_set shares c.get-room.result new))
    (sym (take_more T e None within ∙ ap (λ o. take e T ++ o ∷ []) here))
    (subst (λ k. AreTallied amount is_in_room n (take e T ++ Some at ∷ []) (slice_set shares k new))
    (sym key) more)

pub returns : goal.returns
returns c =
    let I = c.args.instance.now in
    let T = c.args.timetable.now in
    let amount : ℕ → ℕ = λ p. room_penalty (slice_get I.rooms p) in
    tallied_list amount is_in_room (length I.rooms)
    (take c.exams.exam T) c.exams.shares.items c.exams.invariant
    ∙ ap (λ xs. map (λ k. amount k * count_by (is_in_room k) xs)
    (range_with_len 0 (length I.rooms)))
    (take_all c.exams.exam T
    (omega (arith, c.exams-test.false, c.exams-exam-end.ensures.count, c.requires.exams)))
