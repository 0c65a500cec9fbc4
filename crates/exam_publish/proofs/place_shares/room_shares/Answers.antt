use Rattle.std.proofs.lemmas.Grind.{common_steps}
use Rattle.std.proofs.Common.{◌≡◌, ◌+◌, ◌-◌, ◌*◌, ◌<◌, ◌++◌, ◌∷◌, [], length, get_or, map, ap, ap₂, sym, ◌∙◌, arith}
use Rattle.std.specs.List.{range_with_len}
use Rattle.std.specs.Prelude.{slice_index}
use Rattle.std.proofs.lemmas.List.FromFn.{length-map-range_with_len, get_or-map-range_with_len, map-range_with_len_more}
use Rattle.exam_model.specs.Sums.{sum_below}
use Rattle.exam_score.specs.MixedDurations.{room_mixed}
use Rattle.exam_publish.specs.declared.share_lists.RoomShare.{RoomShare}
use Rattle.exam_publish.specs.Shares.{penalty_in, room_share}
use Rattle.exam_publish.proofs.DurationLemmas.{mixed_is}
use Rattle.exam_publish.proofs.place_shares.room_shares.Goals as goal

pub overflow_cast-room : goal.overflow_cast-room
overflow_cast-room c =
    grind (arith, common_steps, length-map-range_with_len)

pub mixed_in-requires-clause-room : goal.mixed_in-requires-clause-room
mixed_in-requires-clause-room c =
    grind (arith, common_steps, length-map-range_with_len)

pub rooms-preserved : goal.rooms-preserved
rooms-preserved c =
    let I = c.args.instance.now in
    let T = c.args.timetable.now in
    let k = c.rooms.room in
    let n = length I.rooms in
    let w = I.weights.mixed in
    let ps = c.deref-penalty-items.result.now in
    let kinds = c.in_ok-kinds.kinds.items in
    let listed : ps ≡ map (penalty_in I T) (range_with_len 0 n) =
    c.deref-penalty-items.ensures.value ∙ c.in_ok-penalties.ensures in
    let lt : k < n =
    omega (arith, c.rooms-test.true, ap length listed, length-map-range_with_len (penalty_in I T) 0 n) in
    let penalty : get_or ps k 0 ≡ penalty_in I T k
    = ap (λ xs. get_or xs k 0) listed
    ∙ get_or-map-range_with_len (penalty_in I T) 0 n k k 0 lt (omega arith) in
    let mixed : c.mixed_in.result ≡ room_mixed I T k
    = c.mixed_in.ensures
    ∙ ap₂ (λ ks r. sum_below (length I.periods) (λ p. (slice_index ks (p * n + r) - 1) * w))
    c.deref.ensures.value c.new.ensures
    ∙ mixed_is I T kinds k c.in_ok-kinds.ensures lt in
    let own : ◌≡◌ {A = RoomShare} (record { penalty = get_or ps k 0; mixed = c.mixed_in.result })
    (room_share I T k) =
    λ i. record { penalty = penalty i; mixed = mixed i } in
    c.in_ok-push.ensures.items ∙ ap₂ (λ xs (x : RoomShare). xs ++ x ∷ []) c.rooms.invariant own
    ∙ sym (map-range_with_len_more (room_share I T) 0 k k (omega arith))

pub returns : goal.returns
returns c =
    grind (arith, common_steps, length-map-range_with_len)
