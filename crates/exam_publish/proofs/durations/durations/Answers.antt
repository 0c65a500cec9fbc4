use Rattle.std.proofs.Common.{◌≡◌, ◌+◌, ◌*◌, ◌<◌, ◌≤◌, ◌++◌, ◌∷◌, [], length, take, eqb, ap, sym, subst, ◌∙◌, arith}
use Rattle.std.specs.List.{dedup}
use Rattle.std.specs.Prelude.{slice_set}
use Rattle.std.proofs.lemmas.List.{get_or_read, take_more, take_all, length-take}
use Rattle.std.proofs.lemmas.List.Filters.{dedup_is}
use Rattle.exam_score.specs.Stays.{StayExists}
use Rattle.exam_publish.specs.Durations.{is_in_slot}
use Rattle.exam_publish.specs.Tallies.{AreTallied}
use Rattle.exam_publish.proofs.DurationLemmas.{AreKinds, are_kinds, stay_eq, are_durations}
use Rattle.exam_publish.proofs.TallyLemmas.{tally_more}
use Rattle.exam_publish.proofs.durations.durations.Goals as goal

pub slot_of-slot-requires-clause-period : goal.slot_of-slot-requires-clause-period
slot_of-slot-requires-clause-period c =
    let I = c.args.instance.now in
    let T = c.args.timetable.now in
    let stays = c.in_ok-stays.stays.items in
    let sorted = c.sort_unstable.new.self.items in
    let ks = c.deref-stay-items.result.now in
    let is : c.dedup.new.self.items ≡ dedup stay_eq sorted =
    dedup_is _ _ _ c.dedup.ensures.filtered in
    let are : AreKinds I T ks =
    are_kinds I T stays sorted ks c.in_ok-stays.ensures c.sort_unstable.ensures.permutation
    c.sort_unstable.ensures.sorted (c.deref-stay-items.ensures.value ∙ is) in
    let i = c.stays.stay-index in
    let x = c.stay-item.result in
    let exists : StayExists I x =
    subst (StayExists I) (sym c.stay-item.is) (are.exist i x c.stays-test.true) in
    exists.period

pub slot_of-slot-requires-clause-room : goal.slot_of-slot-requires-clause-room
slot_of-slot-requires-clause-room c =
    let I = c.args.instance.now in
    let T = c.args.timetable.now in
    let stays = c.in_ok-stays.stays.items in
    let sorted = c.sort_unstable.new.self.items in
    let ks = c.deref-stay-items.result.now in
    let is : c.dedup.new.self.items ≡ dedup stay_eq sorted =
    dedup_is _ _ _ c.dedup.ensures.filtered in
    let are : AreKinds I T ks =
    are_kinds I T stays sorted ks c.in_ok-stays.ensures c.sort_unstable.ensures.permutation
    c.sort_unstable.ensures.sorted (c.deref-stay-items.ensures.value ∙ is) in
    let i = c.stays.stay-index in
    let x = c.stay-item.result in
    let exists : StayExists I x =
    subst (StayExists I) (sym c.stay-item.is) (are.exist i x c.stays-test.true) in
    exists.room

pub overflow_add-count : goal.overflow_add-count
overflow_add-count c =
    let ks = c.deref-stay-items.result.now in
    let long : length ks ≤ 2000 =
    omega (arith, c.deref-stay-items.ensures.len, c.dedup.ensures.bound, c.sort_unstable.ensures.len, c.in_ok-stays.stays.ok.0, c.in_ok-stays.ensures.few, c.periods.ensures.kept.limits.counts.0.1) in
    let slot = c.slot_of-slot.result in
    let kinds = c.stays.kinds.items in
    let lt : slot < length kinds =
    omega (arith, c.slot_of-slot.ensures.within, c.stays.invariant.count) in
    let old = get_or_read kinds slot c.index.result.now lt c.index.ensures 0 in
    let small = c.stays.invariant.small slot in
    let front = length-take c.stays.stay-index ks in
    omega (arith, old, small, front, long)

pub stays-preserved : goal.stays-preserved
stays-preserved c =
    let I = c.args.instance.now in
    let ks = c.deref-stay-items.result.now in
    let i = c.stays.stay-index in
    let x = c.stay-item.result in
    let n = length I.periods * length I.rooms in
    let slot = c.slot_of-slot.result in
    let kinds = c.stays.kinds.items in
    let lt : slot < length kinds =
    omega (arith, c.slot_of-slot.ensures.within, c.stays.invariant.count) in
    let old = get_or_read kinds slot c.index.result.now lt c.index.ensures 0 in
    let new = c.index.result.now + 1 in
    let more = tally_more (λ k. 1) (is_in_slot I) n
    (take i ks) kinds x slot new c.stays.invariant c.slot_of-slot.ensures.within
    (λ k. ap (λ e. eqb e k) (sym c.slot_of-slot.ensures.slot)) (omega arith)
    (ap (λ m. m + 1) old) in
    subst (λ xs. AreTallied (λ k. 1) (is_in_slot I) n xs (slice_set kinds slot new))
    (sym (take_more ks i x c.stays-test.true
    ∙ ap (λ y. take i ks ++ y ∷ []) (sym c.stay-item.is)))
    more

pub returns : goal.returns
returns c =
    let I = c.args.instance.now in
    let T = c.args.timetable.now in
    let stays = c.in_ok-stays.stays.items in
    let sorted = c.sort_unstable.new.self.items in
    let ks = c.deref-stay-items.result.now in
    let is : c.dedup.new.self.items ≡ dedup stay_eq sorted =
    dedup_is _ _ _ c.dedup.ensures.filtered in
    let are : AreKinds I T ks =
    are_kinds I T stays sorted ks c.in_ok-stays.ensures c.sort_unstable.ensures.permutation
    c.sort_unstable.ensures.sorted (c.deref-stay-items.ensures.value ∙ is) in
    let long : length ks ≤ 2000 =
    omega (arith, c.deref-stay-items.ensures.len, c.dedup.ensures.bound, c.sort_unstable.ensures.len, c.in_ok-stays.stays.ok.0, c.in_ok-stays.ensures.few, c.periods.ensures.kept.limits.counts.0.1) in
    are_durations I T ks c.stays.kinds.items are long
    (subst (λ xs. AreTallied (λ k. 1) (is_in_slot I) (length I.periods * length I.rooms) xs
    c.stays.kinds.items)
    (take_all c.stays.stay-index ks c.stays-test.false) c.stays.invariant)
