use Rattle.std.proofs.Common.{◌≡◌, ◌-◌, ◌<◌, length, take_all, count_by, ap, sym, subst, ◌∙◌, arith}
use Rattle.std.proofs.lemmas.List.{get_or_read}
use Rattle.exam_model.specs.Links.{IsLast, is_link, slot_of}
use Rattle.exam_model.proofs.LinkLemmas.{counted_on, none_between, way_on}
use Rattle.exam_model.proofs.links.Links.count_exams.Goals as goal

pub loop-next-init : goal.loop-next-init
loop-next-init c =
    let xs = c.args.self.now.list.items in
    let lasts = c.args.self.now.last.items in
    let m = length lasts in
    let s = c.args.student in
    let n = c.index-last.result.now in
    let at : c.slot_of.result ≡ slot_of m s =
    c.slot_of.ensures.slot ∙ ap (λ ys. slot_of (length ys) s) c.deref.ensures.value in
    let within : c.slot_of.result < m =
    omega (arith, c.slot_of.ensures.exists, ap length c.deref.ensures.value) in
    let last : IsLast xs m (slot_of m s) n (length xs) =
    subst (λ b. IsLast xs m b n (length xs)) at
    (subst (λ v. IsLast xs m c.slot_of.result v (length xs))
    (sym (get_or_read lasts c.slot_of.result n within c.index-last.ensures 0))
    (c.requires.linked.lasts c.slot_of.result within)) in
    record {
      within = last.within;
      slot = last.here;
      counts = λ e lt.
          let none = none_between xs m s e n (length xs) (omega arith) last in
          let all = ap (count_by (is_link s e)) (take_all (length xs) xs (omega arith)) in
          omega arith;
      steps = omega arith;
    }

pub count_if_own-requires-clause-room : goal.count_if_own-requires-clause-room
count_if_own-requires-clause-room c =
    let x = c.index-link.result.now in
    let exists = c.requires.exist (c.loop-next.next - 1) x
    (omega (arith, c.loop-next.invariant.within, c.loop-next-test.true)) in
    let here = ap (λ z. z.sitter.exam) c.index-link.ensures in
    let e = x.sitter.exam in
    let lt : e < length c.args.counts.now = omega arith in
    omega (arith, c.loop-next.invariant.counts e lt, c.requires.once e lt, c.requires.room e lt)

pub loop-next-preserved : goal.loop-next-preserved
loop-next-preserved c =
    let xs = c.args.self.now.list.items in
    let lasts = c.args.self.now.last.items in
    let s = c.args.student in
    let x = c.index-link.result.now in
    let n = c.loop-next.next in
    let was = c.loop-next.invariant in
    let some : 0 < n = omega (arith, c.loop-next-test.true) in
    let here = c.index-link.ensures in
    let slot = ap (λ z. slot_of (length lasts) z.sitter.student) here ∙ was.slot x some in
    let link = way_on xs lasts x s n c.requires.linked some was.within here slot in
    record {
      within = omega (arith, link.within, was.within);
      slot = link.here;
      counts = λ e lt.
          omega (
            arith,
            was.counts e lt,
            counted_on xs lasts x s e n c.requires.linked some was.within here slot,
            c.count_if_own.ensures e (omega (arith, lt, c.loop-next.auto.counts)),
          );
      steps = omega (arith, link.within, was.steps);
    }
