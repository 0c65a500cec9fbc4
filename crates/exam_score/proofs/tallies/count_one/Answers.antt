use Rattle.std.proofs.Common.{◌≡◌, ◌+◌, ◌-◌, ◌<◌, ◌++◌, ◌∷◌, [], length, length-set, get_or, set, sum_by, sym, subst, ◌∙◌, ap, ap₂, arith}
use Rattle.std.proofs.lemmas.List.{get_or_read, get_or_default, length_push}
use Rattle.exam_score.specs.Rows.{row_at}
use Rattle.exam_score.specs.Tallies.{tally_sum}
use Rattle.exam_score.specs.TallyLinks.{AreCrowded, AreFiled, Extends}
use Rattle.exam_score.specs.declared.tallies.Tally.{Tally}
use Rattle.exam_score.proofs.TallyLemmas.{index_within, alike_set, crowd_more, filed_alike, counted_set, filed_push}
use Rattle.exam_score.proofs.tallies.count_one.Goals as goal

pub returns-then-extends-clause-counted : goal.returns-then-extends-clause-counted
returns-then-extends-clause-counted c =
    let xs = c.args.tallies.now.items in
    let n = c.index-before.result.now in
    let x = c.index-tally.result.now in
    let last : Extends xs n c.args.student c.args.period =
    subst (λ ys. Extends ys n c.args.student c.args.period) c.deref.ensures.value
    (c.extends.ensures.0 c.if-extends.true).1 in
    let within : n - 1 < length xs =
    index_within c.args.buckets xs c.args.last.now.items c.bucket_of_student-bucket.result n
    c.args.student c.args.period c.requires.filed c.bucket_of_student-bucket.ensures.exists
    c.index-before.ensures last in
    let student : x.student ≡ c.args.student =
    ap (λ z. z.student) c.index-tally.ensures ∙ last.student x in
    let period : x.period ≡ c.args.period =
    ap (λ z. z.period) c.index-tally.ensures ∙ last.period x in
    λ f. counted_set f xs (n - 1) x within c.index-tally.ensures
    ∙ ap₂ (λ p s. sum_by (tally_sum f) xs + f (row_at p s)) period student

pub returns-then-extends-clause-filed : goal.returns-then-extends-clause-filed
returns-then-extends-clause-filed c =
    let xs = c.args.tallies.now.items in
    let n = c.index-before.result.now in
    let x = c.index-tally.result.now in
    let last : Extends xs n c.args.student c.args.period =
    subst (λ ys. Extends ys n c.args.student c.args.period) c.deref.ensures.value
    (c.extends.ensures.0 c.if-extends.true).1 in
    let within : n - 1 < length xs =
    index_within c.args.buckets xs c.args.last.now.items c.bucket_of_student-bucket.result n
    c.args.student c.args.period c.requires.filed c.bucket_of_student-bucket.ensures.exists
    c.index-before.ensures last in
    let y : Tally =
    record { student = x.student; period = x.period; exams = x.exams + 1; before = x.before } in
    filed_alike c.args.buckets xs (set xs (n - 1) y) c.args.last.now.items
    (alike_set xs (n - 1) y within
    (λ d. ap (λ z. z.student) (get_or_default xs (n - 1) d x within ∙ sym c.index-tally.ensures))
    (λ d. ap (λ z. z.period) (get_or_default xs (n - 1) d x within ∙ sym c.index-tally.ensures))
    (λ d. ap (λ z. z.before) (get_or_default xs (n - 1) d x within ∙ sym c.index-tally.ensures)))
    c.requires.filed

pub returns-clause-filed : goal.returns-clause-filed
returns-clause-filed c =
    let xs = c.args.tallies.now.items in
    let last = c.args.last.now.items in
    let bucket = c.bucket_of_student-bucket.result in
    let y : Tally =
    record { student = c.args.student; period = c.args.period; exams = 1; before = c.index-before.result.now } in
    let within : bucket < length last =
    omega (arith, c.bucket_of_student-bucket.ensures.exists, c.requires.filed.count) in
    let items : c.push.new.self.items ≡ xs ++ y ∷ [] = c.in_ok-push.ensures.items in
    let long : c.len.result ≡ length xs + 1 =
    omega (arith, c.len.ensures, c.push.new.self.ok.0, ap length items, length_push xs y) in
    subst (λ zs. AreFiled zs (set last bucket c.len.result) c.args.buckets) (sym items)
    (subst (λ n. AreFiled (xs ++ y ∷ []) (set last bucket n) c.args.buckets) (sym long)
    (filed_push c.args.buckets xs last y bucket c.requires.filed within
    (sym c.bucket_of_student-bucket.ensures.bucket)
    (get_or_read last bucket c.index-before.result.now within c.index-before.ensures 0)
    c.requires.not_later))

pub returns-then-extends-clause-crowded : goal.returns-then-extends-clause-crowded
returns-then-extends-clause-crowded c =
    let xs = c.args.tallies.now.items in
    let x = c.index-tally.result.now in
    let y : Tally =
    record { student = x.student; period = x.period; exams = x.exams + 1; before = x.before } in
    subst (AreCrowded c.args.crowd.now.sizes.items c.args.crowd.now.steps c.args.buckets)
    (sym (length-set xs (c.index-before.result.now - 1) y)) c.requires.crowded

pub note-requires : goal.note-requires
note-requires c =
    let exists : c.bucket_of_student-bucket.result < length c.args.crowd.now.sizes.items =
    omega (arith, c.bucket_of_student-bucket.ensures.exists, c.requires.crowded.count) in
    record {
      exists = exists;
      few = omega (arith, c.requires.crowded.each c.bucket_of_student-bucket.result exists, c.requires.few);
      few_steps = omega (arith, c.requires.crowded.all, c.requires.few);
    }

pub returns-clause-crowded : goal.returns-clause-crowded
returns-clause-crowded c =
    let xs = c.args.tallies.now.items in
    let sizes = c.args.crowd.now.sizes.items in
    let steps = c.args.crowd.now.steps in
    let bucket = c.bucket_of_student-bucket.result in
    let y : Tally =
    record { student = c.args.student; period = c.args.period; exams = 1; before = c.index-before.result.now } in
    let long : length c.push.new.self.items ≡ length xs + 1 =
    ap length c.in_ok-push.ensures.items ∙ length_push xs y in
    let more = crowd_more sizes steps c.args.buckets
    (length xs) bucket c.bucket_of_student-bucket.ensures.exists c.requires.few c.requires.crowded in
    subst (AreCrowded c.note.new.crowd.sizes.items c.note.new.crowd.steps c.args.buckets) (sym long)
    (subst (λ n. AreCrowded c.note.new.crowd.sizes.items n c.args.buckets (length xs + 1))
    (sym c.note.ensures.steps)
    (subst (λ zs. AreCrowded zs (steps + get_or sizes bucket 0) c.args.buckets (length xs + 1))
    (sym c.note.ensures.sizes) more))
