use Rattle.std.proofs.Common.{◌+◌, ◌<◌, ◌++◌, ◌∷◌, [], length, take, eqb, ap, sym, subst, ◌∙◌, arith}
use Rattle.std.specs.Prelude.{slice_set}
use Rattle.std.proofs.lemmas.List.{get_or_read, take_more, length-take}
use Rattle.std.proofs.lemmas.List.Sums.{count_by-le-length}
use Rattle.exam_publish.specs.Groups.{is_of_exam}
use Rattle.exam_publish.specs.Rows.{IsAtExam}
use Rattle.exam_publish.specs.Tallies.{AreTallied}
use Rattle.exam_publish.proofs.PlaceLemmas.{row_exists}
use Rattle.exam_publish.proofs.TallyLemmas.{tally_more}
use Rattle.exam_publish.proofs.exam_shares.sizes_of.Goals as goal

pub overflow_add-size : goal.overflow_add-size
overflow_add-size c =
    let T = c.args.timetable.now in
    let i = c.rows.row-index in
    let r = c.row-item.result in
    let key = c.get-exam.result in
    let at : IsAtExam T r =
    subst (IsAtExam T) (sym c.row-item.is) (c.requires.at_exams i r c.rows-test.true) in
    let exists = row_exists T r at in
    let lt : key < length c.rows.sizes.items =
    omega (arith, exists, c.get-exam.ensures, c.requires.exams, c.rows.invariant.count) in
    let is = get_or_read c.rows.sizes.items key c.index.result.now lt c.index.ensures 0 in
    let each = c.rows.invariant.each key
    (omega (arith, exists, c.get-exam.ensures, c.requires.exams)) in
    let few = count_by-le-length (is_of_exam key) (take i c.args.rows.now) in
    let long = length-take i c.args.rows.now in
    omega (arith, is, each, few, long, c.rows-test.true, c.requires.few)

pub rows-preserved : goal.rows-preserved
rows-preserved c =
    let I = c.args.instance.now in
    let T = c.args.timetable.now in
    let rows = c.args.rows.now in
    let i = c.rows.row-index in
    let r = c.row-item.result in
    let key = c.get-exam.result in
    let sizes = c.rows.sizes.items in
    let new = c.index.result.now + 1 in
    let at : IsAtExam T r =
    subst (IsAtExam T) (sym c.row-item.is) (c.requires.at_exams i r c.rows-test.true) in
    let exists = row_exists T r at in
    let within : key < length I.exams =
    omega (arith, exists, c.get-exam.ensures, c.requires.exams) in
    let lt : key < length sizes = omega (arith, within, c.rows.invariant.count) in
    let is = get_or_read sizes key c.index.result.now lt c.index.ensures 0 in
    let more = tally_more (λ e. 1) is_of_exam (length I.exams)
    (take i rows) sizes r key new c.rows.invariant within
    (λ k. ap (λ e. eqb e k) (sym c.get-exam.ensures)) (omega arith) (ap (λ n. n + 1) is) in
    subst (λ xs. AreTallied (λ e. 1) is_of_exam (length I.exams) xs (slice_set sizes key new))
    (sym (take_more rows i r c.rows-test.true
    ∙ ap (λ x. take i rows ++ x ∷ []) (sym c.row-item.is)))
    more
