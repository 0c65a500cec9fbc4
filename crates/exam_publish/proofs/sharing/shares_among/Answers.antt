use Rattle.std.proofs.lemmas.Grind.{common_steps}
use Rattle.std.proofs.Common.{◌≡◌, ◌^◌, sym, subst, ap, refl, ◌∙◌, arith}
use Rattle.exam_publish.specs.AddUp.{AreSmall}
use Rattle.exam_publish.specs.Shares.{shares_among, shares_of, student_shares}
use Rattle.exam_publish.proofs.AddUpLemmas.{adds_up}
use Rattle.exam_publish.proofs.AmongLemmas.{among_published, among_shares, among_small}
use Rattle.exam_publish.proofs.ShareLemmas.{published_small}
use Rattle.exam_publish.proofs.sharing.shares_among.Goals as goal

pub student_shares-requires : goal.student_shares-requires
student_shares-requires c =
    grind (arith, common_steps, among_published, c.deref.ensures.value, c.in_ok-own.ensures, c.requires.published)

pub returns : goal.returns
returns c =
    let I = c.args.instance.now in
    let rows = c.args.rows.now in
    let T = c.args.timetable.now in
    let students = c.args.students.now in
    let own = c.in_ok-personal.ensures
    ∙ ap (student_shares I) (c.deref.ensures.value ∙ c.in_ok-own.ensures)
    ∙ among_shares I rows students in
    let is : c.of.result ≡ shares_among I rows T students
    = c.of.ensures
    ∙ (λ i. record { students = own i; exams = c.in_ok-exams.ensures i; periods = c.in_ok-periods.ensures i; rooms = c.in_ok-rooms.ensures i }) in
    let all = published_small I rows T
    (shares_of I rows T) c.lemma_limits.ensures c.requires.published
    c.numbers_identify.ensures
    (adds_up I rows T c.lemma_limits.ensures c.requires.published
    c.numbers_identify.ensures) in
    record {
      shares = is;
      small = subst AreSmall (sym is) (among_small I rows T students (2 ^ 62) refl all.total);
    }
