use Rattle.std.proofs.Common.{◌≡◌, ℕ, length, map, sym, subst, ap, ◌∙◌}
use Rattle.exam_model.specs.Enrolments.{IsAscending, has_number}
use Rattle.exam_score.specs.Penalty.{PersonalPenalty}
use Rattle.exam_score.specs.Track.{track}
use Rattle.exam_publish.specs.AddUp.{AddUpTo, AreSmall}
use Rattle.exam_publish.specs.Shares.{Sharing, shares_of}
use Rattle.exam_publish.specs.Rows.{enrolled_in}
use Rattle.exam_publish.proofs.AddUpLemmas.{adds_up}
use Rattle.exam_publish.proofs.ShareLemmas.{shares_ascend, shares_seated, published_small}
use Rattle.exam_publish.proofs.sharing.shares.Goals as goal

pub returns-clause-add_up : goal.returns-clause-add_up
returns-clause-add_up c =
    let I = c.args.instance.now in
    let rows = c.args.rows.now in
    let T = c.args.timetable.now in
    let is : c.of.result ≡ shares_of I rows T
    = c.of.ensures
    ∙ (λ i. record { students = c.in_ok-students.ensures i; exams = c.in_ok-exams.ensures i; periods = c.in_ok-periods.ensures i; rooms = c.in_ok-rooms.ensures i }) in
    subst (AddUpTo (track I (enrolled_in (length I.exams) rows) T)) (sym is)
    (adds_up I rows T c.lemma_limits.ensures c.requires c.numbers_identify.ensures)

pub returns-clause-small : goal.returns-clause-small
returns-clause-small c =
    let I = c.args.instance.now in
    let rows = c.args.rows.now in
    let T = c.args.timetable.now in
    let is : c.of.result ≡ shares_of I rows T
    = c.of.ensures
    ∙ (λ i. record { students = c.in_ok-students.ensures i; exams = c.in_ok-exams.ensures i; periods = c.in_ok-periods.ensures i; rooms = c.in_ok-rooms.ensures i }) in
    subst AreSmall (sym is)
    (published_small I rows T
    (shares_of I rows T) c.lemma_limits.ensures c.requires c.numbers_identify.ensures
    (adds_up I rows T c.lemma_limits.ensures c.requires c.numbers_identify.ensures))

pub returns-clause-ascending : goal.returns-clause-ascending
returns-clause-ascending c =
    let is = ap (λ (shares : Sharing). shares.students) c.of.ensures ∙ c.in_ok-students.ensures in
    subst (λ xs. IsAscending (map (λ (share : ℕ × PersonalPenalty). share.0) xs)) (sym is)
    (shares_ascend c.args.instance.now c.args.rows.now)

pub returns-clause-seated : goal.returns-clause-seated
returns-clause-seated c s =
    let is = ap (λ (shares : Sharing). shares.students) c.of.ensures ∙ c.in_ok-students.ensures in
    ap (λ xs. has_number (map (λ (share : ℕ × PersonalPenalty). share.0) xs) s) is
    ∙ shares_seated c.args.instance.now c.args.rows.now s
