use Rattle.std.proofs.Common.{◌∙◌, ◌∷◌, ◌++◌, Some, append-nil, refl, subst, sym, take, take_all, []}
use Rattle.exam_score.specs.Folds.{CanFollow, RepresentsPairs, pairs_sat}
use Rattle.office_store.proofs.FoldingLemmas.{can_follow, has_room, one_more}
use Rattle.office_store.proofs.folding.fold_exams.Goals as goal

pub loop-exam-init : goal.loop-exam-init
loop-exam-init c = record {
  represents = λ pairs h. subst (RepresentsPairs c.args.fold.now) (sym (append-nil pairs)) h;
  of = record { session = refl; before = refl; after = refl; exams = refl };
}

pub row-requires : goal.row-requires
row-requires c =
    let room = c.requires.room in
    let exams = c.args.exams.now in
    let i = c.loop-exam.exam-index in
    let so_far = c.loop-exam.invariant.represents room.pairs room.represents in
    record {
      few = has_room room.pairs c.args.student exams i c.loop-exam-test.true room.few so_far;
      follows = subst (λ e. CanFollow c.loop-exam.fold
          (record { exam = e; student = c.args.student })) (sym c.exam-item.is)
          (can_follow c.loop-exam.fold room.pairs c.args.student exams i c.exam-item.result
          c.loop-exam-test.true c.requires.ascending room.below so_far);
    }

pub loop-exam-preserved : goal.loop-exam-preserved
loop-exam-preserved c =
    let s = c.args.student in
    let exams = c.args.exams.now in
    let i = c.loop-exam.exam-index in
    record {
      represents = λ pairs h. one_more c.row.new.self pairs s exams i c.exam-item.result
          c.loop-exam-test.true
          (subst (λ e. RepresentsPairs c.row.new.self ((pairs ++ pairs_sat (Some s) (take i exams))
          ++ record { exam = e; student = s } ∷ [])) c.exam-item.is
          (c.in_ok-row.ensures.ok _ (c.loop-exam.invariant.represents pairs h)));
      of = record {
        session = c.in_ok-row.ensures.same.0 ∙ c.loop-exam.invariant.of.session;
        before = c.in_ok-row.ensures.same.1 ∙ c.loop-exam.invariant.of.before;
        after = c.in_ok-row.ensures.same.2 ∙ c.loop-exam.invariant.of.after;
        exams = c.in_ok-row.ensures.same.3 ∙ c.loop-exam.invariant.of.exams;
      };
    }

pub returns-clause-represents : goal.returns-clause-represents
returns-clause-represents c pairs h =
    subst (λ es. RepresentsPairs c.loop-exam.fold (pairs ++ pairs_sat (Some c.args.student) es))
    (take_all c.loop-exam.exam-index c.args.exams.now c.loop-exam-test.false)
    (c.loop-exam.invariant.represents pairs h)
