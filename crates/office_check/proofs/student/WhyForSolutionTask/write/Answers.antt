use Rattle.std.proofs.Common.{◌∙◌, ap, subst}
use Rattle.std.specs.Io.KnownBytes.{Appends}
use Rattle.exam_score.specs.Penalty.{pairs_in, personal_total}
use Rattle.office_output.specs.Writing.{WritesFront}
use Rattle.office_check.proofs.StudentFacts.{own_text_is}
use Rattle.office_check.proofs.student.WhyForSolutionTask.write.Goals as goal

pub returns-in-Ok-write_own-clause-written : goal.returns-in-Ok-write_own-clause-written
returns-in-Ok-write_own-clause-written g c =
    let I = c.args.instance.now in
    let T = c.args.timetable.now in
    let own = c.in-Ok-own_enrolments.ensures.own in
    record {
      written = subst (Appends _ _) (own_text_is I _ _ T c.args.self.now.0 _ _ own
          (c.as_str.ensures.value ∙ c.in-Ok.ensures.text)
          (c.points_of.ensures ∙ ap (λ p. personal_total (pairs_in p)) c.in-Ok-score.ensures
          ∙ ap personal_total (own.share I T)))
          c.in-Ok-write_own.ensures.ok;
      add_up = c.own_reasons_add_up.ensures I c.args.enrolments.now T c.args.self.now.0
          c.lemma_order.ensures;
      status = c.in-Ok.ensures.status;
    }

-- a front of the report and the lines
pub returns-clause-front : goal.returns-clause-front
returns-clause-front g c =
    let I = c.args.instance.now in
    let T = c.args.timetable.now in
    let own = c.in-Ok-own_enrolments.ensures.own in
    λ is. subst (WritesFront _ _) (own_text_is I _ _ T c.args.self.now.0 _ _ own
    (c.as_str.ensures.value ∙ c.in-Ok.ensures.text)
    (c.points_of.ensures ∙ ap (λ p. personal_total (pairs_in p)) c.in-Ok-score.ensures
    ∙ ap personal_total (own.share I T)))
    c.in-Err.ensures.err
