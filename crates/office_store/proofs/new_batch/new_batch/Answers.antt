use Rattle.std.proofs.Common.{◌≡◌, ◌<◌, ◌≤◌, Err, Ok, length, map, arith, refl, rules, sym, ◌∙◌, ap, subst}
use Rattle.exam_lists.proofs.Maps.{map_back}
use Rattle.exam_model.specs.Enrolments.{Enrolled}
use Rattle.office_enrolment.specs.AfterBatch.{Refuses, lines_with_effect, after_batch, current_enrolments}
use Rattle.office_enrolment.proofs.OfficeLemmas.{exams_after}
use Rattle.office_store.specs.NewBatches.{Enrols, line_write}
use Rattle.office_store.specs.declared.new_batch.LineWrite.{LineWrite}
use Rattle.office_store.proofs.BatchPuttingLemmas.{latest_drafts, lines_refuse, made_exams, made_others, memory_scored, no_room, same_enrolled}
use Rattle.office_store.proofs.new_batch.new_batch.Goals as goal

pub returns-in_err-made-clause-enrols : goal.returns-in_err-made-clause-enrols
returns-in_err-made-clause-enrols c db r kept memory is_memory =
    let fault = c.in_err-made.field-0.0 in
    let is : c.from_residual.result ≡ Err fault = search rules in
    let same = same_enrolled r c.args.instance.now c.args.enrolments.now memory in
    let refuses = subst (λ (E : Enrolled). Refuses (after_batch c.args.changes.now E) fault)
    (sym same.1) c.in_err-made.ensures.refused in
    subst (Enrols c.args.changes.now r) (sym is)
    (λ number bytes. lines_refuse number bytes c.args.changes.now r kept.office.enrolled.exams
    fault refuses)

pub returns-then-memory-clause-enrols : goal.returns-then-memory-clause-enrols
returns-then-memory-clause-enrols c db r kept memory is_memory number bytes =
    let same = same_enrolled r c.args.instance.now c.args.enrolments.now memory in
    let after = ap (after_batch c.args.changes.now) same.1 ∙ c.in_ok-made.ensures.ok in
    let many : 10000 ≤ c.args.memory.now.batches = search rules in
    let count : length r.batches ≡ c.args.memory.now.batches = is_memory.batches in
    no_room number bytes c.args.changes.now r kept.office.enrolled.exams _ after
    (omega (arith, many, count))

pub drafts_after-requires : goal.drafts_after-requires
drafts_after-requires c = record {
  before = c.requires.exams;
  exams = made_exams c.in_ok-made.made.enrolments c.args.enrolments.now _
      (exams_after c.args.changes.now c.args.enrolments.now _ c.in_ok-made.ensures.ok
      ∙ c.requires.exams);
  others = made_others c.args.changes.now c.args.enrolments.now c.in_ok-made.made.enrolments
      c.in_ok-made.made.counts c.in_ok-made.made.acting.items c.lemma_order.ensures
      c.in_ok-made.ensures.ok c.in_ok-made.ensures.acting;
  suited = c.requires.suited;
}

pub returns-clause-enrols : goal.returns-clause-enrols
returns-clause-enrols c db r kept memory is_memory =
    let same = same_enrolled r c.args.instance.now c.args.enrolments.now memory in
    let changes = c.args.changes.now in
    let made = c.in_ok-made.made in
    let few : c.args.memory.now.batches < 10000 = search rules in
    let count : length r.batches ≡ c.args.memory.now.batches = is_memory.batches in
    let room : length r.batches < 10000 = omega (arith, few, count) in
    record {
      after = ap (after_batch changes) same.1 ∙ c.in_ok-made.ensures.ok
          ∙ ap (λ (E : Enrolled). Ok (made.counts, current_enrolments made.enrolments E)) (sym same.1);
      room = room;
      lines = ap (map (λ (it : LineWrite). it.change)) c.in_ok-lines.ensures
          ∙ map_back line_write (λ (it : LineWrite). it.change) (λ x. refl) c.deref.result.now
          ∙ c.deref.ensures.value ∙ c.in_ok-made.ensures.acting
          ∙ ap (lines_with_effect changes) (sym same.1);
      drafts = λ some. latest_drafts db r c.args.memory.now c.args.instance.now made.enrolments
          c.in_ok-rescored.rescored _ kept is_memory same.0
          (made_exams made.enrolments c.args.enrolments.now _
          (exams_after changes c.args.enrolments.now _ c.in_ok-made.ensures.ok
          ∙ c.requires.exams))
          (c.in_ok-rescored.ensures.rescored
          (memory_scored r c.args.memory.now c.args.instance.now c.args.enrolments.now is_memory
          memory))
          c.in_ok-drafts.ensures.rows
          (λ none. some (c.in_ok-lines.ensures
          ∙ ap (map line_write) (c.deref.ensures.value ∙ c.in_ok-made.ensures.copied.0 none)));
    }

pub returns-clause-exams : goal.returns-clause-exams
returns-clause-exams c =
    made_exams c.in_ok-made.made.enrolments c.args.enrolments.now _
    (exams_after c.args.changes.now c.args.enrolments.now _ c.in_ok-made.ensures.ok
    ∙ c.requires.exams)
