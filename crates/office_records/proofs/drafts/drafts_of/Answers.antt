use Rattle.std.proofs.Common.{◌∙◌, Some, sym, subst}
use Rattle.std.proofs.lemmas.List.{length-set, take_all}
use Rattle.std.proofs.lemmas.Result.{err_from_is_err_and}
use Rattle.office_records.proofs.DraftRowLemmas.{Begun, begun_none, begun_next, begun_all, each_slot, next_row, scored_row}
use Rattle.office_records.proofs.drafts.drafts_of.Goals as goal

pub rows-init : goal.rows-init
rows-init c = record {
  begun = (
    _,
    begun_none c.args.instance.now c.args.enrolments.now c.args.slots.now,
    c.no_drafts-drafts.ensures.none,
  );
  size = c.no_drafts-drafts.ensures.size;
}

-- a row whose number is no draft's, or another row's
pub returns-then-not-is_next-clause-none : goal.returns-then-not-is_next-clause-none
returns-then-not-is_next-clause-none c = λ _ draft are.
    let next = c.is_next.ensures.1 (next_row c.args.instance.now c.args.enrolments.now
    c.args.rows.now c.args.slots.now draft are c.rows.at _ c.rows-test.true) in
    absurd (cc (next, c.if-not-is_next.true))

-- a row whose draft has no timetable, or another penalty
pub returns-in_err-draft-clause-none : goal.returns-in_err-draft-clause-none
returns-in_err-draft-clause-none c =
    let p = err_from_is_err_and c.from_residual.result c.from_residual.ensures.1 in
    rw (p.1, p.2) (λ bad draft are.
    let known = scored_row c.args.instance.now c.args.enrolments.now
    c.args.rows.now c.args.slots.now draft are c.rows.at _ c.rows-test.true in
    c.in_err-draft.ensures.none bad known.0 known.1 known.2)

-- one more row
pub rows-preserved : goal.rows-preserved
rows-preserved c =
    let size = c.rows.invariant.size in record {
      begun = begun_next c.args.instance.now c.args.enrolments.now c.args.rows.now c.args.slots.now
          c.rows.at _ c.rows-test.true c.rows.drafts c.in_ok-draft.draft c.rows.invariant.begun size
          (c.is_next.ensures.0 c.if-not-is_next.false) c.in_ok-draft.ensures.is
          c.in_ok-draft.ensures.scored;
      size = length-set c.rows.drafts _ (Some c.in_ok-draft.draft) ∙ size;
    }

-- each slot is of a draft that has a row
pub returns-then-are_of_drafts-clause-are : goal.returns-then-are_of_drafts-clause-are
returns-then-are_of_drafts-clause-are c =
    let I = c.args.instance.now in
    let E = c.args.enrolments.now in
    let begun = c.rows.invariant.begun in
    let all = subst (λ l. Begun I E l c.args.slots.now begun.0)
    (take_all c.rows.at c.args.rows.now c.rows-test.false) begun.1 in (
      begun.0,
      begun_all I E c.args.rows.now c.args.slots.now begun.0 all
          (sym c.are_of_drafts.ensures ∙ c.if-are_of_drafts.true) c.requires.exams,
      begun.2,
    )

-- a slot of a draft that has none
pub returns-else-are_of_drafts-clause-none : goal.returns-else-are_of_drafts-clause-none
returns-else-are_of_drafts-clause-none c = λ _ draft are.
    let each = each_slot c.args.instance.now c.args.enrolments.now c.args.rows.now
    c.args.slots.now draft are in
    absurd (cc (each, c.are_of_drafts.ensures, c.if-are_of_drafts.false))
