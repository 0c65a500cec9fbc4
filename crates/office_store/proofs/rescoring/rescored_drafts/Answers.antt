use Rattle.std.proofs.Common.{◌≡◌, ◌∙◌, None, Option, ap, arith, length-set, option_map, subst, sym}
use Rattle.std.specs.Prelude.{IfSome}
use Rattle.std.proofs.lemmas.List.{get_or_default, get_or_past}
use Rattle.exam_score.specs.Track.{track}
use Rattle.office_records.specs.declared.drafts.Draft.{Draft}
use Rattle.office_store.specs.Memory.{rescored_draft}
use Rattle.office_store.proofs.FillingLemmas.{all_made, draft_scored, none_made, one_made}
use Rattle.office_store.proofs.TogetherLemmas.{none_suited, one_suited}
use Rattle.office_store.proofs.rescoring.rescored_drafts.Goals as goal

pub numbers-init : goal.numbers-init
numbers-init c = record {
  suited = none_suited c.args.instance.now _ c.no_drafts-made.ensures.none;
  size = c.no_drafts-made.ensures.size;
  made = λ scored. none_made _ _ c.no_drafts-made.ensures.none c.no_drafts-made.ensures.size;
}

pub numbers-preserved : goal.numbers-preserved
numbers-preserved c =
    let size = c.type_inv.drafts in
    let I = c.args.instance.now in
    let is = get_or_default c.args.drafts.now c.numbers.number c.index-drafts-number.result None
    (omega (arith, size, c.numbers-test.true)) in
    record {
      suited = one_suited I c.numbers.made c.numbers.number c.in_ok-made.field-0
          c.numbers.invariant.suited (omega (arith, c.numbers.invariant.size, c.numbers-test.true))
          c.in_ok-made.ensures.suits;
      size = length-set c.numbers.made c.numbers.number c.in_ok-made.field-0
          ∙ c.numbers.invariant.size;
      made = λ scored. one_made c.numbers.made c.numbers.number _ c.in_ok-made.field-0
          (c.numbers.invariant.made scored) c.numbers-test.true
          (c.in_ok-made.ensures.rescored
          (subst (λ (x : Option Draft). IfSome x (λ draft.
          draft.parts ≡ track I c.args.before.now draft.timetable)) (sym is)
          (draft_scored I c.args.before.now c.args.drafts.now c.numbers.number scored))
          ∙ ap (option_map (rescored_draft I c.args.after.now)) is);
    }

pub returns-clause-rescored : goal.returns-clause-rescored
returns-clause-rescored c = λ scored.
    let size = c.type_inv.drafts in
    all_made c.numbers.made c.numbers.number _ (c.numbers.invariant.made scored)
    (λ d high. ap (option_map (rescored_draft c.args.instance.now c.args.after.now))
    (get_or_past c.args.drafts.now d None (omega (arith, size, high, c.numbers-test.false))))
