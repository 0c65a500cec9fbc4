use Rattle.std.proofs.Common.{◌≡◌, ◌∙◌, Option, ap, inl, inr, subst}
use Rattle.exam_score.specs.Penalty.{Penalty}
use Rattle.office_reports.specs.Reports.{penalty_text}
use Rattle.office_model.specs.Step.{publication_in, published_penalty}
use Rattle.office_store.specs.Memory.{priced_in}
use Rattle.office_desk.proofs.AnswerLemmas.{priced_of, read_survives, text_answered}
use Rattle.office_desk.proofs.publications.publication_penalty.Goals as goal

pub returns : goal.returns
returns g c caller = record {
  answers = λ clean office now.
      let read = c.in_ok-parts.ensures.reads clean office now in
      let priced = priced_of office c.in-Some.parts
      (subst (λ (found : Option Penalty). found ≡ priced_in office) c.in-Some.is read.0) in
      inl (
        text_answered published_penalty (publication_in office) priced.0 _ priced.1
            (rw c.into_bytes.ensures.value (c.in_ok-report.ensures ∙ ap penalty_text priced.2)),
        read.1,
      );
  all_committed = λ clean. inr (c.in_ok-parts.ensures.leaves.all_committed clean);
  clean = c.in_ok-parts.ensures.leaves.clean;
  unchanged = λ _. c.in_ok-parts.ensures.leaves.unchanged;
  survives = read_survives g.S.Store ⊥ _ c.args.office.now c.publication_penalty.new.self _
      c.in_ok-parts.ensures.leaves;
}
