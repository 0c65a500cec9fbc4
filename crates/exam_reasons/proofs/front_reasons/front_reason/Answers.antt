use Rattle.std.proofs.Common.{◌≡◌, ◌∙◌, ◌==◌, ℕ, None, Some, ap, false, inl, inr, sym}
use Rattle.std.proofs.lemmas.Bool.{cond-false, cond-true, eq-eqb}
use Rattle.std.proofs.lemmas.Bool.Decides.{eqb_tells}
use Rattle.exam_model.specs.Enrolments.{Enrolled, size_of}
use Rattle.exam_model.specs.Instance.{Session}
use Rattle.exam_model.specs.Timetable.{Placing}
use Rattle.exam_score.specs.Front.{front_by}
use Rattle.exam_score.specs.FrontLoad.{exam_front}
use Rattle.exam_score.proofs.FrontLemmas.{front_by_sizes}
use Rattle.exam_reasons.specs.Reasons.{front_reason}
use Rattle.exam_reasons.proofs.front_reasons.front_reason.Goals as goal

no_reason : (I : Session) (E : Enrolled) (T : Placing) (e : ℕ) → exam_front I E T e ≡ 0
    → None ≡ front_reason I E T e
no_reason I E T e is = sym (cond-true (exam_front I E T e == 0) None _ (eq-eqb _ 0 is))

a_reason : (I : Session) (E : Enrolled) (T : Placing) (e s p : ℕ) → (p ≡ 0 → ⊥)
    → s ≡ size_of E e → p ≡ exam_front I E T e
    → Some (record { exam = e; students = s; points = p }) ≡ front_reason I E T e
a_reason I E T e s p some size is =
    rw (size, is) (sym (cond-false (exam_front I E T e == 0) None _ different))
  where
    different : (exam_front I E T e == 0) ≡ false
    different = elim (eqb_tells (exam_front I E T e) 0) [
      | inl same ↦ absurd (some (is ∙ same.1))
      | inr other ↦ other.0
    ]

pub returns-then-points-eq0 : goal.returns-then-points-eq0
returns-then-points-eq0 c =
    let I = c.args.instance.now in
    let E = c.args.enrolments.now in
    let T = c.args.timetable.now in
    let e = c.args.exam in
    no_reason I E T e (sym (front_by_sizes I E T c.args.sizes.now e c.requires.sizes
    c.requires.fits.enrolments c.requires.exists)
    ∙ ap (λ at. front_by I c.args.sizes.now at e) (sym c.get.ensures)
    ∙ sym c.front_share-points.ensures.share ∙ c.if-points-eq0.true)

pub returns : goal.returns
returns c =
    let I = c.args.instance.now in
    let E = c.args.enrolments.now in
    let T = c.args.timetable.now in
    let e = c.args.exam in
    a_reason I E T e _ _ c.if-points-eq0.false c.size.ensures.size
    (c.front_share-points.ensures.share
    ∙ ap (λ at. front_by I c.args.sizes.now at e) c.get.ensures
    ∙ front_by_sizes I E T c.args.sizes.now e c.requires.sizes c.requires.fits.enrolments
    c.requires.exists)
