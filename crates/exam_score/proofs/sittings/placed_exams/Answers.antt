use Rattle.std.proofs.Common.{◌≡◌, ◌<◌, ◌+◌, ◌++◌, ◌∷◌, [], ℕ, Some, None, length, sum_by, All, option_map, sym, ◌∙◌, ap, arith}
use Rattle.std.proofs.lemmas.List.Elements.{All-push}
use Rattle.exam_model.specs.Fits.{period_of}
use Rattle.exam_model.specs.Sums.{sum_below}
use Rattle.exam_score.specs.Tallies.{if_placed}
use Rattle.exam_score.specs.declared.sittings.PlacedExam.{PlacedExam}
use Rattle.exam_score.proofs.SittingLemmas.{sittings_more_some, sittings_more_none}
use Rattle.exam_score.proofs.sittings.placed_exams.Goals as goal
use Rattle.exam_score.proofs.sittings.placed_exams.Goals.{in-Some+in_ok-push, in_default}

pub loop-exam-preserved : goal.loop-exam-preserved
loop-exam-preserved c =
    let T = c.args.timetable.now in
    let e = c.loop-exam.exam in
    let was = c.loop-exam.sittings.items in
    let within : e < length T =
    omega (arith, c.loop-exam-test.true, c.exams-exam-end.ensures.count) in
    elim c.match-get.branch [
      | in-Some+in_ok-push w ↦
          (let p = w.in-Some.place.period in
          let placed : period_of T e ≡ Some p =
          ap (period_of T) (sym c.new-exam.ensures)
          ∙ ap (option_map (λ at. at.period)) (sym w.in-Some.ensures) in
          let new : PlacedExam = record { period = p; exam = e } in
          let items : c.match-get.sittings.items ≡ was ++ new ∷ []
          = ap (λ v. v.items) w.sittings-is ∙ w.in_ok-push.ensures.items
          ∙ ap (λ n. was ++ record { period = p; exam = n } ∷ []) c.new-exam.ensures in
          let more : record { all : (g : ℕ → ℕ → ℕ) → sum_by (λ x. g x.exam x.period) (was ++ new ∷ []) ≡ sum_below (e + 1) (λ e. if_placed (g e) (period_of T e)); exist : All (λ x. x.exam < length T) (was ++ new ∷ []) }
          = record {
            all = λ g. sittings_more_some g T e p was placed (c.loop-exam.invariant.all g);
            exist = All-push (λ x. x.exam < length T) was new c.loop-exam.invariant.exist within;
          } in
          rw items more)
      | in_default w ↦
          (let unplaced : period_of T e ≡ None = ap (period_of T) (sym c.new-exam.ensures)
          ∙ ap (option_map (λ at. at.period)) (sym c.get.ensures ∙ w.in_default.is) in
          rw w.sittings-is (record {
            all = λ g. sittings_more_none g T e was unplaced (c.loop-exam.invariant.all g);
            exist = c.loop-exam.invariant.exist;
          }))
    ]

pub returns-clause-all : goal.returns-clause-all
returns-clause-all c =
    let T = c.args.timetable.now in
    let end : c.loop-exam.exam ≡ length T = omega (arith, c.exams-exam-end.ensures.count) in
    λ g. c.loop-exam.invariant.all g
    ∙ ap (λ n. sum_below n (λ e. if_placed (g e) (period_of T e))) end

pub returns-clause-exist : goal.returns-clause-exist
returns-clause-exist c = c.loop-exam.invariant.exist
