use Rattle.std.proofs.Common.{ℕ, arith, codes, rules, subst, sym}
use Rattle.clap.specs.Words.{found_of, rows_of}
use Rattle.office_program.specs.ServeLine.{HasNumber}
use Rattle.office_program.proofs.places_words.places_task.Goals as goal

-- the exam is the number that was found
pub returns-clause-ok : goal.returns-clause-ok
returns-clause-ok c =
    let number = c.in_ok-exam.ensures.ok in (
      c.in_ok-instance.ensures.ok,
      c.in_ok-solution.ensures.ok,
      subst (λ (n : ℕ). HasNumber (codes "exam") (rows_of (found_of c.args.values.now)) n)
          (sym c.new.ensures) number.0,
      omega (arith, number.2, c.new.ensures),
      search rules,
    )
