use Rattle.std.proofs.Common.{◌≡◌, ◌∙◌, List, ℕ, Vec, Global, ap, sym, subst}
use Rattle.office_files.specs.CanonicalSolution.{canonical_solution}
use Rattle.office_files.specs.SolutionText.{SolutionText, solution_in}
use Rattle.office_files.proofs.CanonicalSolution.{solution_spelled, solution_same}
use Rattle.office_files.proofs.solution_writer.write_solution.Goals as goal

pub returns-clause-spells : goal.returns-clause-spells
returns-clause-spells c =
    let text : c.into_bytes.result.items ≡ canonical_solution c.args.timetable.now =
    ap (λ (v : Vec ℕ Global). v.items) c.into_bytes.ensures.value ∙ c.in_ok-text.ensures in
    λ I suits. subst (λ (b : List ℕ). SolutionText b I c.args.timetable.now) (sym text)
    (solution_spelled I c.args.timetable.now suits c.in_default.ensures.none)

pub returns-clause-same : goal.returns-clause-same
returns-clause-same c =
    let text : c.into_bytes.result.items ≡ canonical_solution c.args.timetable.now =
    ap (λ (v : Vec ℕ Global). v.items) c.into_bytes.ensures.value ∙ c.in_ok-text.ensures in
    λ I suits. ap (solution_in I) text
    ∙ solution_same I c.args.timetable.now suits c.in_default.ensures.none
