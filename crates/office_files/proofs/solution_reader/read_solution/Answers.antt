use Rattle.office_files.proofs.FirstFaultLaws.{solution_first, solution_faultless}
use Rattle.office_files.proofs.ReaderLaws.{solution_reading, solution_only, solution_one}
use Rattle.office_files.proofs.solution_reader.read_solution.Goals as goal

pub returns-clause-reading : goal.returns-clause-reading
returns-clause-reading c =
    solution_reading (λ t. t) c.args.instance.now c.args.source.now c.solution_in.result
    c.solution_in.ensures.exact

pub returns-clause-only : goal.returns-clause-only
returns-clause-only c =
    solution_only (λ t. t) c.args.instance.now c.args.source.now c.solution_in.result
    c.solution_in.ensures.exact

pub returns-clause-one : goal.returns-clause-one
returns-clause-one c =
    solution_one (λ t. t) c.args.instance.now c.args.source.now c.solution_in.result
    c.solution_in.ensures.exact

pub returns-clause-first : goal.returns-clause-first
returns-clause-first c =
    solution_first (λ t. t) c.args.instance.now c.args.source.now c.solution_in.result
    c.solution_in.ensures.exact

pub returns-clause-faultless : goal.returns-clause-faultless
returns-clause-faultless c =
    solution_faultless (λ t. t) c.args.instance.now c.args.source.now c.solution_in.result
    c.solution_in.ensures.exact
