use Rattle.office_files.proofs.ReaderLaws.{solution_places}
use Rattle.office_files.proofs.solution_reader.solution_in.Goals as goal

pub returns-clause-exist : goal.returns-clause-exist
returns-clause-exist c =
    let counted = c.periods.ensures.kept.limits.counts in
    solution_places (λ t. t) c.args.instance.now c.args.source.now _
    c.periods.ensures.count c.rooms.ensures.count counted.1.0 counted.2.0
    c.timetable_in.result c.timetable_in.ensures.exact
