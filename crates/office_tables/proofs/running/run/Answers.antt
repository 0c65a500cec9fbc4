use Rattle.office_tables.proofs.running.run.Goals as goal

pub returns-clause-ran : goal.returns-clause-ran
returns-clause-ran g c clean inside =
    let ran = c.in_ok-_count.ensures.runs clean inside in
    record { count = c.in_ok-_count._count; executed = ran.0; inside = ran.1.mode }
