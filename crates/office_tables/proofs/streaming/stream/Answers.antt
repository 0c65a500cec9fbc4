use Rattle.office_tables.proofs.streaming.stream.Goals as goal

pub returns-in-Some-clause-shown : goal.returns-in-Some-clause-shown
returns-in-Some-clause-shown g c q means clean =
    rw c.in-Some.is at (c.in_ok-records.ensures.shown q means clean)
