use Rattle.office_store.proofs.PublishLemmas.{permit_refused}
use Rattle.office_store.proofs.new_publication.check_permit.Goals as goal

pub returns-in-Err-clause-refused : goal.returns-in-Err-clause-refused
returns-in-Err-clause-refused c d r memory there =
    permit_refused d r c.args.instance.now c.args.enrolments.now c.args.draft.now.timetable memory
    there c.in-Err.fault c.of_publication.result c.in-Err.ensures.refused
    c.of_publication.ensures.memory c.of_publication.ensures.refused
