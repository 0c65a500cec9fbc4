use Rattle.std.proofs.Common.{Ok}
use Rattle.office_model.specs.Shown.{shown_exams}
use Rattle.office_model.specs.Views.{view_of}
use Rattle.office_store.specs.Judging.{plain_list}
use Rattle.office_store.proofs.CommandLemmas.{returns_value}
use Rattle.office_store.proofs.ViewLemmas.{exams_returned, nothing_returned}
use Rattle.office_store.proofs.office.Office.candidate_exams.Goals as goal

pub returns-in_default-clause-reads : goal.returns-in_default-clause-reads
returns-in_default-clause-reads g c =
    returns_value c.self.view_is c.self.invariant.1 c.in_ok-found.ensures.leaves
    (λ o. shown_exams (view_of c.args.student o)) (plain_list (Ok c.new.result))
    (λ k o kept is. nothing_returned o c.self.inside.memory.kept c.in_default.is is.session
    c.args.student
    (plain_list (Ok c.new.result)) c.new.ensures.items)

pub returns-clause-reads : goal.returns-clause-reads
returns-clause-reads g c =
    returns_value c.self.view_is c.self.invariant.1 c.in_ok-found.ensures.leaves
    (λ o. shown_exams (view_of c.args.student o)) (plain_list c.exams_from.result)
    (λ k o kept is. exams_returned c.in-Some.is kept.office is.session
    (c.in_ok-found.ensures.rows k o kept) (plain_list c.exams_from.result)
    (c.exams_from.ensures.meaning c.args.student))
