use Rattle.std.proofs.Common.{rules, ◌≡◌, Err, subst, sym}
use Rattle.office_store.specs.Editing.{Judges}
use Rattle.office_store.proofs.EditCallLemmas.{is_judged, is_refused, there_of}
use Rattle.office_store.proofs.editing.timetable_after_edit.Goals as goal

pub returns-in_err-new-clause-meaning : goal.returns-in_err-new-clause-meaning
returns-in_err-new-clause-meaning c d r here at =
    let fault = c.in_err-new.field-0.0 in
    let is : c.from_residual.result ≡ Err fault = search rules in
    subst (Judges d c.args.edit r) (sym is)
    (is_refused r c.args.instance.now c.args.enrolments.now here d c.args.edit c.args.draft.now
    fault (there_of d r c.args.draft.now at) c.in_err-new.ensures.err)

pub returns-clause-meaning : goal.returns-clause-meaning
returns-clause-meaning c d r here at =
    is_judged r c.args.instance.now c.args.enrolments.now here d c.args.edit _
    (there_of d r c.args.draft.now at) c.in_ok-new.ensures.ok
