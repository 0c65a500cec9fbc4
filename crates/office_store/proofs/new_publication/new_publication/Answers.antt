use Rattle.std.proofs.Common.{rules, ◌≡◌, Err, Ok, ap, refl, subst, sym, ◌∙◌}
use Rattle.exam_model.specs.Enrolments.{Enrolled}
use Rattle.exam_model.specs.Instance.{Session}
use Rattle.exam_publish.specs.Seats.{AreSeated}
use Rattle.exam_score.specs.Penalty.{total_of}
use Rattle.exam_score.specs.Track.{track}
use Rattle.office_model.specs.declared.fault.StoreFault.TheVariants.{NoDraft}
use Rattle.office_model.specs.Publishing.{draft_published, publication_rows}
use Rattle.office_store.proofs.CommandLemmas.{unloaded}
use Rattle.office_records.specs.FoundPublications.{publication_from}
use Rattle.office_records.specs.Publications.{placed_rows}
use Rattle.office_store.specs.NewPublications.{AreInserted, InsertsOrRefuses}
use Rattle.office_store.proofs.EditCallLemmas.{both, no_draft, there_of}
use Rattle.office_store.proofs.PublishLemmas.{publishes, puts_in_memory}
use Rattle.office_store.proofs.TogetherLemmas.{fits_in, published_seats}
use Rattle.office_store.proofs.new_publication.new_publication.Goals as goal

pub returns-in_default-clause-publishes : goal.returns-in_default-clause-publishes
returns-in_default-clause-publishes c o is =
    unloaded (draft_published c.args.number) o c.in_default.is is refl

pub returns-in_default-draft-clause-publishes : goal.returns-in_default-draft-clause-publishes
returns-in_default-draft-clause-publishes c o is =
    puts_in_memory c.in-Some.is c.args.number (Err NoDraft) o is
    (λ r same here memory. rw (no_draft c.args.number r
    (sym (memory.drafts c.args.number) ∙ c.in_default-draft.ensures.none)) refl)

pub check_permit-requires : goal.check_permit-requires
check_permit-requires c = record {
  fits = fits_in c.requires.together c.in-Some.is c.args.number c.in-Some-draft.ensures.some;
}

-- the seats of the publication before
pub seats-requires-clause-old_seated : goal.seats-requires-clause-old_seated
seats-requires-clause-old_seated c =
    let I = c.in-Some.instance in
    subst (AreSeated I) (sym c.published_rows-old.ensures)
    (published_seats I (publication_from c.args.memory.now.published)
    (c.requires.together.published I c.in-Some.enrolments c.in-Some.is))

pub publication_writes-requires-clause-old_in_order
    : goal.publication_writes-requires-clause-old_in_order
publication_writes-requires-clause-old_in_order c =
    let I = c.in-Some.instance in
    let seated : AreSeated I c.published_rows-old.result.now
    = subst (AreSeated I) (sym c.published_rows-old.ensures)
    (published_seats I (publication_from c.args.memory.now.published)
    (c.requires.together.published I c.in-Some.enrolments c.in-Some.is)) in
    seated.in_order

pub returns-in_err-check_permit-clause-publishes : goal.returns-in_err-check_permit-clause-publishes
returns-in_err-check_permit-clause-publishes c o is =
    let d = c.args.number in
    let fault = c.in_err-check_permit.field-0.0 in
    let same_as : c.from_residual.result ≡ Err fault = search rules in
    subst (InsertsOrRefuses d o) (sym same_as)
    (puts_in_memory c.in-Some.is d (Err fault) o is
    (λ r same here memory. c.in_err-check_permit.ensures.refused d r here
    (there_of d r c.in-Some-draft.draft.now
    (sym (memory.drafts d) ∙ c.in-Some-draft.ensures.some)).timetable))

pub returns-clause-publishes : goal.returns-clause-publishes
returns-clause-publishes c o is =
    let d = c.args.number in
    let m = c.args.memory.now in
    let I = c.in-Some.instance in
    let E = c.in-Some.enrolments in
    let T = c.in-Some-draft.draft.now.timetable in
    puts_in_memory c.in-Some.is d
    (Ok (
      c.in_ok-writes.writes,
      (c.in_ok-timetable.timetable, c.in_ok-rows.rows),
      c.in-Some-draft.draft.now.parts,
    )) o is
    (λ r same here memory.
    let draft = there_of d r c.in-Some-draft.draft.now
    (sym (memory.drafts d) ∙ c.in-Some-draft.ensures.some) in
    let priced = draft.scored ∙ ap (λ (p : Session × Enrolled). track p.0 p.1 T) (both r I E here) in
    publishes d r I E T here draft.timetable c.deref-2.result.now c.published_rows-old.result.now
    c.in_ok-rows.rows (total_of c.in-Some-draft.draft.now.parts) c.in_ok-writes.writes
    c.in_ok-timetable.timetable c.in-Some-draft.draft.now.parts
    c.in_ok-check_permit.ensures.permitted
    (c.deref-2.ensures.value ∙ c.in_ok-before.ensures
    ∙ ap placed_rows (sym memory.published))
    (c.published_rows-old.ensures ∙ ap publication_rows (sym memory.published))
    c.in_ok-rows.ensures.rows
    (ap total_of priced)
    (subst (λ l. AreInserted I T c.deref-2.result.now c.published_rows-old.result.now l
    (total_of c.in-Some-draft.draft.now.parts) c.in_ok-writes.writes) c.deref-3.ensures.value
    c.in_ok-writes.ensures.put)
    c.in_ok-timetable.ensures.same priced)
