use Rattle.std.proofs.Common.{List, ℕ, length, map, ap, ap₂, ◌∙◌, subst, sym}
use Rattle.exam_model.specs.Enrolments.{IsAscending}
use Rattle.exam_publish.specs.Shares.{Sharing, shares_among, student_shares}
use Rattle.office_records.specs.SharesStored.{retimed_students, student_share_row}
use Rattle.office_records.specs.PartShares.{HasFewParts, part_rows}
use Rattle.office_store.specs.ChangedPlacements.{changed_rows}
use Rattle.office_store.specs.NewPublications.{candidates_before}
use Rattle.office_store.specs.RowPuts.{deleted_share, part_share_put, deleted_placement, placement_put, student_share_put}
use Rattle.office_store.proofs.PublishLemmas.{few_parts, rows_among}
use Rattle.office_store.proofs.new_publication.publication_writes.Goals as goal

pub shares_among-requires : goal.shares_among-requires
shares_among-requires c = record {
  published = c.requires.published;
  ascending = subst IsAscending (sym c.deref.ensures.value) c.in_ok-retimed.ensures.ascending;
}

pub part_shares_put-requires : goal.part_shares_put-requires
part_shares_put-requires c = record {
  few = subst HasFewParts (sym c.in_ok-shares.ensures.shares)
      (few_parts c.args.instance.now c.args.rows.now c.args.draft.now.timetable c.deref.result.now
      c.lemma_limits.ensures);
  small = c.in_ok-shares.ensures.small;
}

pub count_of-requires : goal.count_of-requires
count_of-requires c =
    subst IsAscending (sym c.deref-5.ensures.value) c.in_ok-candidates.ensures.ascending

pub returns-clause-put : goal.returns-clause-put
returns-clause-put c =
    let I = c.args.instance.now in
    let old = c.args.old.now in
    let rows = c.args.rows.now in
    let T = c.args.draft.now.timetable in
    let listed = c.in_ok-retimed.ensures.listed in
    let shares = c.in_ok-shares.ensures.shares
    ∙ ap (shares_among I rows T) (c.deref.ensures.value ∙ listed) in record {
      text = c.in_ok-text.ensures.text;
      deleted_placements = c.in_ok-deleted_placements.ensures
          ∙ ap (λ rows. map deleted_placement (changed_rows c.args.before.now rows))
          (c.deref-2.ensures.value ∙ c.in_ok-places.ensures);
      placements = c.in_ok-placements.ensures
          ∙ ap (λ rows. map placement_put (changed_rows rows c.args.before.now))
          (c.deref-3.ensures.value ∙ c.in_ok-places.ensures);
      seats_gone = c.in_ok-seats_gone.ensures;
      seats = c.in_ok-seats.ensures;
      deleted_shares = c.in_ok-deleted_shares.ensures
          ∙ ap (λ (who : List ℕ). map deleted_share (candidates_before old who))
          (c.deref-4.ensures.value ∙ listed);
      students = c.in_ok-students.ensures.put
          ∙ ap (λ (all : Sharing). map student_share_put (map student_share_row all.students)) shares
          ∙ ap (map student_share_put)
          (rows_among (retimed_students old rows) (student_shares I rows));
      parts = c.in_ok-parts.ensures.put
          ∙ ap (λ (all : Sharing). map part_share_put (part_rows all)) shares;
      counts = ap₂ (λ n penalty. record { changed = n; penalty = penalty })
          (c.count_of.ensures
          ∙ ap length (c.deref-5.ensures.value ∙ c.in_ok-candidates.ensures.listed))
          c.total.ensures.total;
    }
