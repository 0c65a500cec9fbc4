use Rattle.std.proofs.Common.{map, subst}
use Rattle.sqlite.specs.Held.{state}
use Rattle.office_tables.specs.declared.tables.Found.{Found}
use Rattle.office_tables.specs.Tables.Metadata.{meta_columns}
use Rattle.office_tables.specs.Stored.{Holds, keyed_columns}
use Rattle.office_tables.proofs.AdoptLemmas.{both, both_rows, found_rows, refused, rows_found}
use Rattle.office_tables.proofs.Frames.{held_at}
use Rattle.office_tables.proofs.tables.adopt_rows.Goals as goal

pub returns-in_err-meta : goal.returns-in_err-meta
returns-in_err-meta g c =
    let v = c.args.version in
    refused c.adopt_meta.ensures c.in_err-meta.ensures c.from_residual.ensures.1 (λ db none t plain
    there. none plain.row (subst (λ l. Holds keyed_columns (map (meta_columns v) l) (db.trees 0))
    plain.meta (held_at 0 there)))

pub returns-in_err-owners : goal.returns-in_err-owners
returns-in_err-owners g c =
    let v = c.args.version in
    refused (both (found_rows c.adopt_meta.ensures c.in_ok-meta.ensures) (c.adopt.ensures v))
    c.in_err-owners.ensures c.from_residual-in_err-owners.ensures.1 (λ db none t plain there. none.1
    t.owner plain.owner (held_at 1 there))

pub returns-in_err-enrols : goal.returns-in_err-enrols
returns-in_err-enrols g c =
    let v = c.args.version in
    refused (both (both_rows (found_rows c.adopt_meta.ensures c.in_ok-meta.ensures) (c.adopt.ensures
    v) c.in_ok-owners.ensures) (c.adopt-2.ensures v)) c.in_err-enrols.ensures
    c.from_residual-in_err-enrols.ensures.1 (λ db none t plain there. none.1 t.enrol plain.enrol
    (held_at 2 there))

pub returns-in_err-drafts : goal.returns-in_err-drafts
returns-in_err-drafts g c =
    let v = c.args.version in
    refused (both (both_rows (both_rows (found_rows c.adopt_meta.ensures c.in_ok-meta.ensures)
    (c.adopt.ensures v) c.in_ok-owners.ensures) (c.adopt-2.ensures v) c.in_ok-enrols.ensures)
    c.adopt_drafts.ensures) c.in_err-drafts.ensures c.from_residual-in_err-drafts.ensures.1 (λ db
    none t plain there. none.1 t.draft plain.draft (record {
      first = held_at 3 there;
      second =
          there.night_draft;
    }))

pub returns-in_err-slots : goal.returns-in_err-slots
returns-in_err-slots g c =
    let v = c.args.version in
    refused (both (both_rows (both_rows (both_rows (found_rows c.adopt_meta.ensures
    c.in_ok-meta.ensures) (c.adopt.ensures v) c.in_ok-owners.ensures) (c.adopt-2.ensures v)
    c.in_ok-enrols.ensures) c.adopt_drafts.ensures c.in_ok-drafts.ensures) (c.adopt-3.ensures v))
    c.in_err-slots.ensures c.from_residual-in_err-slots.ensures.1 (λ db none t plain there. none.1
    t.slot plain.slot (held_at 4 there))

pub returns-in_err-placements : goal.returns-in_err-placements
returns-in_err-placements g c =
    let v = c.args.version in
    refused (both (both_rows (both_rows (both_rows (both_rows (found_rows c.adopt_meta.ensures
    c.in_ok-meta.ensures) (c.adopt.ensures v) c.in_ok-owners.ensures) (c.adopt-2.ensures v)
    c.in_ok-enrols.ensures) c.adopt_drafts.ensures c.in_ok-drafts.ensures) (c.adopt-3.ensures v)
    c.in_ok-slots.ensures) (c.adopt-4.ensures v)) c.in_err-placements.ensures
    c.from_residual-in_err-placements.ensures.1 (λ db none t plain there. none.1 t.placed
    plain.placed (held_at 5 there))

pub returns-in_err-seats : goal.returns-in_err-seats
returns-in_err-seats g c =
    let v = c.args.version in
    refused (both (both_rows (both_rows (both_rows (both_rows (both_rows (found_rows
    c.adopt_meta.ensures c.in_ok-meta.ensures) (c.adopt.ensures v) c.in_ok-owners.ensures)
    (c.adopt-2.ensures v) c.in_ok-enrols.ensures) c.adopt_drafts.ensures c.in_ok-drafts.ensures)
    (c.adopt-3.ensures v) c.in_ok-slots.ensures) (c.adopt-4.ensures v) c.in_ok-placements.ensures)
    (c.adopt-5.ensures v)) c.in_err-seats.ensures c.from_residual-in_err-seats.ensures.1 (λ db none
    t plain there. none.1 t.seat plain.seat (held_at 6 there))

pub returns-in_err-student_shares : goal.returns-in_err-student_shares
returns-in_err-student_shares g c =
    let v = c.args.version in
    refused (both (both_rows (both_rows (both_rows (both_rows (both_rows (both_rows (found_rows
    c.adopt_meta.ensures c.in_ok-meta.ensures) (c.adopt.ensures v) c.in_ok-owners.ensures)
    (c.adopt-2.ensures v) c.in_ok-enrols.ensures) c.adopt_drafts.ensures c.in_ok-drafts.ensures)
    (c.adopt-3.ensures v) c.in_ok-slots.ensures) (c.adopt-4.ensures v) c.in_ok-placements.ensures)
    (c.adopt-5.ensures v) c.in_ok-seats.ensures) c.adopt_student_shares.ensures)
    c.in_err-student_shares.ensures c.from_residual-in_err-student_shares.ensures.1 (λ db none t
    plain there. none.1 t.share_student plain.share_student (record {
      first = held_at 7 there;
      second = there.night_share;
    }))

pub returns-in_err-part_shares : goal.returns-in_err-part_shares
returns-in_err-part_shares g c =
    let v = c.args.version in
    refused (both (both_rows (both_rows (both_rows (both_rows (both_rows (both_rows (both_rows
    (found_rows c.adopt_meta.ensures c.in_ok-meta.ensures) (c.adopt.ensures v)
    c.in_ok-owners.ensures) (c.adopt-2.ensures v) c.in_ok-enrols.ensures) c.adopt_drafts.ensures
    c.in_ok-drafts.ensures) (c.adopt-3.ensures v) c.in_ok-slots.ensures) (c.adopt-4.ensures v)
    c.in_ok-placements.ensures) (c.adopt-5.ensures v) c.in_ok-seats.ensures)
    c.adopt_student_shares.ensures c.in_ok-student_shares.ensures) (c.adopt-6.ensures v))
    c.in_err-part_shares.ensures c.from_residual-in_err-part_shares.ensures.1 (λ db none t plain
    there. none.1 t.share_part plain.share_part (held_at 8 there))

pub returns-in_err-batches : goal.returns-in_err-batches
returns-in_err-batches g c =
    let v = c.args.version in
    refused (both (both_rows (both_rows (both_rows (both_rows (both_rows (both_rows (both_rows
    (both_rows (found_rows c.adopt_meta.ensures c.in_ok-meta.ensures) (c.adopt.ensures v)
    c.in_ok-owners.ensures) (c.adopt-2.ensures v) c.in_ok-enrols.ensures) c.adopt_drafts.ensures
    c.in_ok-drafts.ensures) (c.adopt-3.ensures v) c.in_ok-slots.ensures) (c.adopt-4.ensures v)
    c.in_ok-placements.ensures) (c.adopt-5.ensures v) c.in_ok-seats.ensures)
    c.adopt_student_shares.ensures c.in_ok-student_shares.ensures) (c.adopt-6.ensures v)
    c.in_ok-part_shares.ensures) (c.adopt_batches.ensures v)) c.in_err-batches.ensures
    c.from_residual-in_err-batches.ensures.1 (λ db none t plain there. none.1 t.batch plain.batch
    (held_at 9 there))

pub returns : goal.returns
returns g c =
    let v = c.args.version in
    let all =
    both_rows (both_rows (both_rows (both_rows (both_rows (both_rows (both_rows (both_rows
    (both_rows (found_rows c.adopt_meta.ensures c.in_ok-meta.ensures) (c.adopt.ensures v)
    c.in_ok-owners.ensures) (c.adopt-2.ensures v) c.in_ok-enrols.ensures) c.adopt_drafts.ensures
    c.in_ok-drafts.ensures) (c.adopt-3.ensures v) c.in_ok-slots.ensures) (c.adopt-4.ensures v)
    c.in_ok-placements.ensures) (c.adopt-5.ensures v) c.in_ok-seats.ensures)
    c.adopt_student_shares.ensures c.in_ok-student_shares.ensures) (c.adopt-6.ensures v)
    c.in_ok-part_shares.ensures) (c.adopt_batches.ensures v) c.in_ok-batches.ensures in
    let rows : Found = record {
      version = v;
      meta = c.in_ok-meta.meta;
      owners = c.in_ok-owners.owners;
      enrols = c.in_ok-enrols.enrols;
      drafts = c.in_ok-drafts.drafts;
      slots = c.in_ok-slots.slots;
      placements = c.in_ok-placements.placements;
      seats = c.in_ok-seats.seats;
      student_shares = c.in_ok-student_shares.student_shares;
      part_shares = c.in_ok-part_shares.part_shares;
      batches = c.in_ok-batches.batches;
    } in
    record {
      found = λ clean tables.
          let is = all.found clean tables in
          rows_found (state g.S.Store c.args.conn.now).now rows tables.schema is.0.0.0.0.0.0.0.0.0
          is.0.0.0.0.0.0.0.0.1 is.0.0.0.0.0.0.0.1 is.0.0.0.0.0.0.1 is.0.0.0.0.0.1 is.0.0.0.0.1
          is.0.0.0.1 is.0.0.1 is.0.1 is.1;
      same = all.same;
      looks = all.looks;
    }
