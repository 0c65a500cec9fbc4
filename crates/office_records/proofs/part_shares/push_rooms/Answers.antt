use Rattle.std.proofs.Common.{ℕ, [], ◌∷◌, ◌++◌, get_or, ap, ◌∙◌}
use Rattle.office_tables.specs.declared.tables.share_part.PartShareRow.{PartShareRow}
use Rattle.exam_lists.proofs.Numbered.{rows_added}
use Rattle.office_records.proofs.PartRowLemmas.{no_share, rooms_are}
use Rattle.office_records.proofs.part_shares.push_rooms.Goals as goal

pub shares-preserved : goal.shares-preserved
shares-preserved c =
    let at = c.shares.at in
    let rows = c.shares.rows.items in
    let share = get_or c.args.shares.now at no_share in
    let row : ℕ → PartShareRow
    = λ k. record { kind = k; no = at; penalty = share.penalty; mixed = share.mixed } in
    rows_added rooms_are c.args.shares.now at no_share c.args.rows.now.items rows
    c.push.new.self.items c.shares-test.true c.shares.invariant
    (c.in_ok-push.ensures.items ∙ ap (λ (k : ℕ). rows ++ row k ∷ []) c.number.ensures)
