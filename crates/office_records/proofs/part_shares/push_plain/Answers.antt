use Rattle.std.proofs.Common.{ℕ, [], ◌∷◌, ◌++◌, get_or, ap, ◌∙◌}
use Rattle.office_records.specs.PartShares.{part_kind_number}
use Rattle.exam_lists.proofs.Numbered.{rows_added}
use Rattle.office_records.proofs.PartRowLemmas.{plain_are, plain_row}
use Rattle.office_records.proofs.part_shares.push_plain.Goals as goal

pub shares-preserved : goal.shares-preserved
shares-preserved c =
    let shares = c.args.shares.now in
    let at = c.shares.at in
    rows_added (plain_are (part_kind_number c.args.kind)) shares at 0 c.args.rows.now.items
    c.shares.rows.items c.push.new.self.items c.shares-test.true c.shares.invariant
    (c.in_ok-push.ensures.items
    ∙ ap (λ (k : ℕ). c.shares.rows.items ++ plain_row k at (get_or shares at 0) ∷ [])
    c.number.ensures)
