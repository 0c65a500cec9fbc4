use Rattle.std.proofs.Common.{◌≡◌, [], ◌∷◌, ◌++◌, get_or, refl, rules}
use Rattle.std.proofs.lemmas.Bool.{false≢true}
use Rattle.office_tables.specs.declared.tables.share_part.PartShareRow.{PartShareRow}
use Rattle.office_records.specs.PartShares.{part_kind_number}
use Rattle.exam_lists.proofs.Numbered.{row_is, rows_read}
use Rattle.office_records.proofs.PartRowLemmas.{no_row, plain_are, plain_from_parts, plain_parts}
use Rattle.office_records.proofs.part_shares.plain_shares.Goals as goal

pub returns-then-not-is_plain-clause-none : goal.returns-then-not-is_plain-clause-none
returns-then-not-is_plain-clause-none c _ shares same =
    let kind = part_kind_number c.args.kind in
    absurd (false≢true (c.if-not-is_plain.ensures.1 (plain_parts kind c.rows.at _
    (row_is (plain_are kind) (λ (row : PartShareRow). row.penalty) (λ n x. refl) c.args.rows.now
    shares same c.rows.at no_row c.rows-test.true))))

pub rows-preserved : goal.rows-preserved
rows-preserved c =
    let kind = part_kind_number c.args.kind in
    let added : c.push.new.self.items
    ≡ c.rows.shares.items ++ (get_or c.args.rows.now c.rows.at no_row).penalty ∷ []
    = search rules in
    rows_read (plain_are kind) (λ (row : PartShareRow). row.penalty) (λ n x. refl) c.args.rows.now
    c.rows.at no_row c.rows.shares.items c.push.new.self.items c.rows-test.true c.rows.invariant
    (plain_from_parts kind c.rows.at _ (c.if-not-is_plain.ensures.0 refl)) added
