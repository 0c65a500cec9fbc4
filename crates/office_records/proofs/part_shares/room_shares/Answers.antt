use Rattle.std.proofs.Common.{◌≡◌, [], ◌∷◌, ◌++◌, get_or, refl, rules}
use Rattle.std.proofs.lemmas.Bool.{false≢true}
use Rattle.exam_lists.proofs.Numbered.{row_is, rows_read}
use Rattle.office_records.proofs.PartRowLemmas.{no_row, room_from_parts, room_parts, room_share_back, rooms_are}
use Rattle.office_records.proofs.part_shares.room_shares.Goals as goal

pub returns-then-not-is_of_room-clause-none : goal.returns-then-not-is_of_room-clause-none
returns-then-not-is_of_room-clause-none c _ shares same =
    absurd (false≢true (c.if-not-is_of_room.ensures.1 (room_parts c.rows.at _
    (row_is rooms_are room_share_back (λ n x. refl) c.args.rows.now shares same c.rows.at no_row
    c.rows-test.true))))

pub rows-preserved : goal.rows-preserved
rows-preserved c =
    let added : c.push.new.self.items
    ≡ c.rows.shares.items ++ room_share_back (get_or c.args.rows.now c.rows.at no_row) ∷ []
    = search rules in
    rows_read rooms_are room_share_back (λ n x. refl) c.args.rows.now c.rows.at no_row
    c.rows.shares.items c.push.new.self.items c.rows-test.true c.rows.invariant
    (room_from_parts c.rows.at _ (c.if-not-is_of_room.ensures.0 refl)) added
