-- What each table stores.
use Rattle.std.proofs.lemmas.Grind.{common_steps}
use Rattle.std.proofs.Common.{refl, arith}
use Rattle.office_tables.specs.Tables.Metadata.{meta_table}
use Rattle.office_tables.specs.Tables.Owner.{owner_table, owner_columns}
use Rattle.office_tables.specs.Tables.Enrol.{enrol_table, enrol_columns}
use Rattle.office_tables.specs.Tables.Draft.{draft_table, night_draft_table, draft_columns, night_draft_columns}
use Rattle.office_tables.specs.Tables.Slot.{slot_table, slot_columns}
use Rattle.office_tables.specs.Tables.Placed.{placed_table, placed_columns}
use Rattle.office_tables.specs.Tables.Seat.{seat_table, seat_columns}
use Rattle.office_tables.specs.Tables.ShareStudent.{share_student_table, night_share_table, share_student_columns, night_share_columns}
use Rattle.office_tables.specs.Tables.SharePart.{share_part_table, share_part_columns}
use Rattle.office_tables.specs.Tables.Batches.{batch_table, batch_columns}
use Rattle.office_tables.specs.Inserting.{IsTable, Stores}
use Rattle.office_tables.proofs.Casts.{cast_int, cast_null}

pub meta_is : IsTable 0 meta_table
meta_is = record { found = refl; own_tree = refl; quiet = λ _ _. refl }

pub owners : Stores 1 owner_table owner_columns 2
owners = grind (arith, common_steps, cast_null, cast_int)

pub enrols : Stores 2 enrol_table enrol_columns 2
enrols = grind (arith, common_steps, cast_null, cast_int)

pub drafts : Stores 3 draft_table draft_columns 8
drafts = grind (arith, common_steps, cast_null, cast_int)

pub slots : Stores 4 slot_table slot_columns 4
slots = grind (arith, common_steps, cast_null, cast_int)

pub placements : Stores 5 placed_table placed_columns 3
placements = grind (arith, common_steps, cast_null, cast_int)

pub seats : Stores 6 seat_table seat_columns 5
seats = grind (arith, common_steps, cast_null, cast_int)

pub student_shares : Stores 7 share_student_table share_student_columns 4
student_shares = grind (arith, common_steps, cast_null, cast_int)

pub part_shares : Stores 8 share_part_table share_part_columns 4
part_shares = grind (arith, common_steps, cast_null, cast_int)

pub batches : Stores 9 batch_table batch_columns 5
batches = grind (arith, common_steps, cast_null, cast_int)

pub draft_nights : Stores 10 night_draft_table night_draft_columns 2
draft_nights = grind (arith, common_steps, cast_null, cast_int)

pub share_nights : Stores 11 night_share_table night_share_columns 2
share_nights = grind (arith, common_steps, cast_null, cast_int)
