-- What the transaction of each command makes of the tables.
use Rattle.std.specs.Prelude.{ℕ, false, ◌==◌, if◌then◌else◌, List, [], ◌∷◌, Option, Some, None, option_map}
use Rattle.exam_model.specs.Timetable.{Placing, place_of}
use Rattle.exam_terms.specs.declared.place.Place.{Place}
use Rattle.office_tables.specs.Tables.{with_meta, no_meta, with_owner, without_owner, with_enrols, with_draft, without_draft, with_slot, with_slots, without_slot, without_slots, Tables}
use Rattle.office_tables.specs.declared.altering.Both.{Both}
use Rattle.office_tables.specs.declared.tables.draft.DraftRow.{DraftRow}
use Rattle.office_tables.specs.declared.tables.enrol.EnrolRow.{EnrolRow}
use Rattle.office_tables.specs.declared.tables.slot.SlotRow.{SlotRow}
use Rattle.office_tables.specs.declared.tables.slot.DeleteSlot.{DeleteSlot}
use Rattle.office_tables.specs.Tables.Owner.{InsertOwner}
use Rattle.office_tables.specs.Tables.Slot.{InsertSlot}
use Rattle.office_records.specs.TableRows.{slot_row}

-- the tables after a session and its enrolments are inserted
abbrev pub session_put : List ℕ → List EnrolRow → Tables → Tables
session_put instance pairs t = with_enrols pairs (with_meta false instance (no_meta t))

-- the tables after an exam gets a new owner; department 0 is none
abbrev pub owner_put : ℕ → ℕ → Tables → Tables
owner_put exam dept t =
    if dept == 0 then without_owner exam t
    else with_owner (record { exam = exam; dept = dept }) (without_owner exam t)

-- the insert of an exam's owner; department 0 is none
abbrev pub new_owner : ℕ → ℕ → Option InsertOwner
new_owner exam dept =
    if dept == 0 then None else Some (record { row = record { exam = exam; dept = dept } })

-- the tables after a draft and its places are inserted
abbrev pub draft_put : DraftRow → List SlotRow → Tables → Tables
draft_put row slots t = with_slots slots (with_draft row t)

-- the tables after a draft and its places are deleted
abbrev pub draft_removed : ℕ → Tables → Tables
draft_removed d t = without_slots d (without_draft d t)

-- the tables after an exam gets this place in a draft, or none
abbrev pub slot_put : ℕ → ℕ → Option Place → Tables → Tables
slot_put d e None t = without_slot d e t
slot_put d e (Some at) t = with_slot (slot_row d e at) (without_slot d e t)

-- the tables after these exams get in a draft the places that the timetable gives them, or none
abbrev pub slots_put : ℕ → Placing → List ℕ → Tables → Tables
slots_put d T [] t = t
slots_put d T (e ∷ exams) t = slots_put d T exams (slot_put d e (place_of T e) t)

-- the writes that delete an exam's place in a draft and insert the new one, if there is one
abbrev pub move_writes : ℕ → ℕ → Option Place → Both DeleteSlot (Option InsertSlot)
move_writes d e place = record {
  first = record { draft = d; exam = e };
  second = option_map (λ at. record { row = slot_row d e at }) place;
}

-- the writes that replace an exam's place by the one that it has in the timetable
abbrev pub new_place : ℕ → Placing → ℕ → Both DeleteSlot (Option InsertSlot)
new_place d T e = move_writes d e (place_of T e)

-- the tables after a draft's row is replaced and these exams get other places in the draft
abbrev pub edit_put : DraftRow → Placing → List ℕ → Tables → Tables
edit_put row T exams t = slots_put row.no T exams (with_draft row (without_draft row.no t))
