-- The effect of insertions and deletions on the tables, one after the other.
use Rattle.std.proofs.lemmas.Grind.{common_steps}
use Rattle.std.proofs.Common.{◌≡◌, List, [], ◌∷◌, ◌++◌, map, reverse, filter, not, ◌==◌, ◌&&◌, refl, sym, ap, ◌∙◌, arith}
use Rattle.std.specs.List.{list_any}
use Rattle.exam_lists.proofs.Filters.{filter_not-filter_not, filter_true}
use Rattle.exam_lists.proofs.Parts.{reverse_cons_append}
use Rattle.office_tables.specs.Alterations.{after_all}
use Rattle.office_tables.specs.Tables.{with_draft, with_enrol, with_enrols, with_placement, without_placement, with_seat, without_seat, with_part_share, with_student_share, without_student_share, with_slot, with_slots, Tables}
use Rattle.office_tables.specs.declared.tables.draft.InsertDraft.{InsertDraft}
use Rattle.office_tables.specs.declared.tables.placed.DeletePlacement.{DeletePlacement}
use Rattle.office_tables.specs.declared.tables.seat.DeleteSeat.{DeleteSeat}
use Rattle.office_tables.specs.declared.tables.share_student.DeleteStudentShare.{DeleteStudentShare}
use Rattle.office_tables.specs.declared.tables.share_student.InsertStudentShare.{InsertStudentShare}
use Rattle.office_tables.specs.Tables.SharePart.{InsertPartShare}
use Rattle.office_tables.specs.Tables.Seat.{InsertSeat}
use Rattle.office_tables.specs.Tables.Placed.{InsertPlacement}
use Rattle.office_tables.specs.Tables.Enrol.{InsertEnrol}
use Rattle.office_tables.specs.Tables.Slot.{InsertSlot}

pub enrols_put : (its : List InsertEnrol) (t : Tables)
    → after_all (λ it. with_enrol it.row) its t ≡ with_enrols (map (λ it. it.row) its) t
enrols_put [] t = refl
enrols_put (it ∷ rest) t =
    grind (arith, common_steps, reverse_cons_append, enrols_put rest (with_enrol it.row t))

pub slots_put : (its : List InsertSlot) (t : Tables)
    → after_all (λ it. with_slot it.row) its t ≡ with_slots (map (λ it. it.row) its) t
slots_put [] t = refl
slots_put (it ∷ rest) t =
    grind (arith, common_steps, reverse_cons_append, slots_put rest (with_slot it.row t))

pub drafts_put : (its : List InsertDraft) (t : Tables)
    → after_all (λ it. with_draft it.row) its t
    ≡ record t { draft = reverse (map (λ it. it.row) its) ++ t.draft }
drafts_put [] t = refl
drafts_put (it ∷ rest) t =
    grind (arith, common_steps, reverse_cons_append, drafts_put rest (with_draft it.row t))

pub placements_put : (its : List InsertPlacement) (t : Tables)
    → after_all (λ it. with_placement it.row) its t
    ≡ record t { placed = reverse (map (λ it. it.row) its) ++ t.placed }
placements_put [] t = refl
placements_put (it ∷ rest) t =
    grind (arith, common_steps, reverse_cons_append, placements_put rest (with_placement it.row t))

pub seats_put : (its : List InsertSeat) (t : Tables)
    → after_all (λ it. with_seat it.row) its t
    ≡ record t { seat = reverse (map (λ it. it.row) its) ++ t.seat }
seats_put [] t = refl
seats_put (it ∷ rest) t =
    grind (arith, common_steps, reverse_cons_append, seats_put rest (with_seat it.row t))

pub student_shares_put : (its : List InsertStudentShare) (t : Tables)
    → after_all (λ it. with_student_share it.row) its t
    ≡ record t { share_student = reverse (map (λ it. it.row) its) ++ t.share_student }
student_shares_put [] t = refl
student_shares_put (it ∷ rest) t =
    grind (arith, common_steps, reverse_cons_append, student_shares_put rest (with_student_share it.row t))

pub part_shares_put : (its : List InsertPartShare) (t : Tables)
    → after_all (λ it. with_part_share it.row) its t
    ≡ record t { share_part = reverse (map (λ it. it.row) its) ++ t.share_part }
part_shares_put [] t = refl
part_shares_put (it ∷ rest) t =
    grind (arith, common_steps, reverse_cons_append, part_shares_put rest (with_part_share it.row t))

-- the placements of these exams are gone
pub placements_gone : (its : List DeletePlacement) (t : Tables)
    → after_all (λ it. without_placement it.exam) its t
    ≡ record t { placed = filter (λ r. not (list_any (λ it. r.exam == it.exam) its)) t.placed }
placements_gone [] t = ap (λ l. record t { placed = l }) (sym (filter_true t.placed))
placements_gone (it ∷ rest) t =
    placements_gone rest (without_placement it.exam t)
    ∙ ap (λ l. record t { placed = l })
    (filter_not-filter_not (λ r. r.exam == it.exam) (λ r. list_any (λ x. r.exam == x.exam) rest) t.placed)

-- the seats of these students in these exams are gone
pub seats_gone : (its : List DeleteSeat) (t : Tables)
    → after_all (λ it. without_seat it.student it.exam) its t
    ≡ record t {
      seat = filter
          (λ r. not (list_any (λ it. (r.student == it.student) && (r.exam == it.exam)) its)) t.seat;
    }
seats_gone [] t = ap (λ l. record t { seat = l }) (sym (filter_true t.seat))
seats_gone (it ∷ rest) t =
    seats_gone rest (without_seat it.student it.exam t)
    ∙ ap (λ l. record t { seat = l })
    (filter_not-filter_not (λ r. (r.student == it.student) && (r.exam == it.exam))
    (λ r. list_any (λ x. (r.student == x.student) && (r.exam == x.exam)) rest) t.seat)

-- the shares of these students are gone
pub student_shares_gone : (its : List DeleteStudentShare) (t : Tables)
    → after_all (λ it. without_student_share it.student) its t
    ≡ record t {
      share_student = filter (λ r. not (list_any (λ it. r.student == it.student) its))
          t.share_student;
    }
student_shares_gone [] t =
    ap (λ l. record t { share_student = l }) (sym (filter_true t.share_student))
student_shares_gone (it ∷ rest) t =
    student_shares_gone rest (without_student_share it.student t)
    ∙ ap (λ l. record t { share_student = l })
    (filter_not-filter_not (λ r. r.student == it.student) (λ r. list_any (λ x. r.student == x.student) rest)
    t.share_student)
