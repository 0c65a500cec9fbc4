use Rattle.std.proofs.Common.{◌≡◌, ℕ, Option, length, take}
use Rattle.exam_model.specs.Timetable.{Placing}
use Rattle.office_records.specs.Memory.{AreScoredDrafts}
use Rattle.office_records.proofs.DraftRowLemmas.{Begun}
use Rattle.office_records.proofs.drafts.drafts_of.Given as goal

abbrev pub invariant-rows : goal.invariant-rows
invariant-rows l = record {
  begun : (draft : ℕ → Option Placing)
      × Begun l.instance l.enrolments (take l.at l.rows) l.slots draft
      × AreScoredDrafts l.instance l.enrolments draft l.drafts;
  size : length l.drafts ≡ 9;
}
