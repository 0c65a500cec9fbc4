-- The sections after that of the exams, read one after another.
use Rattle.std.proofs.lemmas.Grind.{common_steps}
use Rattle.std.proofs.Common.{◌≡◌, ℕ, List, length, Ok, Err, refl, arith}
use Rattle.exam_model.specs.declared.parts.Period.{Period}
use Rattle.exam_model.specs.declared.parts.Room.{Room}
use Rattle.exam_model.specs.declared.rules.PeriodRule.{PeriodRule}
use Rattle.exam_model.specs.declared.rules.RoomRule.{RoomRule}
use Rattle.office_files.specs.ExamLines.{ExamLine}
use Rattle.office_files.specs.ItemLines.{period_line, room_line, period_rule_line, room_rule_line}
use Rattle.office_files.specs.Lines.{Located}
use Rattle.office_files.specs.Sections.{section_in}
use Rattle.office_files.specs.Weightings.{weighting_line}
use Rattle.office_files.specs.Spelled.{periods_heading, rooms_heading, period_rules_heading}
use Rattle.office_files.specs.Spelled.{room_rules_heading, weightings_heading}
use Rattle.office_files.specs.InstanceText.{later_sections, no_more}
use Rattle.office_files.specs.declared.counts.Counts.{Counts}
use Rattle.office_files.specs.declared.weightings.Weighting.{Weighting}
use Rattle.office_files.specs.declared.fault.FileFault.{FileFault}

-- the counts by which lines are judged, with this many exams
abbrev pub among : ℕ → Counts
among n = record { exams = n; periods = 0; rooms = 0 }

module _ (end n : ℕ) (exams : List ExamLine) (same : length exams ≡ n)
    (lines rest_after_periods rest_after_rooms : List Located) (periods : List Period)
    (rooms : List Room)
    (are_periods : section_in periods_heading (period_line (among n)) end lines
    ≡ Ok (periods, rest_after_periods))
    (are_rooms : section_in rooms_heading (room_line (among n)) end rest_after_periods
    ≡ Ok (rooms, rest_after_rooms))
    (rest_after_period_rules : List Located) (period_rules : List PeriodRule)
    (are_period_rules : section_in period_rules_heading
    (period_rule_line (among n)) end rest_after_rooms
    ≡ Ok (period_rules, rest_after_period_rules)) where
  -- a fault in the rules on rooms
  pub faulty_room_rules : (fault : FileFault)
      → section_in room_rules_heading (room_rule_line (among n)) end rest_after_period_rules
      ≡ Err fault
      → later_sections end exams lines ≡ Err fault
  faulty_room_rules fault is = rw (same, are_periods, are_rooms, are_period_rules, is) refl

  module _ (rest_after_room_rules : List Located) (room_rules : List RoomRule)
      (are_room_rules : section_in room_rules_heading
      (room_rule_line (among n)) end rest_after_period_rules
      ≡ Ok (room_rules, rest_after_room_rules)) where
    -- a fault in the weightings
    pub faulty_weightings : (fault : FileFault)
        → section_in weightings_heading (weighting_line (among n)) end rest_after_room_rules
        ≡ Err fault
        → later_sections end exams lines ≡ Err fault
    faulty_weightings fault is =
        rw (same, are_periods, are_rooms, are_period_rules, are_room_rules, is) refl

    module _ (after : List Located) (weightings : List Weighting)
        (are_weightings : section_in weightings_heading
        (weighting_line (among n)) end rest_after_room_rules
        ≡ Ok (weightings, after)) where
      -- a line after the last section
      pub faulty_end : (fault : FileFault) → no_more after ≡ Err fault
          → later_sections end exams lines ≡ Err fault
      faulty_end fault is = grind (arith, common_steps)

      -- all sections
      pub all_sections : no_more after ≡ Ok tt → later_sections end exams lines ≡ Ok (record {
        exams = exams;
        periods = periods;
        rooms = rooms;
        period_rules = period_rules;
        room_rules = room_rules;
        weightings = weightings;
      })
      all_sections is = grind (arith, common_steps)
