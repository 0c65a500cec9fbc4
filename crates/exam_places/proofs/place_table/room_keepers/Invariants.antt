use Rattle.std.proofs.Common.{◌≡◌, ◌<◌, ℕ, false, get_or, length, take}
use Rattle.std.specs.List.{list_any}
use Rattle.exam_rules.specs.Lines.{is_exclusive}
use Rattle.exam_places.proofs.place_table.room_keepers.Given as goal

-- the exams that the lines before this one name
abbrev pub invariant-lines : goal.invariant-lines
invariant-lines l = record {
  count : length l.keepers.items ≡ length l.instance.exams;
  each : (f : ℕ) → f < length l.instance.exams → get_or l.keepers.items f false
      ≡ list_any (is_exclusive f) (take l.line-index l.lines);
}
